-- Shares, a shelf and the index from one state to the next.
use Rattle.std.proofs.Common.{Result, Ok, Err, ◌≡◌, ◌<◌, ◌≤◌, ℕ, Bool, true, false, cond, List, [], length, Option, Some, None, is_some, refl, sym, ap, subst, ◌∙◌, arith, inl, inr}
use Rattle.std.specs.Prelude.{unwrap_or, nat_lt}
use Rattle.std.proofs.lemmas.Bool.{cases_lt, lt-ltb, ltb-true}
use Rattle.std.proofs.lemmas.List.{length-replicate}
use Rattle.std.specs.Option.{option_map}
use Rattle.std.specs.Ordering.{eq_by_cmp}
use Rattle.std.specs.Cmp.{eq_by_cmp_equiv}
use Rattle.std.specs.FinMap.{get, contains_key, insert, remove, get-insert, get-remove, same_map}
use Rattle.std.proofs.lemmas.Map.Views.{tells_apart}
use Rattle.share_store.specs.Shares.{Shares, ShareKey, key_cmp}
use Rattle.share_store.specs.MapLaws.{key_cmp_total, key_cmp_exact}
use Rattle.share_store.specs.Put.{put_once}
use Rattle.share_store.specs.Toggle.{toggled, bytes_at, has_byte, with_toggle}
use Rattle.share_shelf.specs.CrashStates.{Keeps, LeavesOnly, IsQuiet}
use Rattle.shelf_store.specs.Doubt.{InDoubt, as_before}
use Rattle.share_store.specs.Stored.{blank}
use Rattle.shelf_store.specs.Sizes.{sizes_of}
use Rattle.shelf_store.specs.SizeLaws.{as_long}
use Rattle.shelf_store.proofs.Sizes.{is_some-map, contains_as, none_as}

-- ---- shares

same_shares : (m n : Shares) → ((q : ShareKey) → get m q ≡ get n q) → m ≡ n
same_shares m n h = same_map key_cmp_total key_cmp_exact m n h

-- the same at each other key
abbrev pub IsSameBut : ShareKey → Shares → Shares → Type 0
IsSameBut key m n = (q : ShareKey) → eq_by_cmp key_cmp q key ≡ false → get n q ≡ get m q

pub same_but_put : (key : ShareKey) (m : Shares) (b : List ℕ) → IsSameBut key m (insert m key b)
same_but_put key m b q other = get-insert key_cmp_total m key b q ∙ ap (λ t. cond t (Some b) (get m q)) other

pub same_but_lost : (key : ShareKey) (m : Shares) → IsSameBut key m (remove m key)
same_but_lost key m q other = get-remove key_cmp_total m key q ∙ ap (λ t. cond t None (get m q)) other

-- shares in which one place may have changed, with that place as it was
pub put_back : (key : ShareKey) (before : Option (List ℕ)) (m n : Shares) → get m key ≡ before → IsSameBut key m n → as_before (Some (key, before)) n ≡ m
put_back key None m n found same = same_shares (remove n key) m (λ q. get-remove key_cmp_total n key q ∙ by_case q (eq_by_cmp key_cmp q key) refl)
  where
    by_case : (q : ShareKey) (t : Bool) → eq_by_cmp key_cmp q key ≡ t → cond t None (get n q) ≡ get m q
    by_case q true is = sym (ap (get m) (tells_apart key_cmp_exact q key is) ∙ found)
    by_case q false is = same q is
put_back key (Some b) m n found same = same_shares (insert n key b) m (λ q. get-insert key_cmp_total n key b q ∙ by_case q (eq_by_cmp key_cmp q key) refl)
  where
    by_case : (q : ShareKey) (t : Bool) → eq_by_cmp key_cmp q key ≡ t → cond t (Some b) (get n q) ≡ get m q
    by_case q true is = sym (ap (get m) (tells_apart key_cmp_exact q key is) ∙ found)
    by_case q false is = same q is

-- what stood at the place in doubt
pub at_doubt : (key : ShareKey) (before : Option (List ℕ)) (m : Shares) → get (as_before (Some (key, before)) m) key ≡ before
at_doubt key None m = get-remove key_cmp_total m key key ∙ ap (λ t. cond t None (get m key)) ((eq_by_cmp_equiv key_cmp_total).refl key)
at_doubt key (Some b) m = get-insert key_cmp_total m key b key ∙ ap (λ t. cond t (Some b) (get m key)) ((eq_by_cmp_equiv key_cmp_total).refl key)

-- and at each other
pub off_doubt : (key q : ShareKey) (before : Option (List ℕ)) (m : Shares) → eq_by_cmp key_cmp q key ≡ false → get (as_before (Some (key, before)) m) q ≡ get m q
off_doubt key q None m other = same_but_lost key m q other
off_doubt key q (Some b) m other = same_but_put key m b q other

-- put back once more
pub put_back_twice : (doubt : InDoubt) (m : Shares) → as_before doubt (as_before doubt m) ≡ as_before doubt m
put_back_twice None m = refl
put_back_twice (Some (key, before)) m = put_back key before (as_before (Some (key, before)) m) (as_before (Some (key, before)) m) (at_doubt key before m) (λ q other. refl)

pub put_is : (m : Shares) (key : ShareKey) (b : List ℕ) → contains_key m key ≡ false → put_once m key b ≡ insert m key b
put_is m key b none = ap (λ t. cond t m (insert m key b)) none

pub put_stays : (m : Shares) (key : ShareKey) (b : List ℕ) → contains_key m key ≡ true → put_once m key b ≡ m
put_stays m key b some = ap (λ t. cond t m (insert m key b)) some

pub none_there : (m : Shares) (key : ShareKey) → contains_key m key ≡ false → get m key ≡ None
none_there m key is = by_case (get m key) is
  where
    by_case : (o : Option (List ℕ)) → is_some o ≡ false → o ≡ None
    by_case None e = refl
    by_case (Some x) e = cc

-- a share that was put where none stood, taken out again
pub put_undone : (m : Shares) (key : ShareKey) (b : List ℕ) → contains_key m key ≡ false → remove (insert m key b) key ≡ m
put_undone m key b none = put_back key None m (insert m key b) (none_there m key none) (same_but_put key m b)

-- a share that doesn't stand, taken out
pub remove_none : (m : Shares) (key : ShareKey) → contains_key m key ≡ false → remove m key ≡ m
remove_none m key none = put_back key None m m (none_there m key none) (λ q other. refl)

-- a bit of a share that stands, changed
pub toggles_as : (m : Shares) (key : ShareKey) (place : ℕ) (old new : List ℕ) → get m key ≡ Some old → place < length old → new ≡ toggled old place → insert m key new ≡ with_toggle m key place
toggles_as m key place old new found lt is =
    ap (insert m key) is
    ∙ sym (ap (λ (o : Option (List ℕ)). cond (nat_lt place (length (unwrap_or o []))) (insert m key (toggled (unwrap_or o []) place)) m) found
    ∙ ap (λ b. cond b (insert m key (toggled old place)) m) (lt-ltb place (length old) lt))

-- ---- the shelf

module _ {H : Type 0} (moment : H → ℕ) (left_since : H → ℕ → Shares → Type 0) where
  pub quiet_keeps : (old new : H) (m : Shares) → IsQuiet moment left_since old new → Keeps moment left_since old m → Keeps moment left_since new m
  quiet_keeps old new m quiet keeps c left =
      let at : left_since new (moment old) c = subst (λ t. left_since new t c) quiet.same_moment left in
      keeps c (quiet.nothing_else (moment old) c at)

  pub quiet_trans : (a b d : H) → IsQuiet moment left_since a b → IsQuiet moment left_since b d → IsQuiet moment left_since a d
  quiet_trans a b d one two = record {
    same_moment = two.same_moment ∙ one.same_moment;
    nothing_else = λ t c left. one.nothing_else t c (two.nothing_else t c left);
  }

  pub quiet_same : (a : H) → IsQuiet moment left_since a a
  quiet_same a = record { same_moment = refl; nothing_else = λ t c left. left }

  pub leaves_nothing : (a b : H) (P : Shares → Type 0) → IsQuiet moment left_since a b → LeavesOnly moment left_since a b P
  leaves_nothing a b P quiet = record {
    later = omega (arith, quiet.same_moment);
    since = λ t c le left. inl (quiet.nothing_else t c left);
  }

  -- a call, and then a look
  pub leaves_quiet : (a b d : H) (P : Shares → Type 0) → LeavesOnly moment left_since a b P → IsQuiet moment left_since b d → LeavesOnly moment left_since a d P
  leaves_quiet a b d P leaves quiet = record {
    later = subst (λ t. moment a ≤ t) (sym quiet.same_moment) leaves.later;
    since = λ t c le left. leaves.since t c le (quiet.nothing_else t c left);
  }

  pub leaves_more : (a b : H) (P Q : Shares → Type 0) → LeavesOnly moment left_since a b P → ((c : Shares) → P c → Q c) → LeavesOnly moment left_since a b Q
  leaves_more a b P Q leaves more = record {
    later = leaves.later;
    since = λ t c le left. elim (leaves.since t c le left) [ inl was ↦ inl was | inr p ↦ inr (more c p) ];
  }

  -- one call, and then another
  pub leaves_both : (a b d : H) (P Q : Shares → Type 0) → LeavesOnly moment left_since a b P → LeavesOnly moment left_since b d Q → ((c : Shares) → P c → Q c) → LeavesOnly moment left_since a d Q
  leaves_both a b d P Q one two more = record {
    later = omega (arith, one.later, two.later);
    since = λ t c le left. let within : t ≤ moment b = omega (arith, le, one.later) in
        elim (two.since t c within left) [
          | inl was ↦ elim (one.since t c le was) [ inl first ↦ inl first | inr p ↦ inr (more c p) ]
          | inr q ↦ inr q
        ];
  }

-- ---- what the index says

module _ (index m : Shares) (sizes : sizes_of index ≡ sizes_of m) (key : ShareKey) where
  pub is_in : (b : Bool) (o : Option ℕ) → b ≡ is_some o → option_map blank o ≡ get index key → contains_key m key ≡ b
  is_in b o is found = sym (contains_as index m sizes key) ∙ ap is_some (sym found) ∙ is_some-map blank o ∙ sym is

pub absent : (index : Shares) (key : ShareKey) (b : Bool) (o : Option ℕ) → b ≡ is_some o → option_map blank o ≡ get index key → b ≡ false → get index key ≡ None
absent index key b o is found off = sym found ∙ by_case o (sym is ∙ off)
  where
    by_case : (p : Option ℕ) → is_some p ≡ false → option_map blank p ≡ None
    by_case None e = refl
    by_case (Some x) e = cc

-- ---- a byte of a share

-- a call that was answered counted no failure
pub calm : {X E : Type 0} (r : Result X E) (x : X) (e : E) (a b : ℕ) → r ≡ Ok x → (a < b → r ≡ Err e) → a ≤ b → b ≡ a
calm r x e a b is failed rises = elim (cases_lt a b) [
  | inl more ↦ let other : r ≡ Err e = failed more in absurd (let both : ◌≡◌ (Ok x) (Err e) = sym is ∙ other in cc)
  | inr less ↦ omega arith
]

-- a call that gave something didn't fail
pub no_failure : {X E : Type 0} (r : Result (Option X) E) (x : X) (a b : ℕ) → r ≡ Ok (Some x) → (a < b → r ≡ Ok None) → a ≤ b → b ≡ a
no_failure {X} {E} r x a b is none le = elim (cases_lt a b) [
  | inl lt ↦ (let both : ◌≡◌ {A = Result (Option X) E} (Ok (Some x)) (Ok None) = sym is ∙ none lt in cc)
  | inr ge ↦ omega arith
]

pub byte_there : (m : Shares) (key : ShareKey) (place : ℕ) (old : List ℕ) → get m key ≡ Some old → place < length old → has_byte m key place ≡ true
byte_there m key place old found lt = ap (λ (o : Option (List ℕ)). nat_lt place (length (unwrap_or o []))) found ∙ lt-ltb place (length old) lt

module _ (index m : Shares) (key : ShareKey) (place : ℕ) where
  far : (n : ℕ) → n ≤ place → nat_lt place n ≡ false
  far n le = by_case (nat_lt place n) refl
    where
      by_case : (b : Bool) → nat_lt place n ≡ b → nat_lt place n ≡ false
      by_case true is = absurd (omega (arith, ltb-true place n is))
      by_case false is = is

  pub none_no_byte : sizes_of index ≡ sizes_of m → get index key ≡ None → has_byte m key place ≡ false
  none_no_byte sizes none = ap (λ (o : Option (List ℕ)). nat_lt place (length (unwrap_or o []))) (none_as index m sizes key none) ∙ far 0 (omega arith)

  pub no_byte : (size : ℕ) → sizes_of index ≡ sizes_of m → get index key ≡ Some (blank size) → size ≤ place → has_byte m key place ≡ false
  no_byte size sizes found le = by_case (get m key) refl (sym (as_long index m sizes key) ∙ ap (option_map length) found)
    where
      by_case : (o : Option (List ℕ)) → get m key ≡ o → option_map length o ≡ Some (length (blank size)) → has_byte m key place ≡ false
      by_case None is long = cc
      by_case (Some v) is long =
          let same : length v ≡ length (blank size) = cc in
          let blank_long : length (blank size) ≡ size = length-replicate size 0 in
          ap (λ (o : Option (List ℕ)). nat_lt place (length (unwrap_or o []))) is ∙ far (length v) (omega (arith, same, blank_long))

pub toggles_none : (m : Shares) (key : ShareKey) (place : ℕ) → has_byte m key place ≡ false → with_toggle m key place ≡ m
toggles_none m key place off = ap (λ t. cond t (insert m key (toggled (bytes_at m key) place)) m) off
