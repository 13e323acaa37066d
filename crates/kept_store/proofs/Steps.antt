-- What a call leaves of a store and of the shelf beside it.
use Rattle.std.proofs.Common.{◌≡◌, ℕ, Bool, true, false, cond, Option, Some, None, refl, sym, ap, subst, ◌∙◌, arith}
use Rattle.std.specs.Prelude.{IsTrue, ◌<◌, ◌+◌, List, [], length, nat_lt, unwrap_or}
use Rattle.std.proofs.lemmas.Bool.{lt-ltb}
use Rattle.share_store.specs.Toggle.{toggled, with_toggle}
use Rattle.std.specs.Ordering.{eq_by_cmp}
use Rattle.std.specs.Rc.{rc_slice_items}
use Rattle.std.specs.FinMap.{get, insert, remove, contains_key, get-insert, get-remove, same_map}
use Rattle.std.proofs.lemmas.Map.Views.{tells_apart}
use Rattle.share_store.specs.Shares.{Shares, ShareKey, key_cmp, bytes_of}
use Rattle.share_store.specs.Stored.{shares_in}
use Rattle.share_store.specs.declared.mem_store.MemStore.{MemStore}
use Rattle.share_store.specs.MapLaws.{key_cmp_total, key_cmp_exact}
use Rattle.share_store.specs.History.{GoesOnBy}
use Rattle.share_store.specs.Put.{put_once}
use Rattle.share_shelf.specs.CrashStates.{Keeps, IsEither, LeavesOnly, IsQuiet}
use Rattle.share_shelf.specs.declared.shelf.Shelf.{Ghosts}
use Rattle.kept_store.specs.Changed.{shares_in_memory, WritesThrough}
use Rattle.kept_store.specs.declared.kept_store.KeptStore.{KeptStore}

module _ {H : Type 0} (moment : H → ℕ) (left_since : H → ℕ → Shares → Type 0) (honest : H → Bool) where
  pub quiet_keeps : (old new : H) (m : Shares) → IsQuiet moment left_since old new → Keeps moment left_since old m → Keeps moment left_since new m
  quiet_keeps old new m quiet keeps c left =
      let at : left_since new (moment old) c = subst (λ t. left_since new t c) quiet.same_moment left in
      keeps c (quiet.nothing_else (moment old) c at)

  pub quiet_trans : (a b d : H) → IsQuiet moment left_since a b → IsQuiet moment left_since b d → IsQuiet moment left_since a d
  quiet_trans a b d one two = record {
    same_moment = two.same_moment ∙ one.same_moment;
    nothing_else = λ t c left. one.nothing_else t c (two.nothing_else t c left);
  }

-- ---- a call that is to make this change

-- memory was looked at
pub looked_room : (old new : MemStore) → shares_in rc_slice_items new.shares.indexes ≡ shares_in rc_slice_items old.shares.indexes → new.room ≡ old.room → new.room + new.held ≡ old.room + old.held
looked_room old new same room = omega (arith, room, new.summed, old.summed, ap bytes_of same)

module _ {X : Type 0} {g : Ghosts X} where
  -- the shelf was told, and is this one now
  pub told : {old new : KeptStore X g} {change : Shares → Shares} (shelf : X) (on_shelf : Shares → Shares) → old.down ≡ false → new.shelf ≡ shelf → on_shelf (shares_in_memory old) ≡ change (shares_in_memory old)
      → g.honest shelf ≡ g.honest old.shelf
      → (IsTrue (g.honest old.shelf) → (m : Shares) → Keeps g.moment g.left_since old.shelf m → LeavesOnly g.moment g.left_since old.shelf shelf (IsEither m (on_shelf m)))
      → (IsTrue (g.honest old.shelf) → (m : Shares) → Keeps g.moment g.left_since old.shelf m → GoesOnBy (IsEither m (on_shelf m)) (g.history old.shelf) (g.history shelf))
      → WritesThrough change old new
  told {old} {new} {change} shelf on_shelf up same makes honest crash history =
      let m : Shares = shares_in_memory old in
      record {
        crash = record {
          up = λ d h. subst (λ (s : X). LeavesOnly g.moment g.left_since old.shelf s (IsEither m (change m))) (sym same)
              (subst (λ (n : Shares). LeavesOnly g.moment g.left_since old.shelf shelf (IsEither m n)) makes (crash h m (old.in_step up h)));
          left_alone = λ d. let clash : true ≡ false = sym d ∙ up in cc;
          same_honest = ap g.honest same ∙ honest;
        };
        history = λ h. subst (λ (s : X). GoesOnBy (IsEither m (change m)) (g.history old.shelf) (g.history s)) (sym same)
            (subst (λ (n : Shares). GoesOnBy (IsEither m n) (g.history old.shelf) (g.history shelf)) makes (history h m (old.in_step up h)));
      }

-- ---- shares

same_shares : (m n : Shares) → ((q : ShareKey) → get m q ≡ get n q) → m ≡ n
same_shares m n h = same_map key_cmp_total key_cmp_exact m n h

pub put_is : (m : Shares) (key : ShareKey) (b : List ℕ) → contains_key m key ≡ false → put_once m key b ≡ insert m key b
put_is m key b none = ap (λ t. cond t m (insert m key b)) none

none_there : (m : Shares) (key : ShareKey) → contains_key m key ≡ false → get m key ≡ None
none_there m key is = by_case (get m key) is
  where
    by_case : (o : Option (List ℕ)) → (let t : Bool = elim o [ None ↦ false | Some x ↦ true ] in t) ≡ false → o ≡ None
    by_case None e = refl
    by_case (Some x) e = cc

-- a share that was put where none stood, taken out again
pub put_undone : (m : Shares) (key : ShareKey) (b : List ℕ) → contains_key m key ≡ false → remove (put_once m key b) key ≡ m
put_undone m key b none = ap (λ n. remove n key) (put_is m key b none) ∙ same_shares (remove (insert m key b) key) m (λ q.
    get-remove key_cmp_total (insert m key b) key q ∙ ap (cond (eq_by_cmp key_cmp q key) None) (get-insert key_cmp_total m key b q) ∙ by_case q (eq_by_cmp key_cmp q key) refl)
  where
    by_case : (q : ShareKey) (t : Bool) → eq_by_cmp key_cmp q key ≡ t → cond t None (cond t (Some b) (get m q)) ≡ get m q
    by_case q true is = sym (ap (get m) (tells_apart key_cmp_exact q key is) ∙ none_there m key none)
    by_case q false is = refl

-- a share that doesn't stand, taken out
pub remove_none : (m : Shares) (key : ShareKey) → contains_key m key ≡ false → remove m key ≡ m
remove_none m key none = same_shares (remove m key) m (λ q. get-remove key_cmp_total m key q ∙ by_case q (eq_by_cmp key_cmp q key) refl)
  where
    by_case : (q : ShareKey) (t : Bool) → eq_by_cmp key_cmp q key ≡ t → cond t None (get m q) ≡ get m q
    by_case q true is = sym (ap (get m) (tells_apart key_cmp_exact q key is) ∙ none_there m key none)
    by_case q false is = refl

-- a bit of a share that stands, changed
pub toggles_as : (m : Shares) (key : ShareKey) (place : ℕ) (old new : List ℕ) → get m key ≡ Some old → place < length old → new ≡ toggled old place → insert m key new ≡ with_toggle m key place
toggles_as m key place old new found lt is =
    ap (insert m key) is
    ∙ sym (ap (λ (o : Option (List ℕ)). cond (nat_lt place (length (unwrap_or o []))) (insert m key (toggled (unwrap_or o []) place)) m) found
    ∙ ap (λ b. cond b (insert m key (toggled old place)) m) (lt-ltb place (length old) lt))
