-- What is put into a grid while it is repaired.
use Rattle.std.proofs.Common.{◌≡◌, ◌⊎◌, inl, inr, ℕ, ◌^◌, ◌<◌, List, [], length, take, map, get_or, Bool, true, false, cond, Option, Some, None, unwrap_or, refl, sym, ap, subst, ◌∙◌, arith, Global}
use Rattle.std.specs.Prelude.{All, Any, ◌==◌, ◌&&◌, nat_lt, slice_get, OnOk, IfErr, MatchOption}
use Rattle.std.specs.List.{range_with_len}
use Rattle.std.specs.Rc.{rc_slice_items}
use Rattle.std.specs.Ordering.{eq_by_cmp, nat_cmp}
use Rattle.std.specs.declared.result.Result.{Result}
use Rattle.std.specs.declared.result.Result.TheVariants.{Ok, Err}
use Rattle.std.specs.declared.rc.RcSlice.{RcSlice}
use Rattle.std.specs.Cmp.Lexicographic.{slice_cmp}
use Rattle.std.proofs.lemmas.Bool.{eqb-true, ltb-true}
use Rattle.std.proofs.lemmas.Map.Lookups.{exact_bytes}
use Rattle.std.proofs.lemmas.List.{get_or-take, length-take}
use Rattle.std.proofs.lemmas.List.Elements.{All-map}
use Rattle.std.proofs.lemmas.List.FromFn.{get_or-map-range_with_len, length-map-range_with_len}
use Rattle.std.proofs.lemmas.Option.{slice_get_within, slice_get-get_or, get_or_from_slice_get}
use Rattle.share_store.specs.Shares.{ShareKey}
use Rattle.grid.specs.declared.fault.GridFault.{GridFault}
use Rattle.grid.specs.Standing.{Standing, standing}
use Rattle.grid.specs.GridState.{GridState, stood, IsHonest}
use Rattle.grid.specs.Leaves.{Leaves, IsUnchanged}
use Rattle.grid.specs.Changed.{ArePut, PutStopsAt}
use Rattle.grid.specs.Placement.{server_of, placed}
use Rattle.share_codec.specs.Shares.{share}
use Rattle.octets.specs.Sharing.{IsSharing}
use Rattle.share_repair.specs.Files.{FileLabel, Numbered, IsShareOf, Verifies}
use Rattle.share_repair.specs.Repaired.{AreRepaired, strings_of}
use Rattle.share_repair.specs.Judged.{IsJudged, IsTheGiven}
use Rattle.share_repair.specs.Kept.{IsStandingShare, LosesAtMost}
use Rattle.share_repair.specs.Made.{StoodAnywhere, IsDetermined, PutsDetermined, PutsOnly, PutsNone}
use Rattle.share_repair.specs.Whole.{IsWholeFile, IsAtServer}
use Rattle.share_repair.specs.declared.judging.Judged.{Judged}
use Rattle.share_repair.proofs.Keeping.{equal}

pub puts_none : (g : GridState) → PutsNone g g
puts_none g = record { put = λ server key s here. here }

-- one step more, in which one may go
pub puts_none_lost : (index : List ℕ) (judged : Judged) (old now new : GridState) → PutsNone old now → LosesAtMost index judged now new → PutsNone old new
puts_none_lost index judged old now new so_far step = record { put = λ server key s here. by_case server key s here (step.each server key) }
  where
    by_case : (server : ℕ) (key : ShareKey) (s : List ℕ) → stood new server key ≡ Some s
        → (stood new server key ≡ stood now server key) ⊎ ((stood new server key ≡ None) × (server ≡ judged.server) × (key ≡ (index, judged.number)) × ¬ (Verifies judged.number (rc_slice_items judged.bytes)))
        → stood old server key ≡ Some s
    by_case server key s here (inl same) = so_far.put server key s (sym same ∙ here)
    by_case server key s here (inr at) = let f = sym at.0 ∙ here in cc

equal_lists : (a b : List ℕ) → eq_by_cmp (slice_cmp nat_cmp) a b ≡ true → a ≡ b
equal_lists a b e = exact_bytes a b (equal (slice_cmp nat_cmp a b) e)

-- what stands after a put stood before, or is what was put there
placed_puts : (count : ℕ) (index : List ℕ) (shares : List (List ℕ)) (before : Standing) (s : ℕ) (q : ShareKey) (x : List ℕ) → placed count index shares before s q ≡ Some x
    → (before s q ≡ Some x) ⊎ ((q.0 ≡ index) × (s ≡ server_of count index q.1) × (slice_get shares q.1 ≡ Some x))
placed_puts count index shares before s q x e = by_case (eq_by_cmp (slice_cmp nat_cmp) q.0 index) (nat_lt q.1 (length shares)) (s == server_of count index q.1) (before s q) (slice_get shares q.1) refl refl refl refl refl e
  where
    by_case : (a b c : Bool) (o p : Option (List ℕ)) → eq_by_cmp (slice_cmp nat_cmp) q.0 index ≡ a → nat_lt q.1 (length shares) ≡ b → (s == server_of count index q.1) ≡ c → before s q ≡ o → slice_get shares q.1 ≡ p
        → cond (a && b && c) (Some (unwrap_or o (unwrap_or p []))) o ≡ Some x → (before s q ≡ Some x) ⊎ ((q.0 ≡ index) × (s ≡ server_of count index q.1) × (slice_get shares q.1 ≡ Some x))
    by_case true true true (Some y) p ha hb hc ho hp e = inl (ho ∙ e)
    by_case true true true None (Some y) ha hb hc ho hp e = inr (equal_lists q.0 index ha, eqb-true s (server_of count index q.1) hc, hp ∙ e)
    by_case true true true None None ha hb hc ho hp e =
        let below = ltb-true q.1 (length shares) hb in
        let some = sym hp ∙ slice_get-get_or shares q.1 [] below in
        cc
    by_case true true false o p ha hb hc ho hp e = inl (ho ∙ e)
    by_case true false c o p ha hb hc ho hp e = inl (ho ∙ e)
    by_case false b c o p ha hb hc ho hp e = inl (ho ∙ e)

put_puts : (index : List ℕ) (shares : List (List ℕ)) (old new : GridState) → ArePut index shares old new → PutsOnly index shares old new
put_puts index shares old new put = record {
  put = λ server key s here. placed_puts (length old.stores) index shares (stood old) server key s (sym (ap (λ (f : Standing). f server key) put.stands) ∙ here);
}

taken_is : {A : Type 0} (n : ℕ) (xs : List A) (k : ℕ) (x : A) → slice_get (take n xs) k ≡ Some x → slice_get xs k ≡ Some x
taken_is n xs k x e =
    let below : k < length (take n xs) = slice_get_within (take n xs) k x e in
    let long = length-take n xs in
    let less : k < n = omega arith in
    let inside : k < length xs = omega arith in
    slice_get-get_or xs k x inside ∙ ap Some (sym (get_or-take n xs k x less) ∙ get_or_from_slice_get (take n xs) k x x e)

put_puts_some : (n : ℕ) (index : List ℕ) (shares : List (List ℕ)) (old new : GridState) → PutsOnly index (take n shares) old new → PutsOnly index shares old new
put_puts_some n index shares old new some = record { put = λ server key s here. by_case server key s (some.put server key s here) }
  where
    by_case : (server : ℕ) (key : ShareKey) (s : List ℕ) → (stood old server key ≡ Some s) ⊎ ((key.0 ≡ index) × (server ≡ server_of (length old.stores) index key.1) × (slice_get (take n shares) key.1 ≡ Some s))
        → (stood old server key ≡ Some s) ⊎ ((key.0 ≡ index) × (server ≡ server_of (length old.stores) index key.1) × (slice_get shares key.1 ≡ Some s))
    by_case server key s (inl before) = inl before
    by_case server key s (inr at) = inr (at.0, at.1, taken_is n shares key.1 s at.2)

-- whatever a put answers
pub puts_put : {T : Type 0} (result : Result T GridFault) (index : List ℕ) (shares : List (List ℕ)) (old new : GridState) → OnOk result (ArePut index shares old new) → IfErr result (PutStopsAt index shares old new) → IsHonest old → PutsOnly index shares old new
puts_put (Ok x) index shares old new ok err honest = put_puts index shares old new ok
puts_put (Err fault) index shares old new ok err honest = put_puts_some err.n index shares old new (put_puts index (take err.n shares) old new (err.put honest))

-- after nothing was put
pub puts_after : (index : List ℕ) (shares : List (List ℕ)) (old now new : GridState) → PutsNone old now → Leaves old now → PutsOnly index shares now new → PutsOnly index shares old new
puts_after index shares old now new none leaves only = record { put = λ server key s here. by_case server key s (only.put server key s here) }
  where
    by_case : (server : ℕ) (key : ShareKey) (s : List ℕ) → (stood now server key ≡ Some s) ⊎ ((key.0 ≡ index) × (server ≡ server_of (length now.stores) index key.1) × (slice_get shares key.1 ≡ Some s))
        → (stood old server key ≡ Some s) ⊎ ((key.0 ≡ index) × (server ≡ server_of (length old.stores) index key.1) × (slice_get shares key.1 ≡ Some s))
    by_case server key s (inl before) = inl (none.put server key s before)
    by_case server key s (inr at) = inr (at.0, at.1 ∙ ap (λ count. server_of count index key.1) leaves.servers, at.2)

-- the share of a number of those that were made
made_is : (f : ℕ → List ℕ) (n i : ℕ) (s : List ℕ) → slice_get (map f (range_with_len 0 n)) i ≡ Some s → (i < n) × (s ≡ f i)
made_is f n i s e =
    let below : i < length (map f (range_with_len 0 n)) = slice_get_within (map f (range_with_len 0 n)) i s e in
    let long = length-map-range_with_len f 0 n in
    let less : i < n = omega arith in
    (less, sym (get_or_from_slice_get (map f (range_with_len 0 n)) i s s e) ∙ get_or-map-range_with_len f 0 n i i s less (omega arith))

-- what was put is determined by what stood
pub puts_determined : (label : FileLabel) (given : List Numbered) (index : List ℕ) (shares made : List (List ℕ)) (old new : GridState) → shares ≡ made → AreRepaired label given made → All (StoodAnywhere old index) given
    → PutsOnly index shares old new → PutsDetermined index old new
puts_determined label given index shares made old new e is stood_before only = record { put = λ server key s here. by_case server key s (only.put server key s here) }
  where
    by_case : (server : ℕ) (key : ShareKey) (s : List ℕ) → (stood old server key ≡ Some s) ⊎ ((key.0 ≡ index) × (server ≡ server_of (length old.stores) index key.1) × (slice_get shares key.1 ≡ Some s))
        → (stood old server key ≡ Some s) ⊎ ((key.0 ≡ index) × (server ≡ server_of (length old.stores) index key.1) × IsDetermined old index key.1 s)
    by_case server key s (inl before) = inl before
    by_case server key s (inr at) =
        let found = made_is (λ i. share label.params is.crypttext i) label.params.n key.1 s (subst (λ xs. slice_get xs key.1 ≡ Some s) (e ∙ is.all) at.2) in
        inr (at.0, at.1, record { label = label; crypttext = is.crypttext; given = given; origin = is.origin; stands = stood_before; below = found.0; made = found.1 })

-- what was taken stood
pub given_stood : (index : List ℕ) (g : GridState) (standing : List Judged) (given : List (ℕ × RcSlice ℕ Global)) → All (IsStandingShare g index) standing
    → All (λ (x : ℕ × RcSlice ℕ Global). Any (IsTheGiven x.0 (rc_slice_items x.1)) standing) given → All (StoodAnywhere g index) (strings_of rc_slice_items given)
given_stood index g standing given stands taken =
    All-map (StoodAnywhere g index) (λ (x : ℕ × RcSlice ℕ Global). (x.0, rc_slice_items x.1)) given (λ k d below. one (get_or given k d) (taken k d below))
  where
    one : (x : ℕ × RcSlice ℕ Global) → Any (IsTheGiven x.0 (rc_slice_items x.1)) standing → StoodAnywhere g index (x.0, rc_slice_items x.1)
    one x any =
        let here = subst (IsStandingShare g index) any.3 (stands any.0 any.1 any.2) in
        (any.1.server, subst (λ (n : Numbered). stood g any.1.server (index, n.0) ≡ Some n.1) (λ i. (any.4.0 i, any.4.1 i)) here)

-- nothing stands anew where nothing was changed
pub determined_unchanged : (index : List ℕ) (old new : GridState) → IsUnchanged old new → PutsDetermined index old new
determined_unchanged index old new same = record { put = λ server key s here. inl (sym (ap (λ maps. standing maps server key) same.maps) ∙ here) }

pub determined_same : (index : List ℕ) (g : GridState) → PutsDetermined index g g
determined_same index g = record { put = λ server key s here. inl here }

pub determined_then_unchanged : (index : List ℕ) (old now new : GridState) → PutsDetermined index old now → IsUnchanged now new → PutsDetermined index old new
determined_then_unchanged index old now new puts same = record { put = λ server key s here. puts.put server key s (sym (ap (λ maps. standing maps server key) same.maps) ∙ here) }

pub unchanged_then_determined : (index : List ℕ) (old now new : GridState) → Leaves old now → IsUnchanged old now → PutsDetermined index now new → PutsDetermined index old new
unchanged_then_determined index old now new leaves same puts = record { put = λ server key s here. by_case server key s (puts.put server key s here) }
  where
    before : (server : ℕ) (key : ShareKey) (s : List ℕ) → stood now server key ≡ Some s → stood old server key ≡ Some s
    before server key s here = sym (ap (λ maps. standing maps server key) same.maps) ∙ here

    by_case : (server : ℕ) (key : ShareKey) (s : List ℕ) → (stood now server key ≡ Some s) ⊎ ((key.0 ≡ index) × (server ≡ server_of (length now.stores) index key.1) × IsDetermined now index key.1 s)
        → (stood old server key ≡ Some s) ⊎ ((key.0 ≡ index) × (server ≡ server_of (length old.stores) index key.1) × IsDetermined old index key.1 s)
    by_case server key s (inl here) = inl (before server key s here)
    by_case server key s (inr at) = inr (
      at.0,
      at.1 ∙ ap (λ count. server_of count index key.1) leaves.servers,
      record {
        label = at.2.label;
        crypttext = at.2.crypttext;
        given = at.2.given;
        origin = at.2.origin;
        stands = λ k d below. let here = at.2.stands k d below in (here.0, before here.0 (index, (get_or at.2.given k d).0) (get_or at.2.given k d).1 here.1);
        below = at.2.below;
        made = at.2.made;
      },
    )

-- a file of which each number is found in its place is whole
pub whole_file : (label : FileLabel) (index : List ℕ) (count : ℕ) (g : GridState) (standing : List Judged) → IsSharing label.params.k label.params.n → label.params.size < 2 ^ 64 → length g.stores ≡ count
    → All (IsStandingShare g index) standing → All IsJudged standing → ((number : ℕ) → number < label.params.n → Any (IsAtServer label (server_of count index number) number) standing) → IsWholeFile index g
whole_file label index count g standing sharing size servers stands told placed = record {
  label = label;
  sharing = sharing;
  size = size;
  each = λ number below. one number (placed number below);
}
  where
    one : (number : ℕ) → Any (IsAtServer label (server_of count index number) number) standing
        → (s : List ℕ) × (stood g (server_of (length g.stores) index number) (index, number) ≡ Some s) × IsShareOf label number s
    one number any =
        let here : stood g any.1.server (index, any.1.number) ≡ Some (rc_slice_items any.1.bytes) = subst (IsStandingShare g index) any.3 (stands any.0 any.1 any.2) in
        let judged : IsJudged any.1 = subst IsJudged any.3 (told any.0 any.1 any.2) in (
          rc_slice_items any.1.bytes,
          subst (λ (at : ℕ × ℕ). stood g at.0 (index, at.1) ≡ Some (rc_slice_items any.1.bytes)) (λ i. ((any.4.0 ∙ ap (λ c. server_of c index number) (sym servers)) i, any.4.1 i)) here,
          subst (λ n. IsShareOf label n (rc_slice_items any.1.bytes)) any.4.1 (is_share any.1 any.4.2 judged),
        )
      where
        is_share : (x : Judged) → x.label ≡ Some label → IsJudged x → IsShareOf label x.number (rc_slice_items x.bytes)
        is_share x e judged = subst (λ (o : Option FileLabel). MatchOption o ((other : FileLabel) → other.params.size < 2 ^ 64 → IsShareOf other x.number (rc_slice_items x.bytes) → ⊥) (λ other. IsShareOf other x.number (rc_slice_items x.bytes))) e judged
