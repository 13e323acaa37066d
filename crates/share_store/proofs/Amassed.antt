-- The shares that a gather of a store that others change was given so far.
use Rattle.std.proofs.Common.{◌≡◌, inl, inr, ℕ, Bool, List, [], ◌∷◌, ◌++◌, map, Option, refl, sym, ap, subst, ◌∙◌, append-nil, append_assoc}
use Rattle.std.specs.FinMap.{get, entries}
use Rattle.share_store.specs.Shares.{Shares}
use Rattle.share_store.specs.NumberedShares.{AllBut, below_limit, shares_for}
use Rattle.share_store.specs.History.{History, GoesOnBy}
use Rattle.share_store.specs.Shared.{IsShared, StoodAmid, IsSeenAmid}
use Rattle.share_store.proofs.Amid.{goes_on_same, seen_whole}
use Rattle.share_store.proofs.Missing.{more_may_miss, all_but_both, all_missing}
use Rattle.share_store.proofs.Seen.{listed, entry_if, seen_anew, entries-seen_anew, still_seen, split, listed_anew}

-- A view of the call so far. Of its shares under the index those of the numbers before were given, less some where a call
-- in it failed.
pub record IsAmassed (old new : History) (failed : Type 0) (index : List ℕ) (limit : Option ℕ) (left : List ℕ) (found : List (ℕ × List ℕ)) : Type 0 where
  pub view : Shares
  pub seen : IsSeenAmid old new view
  pub done : List (ℕ × List ℕ)
  pub rest : List (ℕ × List ℕ)
  pub all : below_limit (λ (s : ℕ × List ℕ). s.0) limit (shares_for view index) ≡ done ++ rest
  pub numbers : map (λ (s : ℕ × List ℕ). s.0) rest ≡ left
  pub given : AllBut (λ (_ : ℕ × List ℕ). failed) done found

-- the share of the next number
record IsNext (rest : List (ℕ × List ℕ)) (n : ℕ) (left : List ℕ) : Type 0 where
  pub share : List ℕ
  pub others : List (ℕ × List ℕ)
  pub is : rest ≡ (n, share) ∷ others
  pub numbers : map (λ (s : ℕ × List ℕ). s.0) others ≡ left

next_of : (rest : List (ℕ × List ℕ)) (n : ℕ) (left : List ℕ) → map (λ (s : ℕ × List ℕ). s.0) rest ≡ n ∷ left → IsNext rest n left
next_of [] n left e = cc
next_of (s ∷ rest) n left e =
    let is : s.0 ≡ n = cc in
    record { share = s.1; others = rest; is = λ i. (is i, s.1) ∷ rest; numbers = cc }

module _ {old new : History} {failed : Type 0} {index : List ℕ} {limit : Option ℕ} where
  -- the numbers were seen
  pub amassed_none : (view : Shares) (left : List ℕ) → IsSeenAmid old new view → left ≡ map (λ (s : ℕ × List ℕ). s.0) (below_limit (λ (s : ℕ × List ℕ). s.0) limit (shares_for view index)) → IsAmassed old new failed index limit left []
  amassed_none view left seen numbers = record {
    view = view;
    seen = seen;
    done = [];
    rest = below_limit (λ (s : ℕ × List ℕ). s.0) limit (shares_for view index);
    all = refl;
    numbers = sym numbers;
    given = refl;
  }

  -- the numbers were not seen
  pub amassed_failed : (view : Shares) (left : List ℕ) → IsSeenAmid old new view → left ≡ [] → failed → IsAmassed old new failed index limit left []
  amassed_failed view left seen numbers fails = record {
    view = view;
    seen = seen;
    done = below_limit (λ (s : ℕ × List ℕ). s.0) limit (shares_for view index);
    rest = [];
    all = sym (append-nil (below_limit (λ (s : ℕ × List ℕ). s.0) limit (shares_for view index)));
    numbers = sym numbers;
    given = all_missing (λ (_ : ℕ × List ℕ). failed) (below_limit (λ (s : ℕ × List ℕ). s.0) limit (shares_for view index)) (λ _. fails);
  }

  -- all numbers were looked at
  pub amassed_all : {left : List ℕ} {found : List (ℕ × List ℕ)} → left ≡ [] → (so_far : IsAmassed old new failed index limit left found) → AllBut (λ (_ : ℕ × List ℕ). failed) (below_limit (λ (s : ℕ × List ℕ). s.0) limit (shares_for so_far.view index)) found
  amassed_all {found = found} over so_far =
      let none : so_far.rest ≡ [] = nothing so_far.rest (so_far.numbers ∙ over) in
      subst (λ (l : List (ℕ × List ℕ)). AllBut (λ (_ : ℕ × List ℕ). failed) l found) (sym (append-nil so_far.done) ∙ ap (λ (l : List (ℕ × List ℕ)). so_far.done ++ l) (sym none) ∙ sym so_far.all) so_far.given
    where
      nothing : (l : List (ℕ × List ℕ)) → map (λ (s : ℕ × List ℕ). s.0) l ≡ [] → l ≡ []
      nothing [] e = refl
      nothing (s ∷ l) e = cc

  -- a place that was looked at, and what stood there at some moment
  pub amassed_one : {found : List (ℕ × List ℕ)} {n : ℕ} {left : List ℕ} (now : Option (List ℕ)) (c : Shares) → StoodAmid old new c → now ≡ get c (index, n) → IsAmassed old new failed index limit (n ∷ left) found
      → IsAmassed old new failed index limit left (found ++ map (λ e. (e.0.1, e.1)) (entry_if (index, n) now))
  amassed_one {found = found} {n = n} {left = left} now c amid is so_far =
      let next = next_of so_far.rest n left so_far.numbers in
      let at = split index limit (entries so_far.view) so_far.done (n, next.share) next.others (so_far.all ∙ ap (λ (l : List (ℕ × List ℕ)). so_far.done ++ l) next.is) in
      let one : List (ℕ × List ℕ) = map (λ e. (e.0.1, e.1)) (entry_if (index, n) now) in
      record {
        view = seen_anew at.before (index, n) now at.after;
        seen = still_seen so_far.view at.before (index, n) next.share at.after now at.is c amid is so_far.seen;
        done = so_far.done ++ one;
        rest = next.others;
        all = ap (listed index limit) (entries-seen_anew so_far.view at.before (index, n) next.share at.after now at.is) ∙ listed_anew at now ∙ sym (append_assoc so_far.done one next.others);
        numbers = next.numbers;
        given = all_but_both (λ (_ : ℕ × List ℕ). failed) so_far.done one found one so_far.given (each one);
      }
    where
      each : (l : List (ℕ × List ℕ)) → AllBut (λ (_ : ℕ × List ℕ). failed) l l
      each [] = refl
      each (s ∷ l) = inr (l, refl, each l)

  -- a place that was not seen
  pub amassed_missed : {found : List (ℕ × List ℕ)} {n : ℕ} {left : List ℕ} → failed → IsAmassed old new failed index limit (n ∷ left) found → IsAmassed old new failed index limit left found
  amassed_missed {found = found} {n = n} {left = left} fails so_far =
      let next = next_of so_far.rest n left so_far.numbers in
      record {
        view = so_far.view;
        seen = so_far.seen;
        done = so_far.done ++ (n, next.share) ∷ [];
        rest = next.others;
        all = so_far.all ∙ ap (λ (l : List (ℕ × List ℕ)). so_far.done ++ l) next.is ∙ sym (append_assoc so_far.done ((n, next.share) ∷ []) next.others);
        numbers = next.numbers;
        given = subst (AllBut (λ (_ : ℕ × List ℕ). failed) (so_far.done ++ (n, next.share) ∷ [])) (append-nil found)
            (all_but_both (λ (_ : ℕ × List ℕ). failed) so_far.done ((n, next.share) ∷ []) found [] so_far.given (inl (fails, refl)));
      }

-- a call more
pub amassed_later : {old mid new : History} {P Q : Type 0} {index : List ℕ} {limit : Option ℕ} {left : List ℕ} {found : List (ℕ × List ℕ)} {honest : Bool} → IsShared honest old → GoesOnBy (λ _. Unit {0}) mid new → (P → Q) → IsAmassed old mid P index limit left found → IsAmassed old new Q index limit left found
amassed_later {old = old} {P = P} {Q = Q} {found = found} shared then more so_far = record {
  view = so_far.view;
  seen = seen_whole so_far.view shared (goes_on_same old old refl) so_far.seen then;
  done = so_far.done;
  rest = so_far.rest;
  all = so_far.all;
  numbers = so_far.numbers;
  given = more_may_miss (λ (_ : ℕ × List ℕ). P) (λ (_ : ℕ × List ℕ). Q) so_far.done found (λ _. more) so_far.given;
}
