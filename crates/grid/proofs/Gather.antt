-- What is gathered of a server's store.
use Rattle.std.proofs.Common.{◌≡◌, inr, ◌<◌, ◌≤◌, ℕ, zero, suc, Bool, true, false, cond, List, [], ◌∷◌, length, Some, None, slice_get, get_or, All, nat_eq, refl, sym, ap, subst, ◌∙◌, arith}
use Rattle.std.proofs.lemmas.Option.{slice_get_read}
use Rattle.std.proofs.lemmas.List.Elements.{All-map, All-append, All-nil}
use Rattle.std.specs.Cmp.Lexicographic.{pointwise}
use Rattle.share_store.specs.Shares.{Shares, ShareEntry}
use Rattle.share_store.specs.Numbers.{of_index}
use Rattle.share_store.specs.NumberedShares.{AllBut}
use Rattle.grid.specs.Standing.{standing}
use Rattle.grid.specs.Found.{entries_at, found_in, found_below}
use Rattle.grid.proofs.Entries.{entry_stands, same_bytes}

-- a share of one index is one of the store, under that index
pub record IsOfIndex (index : List ℕ) (es : List ShareEntry) (e : ShareEntry) : Type 0 where
  pub place : ℕ
  pub at : slice_get es place ≡ Some e
  pub under : e.0.0 ≡ index

later : (index : List ℕ) (x : ShareEntry) (es : List ShareEntry) (e : ShareEntry) → IsOfIndex index es e → IsOfIndex index (x ∷ es) e
later index x es e h = record { place = suc h.place; at = h.at; under = h.under }

pub of_index_at : (index : List ℕ) (es : List ShareEntry) (i : ℕ) (e : ShareEntry) → slice_get (of_index index es) i ≡ Some e → IsOfIndex index es e
of_index_at index [] i e at = cc
of_index_at index (x ∷ es) i e at = by_case (pointwise nat_eq x.0.0 index) refl i at (λ k there. later index x es e (of_index_at index es k e there))
  where
    by_case : (b : Bool) → pointwise nat_eq x.0.0 index ≡ b → (i : ℕ) → slice_get (cond b (x ∷ of_index index es) (of_index index es)) i ≡ Some e → ((k : ℕ) → slice_get (of_index index es) k ≡ Some e → IsOfIndex index (x ∷ es) e) → IsOfIndex index (x ∷ es) e
    by_case true is zero h more = let same : x ≡ e = cc in record { place = 0; at = ap Some same; under = ap (λ (y : ShareEntry). y.0.0) (sym same) ∙ same_bytes x.0.0 index is }
    by_case true is (suc i) h more = more i h
    by_case false is i h more = more i h

-- it stands there
pub stands_at : (maps : List Shares) (server : ℕ) (index : List ℕ) (i : ℕ) (e : ShareEntry) → slice_get (of_index index (entries_at maps server)) i ≡ Some e → standing maps server (index, e.0.1) ≡ Some e.1
stands_at maps server index i e at =
    let of_it = of_index_at index (entries_at maps server) i e at in
    subst (λ (k : List ℕ). standing maps server (k, e.0.1) ≡ Some e.1) of_it.under (entry_stands maps server of_it.place e.0 e.1 of_it.at)

abbrev pub row : ℕ → ShareEntry → ℕ × ℕ × List ℕ
row server e = (server, e.0.1, e.1)

same_default : (es : List ShareEntry) (i : ℕ) (d : ShareEntry) → i < length es → get_or es i d ≡ get_or es i (get_or es i d)
same_default [] i d lt = absurd (omega arith)
same_default (x ∷ es) zero d lt = refl
same_default (x ∷ es) (suc i) d lt = same_default es i d (omega arith)

all_stand_in : (maps : List Shares) (server : ℕ) (index : List ℕ) → All (λ f. standing maps f.0 (index, f.1) ≡ Some f.2) (found_in server index (entries_at maps server))
all_stand_in maps server index =
    let es = of_index index (entries_at maps server) in
    All-map (λ f. standing maps f.0 (index, f.1) ≡ Some f.2) (row server) es
    (λ i d lt. stands_at maps server index i (get_or es i d) (slice_get_read es (length es) i (get_or es i d) refl lt (same_default es i d lt)))

-- all that is found stands
pub all_stand : (maps : List Shares) (index : List ℕ) (n : ℕ) → All (λ f. standing maps f.0 (index, f.1) ≡ Some f.2) (found_below maps index n)
all_stand maps index zero = All-nil (λ f. standing maps f.0 (index, f.1) ≡ Some f.2)
all_stand maps index (suc n) = All-append (λ f. standing maps f.0 (index, f.1) ≡ Some f.2) (found_below maps index n) (found_in n index (entries_at maps n)) (all_stand maps index n) (all_stand_in maps n index)

pub past_end : (es : List ShareEntry) (i : ℕ) → None ≡ slice_get es i → length es ≤ i
past_end [] i none = omega arith
past_end (e ∷ es) zero none = cc
past_end (e ∷ es) (suc i) none = omega (arith, past_end es i none)

-- where none is missing, all are given
pub all_but_none : {A : Type 0} (P : A → Type 0) (all : List A) → AllBut P all all
all_but_none P [] = refl
all_but_none P (x ∷ all) = inr (all, refl, all_but_none P all)
