-- The share at a place, and what stands under its name.
use Rattle.std.proofs.Common.{◌≡◌, ℕ, zero, suc, Bool, true, false, List, [], ◌∷◌, ◌++◌, map, Option, Some, None, refl, sym, ap, ◌∙◌, T}
use Rattle.std.specs.Prelude.{take, slice_get}
use Rattle.std.specs.Option.{option_map}
use Rattle.std.specs.FinMap.{get, entries, entries_sorted, get-entries}
use Rattle.share_store.specs.Shares.{Shares, ShareKey, ShareEntry}
use Rattle.share_store.specs.MapLaws.{key_cmp_total}
use Rattle.share_store.proofs.Sorted.{find_at}

-- one more of them
pub more : (es : List ShareEntry) (i : ℕ) (e : ShareEntry) → slice_get es i ≡ Some e → take (suc i) es ≡ take i es ++ e ∷ []
more [] i e is = cc
more (x ∷ es) zero e is = let same : x ≡ e = cc in ap (λ (f : ShareEntry). f ∷ []) same
more (x ∷ es) (suc i) e is = ap (λ (l : List ShareEntry). x ∷ l) (more es i e is)

-- the entry of a key
pub entry_at : (es : List ShareEntry) (i : ℕ) (key : ShareKey) → slice_get (map (λ (e : ShareEntry). e.0) es) i ≡ Some key → (b : List ℕ) × (slice_get es i ≡ Some (key, b))
entry_at [] i key is = cc
entry_at (x ∷ es) zero key is = let same : x.0 ≡ key = cc in (x.1, ap (λ (k : ShareKey). Some (k, x.1)) same)
entry_at (x ∷ es) (suc i) key is = entry_at es i key is

-- what is found at it
pub found_at : (m : Shares) (i : ℕ) (key : ShareKey) (b : List ℕ) → slice_get (entries m) i ≡ Some (key, b) → get m key ≡ Some b
found_at m i key b at = get-entries m key ∙ find_at key_cmp_total (entries m) key b i at (sorted_is _ (entries_sorted m))
  where
    sorted_is : (t : Bool) → T t → t ≡ true
    sorted_is true h = refl
    sorted_is false h = absurd h

pub nth_found : (m : Shares) (at : ℕ) (key : ShareKey) (b : List ℕ) → option_map (λ (e : ShareEntry). e.0) (slice_get (entries m) at) ≡ Some key → get m key ≡ Some b → slice_get (entries m) at ≡ Some (key, b)
nth_found m at key b name found = by_case (slice_get (entries m) at) refl name
  where
    by_case : (o : Option ShareEntry) → slice_get (entries m) at ≡ o → option_map (λ (e : ShareEntry). e.0) o ≡ Some key → slice_get (entries m) at ≡ Some (key, b)
    by_case None is n = cc
    by_case (Some e) is n =
        let same : e.0 ≡ key = cc in
        let both : ◌≡◌ {A = Option (List ℕ)} (Some e.1) (Some b) = sym (found_at m at e.0 e.1 is) ∙ ap (get m) same ∙ found in
        let bytes : e.1 ≡ b = cc in
        is ∙ ap (λ (k : ShareKey). Some (k, e.1)) same ∙ ap (λ (v : List ℕ). Some (key, v)) bytes

pub nth_none : (m : Shares) (at : ℕ) → option_map (λ (e : ShareEntry). e.0) (slice_get (entries m) at) ≡ None → slice_get (entries m) at ≡ None
nth_none m at name = by_case (slice_get (entries m) at) name
  where
    by_case : (o : Option ShareEntry) → option_map (λ (e : ShareEntry). e.0) o ≡ None → o ≡ None
    by_case None n = refl
    by_case (Some e) n = cc

pub nth_stands : (m : Shares) (at : ℕ) (key : ShareKey) → option_map (λ (e : ShareEntry). e.0) (slice_get (entries m) at) ≡ Some key → get m key ≡ None → ⊥
nth_stands m at key name none = by_case (slice_get (entries m) at) refl name
  where
    by_case : (o : Option ShareEntry) → slice_get (entries m) at ≡ o → option_map (λ (e : ShareEntry). e.0) o ≡ Some key → ⊥
    by_case None is n = cc
    by_case (Some e) is n =
        let same : e.0 ≡ key = cc in
        let both : ◌≡◌ {A = Option (List ℕ)} (Some e.1) None = sym (found_at m at e.0 e.1 is) ∙ ap (get m) same ∙ none in
        cc
