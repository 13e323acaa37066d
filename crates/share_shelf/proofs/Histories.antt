-- What a shelf in memory tells of its past.
use Rattle.std.proofs.Common.{◌≡◌, ℕ, zero, suc, ◌+◌, ◌-◌, ◌<◌, ◌≤◌, Bool, true, false, List, [], ◌∷◌, ◌++◌, length, get_or, drop, Contains, Some, refl, sym, ap, ◌∙◌, arith, inl, inr}
use Rattle.std.specs.Prelude.{◌⊎◌, ◌↔◌, take, nat_lt}
use Rattle.std.proofs.lemmas.Bool.{ltb-true, ltb-false}
use Rattle.std.proofs.lemmas.List.{length-drop, get_or-drop}
use Rattle.std.specs.FinMap.{empty}
use Rattle.share_store.specs.Shares.{Shares}
use Rattle.share_store.specs.History.{IsEither, GoesOnBy}
use Rattle.share_shelf.specs.Kept.{KnownShare, with_told, after_changes, stood_after, states_from, HadBeen}
use Rattle.share_shelf.proofs.Moments.{is_kept}

-- one change more, one state more
states_from-push : (told : List KnownShare) (one : KnownShare) (m : Shares) → states_from m (told ++ one ∷ []) ≡ states_from m told ++ with_told one (after_changes told m) ∷ []
states_from-push [] one m = refl
states_from-push (x ∷ told) one m = ap (λ (l : List Shares). with_told x m ∷ l) (states_from-push told one (with_told x m))

pub length-states_from : (told : List KnownShare) (m : Shares) → length (states_from m told) ≡ length told
length-states_from [] m = refl
length-states_from (x ∷ told) m = ap suc (length-states_from told (with_told x m))

state_at : (told : List KnownShare) (m : Shares) (i : ℕ) (d : Shares) → i < length told → get_or (states_from m told) i d ≡ after_changes (take (suc i) told) m
state_at [] m i d lt = absurd (omega arith)
state_at (x ∷ told) m zero d lt = refl
state_at (x ∷ told) m (suc i) d lt = state_at told (with_told x m) i d (omega arith)

-- the states past the t-th are what had been since, but for what stood at t
pub told_is_left : (told : List KnownShare) (t : ℕ) (c : Shares) → t ≤ length told → HadBeen told t c ↔ ((c ≡ stood_after told t) ⊎ Contains (drop t (states_from empty told)) c)
told_is_left told t c le = (into, out)
  where
    h : List Shares
    h = states_from empty told

    at : (j : ℕ) → t + j < length told → get_or (drop t h) j c ≡ stood_after told (suc (t + j))
    at j lt = get_or-drop t h j c ∙ state_at told empty (t + j) c lt

    into : HadBeen told t c → (c ≡ stood_after told t) ⊎ Contains (drop t h) c
    into had = by_case (nat_lt t had.k) refl
      where
        by_case : (b : Bool) → nat_lt t had.k ≡ b → (c ≡ stood_after told t) ⊎ Contains (drop t h) c
        by_case true is =
            let j : ℕ = had.k - suc t in
            let past : t < had.k = ltb-true t had.k is in
            let to : had.k ≤ length told = had.to in
            let there : suc (t + j) ≡ had.k = omega arith in
            let within : t + j < length told = omega arith in
            inr (j, omega (arith, length-drop t h, length-states_from told empty), at j within ∙ ap (stood_after told) there ∙ sym had.stood)
        by_case false is =
            let least : had.k ≤ t = ltb-false t had.k is in
            let from : t ≤ had.k = had.from in
            let there : had.k ≡ t = omega arith in
            inl (had.stood ∙ ap (stood_after told) there)

    out : (c ≡ stood_after told t) ⊎ Contains (drop t h) c → HadBeen told t c
    out (inl is) = record { k = t; from = omega arith; to = le; stood = is }
    out (inr found) =
        let lt : found.0 < length (drop t h) = found.1 in
        let within : t + found.0 < length told = omega (arith, length-drop t h, length-states_from told empty) in
        record { k = suc (t + found.0); from = omega arith; to = within; stood = sym found.2 ∙ at found.0 within }

-- ---- what a call does to it

pub goes_on : (old new : List KnownShare) (one : KnownShare) (m : Shares) → new ≡ old ++ one ∷ [] → ((c : Shares) → HadBeen old (length old) c → c ≡ m) → GoesOnBy (IsEither m (with_told one m)) (Some (states_from empty old)) (Some (states_from empty new))
goes_on old new one m is keeps before tells =
    let same : states_from empty old ≡ before = cc in
    let more : states_from empty new ≡ states_from empty old ++ with_told one (after_changes old empty) ∷ [] = ap (states_from empty) is ∙ states_from-push old one empty in (
      with_told one (after_changes old empty) ∷ [],
      (
        ap Some (more ∙ ap (λ (l : List Shares). l ++ with_told one (after_changes old empty) ∷ []) same),
        (inr (ap (with_told one) (sym (is_kept old m keeps))), tt),
      ),
    )
