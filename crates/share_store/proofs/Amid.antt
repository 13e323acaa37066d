-- What stood at some moment of a part of a call.
use Rattle.std.proofs.Common.{◌≡◌, ◌⊎◌, inl, inr, ◌<◌, ℕ, zero, suc, Bool, List, [], ◌∷◌, ◌++◌, get_or, Contains, Some, refl, sym, ap, subst, ◌∙◌, arith, append-nil, append_assoc}
use Rattle.std.specs.List.{AllByRecursion}
use Rattle.std.proofs.lemmas.List.Elements.{Contains-append_left, Contains-append_right, Contains-append_cases}
use Rattle.share_store.specs.Shares.{Shares}
use Rattle.share_store.specs.History.{History, GoesOnBy}
use Rattle.share_store.specs.Shared.{IsShared, StoodAmid, IsSeenAmid, TellsOn}

-- nothing is said of these
pub all_unit : (more : List Shares) → AllByRecursion (λ (_ : Shares). Unit {0}) more
all_unit [] = tt
all_unit (c ∷ more) = (tt, all_unit more)

-- what was told stays, over one call and the next
pub goes_on_both : (old mid new : History) → GoesOnBy (λ _. Unit {0}) old mid → GoesOnBy (λ _. Unit {0}) mid new → GoesOnBy (λ _. Unit {0}) old new
goes_on_both old mid new first then before tells =
    let a = first before tells in
    let b = then (before ++ a.0) a.1.0 in
    (a.0 ++ b.0, (b.1.0 ∙ ap Some (append_assoc before a.0 b.0), all_unit (a.0 ++ b.0)))

-- what a store tells that is the one before
pub goes_on_same : (old new : History) → new ≡ old → GoesOnBy (λ _. Unit {0}) old new
goes_on_same old new same before tells = ([], (same ∙ tells ∙ ap Some (sym (append-nil before)), tt))

module _ {S : Type 0} (honest : S → Bool) (history : S → History) where
  pub tells_on_both : (old mid new : S) → TellsOn honest history old mid → TellsOn honest history mid new → TellsOn honest history old new
  tells_on_both old mid new first then shared =
      let a = first shared in
      let b = then a.0 in
      (b.0, goes_on_both (history old) (history mid) (history new) a.1 b.1)

  pub tells_on_same : (old new : S) → new ≡ old → TellsOn honest history old new
  tells_on_same old new same shared = (subst (λ (s : S). IsShared (honest s) (history s)) (sym same) shared, goes_on_same (history old) (history new) (ap history same))

-- the last of a list, or this one
last_or : Shares → List Shares → Shares
last_or d [] = d
last_or d (c ∷ more) = last_or c more

last_or-push : (d : Shares) (before : List Shares) (c : Shares) (more : List Shares) → last_or d (before ++ c ∷ more) ≡ last_or c more
unfolding last_or
last_or-push d [] c more = refl
last_or-push d (b ∷ before) c more = last_or-push b before c more

last_or-Contains : (c : Shares) (more : List Shares) → Contains (c ∷ more) (last_or c more)
unfolding last_or
last_or-Contains c [] = (0, omega arith, refl)
last_or-Contains c (d ∷ more) = Contains-append_right (c ∷ []) (d ∷ more) (last_or d more) (last_or-Contains d more)

-- what stands alone is the one there
alone : (d c : Shares) → Contains (d ∷ []) c → d ≡ c
alone d c found = by_place found.0 found.1 found.2
  where
    by_place : (k : ℕ) → k < 1 → get_or (d ∷ []) k c ≡ c → d ≡ c
    by_place zero lt is = is
    by_place (suc k) lt is = absurd (omega arith)

-- a list goes on where another ends
joined : (l last : Shares) (more since : List Shares) (c : Shares) → last_or l more ≡ last → Contains (last ∷ since) c → Contains (l ∷ (more ++ since)) c
joined l last more since c is found = by_part (Contains-append_cases (last ∷ []) since c found)
  where
    by_part : Contains (last ∷ []) c ⊎ Contains since c → Contains (l ∷ (more ++ since)) c
    by_part (inl first) = Contains-append_left (l ∷ more) since c (subst (Contains (l ∷ more)) (is ∙ alone last c first) (last_or-Contains l more))
    by_part (inr then) = Contains-append_right (l ∷ more) since c then

-- what stood at some moment of a part of a call stood at some moment of the whole
pub amid_whole : {old mid late new : History} {c : Shares} {honest : Bool} → IsShared honest old → GoesOnBy (λ _. Unit {0}) old mid → StoodAmid mid late c → GoesOnBy (λ _. Unit {0}) late new → StoodAmid old new c
unfolding last_or
amid_whole {c = c} shared first amid then =
    let a = first (shared.before ++ shared.last ∷ []) shared.told in
    let b = then (amid.before ++ amid.last ∷ amid.since) amid.is in
    let both : Some (shared.before ++ shared.last ∷ a.0) ≡ Some (amid.before ++ amid.last ∷ []) = ap Some (sym (append_assoc shared.before (shared.last ∷ []) a.0)) ∙ sym a.1.0 ∙ amid.was in
    let whole : shared.before ++ shared.last ∷ a.0 ≡ amid.before ++ amid.last ∷ [] = cc in
    let last : last_or shared.last a.0 ≡ amid.last = sym (last_or-push shared.last shared.before shared.last a.0) ∙ ap (last_or shared.last) whole ∙ last_or-push shared.last amid.before amid.last [] in
    record {
      before = shared.before;
      last = shared.last;
      since = (a.0 ++ amid.since) ++ b.0;
      was = shared.told;
      is = b.1.0
          ∙ ap Some (ap (λ (l : List Shares). l ++ b.0) (sym (append_assoc amid.before (amid.last ∷ []) amid.since) ∙ ap (λ (l : List Shares). l ++ amid.since) (sym whole) ∙ append_assoc shared.before (shared.last ∷ a.0) amid.since)
          ∙ append_assoc shared.before (shared.last ∷ (a.0 ++ amid.since)) b.0);
      stood = Contains-append_left (shared.last ∷ (a.0 ++ amid.since)) b.0 c (joined shared.last amid.last a.0 amid.since c last amid.stood);
    }

-- and what is seen in a part is seen in the whole
pub seen_whole : {old mid late new : History} {honest : Bool} (view : Shares) → IsShared honest old → GoesOnBy (λ _. Unit {0}) old mid → IsSeenAmid mid late view → GoesOnBy (λ _. Unit {0}) late new → IsSeenAmid old new view
seen_whole view shared first seen then key = let at = seen key in (at.0, amid_whole shared first at.1 then, at.2)

-- what stands as a call begins is seen in it
pub seen_first : {old new : History} {honest : Bool} → (shared : IsShared honest old) → GoesOnBy (λ _. Unit {0}) old new → IsSeenAmid old new shared.last
seen_first shared goes key =
    let a = goes (shared.before ++ shared.last ∷ []) shared.told in (
      shared.last,
      record {
        before = shared.before;
        last = shared.last;
        since = a.0;
        was = shared.told;
        is = a.1.0 ∙ ap Some (append_assoc shared.before (shared.last ∷ []) a.0);
        stood = (0, omega arith, refl);
      },
      refl,
    )
