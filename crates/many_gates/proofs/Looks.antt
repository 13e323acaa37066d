-- What a call sees of stores that many gateways change.
use Rattle.std.proofs.Common.{◌≡◌, ◌⊎◌, inl, inr, ℕ, zero, suc, IsTrue, List, [], ◌∷◌, Some, None, slice_get, option_and_then, All, refl, sym, ap, ◌∙◌, take}
use Rattle.std.specs.FinMap.{get}
use Rattle.std.proofs.lemmas.List.Elements.{All-head, All-tail}
use Rattle.share_store.specs.Shares.{Shares, ShareKey}
use Rattle.share_store.specs.Shared.{IsShared}
use Rattle.grid.specs.Standing.{Standing, standing}
use Rattle.grid.specs.GridState.{StoreState, GridState}
use Rattle.grid.specs.Views.{AllTell, AreViews}
use Rattle.grid.proofs.Views.{seen_honest, seen_shared}
use Rattle.gate_core.specs.Settings.{GatewaySettings}
use Rattle.many_gates.specs.Changes.{Change, all_changed}
use Rattle.many_gates.specs.Seen.{IsSeen}
use Rattle.many_gates.specs.Looks.{AreChangedBy}

-- a store is honest, or one that others change
abbrev Tells : StoreState → Type 0
Tells t = IsTrue t.honest ⊎ IsShared t.honest t.history

-- a server has a state before and after and a view, or there is none
data Place (ts us : List StoreState) (views : List Shares) (s : ℕ) : Type 0 where
  There : (t u : StoreState) → slice_get ts s ≡ Some t → slice_get us s ≡ Some u → Tells t → Place ts us views s
  Nowhere : slice_get ts s ≡ None → slice_get views s ≡ None → Place ts us views s

place : (ts us : List StoreState) (views : List Shares) (s : ℕ) → All Tells ts → AreViews ts us views → Place ts us views s
place [] [] [] s all are = Nowhere refl refl
place (t ∷ ts) (u ∷ us) (view ∷ views) zero all are = There t u refl refl (All-head Tells t ts all)
place (t ∷ ts) (u ∷ us) (view ∷ views) (suc s) all are = later (place ts us views s (All-tail Tells t ts all) are.1)
  where
    later : Place ts us views s → Place (t ∷ ts) (u ∷ us) (view ∷ views) (suc s)
    later (There x y was is tells) = There x y was is tells
    later (Nowhere was none) = Nowhere was none
place ts us views s all are = absurd are

module _ (settings : GatewaySettings) (changes : List Change) (before : Standing) (old new : GridState) (views : List Shares) (all : AllTell old) (are : AreViews old.stores new.stores views) (changed : AreChangedBy settings changes before old new) where
  seen_there : (s : ℕ) (q : ShareKey) → Place old.stores new.stores views s → (k : ℕ) × (standing views s q ≡ all_changed settings (take k changes) before s q)
  seen_there s q (There t u was is (inl honest)) =
      (0, seen_honest old new views s t u was is are honest q ∙ (changed.each s t u was is).honest honest q)
  seen_there s q (There t u was is (inr shared)) =
      let sight = seen_shared old new views s t u was is are shared q in
      let after = (changed.each s t u was is).shared sight.0 sight.1 in
      (after.0, sight.2 ∙ after.1 q)
  seen_there s q (Nowhere was none) =
      (0, ap (option_and_then (λ (m : Shares). get m q)) none ∙ sym (changed.none s was q))

  pub are_seen : IsSeen settings changes before (standing views)
  are_seen s q = seen_there s q (place old.stores new.stores views s all are)
