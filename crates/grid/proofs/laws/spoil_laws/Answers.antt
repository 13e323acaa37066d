use Rattle.std.proofs.Common.{◌≡◌, ℕ, Bool, true, false, List, Option, Some, None, ◌&&◌, ◌==◌, if◌then◌else◌, refl, ap}
use Rattle.std.specs.Option.{option_map}
use Rattle.std.specs.Ordering.{eq_by_cmp}
use Rattle.share_store.specs.Shares.{ShareKey, key_cmp}
use Rattle.share_store.specs.Toggle.{toggled, ToggleLaws}
use Rattle.grid.specs.Changes.{spoiled}
use Rattle.grid.proofs.laws.spoil_laws.Goals as goal

spoiled_twice : ToggleLaws → (t : Bool) (place : ℕ) (stood : Option (List ℕ)) →
    (if t then option_map (λ bytes. toggled bytes place) (if t then option_map (λ bytes. toggled bytes place) stood else stood) else (if t then option_map (λ bytes. toggled bytes place) stood else stood)) ≡ stood
spoiled_twice laws true place None = refl
spoiled_twice laws true place (Some bytes) = ap Some (laws.undoes bytes place)
spoiled_twice laws false place stood = refl

pub returns : goal.returns
returns c = record {
  undoes = λ server key place before.
      let point : (s : ℕ) (q : ShareKey) → spoiled server key place (spoiled server key place before) s q ≡ before s q = λ s q.
      spoiled_twice c.toggle_laws.ensures (s == server && eq_by_cmp key_cmp q key) place (before s q) in
      λ j s q. point s q j;
}
