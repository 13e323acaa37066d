use Rattle.std.proofs.Common.{◌≡◌, ℕ, List, ◌++◌, refl, sym, ap, subst, ◌∙◌, eq-eqb}
use Rattle.tag_hash.specs.Collisions.{NoCollision}
use Rattle.chk_file.specs.World.{World}
use Rattle.gate_core.specs.Settings.{GatewaySettings}
use Rattle.gate_core.specs.Events.{Event, handed}
use Rattle.gate_core.specs.Items.{Entry, items}
use Rattle.gate_core.specs.Runs.{said}
use Rattle.gate_core.specs.Reach.{only_caller, everyone, kept}
use Rattle.gate_core.specs.ConnectionState.{State, waiting}
use Rattle.gate_core.specs.Came.{Opening, Came}
use Rattle.gate_core.specs.Uploaded.{IsProper, IsLeftBy}
use Rattle.gate_core.specs.Apart.{hashed, Apart}
use Rattle.gate_core.specs.Isolated.{IsIsolated}
use Rattle.gate_core.proofs.laws.isolation.Goals as goal

-- what these bytes are where the premises hold of the settings and the world
abbrev Isolated : List ℕ → ℕ → List Entry → List Entry → GatewaySettings → World → Type 0
Isolated bytes caller past xs s w =
    IsLeftBy s past w → Apart s (only_caller caller) past w xs → bytes ≡ said s caller w (kept s (only_caller caller) w xs)

-- what calls upload are bytes, and the settings are those that left the opening's world
proper_of : (opening : Opening) (past : List Entry) (g : State) (events : List Event) → Came opening g events → IsLeftBy g.settings past opening.world → IsProper g.settings (items events)
proper_of opening past g events came left = record { sharing = left.proper.sharing; bytes = came.bytes }

pub returns : goal.returns
returns c =
    let part = c.premises_are_of_the_kept_items.ensures.hashed in
    let alone : (opening : Opening) (g : State) (events : List Event) → Came opening g events → IsIsolated opening g events =
    λ opening g events came past caller left apart.
    c.verified_isolation.ensures.whole opening g events caller came
    ∙ sym (c.kept_answers_are_verified.ensures.kept g.settings (only_caller caller) caller past opening.world (items events) (eq-eqb caller caller refl) (proper_of opening past g events came left) left apart) in
    record {
      apart = alone;
      whole = λ opening past g events caller came left apart.
          c.verified_isolation.ensures.whole opening g events caller came
          ∙ sym (c.kept_answers_are_verified.ensures.whole g.settings everyone caller past opening.world (items events) refl (proper_of opening past g events came left) left apart);
      same = λ opening other past g h events others caller came came_other world settings left same apart.
          let bytes = handed caller others ++ waiting h caller in
          let mine = only_caller caller in
          let moved : Isolated bytes caller past (items others) g.settings opening.world =
          subst (λ s. Isolated bytes caller past (items others) s opening.world) settings
          (subst (λ w. Isolated bytes caller past (items others) h.settings w) world (alone other h others came_other past caller)) in
          let strings : hashed g.settings mine past opening.world (items events) ≡ hashed g.settings mine past opening.world (items others) =
          sym (part g.settings mine past opening.world (items events))
          ∙ ap (hashed g.settings mine past opening.world) (sym same)
          ∙ part g.settings mine past opening.world (items others) in
          moved left (subst NoCollision strings apart)
          ∙ ap (said g.settings caller opening.world) same
          ∙ sym (alone opening g events came past caller left apart);
    }
