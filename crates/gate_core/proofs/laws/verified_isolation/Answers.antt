use Rattle.std.proofs.Common.{◌≡◌, ℕ, List, ◌++◌, Option, Some, None, refl, sym, ◌∙◌, eq-eqb}
use Rattle.std.proofs.lemmas.List.{append-nil}
use Rattle.chk_file.specs.World.{World}
use Rattle.chk_file.specs.Look.{by_fit}
use Rattle.gate_core.specs.Settings.{GatewaySettings}
use Rattle.gate_core.specs.Events.{Event, handed}
use Rattle.gate_core.specs.Items.{items}
use Rattle.gate_core.specs.Runs.{said_by}
use Rattle.gate_core.specs.Reach.{only_caller}
use Rattle.gate_core.specs.ConnectionState.{ConnectionState, waiting_in, connection_at}
use Rattle.gate_core.specs.Came.{CameAt}
use Rattle.gate_core.proofs.Local.{by_fit-local, said-kept}
use Rattle.gate_core.proofs.laws.verified_isolation.Goals as goal

told : (s : GatewaySettings) (w : World) (caller : ℕ) (held : Option ConnectionState) (events : List Event) → CameAt s w caller held events → handed caller events ++ waiting_in held ≡ said_by by_fit s caller w (items events)
told s w caller None events fresh = append-nil (handed caller events) ∙ fresh.given ∙ sym fresh.out
told s w caller (Some held) events at = at.out

pub returns : goal.returns
returns c = record {
  whole = λ opening g events caller came. told g.settings opening.world caller (connection_at g caller) events (came.each caller);
  apart = λ opening g events came caller. told g.settings opening.world caller (connection_at g caller) events (came.each caller)
      ∙ sym (said-kept c.changes_are_local.ensures.upload c.changes_are_local.ensures.files c.answers_agree_where_looks_do.ensures.reply c.answers_agree_where_looks_do.ensures.met by_fit by_fit-local g.settings (only_caller caller) caller opening.world (items events) (eq-eqb caller caller refl));
}
