use Rattle.std.proofs.Common.{sym, subst}
use Rattle.grid.specs.Views.{TellOn}
use Rattle.grid.proofs.Views.{tell_on_none}
use Rattle.gate_core.specs.ConnectionState.{State}
use Rattle.gate_core.proofs.gateway.Gateway.prepares.Goals as goal
use Rattle.gate_core.proofs.gateway.Gateway.prepares.Goals.{in-Read-1, in-Lent-1, in-Read-2, in-Lent-2}

pub returns-in_default-clause-told : goal.returns-in_default-clause-told
returns-in_default-clause-told g c = tell_on_none c.args.self.now.grid

pub returns-then-not-is_empty-clause-told : goal.returns-then-not-is_empty-clause-told
returns-then-not-is_empty-clause-told g c = tell_on_none c.args.self.now.grid

pub returns-then-waits-clause-told : goal.returns-then-waits-clause-told
returns-then-waits-clause-told g c =
    let here = subst (λ (s : State). TellOn c.args.self.now.grid s.grid) (sym c.self.view_is) (tell_on_none c.args.self.now.grid) in
    elim c.match-upload.branch [
      | in-Read-1 w ↦ subst (λ (s : State). TellOn c.args.self.now.grid s.grid) (sym w.self-is) here
      | in-Lent-1 w ↦ subst (λ (s : State). TellOn c.args.self.now.grid s.grid) (sym w.self-is) here
    ]

pub returns-in-Some-Upload-clause-told : goal.returns-in-Some-Upload-clause-told
returns-in-Some-Upload-clause-told g c =
    let here = subst (λ (s : State). TellOn c.args.self.now.grid s.grid) (sym c.self.view_is) (tell_on_none c.args.self.now.grid) in
    elim c.match-upload-2.branch [
      | in-Read-2 w ↦ subst (λ (s : State). TellOn c.args.self.now.grid s.grid) (sym w.self-is) here
      | in-Lent-2 w ↦ subst (λ (s : State). TellOn c.args.self.now.grid s.grid) (sym w.self-is) here
    ]

pub returns-clause-told : goal.returns-clause-told
returns-clause-told g c = tell_on_none c.args.self.now.grid
