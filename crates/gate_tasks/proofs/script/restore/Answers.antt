use Rattle.std.proofs.Common.{◌≡◌, ℕ, Option, None, Some, Err, List, subst, sym, ap, ◌∙◌, rules}
use Rattle.grid.specs.ImageReading.{image_said}
use Rattle.grid.specs.declared.fault.GridFault.{GridFault}
use Rattle.grid.specs.declared.fault.GridFault.TheVariants.{BadImage, Full}
use Rattle.grid.specs.GridState.{StoreState}
use Rattle.grid.specs.Stamps.{never_raised}
use Rattle.gate_core.specs.Restored.{IsFilledAt}
use Rattle.gate_tasks.specs.Replies.{IsRestoreAnswer}
use Rattle.gate_core.specs.declared.fault.RestoreFault.TheVariants as restore_fault
use Rattle.gate_tasks.specs.Running.{IsProgress, IsAnswer}
use Rattle.gate_tasks.specs.Script.{Step, is_refusal}
use Rattle.gate_tasks.specs.declared.command.Command.TheVariants as command
use Rattle.gate_tasks.specs.declared.reply.Reply.TheVariants.{Done, GridRefused}
use Rattle.gate_tasks.proofs.Begins.{restored, restore_refused, set_is}
use Rattle.gate_tasks.proofs.Restores.{came_restored}
use Rattle.gate_tasks.proofs.script.restore.Goals as goal

pub returns-in-Ok : goal.returns-in-Ok
returns-in-Ok c log at told =
    let grid = c.in-Some.grid in
    let some : c.args.progress.now.grid ≡ Some grid = search rules in
    let none : c.take.new.self ≡ None = search rules in
    let step : Step = record { command = command.Restore c.args.image.now; reply = Done } in
    subst (λ was. IsAnswer log step was (Some c.in-Ok.made)) (sym none)
    (restored log grid c.args.progress.now.gateway c.args.image.now c.in-Ok.made (subst (λ was. IsProgress log was c.args.progress.now.gateway) some at) told
    (c.in-Ok.ensures.held.0 ∙ set_is grid c.as_slice.result.now _ c.as_slice.ensures c.in_ok-stores.ensures.count)
    (subst (λ servers. (image_said servers c.args.image.now).fault ≡ None) c.in_ok-stores.ensures.count c.in-Ok.ensures.no_fault)
    (came_restored grid c.args.image.now _ c.in-Ok.made c.image_laws.ensures.told_by_rows c.in_ok-stores.ensures.fresh c.in-Ok.ensures.leaves
    (λ honest. c.in-Ok.ensures.read honest ∙ ap (λ servers. (image_said servers c.args.image.now).rows) c.in_ok-stores.ensures.count) c.held_is_what_stands.ensures c.in-Ok.ensures.came))

same_fault : (a b : GridFault) → GridRefused a ≡ GridRefused b → a ≡ b
same_fault a b is = cc

-- the same stores, as many
filled : (seen stores : List StoreState) (n m : ℕ) (bytes : Option (List ℕ)) (server : ℕ) → seen ≡ stores → n ≡ m
    → IsFilledAt (record { stores = seen; stamps = never_raised }) n bytes server → IsFilledAt (record { stores = stores; stamps = never_raised }) m bytes server
filled seen stores n m bytes server same many full =
    subst (λ s. IsFilledAt (record { stores = s; stamps = never_raised }) m bytes server) same
    (subst (λ x. IsFilledAt (record { stores = seen; stamps = never_raised }) x bytes server) many full)

pub returns : goal.returns
returns c log at told =
    let grid = c.in-Some.grid in
    let some : c.args.progress.now.grid ≡ Some grid = search rules in
    let none : c.take.new.self ≡ None = search rules in
    let reply = c.in_ok-reply-in-Err-Grid.reply in
    let is = c.in_ok-reply-in-Err-Grid.ensures.0 in
    let step : Step = record { command = command.Restore c.args.image.now; reply = reply } in
    subst (λ was. IsAnswer log step was None) (sym none)
    (restore_refused log grid c.args.progress.now.gateway c.args.image.now reply (subst (λ was. IsProgress log was c.args.progress.now.gateway) some at) told (ap is_refusal is)
    record {
      answer = subst IsRestoreAnswer (sym is) (c.in-Err-Grid.ensures.refusals c.in-Err-Grid.fault (ap Err c.in-Err-Grid.field-0-is));
      done = λ other. absurd cc;
      bad = λ place other. subst (λ servers. (image_said servers c.args.image.now).fault ≡ Some place) c.in_ok-stores.ensures.count (c.in-Err-Grid.ensures.bad_image place (ap Err (c.in-Err-Grid.field-0-is ∙ ap restore_fault.Grid (same_fault c.in-Err-Grid.fault (BadImage place) (sym is ∙ other)))));
      full = λ server other.
          filled _ _ _ _ (Some c.args.image.now) server c.in_ok-stores.ensures.fresh c.in_ok-stores.ensures.count
          (c.in-Err-Grid.ensures.full server (ap Err (c.in-Err-Grid.field-0-is ∙ ap restore_fault.Grid (same_fault c.in-Err-Grid.fault (Full server) (sym is ∙ other)))));
    })
