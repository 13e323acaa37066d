use Rattle.std.proofs.Common.{◌≡◌, ◌≢◌, ℕ, List, Result, Ok, Err, IfOk, IfErr, sym, ap, subst, ◌∙◌}
use Rattle.caps.specs.declared.cap.Cap.{Cap}
use Rattle.dir_codec.specs.Sought.{sought_in}
use Rattle.path_walk.specs.Faults.{child_of_sought}
use Rattle.path_walk.specs.declared.fault.WalkFault.{WalkFault}
use Rattle.path_walk.specs.declared.fault.WalkFault.TheVariants.{NoMemory}
use Rattle.path_walk.proofs.WalkLemmas.{child_is_sought}
use Rattle.path_walk.proofs.walker.child_in.Goals as goal

pub returns-clause-found : goal.returns-clause-found
returns-clause-found c =
    subst (λ (r : Result Cap WalkFault). IfOk c.child_of.result (λ child. r ≡ Ok child))
    (ap (child_of_sought c.args.name.now) (c.in_ok-known.ensures ∙ ap (λ (name : List ℕ). sought_in name c.args.bytes.now) c.as_str.ensures) ∙ sym (child_is_sought c.args.name.now c.args.bytes.now))
    c.child_of.ensures.found

pub returns-clause-refused : goal.returns-clause-refused
returns-clause-refused c =
    subst (λ (r : Result Cap WalkFault). IfErr c.child_of.result (λ fault. fault ≢ NoMemory → r ≡ Err fault))
    (ap (child_of_sought c.args.name.now) (c.in_ok-known.ensures ∙ ap (λ (name : List ℕ). sought_in name c.args.bytes.now) c.as_str.ensures) ∙ sym (child_is_sought c.args.name.now c.args.bytes.now))
    c.child_of.ensures.refused
