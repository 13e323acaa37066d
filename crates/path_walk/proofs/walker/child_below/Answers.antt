use Rattle.std.proofs.Common.{rules, ◌≡◌, ◌≢◌, ℕ, List, Result, Ok, Err, IfOk, IfErr, sym, subst, arith}
use Rattle.std.proofs.lemmas.Grind.{common_steps}
use Rattle.grid.proofs.Views.{tell_on_none, still_none}
use Rattle.caps.specs.declared.cap.Cap.{Cap}
use Rattle.path_walk.specs.Walk.{child_in}
use Rattle.path_walk.specs.Amid.{IsGivenAmid, IsStepBy}
use Rattle.path_walk.specs.declared.fault.WalkFault.{WalkFault}
use Rattle.path_walk.specs.declared.fault.WalkFault.TheVariants.{NoMemory}
use Rattle.path_walk.proofs.Amid.{result_is, step_here, step_nowhere}
use Rattle.path_walk.proofs.walker.child_below.Goals as goal

pub returns-in-DirLit-clause-stand_still : goal.returns-in-DirLit-clause-stand_still
returns-in-DirLit-clause-stand_still g c = still_none c.args.grid.now

pub returns-in-DirLit-clause-told : goal.returns-in-DirLit-clause-told
returns-in-DirLit-clause-told g c = tell_on_none c.args.grid.now

pub returns-in-Chk-clause-stand_still : goal.returns-in-Chk-clause-stand_still
returns-in-Chk-clause-stand_still g c = still_none c.args.grid.now

pub returns-in-Chk-clause-told : goal.returns-in-Chk-clause-told
returns-in-Chk-clause-told g c = tell_on_none c.args.grid.now

pub returns-in-DirLit-clause-seen : goal.returns-in-DirLit-clause-seen
returns-in-DirLit-clause-seen g c all some =
    let name : List ℕ = c.args.name.now in
    let r : Result Cap WalkFault = c.child_in.result in
    subst (λ (cap : Cap). IsStepBy (IsGivenAmid c.args.cache.now c.args.grid.now c.args.grid.now) cap name r) (sym c.in-DirLit.is)
    (step_here (IsGivenAmid c.args.cache.now c.args.grid.now c.args.grid.now) c.in-DirLit.bytes name r
    (result_is r (child_in name c.in-DirLit.bytes)
    (subst (λ (bytes : List ℕ). IfOk r (λ child. child_in name bytes ≡ Ok child)) c.as_slice.ensures c.child_in.ensures.found)
    (subst (λ (bytes : List ℕ). IfErr r (λ fault. fault ≢ NoMemory → child_in name bytes ≡ Err fault)) c.as_slice.ensures c.child_in.ensures.refused) some))

pub returns-in-Chk-clause-seen : goal.returns-in-Chk-clause-seen
returns-in-Chk-clause-seen g c all some =
    step_nowhere (IsGivenAmid c.args.cache.now c.args.grid.now c.args.grid.now) c.args.cap.now c.args.name.now (λ gives. first_of (search rules, grind (arith, common_steps)))
