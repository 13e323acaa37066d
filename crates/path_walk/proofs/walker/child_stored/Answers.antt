use Rattle.std.proofs.Common.{◌≡◌, ◌≢◌, ℕ, List, Option, IfSome, Result, Err, refl, sym, ap, subst}
use Rattle.grid.proofs.Views.{tell_on_none, still_none}
use Rattle.dir_codec.specs.declared.finder.Sought.{Sought}
use Rattle.caps.specs.declared.cap.Cap.{Cap}
use Rattle.chk_file.specs.Steps.{IsSought}
use Rattle.chk_file.specs.Amid.{IsKeptOrSeen}
use Rattle.file_shares.specs.declared.fault.ReadFault.{ReadFault}
use Rattle.file_shares.specs.declared.fault.ReadFault.TheVariants.{NotEnoughShares as ReadNotEnough, NoMemory as ReadNoMemory}
use Rattle.path_walk.specs.Faults.{fault_of_read}
use Rattle.path_walk.specs.declared.fault.WalkFault.{WalkFault}
use Rattle.path_walk.specs.declared.fault.WalkFault.TheVariants.{NotEnoughShares, NoMemory}
use Rattle.path_walk.proofs.SoughtSteps.{known_child, known_stop, known_found, known_refused, known_seen}
use Rattle.path_walk.proofs.Amid.{is_passed_on, step_read, step_missed}
use Rattle.path_walk.proofs.walker.child_stored.Goals as goal

pub returns-in-Some-clause-child : goal.returns-in-Some-clause-child
returns-in-Some-clause-child g c =
    known_child c.args.cache.now c.args.grid.now c.args.fields.now c.args.name.now c.in-Some.known
    (subst (λ (o : Option Sought). IfSome o (λ sought. IsSought c.args.cache.now c.args.grid.now c.args.fields.now c.args.name.now sought)) c.in-Some.is c.in_ok-known.ensures)
    c.child_of.result c.child_of.ensures.found

pub returns-in-Some-clause-stop : goal.returns-in-Some-clause-stop
returns-in-Some-clause-stop g c =
    known_stop c.args.cache.now c.args.grid.now c.args.fields.now c.args.name.now c.in-Some.known
    (subst (λ (o : Option Sought). IfSome o (λ sought. IsSought c.args.cache.now c.args.grid.now c.args.fields.now c.args.name.now sought)) c.in-Some.is c.in_ok-known.ensures)
    c.child_of.result c.child_of.ensures.refused

pub returns-in-Some-clause-found : goal.returns-in-Some-clause-found
returns-in-Some-clause-found g c fresh all calm =
    known_found c.args.cache.now c.args.grid.now c.args.fields.now c.args.name.now c.in-Some.known
    (subst (λ (o : Option Sought). IfSome o (λ sought. IsSought c.args.cache.now c.args.grid.now c.args.fields.now c.args.name.now sought)) c.in-Some.is c.in_ok-known.ensures)
    fresh all c.child_of.result c.child_of.ensures.found

pub returns-in-Some-clause-refused : goal.returns-in-Some-clause-refused
returns-in-Some-clause-refused g c fresh all calm =
    known_refused c.args.cache.now c.args.grid.now c.args.fields.now c.args.name.now c.in-Some.known
    (subst (λ (o : Option Sought). IfSome o (λ sought. IsSought c.args.cache.now c.args.grid.now c.args.fields.now c.args.name.now sought)) c.in-Some.is c.in_ok-known.ensures)
    fresh all c.child_of.result c.child_of.ensures.refused

-- ---- over stores that others change

-- a read that failed, but not for want of memory
missed : (fault : ReadFault) (P : Type 0) → (fault ≡ ReadNotEnough → P) → (r : Result Cap WalkFault) → r ≡ Err (fault_of_read fault) → r ≢ Err NoMemory → P × (r ≡ Err NotEnoughShares)
missed ReadNotEnough P seen r is some = (seen refl, is)
missed ReadNoMemory P seen r is some = absurd (some is)

pub returns-in_err-known-clause-stand_still : goal.returns-in_err-known-clause-stand_still
returns-in_err-known-clause-stand_still g c = still_none c.args.grid.now

pub returns-in_err-known-clause-told : goal.returns-in_err-known-clause-told
returns-in_err-known-clause-told g c = tell_on_none c.args.grid.now

pub returns-in-Some-clause-stand_still : goal.returns-in-Some-clause-stand_still
returns-in-Some-clause-stand_still g c = still_none c.args.grid.now

pub returns-in-Some-clause-told : goal.returns-in-Some-clause-told
returns-in-Some-clause-told g c = tell_on_none c.args.grid.now

pub returns-in-Some-clause-seen : goal.returns-in-Some-clause-seen
returns-in-Some-clause-seen g c all =
    known_seen c.args.cache.now c.args.grid.now c.args.fields.now c.args.name.now c.in-Some.known
    (subst (λ (o : Option Sought). IfSome o (λ sought. IsSought c.args.cache.now c.args.grid.now c.args.fields.now c.args.name.now sought)) c.in-Some.is c.in_ok-known.ensures)
    c.args.grid.now c.child_of.result c.child_of.ensures.found c.child_of.ensures.refused

pub returns-in_err-bytes-clause-seen : goal.returns-in_err-bytes-clause-seen
returns-in_err-bytes-clause-seen g c all some =
    let r : Result Cap WalkFault = c.from_residual-in_err-bytes.result in
    let why = missed c.in_err-bytes.field-0.0 _ (λ (is : c.in_err-bytes.field-0.0 ≡ ReadNotEnough). c.in_err-bytes.ensures.seen_missing all (ap Err is)) r (is_passed_on r (fault_of_read c.in_err-bytes.field-0.0) c.from_residual-in_err-bytes.ensures.1) some in
    step_missed c.args.cache.now c.args.grid.now c.read.new.grid c.args.fields.now c.args.name.now r why.0 why.1

pub returns-clause-seen : goal.returns-clause-seen
returns-clause-seen g c all =
    step_read c.args.cache.now c.args.grid.now c.read.new.grid c.args.fields.now c.args.name.now c.child_in.result c.deref.result.now
    (subst (λ (bytes : List ℕ). IsKeptOrSeen c.args.cache.now c.args.grid.now c.read.new.grid c.args.fields.now bytes) (sym c.deref.ensures.value) (c.in_ok-bytes.ensures.seen all))
    c.child_in.ensures.found c.child_in.ensures.refused
