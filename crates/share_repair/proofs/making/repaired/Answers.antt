use Rattle.std.proofs.Common.{◌≢◌, ℕ, List, map, sym, subst, Vec, Global}
use Rattle.std.specs.Prelude.{IfOk, IfErr}
use Rattle.std.specs.Rc.{rc_slice_items}
use Rattle.share_repair.specs.declared.fault.RepairFault.TheVariants.{NoMemory}
use Rattle.share_repair.specs.Files.{FileLabel, AreGivenOf}
use Rattle.share_repair.specs.Repaired.{AreRepaired, strings_of}
use Rattle.share_repair.proofs.Givens.{given_good}
use Rattle.share_repair.proofs.making.repaired.Goals as goal

pub returns-in-Err-clause-unlike : goal.returns-in-Err-clause-unlike
returns-in-Err-clause-unlike c other crypttext is =
    let given = strings_of rc_slice_items c.args.given.now in
    let own : FileLabel = record { params = c.label.inside.params; ueb = c.label.inside.ueb } in
    c.in-Err.ensures.unlike other
    (given_good c.made_shares_meet_their_fields.ensures own crypttext given (subst (λ (l : FileLabel). AreGivenOf l crypttext given) (sym c.label.view_is) is))

pub returns-in-Ok-clause-made : goal.returns-in-Ok-clause-made
returns-in-Ok-clause-made c =
    let given = strings_of rc_slice_items c.args.given.now in
    subst (λ (l : FileLabel). IfOk c.remade.result (λ made. AreRepaired l given (map (λ (share : Vec ℕ Global). share.items) made.items))) c.label.view_is c.remade.ensures.made

pub returns-in-Ok-clause-unlike : goal.returns-in-Ok-clause-unlike
returns-in-Ok-clause-unlike c =
    let given = strings_of rc_slice_items c.args.given.now in
    subst (λ (l : FileLabel). IfErr c.remade.result (λ fault. fault ≢ NoMemory → (crypttext : List ℕ) → AreGivenOf l crypttext given → ⊥)) c.label.view_is c.remade.ensures.unlike
