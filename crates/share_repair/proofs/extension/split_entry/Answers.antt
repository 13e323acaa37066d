use Rattle.std.proofs.Common.{[], ◌∷◌, ◌++◌}
use Rattle.tag_hash.specs.Netstring.{netstring}
use Rattle.share_repair.proofs.Fronts.{lacks_front, entry_text, behind_key, behind_colon}
use Rattle.share_repair.proofs.extension.split_entry.Goals as goal

pub returns-in_err-rest : goal.returns-in_err-rest
returns-in_err-rest c value rest e =
    absurd (lacks_front c.args.text.now c.args.key.now (58 ∷ (netstring value ++ rest)) c.in_err-rest.ensures.cases (entry_text c.args.text.now c.args.key.now value rest e))

pub returns-in_err-rest-2 : goal.returns-in_err-rest-2
returns-in_err-rest-2 c value rest e =
    absurd (lacks_front c.in_ok-rest.rest.now (58 ∷ []) (netstring value ++ rest) c.in_err-rest-2.ensures.cases
    (behind_key c.args.text.now c.args.key.now value rest c.in_ok-rest.rest.now e c.in_ok-rest.ensures.cases.1))

pub returns : goal.returns
returns c value rest e =
    c.split_netstring.ensures value rest
    (behind_colon c.in_ok-rest.rest.now c.in_ok-rest-2.rest.now (netstring value ++ rest)
    (behind_key c.args.text.now c.args.key.now value rest c.in_ok-rest.rest.now e c.in_ok-rest.ensures.cases.1) c.in_ok-rest-2.ensures.cases.1)
