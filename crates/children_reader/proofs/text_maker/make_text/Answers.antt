use Rattle.std.proofs.Common.{◌≡◌, true, false, Some, sym, ap, ◌∙◌}
use Rattle.children_reader.proofs.Stages.{fault_named, no_text_made, text_is}
use Rattle.children_reader.proofs.text_maker.make_text.Goals as goal

pub returns-in_ok-encode-in-Ok : goal.returns-in_ok-encode-in-Ok
returns-in_ok-encode-in-Ok c = ap Some c.in_ok-encode-in-Ok.ensures ∙ sym (text_is c.args.json.now _ c.in-Ok.ensures.made)

pub returns-in-Err-2 : goal.returns-in-Err-2
returns-in-Err-2 c =
    sym (no_text_made c.args.json.now (fault_named c.args.json.now c.in-Err.fault (c.in-Err.ensures.refused (λ none. absurd (let h : false ≡ true = c.if-is_memory.ensures.1 none in cc)))))
