use Rattle.std.proofs.Common.{◌<◌, length, refl, sym, ◌∙◌, arith}
use Rattle.json_spelling.proofs.TokensJudged.{frame_opened, no_frame_here, no_level_left}
use Rattle.json_spelling.proofs.judge.Judge.begin.Goals as goal
use Rattle.json_spelling.proofs.judge.Judge.begin.Goals.{then-not-awaits_value-via-then-not-awaits_value, then-not-awaits_value-via-else-not-awaits_value+then-len-ge-READ_LEVELS}

pub returns-then-not-awaits_value-clause-err : goal.returns-then-not-awaits_value-clause-err
returns-then-not-awaits_value-clause-err c _ s frame at =
    elim c.then-not-awaits_value.branch [
      | then-not-awaits_value-via-then-not-awaits_value w ↦ no_frame_here s frame (sym (c.awaits_value.ensures s at) ∙ w.if-not-awaits_value.true)
      | then-not-awaits_value-via-else-not-awaits_value+then-len-ge-READ_LEVELS w ↦ no_level_left c.args.self.now (grind arith) s frame at
    ]

pub returns-clause-ok : goal.returns-clause-ok
returns-clause-ok c s frame f is noted at =
    let less : length c.args.self.now.opened.items < 127 = grind arith in
    frame_opened c.args.self.now _ c.args.bracket less c.in_ok-push.ensures.items refl s frame f is noted (sym (c.awaits_value.ensures s at) ∙ c.if-not-awaits_value.false) at
