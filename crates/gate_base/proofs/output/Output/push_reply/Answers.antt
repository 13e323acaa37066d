use Rattle.std.proofs.Common.{◌∙◌, ◌++◌, List, ℕ, [], ap, Option}
use Rattle.std.specs.Prelude.{unwrap_or}
use Rattle.http_edge.specs.declared.reply.Reply.{Reply}
use Rattle.gate_base.proofs.Sending.{joined, head_sent, body_sent}
use Rattle.gate_base.proofs.output.Output.push_reply.Goals as goal
use Rattle.gate_base.proofs.output.Output.push_reply.Goals.{then-length-lt-LONG+in_ok-flush_body-2, else-length-lt-LONG}

pub returns-then-head_only : goal.returns-then-head_only
returns-then-head_only c =
    let reply : Reply = record { status = c.reply.inside.status; fields = c.reply.inside.fields; body = c.reply.inside.body } in
    let waits = c.in_ok-flush_body.ensures.front ∙ c.self.view_is in
    joined c.push_head.new.self c.flush_body.new.ready (unwrap_or c.flush_body.new.body []) c.in_ok-flush_body.ensures.ready (ap (λ (kept : Option (List ℕ)). unwrap_or kept []) c.in_ok-flush_body.ensures.body)
    ∙ rw (c.if-head_only.true, ← c.reply.view_is) (head_sent reply c.args.close c.len-length.result c.args.self.now c.flush_body.new.front c.push_head.new.self waits c.len-length.ensures c.in_ok-push_head.ensures)

pub returns : goal.returns
returns c =
    let reply : Reply = record { status = c.reply.inside.status; fields = c.reply.inside.fields; body = c.reply.inside.body } in
    let waits = c.in_ok-flush_body.ensures.front ∙ c.self.view_is in
    let sent = body_sent reply c.args.close c.len-length.result c.args.self.now c.flush_body.new.front c.push_head.new.self waits c.len-length.ensures c.in_ok-push_head.ensures c.flush_body.new.ready c.in_ok-flush_body.ensures.ready in
    let left = ap (λ (body : List ℕ). c.push_head.new.self ++ (c.flush_body.new.ready ++ body)) c.left_of.ensures.bytes in
    rw (c.if-head_only.false, ← c.reply.view_is) (elim c.if-length-lt-LONG.branch [
      | then-length-lt-LONG+in_ok-flush_body-2 w ↦
          w.self-is ∙ joined w.flush_body-then-length-lt-LONG.new.front w.flush_body-then-length-lt-LONG.new.ready (unwrap_or w.flush_body-then-length-lt-LONG.new.body []) w.in_ok-flush_body-2.ensures.ready (ap (λ (kept : Option (List ℕ)). unwrap_or kept []) w.in_ok-flush_body-2.ensures.body)
          ∙ w.in_ok-flush_body-2.ensures.front ∙ left ∙ sent
      | else-length-lt-LONG w ↦ w.self-is ∙ left ∙ sent
    ])
