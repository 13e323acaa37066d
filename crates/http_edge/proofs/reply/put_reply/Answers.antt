use Rattle.std.proofs.Common.{◌≡◌, cond, Bool, List, ℕ, [], ◌++◌, length, ap, ◌∙◌}
use Rattle.http_edge.specs.declared.reply.Reply.{Reply}
use Rattle.http_edge.specs.Reply.{rendered_head, rendered}
use Rattle.http_edge.proofs.reply.put_reply.Goals as goal
use Rattle.http_edge.proofs.reply.put_reply.Goals.{then-head_only, else-head_only}

-- a reply by its head and what is sent of its body
whole : (reply : Reply) (head_only close : Bool) (old d sent : List ℕ)
    → d ≡ old ++ (rendered_head reply.status reply.fields (length reply.body) close ++ sent)
    → sent ≡ cond head_only [] reply.body → d ≡ old ++ rendered reply head_only close
unfolding rendered
whole reply head_only close old d sent put is =
    put ∙ ap (λ (x : List ℕ). old ++ (rendered_head reply.status reply.fields (length reply.body) close ++ x)) is

pub returns-clause-put : goal.returns-clause-put
returns-clause-put c =
    let parts = rw (c.as_slice-body.ensures, c.as_slice-fields.ensures.value) at c.in_ok-put_parts.ensures.put in
    let sent : c.if-head_only.sent.now ≡ cond c.args.head_only [] c.args.reply.now.body = elim c.if-head_only.branch [
      | then-head_only w ↦ rw w.if-head_only.true (ap (λ b. b.now) w.sent-is)
      | else-head_only w ↦ rw w.if-head_only.false (ap (λ b. b.now) w.sent-is ∙ c.as_slice-body.ensures)
    ] in
    whole c.args.reply.now c.args.head_only c.args.close c.args.out.now.items _ _ parts sent
