use Rattle.std.proofs.Common.{◌≡◌, ℕ, Option, Some, Result, Ok, ap, inl, length, ◌-◌, ◌∙◌}
use Rattle.resp.specs.Reading.{More, At}
use Rattle.resp.specs.declared.reply.Reply.{Reply}
use Rattle.resp.specs.declared.fault.RespFault.{RespFault}
use Rattle.resp.proofs.WholeReplies.{reads-reply}
use Rattle.resp.proofs.Verdicts.{rest_within, ok_sound, ok_whole, ok_not_begun, err_not_whole, wrong_not_begun, left_within, wrong_sound}
use Rattle.resp.proofs.replies.read_reply.Goals as goal

both : (a b : Reply) (m n : ℕ) → a ≡ b → m ≡ n → ◌≡◌ {A = Result (Option (Reply × ℕ)) RespFault} (Ok (Some (a, m))) (Ok (Some (b, n)))
both a b m n e f = ap (λ (x : Reply). Ok (Some (x, m))) e ∙ ap (λ (k : ℕ). Ok (Some (b, k))) f

pub overflow_sub-result : goal.overflow_sub-result
overflow_sub-result c = rest_within (reads-reply c.args.limits c.requires) c.args.bytes.now c.in-Ok.read c.in-Ok.rest.now c.in-Ok.ensures

pub overflow_sub-result-in-Err-Wrong : goal.overflow_sub-result-in-Err-Wrong
overflow_sub-result-in-Err-Wrong c = left_within (reads-reply c.args.limits c.requires) c.args.bytes.now c.in-Err-Wrong.wrong c.in-Err-Wrong.left (rw c.in-Err-Wrong.field-0-is at c.in-Err-Wrong.ensures)

pub returns-in-Ok-clause-sound : goal.returns-in-Ok-clause-sound
returns-in-Ok-clause-sound c = ok_sound (reads-reply c.args.limits c.requires) c.args.bytes.now c.in-Ok.read c.in-Ok.rest.now c.in-Ok.ensures

pub returns-in-Ok-clause-whole : goal.returns-in-Ok-clause-whole
returns-in-Ok-clause-whole c = λ reply front rest spelled parts.
    let w = ok_whole (reads-reply c.args.limits c.requires) c.args.bytes.now c.in-Ok.read c.in-Ok.rest.now c.in-Ok.ensures reply front rest spelled parts in
    inl (both c.in-Ok.read reply (length c.args.bytes.now - length c.in-Ok.rest.now) (length front) w.0 w.1)

pub returns-in-Ok-clause-begun : goal.returns-in-Ok-clause-begun
returns-in-Ok-clause-begun c = λ b. absurd (ok_not_begun (reads-reply c.args.limits c.requires) c.args.bytes.now c.in-Ok.read c.in-Ok.rest.now c.in-Ok.ensures b)

pub returns-in-Err-More-clause-sound : goal.returns-in-Err-More-clause-sound
returns-in-Err-More-clause-sound c = let R = reads-reply c.args.limits c.requires in R.more c.args.bytes.now (rw c.in-Err-More.field-0-is at c.in-Err-More.ensures)

pub returns-in-Err-More-clause-whole : goal.returns-in-Err-More-clause-whole
returns-in-Err-More-clause-whole c = λ reply front rest spelled parts.
    absurd (err_not_whole (reads-reply c.args.limits c.requires) c.args.bytes.now More (rw c.in-Err-More.field-0-is at c.in-Err-More.ensures) reply front rest spelled parts)

pub returns-in-Err-Wrong-clause-sound : goal.returns-in-Err-Wrong-clause-sound
returns-in-Err-Wrong-clause-sound c = wrong_sound (reads-reply c.args.limits c.requires) c.args.bytes.now c.in-Err-Wrong.wrong c.in-Err-Wrong.left (rw c.in-Err-Wrong.field-0-is at c.in-Err-Wrong.ensures)

pub returns-in-Err-Wrong-clause-whole : goal.returns-in-Err-Wrong-clause-whole
returns-in-Err-Wrong-clause-whole c = λ reply front rest spelled parts.
    absurd (err_not_whole (reads-reply c.args.limits c.requires) c.args.bytes.now (At c.in-Err-Wrong.wrong c.in-Err-Wrong.left) (rw c.in-Err-Wrong.field-0-is at c.in-Err-Wrong.ensures) reply front rest spelled parts)

pub returns-in-Err-Wrong-clause-begun : goal.returns-in-Err-Wrong-clause-begun
returns-in-Err-Wrong-clause-begun c = λ b. absurd (wrong_not_begun (reads-reply c.args.limits c.requires) c.args.bytes.now c.in-Err-Wrong.wrong c.in-Err-Wrong.left (rw c.in-Err-Wrong.field-0-is at c.in-Err-Wrong.ensures) b)
