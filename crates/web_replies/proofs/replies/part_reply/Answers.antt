use Rattle.std.proofs.Common.{◌≡◌, ◌+◌, ◌-◌, ◌≤◌, ℕ, suc, length, take, drop, Some, ap, ◌∙◌, arith}
use Rattle.web_replies.specs.declared.reply.Status.TheVariants as status
use Rattle.web_replies.specs.declared.reply.MediaType.TheVariants.{OctetStream}
use Rattle.web_replies.specs.declared.reply.Field.TheVariants.{ContentRange}
use Rattle.web_replies.specs.Replies.{reply_with, of_file}
use Rattle.web_replies.proofs.replies.part_reply.Goals as goal

both : (from to : ℕ) → from ≤ to → (to + 1) - from ≡ suc (to - from)
both from to le = omega arith

pub returns : goal.returns
returns c =
    c.of_file.ensures ∙ ap (of_file c.args.file)
    (c.reply_with-reply.ensures
    ∙ ap (λ size. reply_with status.PartialContent OctetStream (Some (ContentRange c.args.from c.args.to size)) c.in_ok-part.part) c.len.ensures
    ∙ ap (reply_with status.PartialContent OctetStream (Some (ContentRange c.args.from c.args.to (length c.args.body))))
    (c.in_ok-part.ensures ∙ ap (λ n. take n (drop c.args.from c.args.body)) (both c.args.from c.args.to c.requires.order)))
