use Rattle.std.proofs.Common.{◌≡◌, ℕ, Option, Some, ap, ◌∙◌, length, ◌-◌}
use Rattle.resp.proofs.BulkLines.{first_is, line_within, line_sound, line_begins, line_whole, line_stops}
use Rattle.resp.proofs.replies.read_bulk_line.Goals as goal

pub overflow_sub-result : goal.overflow_sub-result
overflow_sub-result c =
    let is = first_is c.args.bytes.now c.in-len1-up.len_at_least c.if-mark-ne36.false in
    line_within c.args.limits c.in-Ok.len c.args.bytes.now _ c.in-Ok.after.now c.requires is (rw c.from.ensures at c.in-Ok.ensures.gives)

pub returns-in-Ok-clause-sound : goal.returns-in-Ok-clause-sound
returns-in-Ok-clause-sound c =
    let is = first_is c.args.bytes.now c.in-len1-up.len_at_least c.if-mark-ne36.false in
    line_sound c.args.limits c.in-Ok.len c.args.bytes.now _ c.in-Ok.after.now c.requires is (rw c.from.ensures at c.in-Ok.ensures.gives)

both : (a b m n : ℕ) → a ≡ b → m ≡ n → ◌≡◌ {A = Option (ℕ × ℕ)} (Some (a, m)) (Some (b, n))
both a b m n e f = ap (λ (x : ℕ). Some (x, m)) e ∙ ap (λ (k : ℕ). Some (b, k)) f

pub returns-in-Ok-clause-whole : goal.returns-in-Ok-clause-whole
returns-in-Ok-clause-whole c = λ digits rest len writes parts.
    let is = first_is c.args.bytes.now c.in-len1-up.len_at_least c.if-mark-ne36.false in
    let w = line_whole c.args.limits c.in-Ok.len c.args.bytes.now _ c.in-Ok.after.now digits rest len c.requires is (rw c.from.ensures at c.in-Ok.ensures.gives) writes parts in
    both c.in-Ok.len len (length c.args.bytes.now - length c.in-Ok.after.now) _ w.0 w.1

pub returns-in-Err-clause-whole : goal.returns-in-Err-clause-whole
returns-in-Err-clause-whole c = λ digits rest len writes parts.
    let is = first_is c.args.bytes.now c.in-len1-up.len_at_least c.if-mark-ne36.false in
    absurd (line_stops c.args.limits c.in-Err.field-0 _ len rest (rw c.from.ensures at c.in-Err.ensures.gives) (line_begins c.args.limits len c.args.bytes.now _ digits rest c.requires is writes parts))
