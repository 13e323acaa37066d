use Rattle.std.proofs.Common.{◌≡◌, Bool, ℕ, List, [], ◌++◌, codes, ap, ◌∙◌, append_assoc, append-nil}
use Rattle.http_edge.specs.declared.field.Field.{Field}
use Rattle.http_edge.specs.declared.reply.Status.{Status}
use Rattle.http_edge.specs.Reply.{status_text, crlf, lines_for, close_line, rendered_head}
use Rattle.http_edge.proofs.reply.put_parts.Goals as goal

regroup : (old h s e l c x : List ℕ) → ((old ++ (h ++ (s ++ (e ++ [])))) ++ l) ++ (c ++ (e ++ x)) ≡ old ++ ((((((h ++ s) ++ e) ++ l) ++ c) ++ e) ++ x)
regroup old h s e l c x = simp (append_assoc, append-nil)

-- a head and what is sent behind it, by their three parts
whole : (status : Status) (fields : List Field) (n : ℕ) (close : Bool) (old a b d sent : List ℕ)
    → a ≡ old ++ (codes "HTTP/1.1 " ++ (status_text status ++ (crlf ++ [])))
    → b ≡ a ++ lines_for status n fields → d ≡ b ++ (close_line close ++ (crlf ++ sent))
    → d ≡ old ++ (rendered_head status fields n close ++ sent)
unfolding rendered_head
whole status fields n close old a b d sent first second third =
    third ∙ ap (λ (x : List ℕ). x ++ (close_line close ++ (crlf ++ sent))) (second ∙ ap (λ (x : List ℕ). x ++ lines_for status n fields) first)
    ∙ regroup old (codes "HTTP/1.1 ") (status_text status) crlf (lines_for status n fields) (close_line close) sent

pub returns-clause-put : goal.returns-clause-put
returns-clause-put c =
    let text = rw c.text.ensures at c.in_ok-put_all.ensures.put in
    whole c.args.status c.args.fields.now c.args.length c.args.close c.args.out.now.items _ _ _ c.args.sent.now text c.in_ok-put_fields.ensures.put c.in_ok-put_end.ensures.put
