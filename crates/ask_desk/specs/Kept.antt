-- The replies that a desk keeps, for private clauses.
use Rattle.std.specs.Prelude.{ℕ, ◌==◌, List, [], find, Option, Some, None}
use Rattle.std.specs.Ordering.{nat_cmp}
use Rattle.std.specs.Map.{lookup}
use Rattle.std.specs.BTreeMap.{is_at}
use Rattle.std.specs.Option.{option_map}
use Rattle.resp.specs.declared.reply.Reply.{Reply}
use Rattle.ask_desk.specs.declared.kept.Answer.{Answer}

abbrev pub or_none_kept : Option (List Answer) → List Answer
or_none_kept None = []
or_none_kept (Some answers) = answers

-- those of one owner, the first that came first
abbrev pub kept_for : List (ℕ × List Answer) → ℕ → List Answer
kept_for entries owner = or_none_kept (lookup (is_at (nat_cmp owner)) entries)

-- the reply that the first one with this ticket has
abbrev pub reply_of_ticket : ℕ → List Answer → Option Reply
reply_of_ticket ticket answers = option_map (λ answer. answer.reply) (find (λ answer. answer.ticket == ticket) answers)
