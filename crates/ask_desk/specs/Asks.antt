-- What is asked at a desk.
use Rattle.std.specs.Prelude.{ℕ, ◌==◌, if◌then◌else◌, Bool, false, nat_eq, is_none, List, [], ◌∷◌, Option, Some, None}
use Rattle.resp.specs.declared.reply.Reply.{Reply}
use Rattle.ask_desk.specs.declared.ask.Ask.{Ask}
use Rattle.ask_desk.specs.declared.desk.Due.{Due}
use Rattle.ask_desk.specs.declared.kept.Answer.{Answer}

-- an ask whose reply is for this owner
abbrev pub ask_for : ℕ → ℕ → List ℕ → ℕ → Ask
ask_for owner ticket command most = record { owner = Some owner; ticket = ticket; command = command; most = most }

-- whether it is this owner's
abbrev pub is_owner : ℕ → Option ℕ → Bool
is_owner owner None = false
is_owner owner (Some other) = nat_eq other owner

-- whether an ask is this owner's
abbrev pub is_asked_by : ℕ → Ask → Bool
is_asked_by owner ask = is_owner owner ask.owner

-- the ask once this owner forsook what was asked: it is nobody's where it was that owner's
abbrev pub disowned : ℕ → Ask → Ask
disowned owner ask = if is_asked_by owner ask then record ask { owner = None } else ask

-- the ask whose reply comes next, of those that were told and aren't answered: the first one, once all of it was written
abbrev pub next_due : ℕ → List Ask → Option Ask
next_due left [] = None
next_due left (ask ∷ []) = if left == 0 then Some ask else None
next_due left (ask ∷ other ∷ told) = Some ask

-- the last one
abbrev pub last_ask : List Ask → Option Ask
last_ask [] = None
last_ask (ask ∷ []) = Some ask
last_ask (ask ∷ other ∷ told) = last_ask (other ∷ told)

-- the command of an ask, or nothing
abbrev pub command_in : Option Ask → List ℕ
command_in None = []
command_in (Some ask) = ask.command

-- ---- for private clauses

abbrev pub is_nobodys : Option Ask → Bool
is_nobodys None = false
is_nobodys (Some ask) = is_none ask.owner

abbrev pub due_of : Ask → Due
due_of ask = record { owner = ask.owner; ticket = ask.ticket; most = ask.most }

-- the answer that is one of this owner's, if the reply is its
abbrev pub answer_for : ℕ → Due → Reply → List Answer
answer_for owner due answer = if is_owner owner due.owner then record { ticket = due.ticket; reply = answer } ∷ [] else []
