-- What happened at a desk, and what each call adds to it.
use Rattle.std.specs.Prelude.{◌≡◌, ℕ, ◌+◌, ◌-◌, ◌==◌, not, if◌then◌else◌, List, [], ◌∷◌, ◌++◌, length, map, filter, drop, slice_get, Option, Some, None}
use Rattle.std.specs.List.{flat_map}
use Rattle.resp.specs.declared.reply.Reply.{Reply}
use Rattle.ask_desk.specs.declared.ask.Ask.{Ask}
use Rattle.ask_desk.specs.declared.kept.Answer.{Answer}
use Rattle.ask_desk.specs.declared.fault.DeskFault.{DeskFault}
use Rattle.ask_desk.specs.Asks.{is_asked_by, command_in, last_ask, next_due}
use Rattle.ask_desk.specs.Dialogue.{Dialogue, silence, unanswered, replies_in, forsaken_in, IsInOrder}

-- How many asks there were; those of which nothing is written, the oldest first; what happened over the connection that there
-- is; and over those before it, the first one first.
pub record Past : Type 0 where
  pub asked : ℕ
  pub waiting : List Ask
  pub now : Dialogue
  pub earlier : List Dialogue

-- nothing happened
abbrev pub no_past : Past
no_past = record { asked = 0; waiting = []; now = silence; earlier = [] }

-- this was asked, behind the others
abbrev pub past_asked : Ask → Past → Past
past_asked ask past = record past { asked = past.asked + 1; waiting = past.waiting ++ ask ∷ [] }

-- this was asked again, behind the others
abbrev pub past_again : Ask → Past → Past
past_again ask past = record past { waiting = past.waiting ++ ask ∷ [] }

-- the first of these began to be written, by so many bytes
abbrev pub past_begun : ℕ → List Ask → Past → Past
past_begun count [] past = past
past_begun count (ask ∷ waiting) past = record past { waiting = waiting; now = record past.now { told = past.now.told ++ ask ∷ []; left = length ask.command - count } }

-- so many bytes were written, of the ask that was begun, or else of the oldest one that wasn't
abbrev pub past_written : ℕ → Past → Past
past_written count past = if past.now.left == 0 then (if count == 0 then past else past_begun count past.waiting past) else record past { now = record past.now { left = past.now.left - count } }

-- the replies with the one that became whole, or none
abbrev pub with_answer : Option Reply → List Reply → List Reply
with_answer None replies = replies
with_answer (Some answer) replies = replies ++ answer ∷ []

-- these bytes came, and with them a reply became whole, or none
abbrev pub past_heard : List ℕ → Option Reply → Past → Past
past_heard bytes answer past = record past { now = record past.now { came = past.now.came ++ bytes; replies = with_answer answer past.now.replies } }

-- these bytes came, and no more is heard
abbrev pub past_over : List ℕ → DeskFault → Past → Past
past_over bytes fault past = record past { now = record past.now { came = past.now.came ++ bytes; fault = Some fault } }

-- This owner forsook what it asked: what wasn't told of it will not be, and what was is nobody's.
abbrev pub past_forsaken : ℕ → Past → Past
past_forsaken owner past = record past { waiting = filter (λ ask. not (is_asked_by owner ask)) past.waiting; now = forsaken_in owner past.now; earlier = map (forsaken_in owner) past.earlier }

-- the connection ended, and another one is greeted
abbrev pub past_ended : Past → Past
past_ended past = record past { now = silence; earlier = past.earlier ++ past.now ∷ [] }

-- the last ones, so many
abbrev pub last_bytes : ℕ → List ℕ → List ℕ
last_bytes count bytes = drop (length bytes - count) bytes

-- what is to be written next: the rest of the ask that is begun, or else the oldest one that isn't
abbrev pub next_bytes : Past → List ℕ
next_bytes past = if past.now.left == 0 then command_in (slice_get past.waiting 0) else last_bytes past.now.left (command_in (last_ask past.now.told))

-- the ask whose reply comes next
abbrev pub due_in : Past → Option Ask
due_in past = next_due past.now.left (unanswered past.now)

-- the replies that came to this owner's asks, over all connections
abbrev pub answers_in : ℕ → Past → List Answer
answers_in owner past = flat_map (replies_in owner) past.earlier ++ replies_in owner past.now

-- THE REPLY TO AN ASK. Over some connection the ask was told for this owner, who didn't forsake it since; all that came since
-- that connection was greeted are replies, one behind the other; and this one has the place among them that the ask has among
-- what was told.
pub record IsReplyTo (owner ticket : ℕ) (past : Past) (answer : Reply) : Type 0 where
  pub dialogue : Dialogue
  pub ask : Ask
  pub number : ℕ
  pub place : ℕ
  pub of_past : slice_get (past.earlier ++ past.now ∷ []) number ≡ Some dialogue
  pub asked : (ask.owner ≡ Some owner) × (ask.ticket ≡ ticket)
  pub told : slice_get dialogue.told place ≡ Some ask
  pub given : slice_get dialogue.replies place ≡ Some answer
  pub in_order : IsInOrder dialogue
