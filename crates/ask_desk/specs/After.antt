-- How a desk stands after what happened.
use Rattle.std.specs.Prelude.{◌≡◌, ◌<◌, ◌≤◌, ℕ, false, is_some, List, length, take, Option, Some, None}
use Rattle.std.specs.List.{AllByRecursion}
use Rattle.std.specs.Option.{option_and_then}
use Rattle.resp.specs.declared.reply.Reply.{Reply}
use Rattle.ask_desk.specs.declared.ask.Ask.{Ask}
use Rattle.ask_desk.specs.declared.ask.Heard.{Heard}
use Rattle.ask_desk.specs.declared.desk.Desk.{Desk}
use Rattle.ask_desk.specs.Dialogue.{unanswered, IsInOrder}
use Rattle.ask_desk.specs.Past.{Past, past_heard, due_in, answers_in}
use Rattle.ask_desk.specs.Kept.{kept_for}
use Rattle.ask_desk.specs.Reading.{HoldsNext}

-- more may be written and heard
abbrev pub IsHearing : Desk → Type 0
IsHearing desk = desk.is_over ≡ false

-- A desk after what happened: it is all in order, and the desk holds what is left of it, which is what waits, what was told and
-- isn't answered, the replies that came for each owner, and what came of the next one.
pub record IsAfter (past : Past) (desk : Desk) : Type 0 where
  pub now : IsInOrder past.now
  pub earlier : AllByRecursion IsInOrder past.earlier
  pub asked : desk.asked ≡ past.asked
  pub waiting : desk.waiting.items ≡ past.waiting
  pub awaited : desk.awaited.items ≡ unanswered past.now
  pub left : desk.left ≡ past.now.left
  pub kept : (owner : ℕ) → kept_for desk.kept.of_owners.entries owner ≡ answers_in owner past
  pub over : desk.is_over ≡ is_some past.now.fault
  pub next : past.now.fault ≡ None → HoldsNext (due_in past) desk.reader now.part

-- the owner of the ask that a reply came to, where one did
abbrev pub owner_answered : Option Reply → Option Ask → Option ℕ
owner_answered None due = None
owner_answered (Some answer) due = option_and_then (λ ask. ask.owner) due

-- So many of the bytes were taken, one at least, and with them the reply became whole that comes next, or none.
pub record IsHeard (past : Past) (bytes : List ℕ) (heard : Heard) (desk : Desk) : Type 0 where
  pub answer : Option Reply
  pub some : 0 < heard.count
  pub within : heard.count ≤ length bytes
  pub owner : heard.owner ≡ owner_answered answer (due_in past)
  pub after : IsAfter (past_heard (take heard.count bytes) answer past) desk
