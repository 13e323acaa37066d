-- One connection since it was greeted.
use Rattle.std.specs.Prelude.{◌≡◌, ◌≢◌, ◌<◌, ℕ, List, [], ◌∷◌, ◌++◌, length, map, drop, if◌then◌else◌, IsSome, IsSomeAnd, Option, Some, None}
use Rattle.resp.specs.declared.reply.Reply.{Reply}
use Rattle.resp.specs.Spelled.{SpellsReply, SpellsAll}
use Rattle.ask_desk.specs.declared.ask.Ask.{Ask}
use Rattle.ask_desk.specs.declared.kept.Answer.{Answer}
use Rattle.ask_desk.specs.declared.fault.DeskFault.{DeskFault}
use Rattle.ask_desk.specs.declared.fault.DeskFault.TheVariants.{Unasked, TooLong, NoReply, NoMemory}
use Rattle.ask_desk.specs.Asks.{is_asked_by, disowned, next_due}
use Rattle.ask_desk.specs.CameIn.{reply_limits, IsShort, IsTooLong, IsNoReply, IsPart}

-- What was told over a connection, in the order in which it was written, and how many bytes of the last one aren't written
-- yet; the replies that came whole; all bytes that came since it was greeted; and why no more is heard.
pub record Dialogue : Type 0 where
  pub told : List Ask
  pub left : ℕ
  pub replies : List Reply
  pub came : List ℕ
  pub fault : Option DeskFault

-- nothing was told and nothing came
abbrev pub silence : Dialogue
silence = record { told = []; left = 0; replies = []; came = []; fault = None }

-- what was told and isn't answered
abbrev pub unanswered : Dialogue → List Ask
unanswered d = drop (length d.replies) d.told

-- each reply is one to the ask at its place, and no longer than that allows
abbrev pub AnswerInOrder : List Ask → List Reply → Type 0
AnswerInOrder told [] = Unit {0}
AnswerInOrder [] (answer ∷ replies) = ⊥
AnswerInOrder (ask ∷ told) (answer ∷ replies) = IsShort ask.most answer × AnswerInOrder told replies

-- What came behind the whole replies, and why no more is heard: nothing or the beginning of the next one; or what nobody
-- asked for, a bulk string that is too long, or no reply. Where there was no memory it may be anything.
abbrev pub IsBehind : Option DeskFault → Option Ask → List ℕ → Type 0
IsBehind None due part = IsPart due part
IsBehind (Some Unasked) due part = (due ≡ None) × (part ≢ [])
IsBehind (Some TooLong) due part = IsSomeAnd due (λ ask. IsTooLong ask.most part)
IsBehind (Some NoReply) due part = IsSome due × IsNoReply part
IsBehind (Some NoMemory) due part = Unit {0}

-- All that came since the connection was greeted are the replies, one behind the other, the first one to what was told first,
-- and what is left; and of an ask that is answered no byte is left to be written.
pub record IsInOrder (d : Dialogue) : Type 0 where
  pub front : List ℕ
  pub part : List ℕ
  pub came : d.came ≡ front ++ part
  pub spelled : SpellsAll (SpellsReply reply_limits) d.replies front
  pub short : AnswerInOrder d.told d.replies
  pub written : 0 < d.left → unanswered d ≢ []
  pub left : IsBehind d.fault (next_due d.left (unanswered d)) part

-- the replies that stand at the places of this owner's asks
abbrev pub replies_to : ℕ → List Ask → List Reply → List Answer
replies_to owner [] replies = []
replies_to owner (ask ∷ told) [] = []
replies_to owner (ask ∷ told) (answer ∷ replies) = if is_asked_by owner ask then record { ticket = ask.ticket; reply = answer } ∷ replies_to owner told replies else replies_to owner told replies

abbrev pub replies_in : ℕ → Dialogue → List Answer
replies_in owner d = replies_to owner d.told d.replies

-- once this owner forsook what was asked
abbrev pub forsaken_in : ℕ → Dialogue → Dialogue
forsaken_in owner d = record d { told = map (disowned owner) d.told }
