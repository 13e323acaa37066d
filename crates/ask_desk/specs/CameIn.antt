-- What is taken for a reply (RESP2), whatever was asked.
use Rattle.std.specs.Prelude.{◌≡◌, ◌⊎◌, ◌<◌, ◌≤◌, ◌-◌, ◌^◌, ℕ, List, [], ◌++◌, length, Option, Some, None}
use Rattle.resp.specs.Command.{line, line_end}
use Rattle.resp.specs.Spelled.{Writes, SpellsReply, IsBegun}
use Rattle.resp.specs.Verdict.{IsWrongAt}
use Rattle.resp.specs.declared.limits.Limits.{Limits}
use Rattle.resp.specs.declared.reply.Item.TheVariants as item
use Rattle.resp.specs.declared.reply.Reply.{Reply}
use Rattle.resp.specs.declared.reply.Reply.TheVariants as reply
use Rattle.ask_desk.specs.declared.ask.Ask.{Ask}

-- one line, or a bulk string
abbrev pub reply_limits : Limits
reply_limits = record { line = 512; bulk = 2 ^ 32 - 1; elements = 0 }

-- bytes that begin with the whole line of a bulk string of so many bytes
pub record BeginsBulk (bytes : List ℕ) (len : ℕ) : Type 0 where
  pub digits : List ℕ
  pub behind : List ℕ
  pub writes : Writes reply_limits reply_limits.bulk digits len
  pub bytes_are : bytes ≡ line 36 digits ++ behind

-- a reply in which a bulk string has no more bytes than its ask allows; what else is a reply is a line
abbrev pub IsShort : ℕ → Reply → Type 0
IsShort most (reply.One (item.Bulk content)) = length content ≤ most
IsShort most answer = Unit {0}

-- The line of a bulk string came that has more bytes.
abbrev pub IsTooLong : ℕ → List ℕ → Type 0
IsTooLong most bytes = (len : ℕ) × BeginsBulk bytes len × (most < len)

-- behind a bulk string's content stands no CR and LF, whatever follows
pub record IsNotClosed (bytes : List ℕ) : Type 0 where
  pub digits : List ℕ
  pub content : List ℕ
  pub behind : List ℕ
  pub writes : Writes reply_limits reply_limits.bulk digits (length content)
  pub bytes_are : bytes ≡ line 36 digits ++ content ++ behind
  pub no_end : (more rest : List ℕ) → behind ++ more ≡ line_end ++ rest → ⊥

-- What came begins with no reply, whatever follows.
abbrev pub IsNoReply : List ℕ → Type 0
IsNoReply bytes = ((place : ℕ) × IsWrongAt (SpellsReply reply_limits) bytes place) ⊎ IsNotClosed bytes

-- What came and is no whole reply: nothing where nobody waits for one, else the beginning of a reply that isn't too long.
abbrev pub IsPart : Option Ask → List ℕ → Type 0
IsPart None part = part ≡ []
IsPart (Some ask) part = IsBegun (SpellsReply reply_limits) part × (IsTooLong ask.most part → ⊥)
