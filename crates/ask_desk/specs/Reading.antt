-- What is held of a reply that isn't whole yet, for private clauses.
use Rattle.std.specs.Prelude.{◌≡◌, ◌<◌, ◌≤◌, ℕ, Bool, true, false, if◌then◌else◌, is_some, List, [], ◌∷◌, ◌++◌, length, take, Option, Some, None}
use Rattle.resp.specs.Command.{line}
use Rattle.resp.specs.Spelled.{Writes, SpellsReply, IsBegun}
use Rattle.resp.specs.declared.reply.Reply.{Reply}
use Rattle.resp.specs.declared.reply.Item.TheVariants as item
use Rattle.resp.specs.declared.reply.Reply.TheVariants as reply
use Rattle.ask_desk.specs.declared.ask.Ask.{Ask}
use Rattle.ask_desk.specs.declared.reader.Reader.{Reader}
use Rattle.ask_desk.specs.declared.reader.Read.{Read}
use Rattle.ask_desk.specs.declared.reader.Read.TheVariants.{More, Whole, Skipped}
use Rattle.ask_desk.specs.declared.reader.Step.{Step}
use Rattle.ask_desk.specs.declared.fault.DeskFault.{DeskFault}
use Rattle.ask_desk.specs.declared.fault.DeskFault.TheVariants.{Unasked, TooLong, NoReply, NoMemory}
use Rattle.ask_desk.specs.CameIn.{reply_limits, IsShort, IsTooLong, IsNoReply, BeginsBulk}

-- a line that came in part
pub record IsOfLine (held kept part : List ℕ) : Type 0 where
  pub part_is : part ≡ held
  pub begun : IsBegun (SpellsReply reply_limits) part
  pub no_bulk : (len : ℕ) → BeginsBulk part len → ⊥
  pub none : kept ≡ []

-- CR, where it came
abbrev pub return_of : Bool → List ℕ
return_of true = 13 ∷ []
return_of false = []

-- the line of a bulk string, and so much of what stands behind it: kept where somebody waits for it
pub record IsOfBulk (keeps : Bool) (most len : ℕ) (held kept : List ℕ) (count : ℕ) (returned : Bool) (part : List ℕ) : Type 0 where
  pub digits : List ℕ
  pub content : List ℕ
  pub held_is : held ≡ line 36 digits
  pub writes : Writes reply_limits reply_limits.bulk digits len
  pub short : len ≤ most
  pub count_is : length content ≡ count
  pub within : count ≤ len
  pub closing : returned ≡ true → count ≡ len
  pub part_is : part ≡ held ++ content ++ return_of returned
  pub kept_is : kept ≡ (if keeps then content else [])

abbrev pub IsHeldAs : Option ℕ → Bool → ℕ → Reader → List ℕ → Type 0
IsHeldAs None keeps most reader part = IsOfLine reader.line.items reader.content.items part
IsHeldAs (Some len) keeps most reader part = IsOfBulk keeps most len reader.line.items reader.content.items reader.count reader.has_return part

-- These bytes are what came of the reply.
abbrev pub IsHeld : Bool → ℕ → Reader → List ℕ → Type 0
IsHeld keeps most reader part = IsHeldAs reader.wants keeps most reader part

-- nothing came of it
pub record IsBlank (reader : Reader) : Type 0 where
  pub wants : reader.wants ≡ None
  pub none : reader.line.items ≡ []
  pub none_kept : reader.content.items ≡ []

-- bytes that are a reply, no longer than its ask allows
abbrev pub IsReplyFor : ℕ → List ℕ → Reply → Type 0
IsReplyFor most bytes answer = SpellsReply reply_limits answer bytes × IsShort most answer

-- what a step led to, once these bytes came in all
abbrev pub IsStepTo : Read → Bool → ℕ → Reader → List ℕ → Type 0
IsStepTo More keeps most reader bytes = IsHeld keeps most reader bytes
IsStepTo (Whole answer) keeps most reader bytes = IsReplyFor most bytes answer × IsBlank reader
IsStepTo Skipped keeps most reader bytes = (keeps ≡ false) × ((answer : Reply) × IsReplyFor most bytes answer) × IsBlank reader

-- what is given of a bulk string that is whole
abbrev pub content_read : Bool → List ℕ → Read
content_read true content = Whole (reply.One (item.Bulk content))
content_read false content = Skipped

-- a step by which so many of the bytes were taken, one at least
pub record IsStep (keeps : Bool) (most : ℕ) (part bytes : List ℕ) (step : Step) (reader : Reader) : Type 0 where
  pub some : 0 < step.count
  pub within : step.count ≤ length bytes
  pub leads : IsStepTo step.read keeps most reader (part ++ take step.count bytes)

-- why no step was made, once these bytes came in all
abbrev pub IsStoppedBy : ℕ → List ℕ → DeskFault → Type 0
IsStoppedBy most bytes Unasked = ⊥
IsStoppedBy most bytes TooLong = IsTooLong most bytes
IsStoppedBy most bytes NoReply = IsNoReply bytes
IsStoppedBy most bytes NoMemory = Unit {0}

-- what is held of the reply that comes next
abbrev pub HoldsNext : Option Ask → Reader → List ℕ → Type 0
HoldsNext None reader part = IsBlank reader × (part ≡ [])
HoldsNext (Some ask) reader part = IsHeld (is_some ask.owner) ask.most reader part
