-- What is got again of what was put.
use Rattle.std.specs.Prelude.{◌≡◌, ◌<◌, ◌^◌, ⊤, ℕ, List, [], length, true, Result, Ok, Err}
use Rattle.std.specs.Str.{is_utf8}
use Rattle.erasure.specs.Code.{AreBytes}
use Rattle.caps.specs.Fields.{ReadValue}
use Rattle.caps.specs.CapTexts.{IsCapText}
use Rattle.caps.specs.declared.cap.Cap.{Cap}
use Rattle.dir_codec.specs.Entries.{IsDirectory}
use Rattle.dir_codec.specs.DirectoryText.{directory_text}
use Rattle.dir_codec.specs.declared.entry.Entry.{Entry}
use Rattle.client_core.specs.ChildrenJson.{children_text}
use Rattle.client_core.specs.declared.ask.Ask.{Ask}
use Rattle.client_core.specs.Given.{IsBoundAnswer}
use Rattle.client_core.specs.declared.exchange.Answer.{Answer}
use Rattle.client_core.specs.declared.exchange.LinkFault.{LinkFault}
use Rattle.round_trips.specs.Stands.{AreOne}

-- a byte string that a program can have
pub record IsBody (bytes : List ℕ) : Type 0 where
  pub are_bytes : AreBytes bytes
  pub fits : length bytes < 2 ^ 64

-- a directory whose two texts a program can have: the JSON that is sent, and what is stored
pub record IsSendable (entries : List Entry) : Type 0 where
  pub directory : IsDirectory entries
  pub json : is_utf8 (children_text entries) ≡ true
  pub text : IsBody (directory_text entries)

-- an answer that carries out what was asked for, with the text of a cap and of no other
pub record NamesCap (answer : Answer) (cap : Cap) : Type 0 where
  pub carried_out : answer.status ≡ 200
  pub text : IsCapText cap answer.body
  pub only : (other : Cap) → IsCapText other answer.body → other ≡ cap

-- The answer to a read, if one came, is one that a client takes: it carries out the read with these bytes, and the fields
-- bind them.
abbrev pub GivesJust : ReadValue → List ℕ → Result Answer LinkFault → Type 0
GivesJust f bytes (Ok answer) = IsBoundAnswer f (Ok answer) bytes
GivesJust f bytes (Err fault) = ⊤

-- the same of bytes that are these, or others that collide with them
pub record GivesAgain (f : ReadValue) (bytes : List ℕ) (r : Result Answer LinkFault) : Type 0 where
  pub again : List ℕ
  pub gives : GivesJust f again r
  pub same : AreOne f again bytes

-- no answer came
abbrev pub IsUnanswered : Result Answer LinkFault → Type 0
IsUnanswered (Ok answer) = ⊥
IsUnanswered (Err fault) = ⊤

-- that is what an exchange told of a call without a body
abbrev pub IsUnansweredAt : {S : Type 0} → (S → Ask → List ℕ → Result Answer LinkFault → S → Type 0) → S → Ask → S → Type 0
IsUnansweredAt told x ask y = (r : Result Answer LinkFault) × told x ask [] r y × IsUnanswered r
