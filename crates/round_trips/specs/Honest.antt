-- An honest gateway, as a client meets it: it gives the written answers, and keeps what it was given.
use Rattle.std.specs.Prelude.{◌≡◌, ⊤, ℕ, List, Result, Ok, Err}
use Rattle.chk_file.specs.World.{World}
use Rattle.chk_file.specs.Look.{Look, by_held}
use Rattle.web_replies.specs.declared.reply.Status.{Status}
use Rattle.web_replies.specs.declared.reply.Status.TheVariants as status
use Rattle.web_replies.specs.declared.reply.Reply.{Reply}
use Rattle.web_ops.specs.Uploads.{upload_in, after_stored}
use Rattle.web_ops.specs.Answers.{request_reply}
use Rattle.gate_core.specs.Settings.{GatewaySettings, encoding_in}
use Rattle.gate_core.specs.Items.{Entry}
use Rattle.gate_core.specs.Runs.{world_after}
use Rattle.client_core.specs.Asks.{meant}
use Rattle.client_core.specs.declared.ask.Ask.{Ask}
use Rattle.client_core.specs.declared.exchange.Answer.{Answer}
use Rattle.client_core.specs.declared.exchange.LinkFault.{LinkFault}

-- the number of a status (RFC 9110, section 15)
abbrev pub code_of : Status → ℕ
code_of status.Ok = 200
code_of status.PartialContent = 206
code_of status.NotModified = 304
code_of status.BadRequest = 400
code_of status.NotFound = 404
code_of status.MethodNotAllowed = 405
code_of status.Gone = 410
code_of status.RangeNotSatisfiable = 416
code_of status.ServiceUnavailable = 503

-- a reply, as a client has it
abbrev pub as_answer : Reply → Answer
as_answer reply = record { status = code_of reply.status; body = reply.body }

-- The answer that came is the one that is written for what was meant, by what a look finds. Of none that came nothing is
-- said.
abbrev pub IsWrittenAnswer : GatewaySettings → Look → Ask → List ℕ → Result Answer LinkFault → Type 0
IsWrittenAnswer settings look ask body (Ok answer) = answer ≡ as_answer (request_reply (encoding_in settings) look (meant ask body))
IsWrittenAnswer settings look ask body (Err fault) = ⊤

-- the world in which what was asked for is stored
abbrev pub with_asked : GatewaySettings → Ask → List ℕ → World → World
with_asked settings ask body w = after_stored settings.servers (upload_in (encoding_in settings) (meant ask body)) w

-- a run of items of whoever, and of the operator, leads from one world to the other
abbrev pub LeadsOn : GatewaySettings → World → World → Type 0
LeadsOn settings w later = (entries : List Entry) × (later ≡ world_after settings w entries)

-- What an exchange tells is what an honest gateway with these settings does: whatever is asked for is answered as it is
-- written, by what is held in the world of that moment, and is stored there. Between two calls others may go on.
pub record IsHonestExchange {S : Type 0} (settings : GatewaySettings) (world : S → World) (told : S → Ask → List ℕ → Result Answer LinkFault → S → Type 0) : Type 0 where
  pub written : (x : S) (ask : Ask) (body : List ℕ) (r : Result Answer LinkFault) (y : S) → told x ask body r y → IsWrittenAnswer settings (by_held (world x)) ask body r
  pub stored : (x : S) (ask : Ask) (body : List ℕ) (answer : Answer) (y : S) → told x ask body (Ok answer) y → LeadsOn settings (with_asked settings ask body (world x)) (world y)
  pub kept : (x : S) (ask : Ask) (body : List ℕ) (fault : LinkFault) (y : S) → told x ask body (Err fault) y → LeadsOn settings (world x) (world y)

-- ---- that there are such

-- the answer that is written
abbrev pub written_answer : GatewaySettings → Ask → List ℕ → World → Answer
written_answer settings ask body w = as_answer (request_reply (encoding_in settings) (by_held w) (meant ask body))

-- what a world tells that is asked itself: the answer that is written comes, and what was asked for is stored
abbrev pub by_the_book : GatewaySettings → World → Ask → List ℕ → Result Answer LinkFault → World → Type 0
by_the_book settings w ask body r after = (r ≡ Ok (written_answer settings ask body w)) × (after ≡ with_asked settings ask body w)
