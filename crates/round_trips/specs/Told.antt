-- What callers are told in a run in which something is put, and got again.
use Rattle.std.specs.Prelude.{◌≡◌, ◌++◌, ◌∷◌, ℕ, List, false, Some}
use Rattle.http_edge.specs.Reply.{rendered}
use Rattle.http_edge.specs.declared.item.Head.{Head}
use Rattle.caps.specs.Fields.{ReadValue}
use Rattle.caps.specs.Weakening.{verify_fields}
use Rattle.chk_file.specs.World.{World}
use Rattle.web_replies.specs.declared.reply.Reply.{Reply}
use Rattle.web_replies.specs.Replies.{file_reply}
use Rattle.gate_core.specs.Settings.{GatewaySettings}
use Rattle.gate_core.specs.Items.{Entry, Asked}
use Rattle.gate_base.specs.Browsers.{sent_reply}
use Rattle.gate_core.specs.Runs.{after_entry, world_after, said}
use Rattle.cap_binding.specs.Binds.{Binds}
use Rattle.client_core.specs.declared.ask.Ask.{Ask}
use Rattle.round_trips.specs.Stands.{AreOne}
use Rattle.round_trips.specs.Said.{item_of}

-- what a client asks for, as an entry of a run: an item of a caller, under the caller's secret
abbrev pub entry_asked : ℕ → List ℕ → List ℕ → Ask → List ℕ → Entry
entry_asked caller secret host ask body = Asked caller secret (item_of host ask body)

-- In a run a caller is told this reply, whole, for an entry with this head: behind what the caller is told of those before it, and in
-- front of what the caller is told of those after it.
abbrev pub IsToldWith : GatewaySettings → ℕ → World → List Entry → Head → Entry → List Entry → Reply → Type 0
IsToldWith settings caller w before head x after reply =
    said settings caller w (before ++ x ∷ after)
    ≡ said settings caller w before
    ++ (rendered (sent_reply settings.for_browsers head reply) false false ++ said settings caller (after_entry settings x (world_after settings w before)) after)

-- In a run a caller is told bytes for an entry, 200 and all of them, which a cap binds, so that a client takes them; and
-- they are these, or others that collide with them.
pub record IsToldAgain (settings : GatewaySettings) (caller : ℕ) (w : World) (before : List Entry) (head : Head) (x : Entry) (after : List Entry) (f : ReadValue) (bytes : List ℕ) : Type 0 where
  pub again : List ℕ
  pub told : IsToldWith settings caller w before head x after (file_reply (Some (verify_fields f)) again)
  pub bound : Binds f again
  pub same : AreOne f again bytes
