-- What a put leaves in a world, and how long it stands there.
use Rattle.std.specs.Prelude.{◌≡◌, ◌≢◌, ◌⊎◌, ◌++◌, ◌≤◌, ⊤, ℕ, List, length, true, Some}
use Rattle.octets.specs.Sharing.{IsSharing}
use Rattle.caps.specs.Fields.{ReadValue}
use Rattle.chk_file.specs.Upload.{Upload, fields, index}
use Rattle.chk_file.specs.Marks.{Mark, marks_of}
use Rattle.chk_file.specs.Held.{has_none, untouched_numbers}
use Rattle.chk_file.specs.World.{World}
use Rattle.gate_core.specs.Settings.{GatewaySettings}
use Rattle.gate_core.specs.Items.{Entry, Asked, Lost, Spoiled}
use Rattle.cap_binding.specs.Found.{HasCollision, bound_uses}

-- any k of n shares are enough, and there are servers, 256 at most
pub record IsSetUp (settings : GatewaySettings) : Type 0 where
  pub sharing : IsSharing settings.k settings.n
  pub some : 1 ≤ settings.servers
  pub limit : settings.servers ≤ 256

-- of k of an upload's numbers an untouched share stands
abbrev pub HasEnough : Upload → World → Type 0
HasEnough u w = u.k ≤ length (untouched_numbers u.n (marks_of w.marks (index u)))

-- an upload stands in a world: it is known by its fields, and has enough shares
pub record IsStanding (u : Upload) (w : World) : Type 0 where
  pub known : w.files (fields u) ≡ Some u
  pub enough : HasEnough u w

-- no share that stands under the upload's storage index is spoiled
abbrev pub IsUnspoiled : Upload → World → Type 0
IsUnspoiled u w = (server number : ℕ) (mark : Mark) → marks_of w.marks (index u) server number ≡ Some mark → has_none mark.toggles ≡ true

-- two byte strings are one, or of the strings that are hashed to encode them under these fields two have one digest
abbrev pub AreOne : ReadValue → List ℕ → List ℕ → Type 0
AreOne f one other = (one ≡ other) ⊎ HasCollision (bound_uses f one ++ bound_uses f other)

-- the upload stands, or one of its fields that was there before: of the same bytes, or of others that collide with them
pub record IsStandingFor (u : Upload) (w : World) : Type 0 where
  pub upload : Upload
  pub named : fields upload ≡ fields u
  pub standing : IsStanding upload w
  pub same : AreOne (fields u) upload.bytes u.bytes

-- an item of any caller, or a loss under another storage index
abbrev pub Spares : List ℕ → Entry → Type 0
Spares si (Asked id secret item) = ⊤
Spares si (Lost server key) = si ≢ key.0
Spares si (Spoiled server key place) = si ≢ key.0
