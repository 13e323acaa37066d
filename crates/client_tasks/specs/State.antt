-- What a put tells the next put of the same folder.
use Rattle.std.specs.Prelude.{◌≡◌, ◌≢◌, ℕ, ◌<◌, ◌^◌, Bool, false, IsTrue, List, ◌∷◌, ◌++◌, decimal, All}
use Rattle.percent_encoding.specs.Percent.{percent_encode}
use Rattle.percent_encoding.specs.declared.ascii_set.AsciiSet.{AsciiSet}
use Rattle.caps.specs.CapTexts.{IsCap, cap_text}
use Rattle.caps.specs.Kinds.{is_verify_cap}
use Rattle.caps.specs.declared.cap.Cap.{Cap}
use Rattle.client_tasks.specs.declared.state.Stamp.{Stamp}

-- control bytes, the space and `%`
abbrev pub escaped_bytes : AsciiSet
escaped_bytes = record { mask = 0x8000_0000_0000_0000_0000_0021_FFFF_FFFF }

-- four fields with a space between them
abbrev pub spaced : List ℕ → List ℕ → List ℕ → List ℕ → List ℕ
spaced one two three four = one ++ (32 ∷ (two ++ (32 ∷ (three ++ (32 ∷ four)))))

-- the line of a file, without its end: how many bytes it has, when it was last changed in nanoseconds since 1970, its path, in which these bytes are escaped and all that isn't ASCII, and its cap
unfoldable pub state_line : List ℕ → Stamp → Cap → List ℕ
state_line path stamp cap = spaced (decimal stamp.size) (decimal stamp.time) (percent_encode escaped_bytes path) (cap_text cap)

-- what a line can be of
pub record IsRecordable (path : List ℕ) (stamp : Stamp) (cap : Cap) : Type 0 where
  pub path_bytes : All (λ b. b < 256) path
  pub size_fits : stamp.size < 2 ^ 64
  pub time_fits : stamp.time < 2 ^ 64
  pub cap_is : IsCap cap
  pub reads : is_verify_cap cap ≡ false

-- the fields of a line; for a private clause
pub record AreFields (line : List ℕ) (size time : ℕ) (path cap : List ℕ) : Type 0 where
  pub parted : line ≡ spaced (decimal size) (decimal time) path cap
  pub plain : All (λ b. b ≢ 32) path
  pub size_fits : size < 2 ^ 64
  pub time_fits : time < 2 ^ 64

-- files are skipped in folders alone, and verified where they are skipped
abbrev pub AreSkips : Bool → Bool → Bool → Type 0
AreSkips recursive given verified = (IsTrue given → IsTrue recursive) × (IsTrue verified → IsTrue given)
