-- Files by what their shares say of them, and their shares.
use Rattle.std.specs.Prelude.{◌≡◌, ℕ, ◌<◌, ◌^◌, List, length, map, All}
use Rattle.std.specs.List.{range_with_len}
use Rattle.octets.specs.Sharing.{IsSharing}
use Rattle.erasure.specs.Code.{AreBytes}
use Rattle.erasure.specs.Given.{AreDistinct}
use Rattle.share_codec.specs.Params.{ParamsValue}
use Rattle.share_codec.specs.Shares.{share, ueb_hash}
use Rattle.share_codec.specs.Meets.{Meets}

-- a file's numbers, and the hash of its URI extension block: all that a cap has of it beside the key
pub record FileLabel : Type 0 where
  pub params : ParamsValue
  pub ueb : List ℕ

-- a string is a good share of that file, of this number
abbrev pub IsShareOf : FileLabel → ℕ → List ℕ → Type 0
IsShareOf label number s = Meets s number label.params label.ueb

-- a string is a good share of some file, of as many bytes as 64 bits count: it verifies by what it says itself
pub record Verifies (number : ℕ) (s : List ℕ) : Type 0 where
  pub label : FileLabel
  pub size : label.params.size < 2 ^ 64
  pub good : IsShareOf label number s

-- these are the bytes of that file, encrypted; it isn't empty
pub record IsCrypttextOf (label : FileLabel) (crypttext : List ℕ) : Type 0 where
  pub sharing : IsSharing label.params.k label.params.n
  pub some : 0 < label.params.size
  pub bytes : AreBytes crypttext
  pub size : length crypttext ≡ label.params.size
  pub hash : ueb_hash label.params crypttext ≡ label.ueb

-- the shares of all its numbers
abbrev pub all_shares : ParamsValue → List ℕ → List (List ℕ)
all_shares p crypttext = map (λ i. share p crypttext i) (range_with_len 0 p.n)

-- a share, and its number
abbrev pub Numbered : Type 0
Numbered = ℕ × List ℕ

-- these are k of its shares, of different numbers, each as it is made
pub record AreGivenOf (label : FileLabel) (crypttext : List ℕ) (given : List Numbered) : Type 0 where
  pub file : IsCrypttextOf label crypttext
  pub many : length given ≡ label.params.k
  pub apart : AreDistinct (map (λ (g : Numbered). g.0) given)
  pub each : All (λ (g : Numbered). (g.0 < label.params.n) × (g.1 ≡ share label.params crypttext g.0)) given
