-- What is signed as it stands: a path in which nothing is escaped, and texts in which nothing is trimmed.
use Rattle.std.specs.Prelude.{ℕ, Bool, ◌||◌, ◌==◌, List}
use Rattle.std.specs.Char.{is_ascii_alphanumeric, is_ascii_graphic}
use Rattle.std.specs.List.{AllPass}
use Rattle.s3_sign.specs.declared.request.ObjectRequest.{ObjectRequest}

-- a letter, a digit, `-`, `.`, `_`, `~` (RFC 3986, section 2.3), or `/`
abbrev pub is_path_byte : ℕ → Bool
is_path_byte byte =
    is_ascii_alphanumeric byte || (byte == 45) || (byte == 46) || (byte == 95) || (byte == 126) || (byte == 47)

-- each byte is a visible character of ASCII
abbrev pub IsVisible : List ℕ → Type 0
IsVisible text = AllPass is_ascii_graphic text

-- the path needs no escape, and the host has no blanks
pub record IsPlainRequest (request : ObjectRequest) : Type 0 where
  pub path_is : AllPass is_path_byte request.path.now
  pub host_is : IsVisible request.host.now
