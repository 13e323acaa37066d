-- Settings as a text.
use Rattle.std.specs.Prelude.{◌≡◌, ℕ, ◌<◌, ◌^◌, List, ◌++◌, length, codes, All}
use Rattle.std.specs.Int.{w16, to_be_bytes}
use Rattle.sha2.specs.Sha256.{sha256}
use Rattle.folder_shelf.specs.Sealed.{sealed}
use Rattle.folder_shelf.specs.declared.settings.StoreSettings.{StoreSettings}

-- the format's name of 16 bytes, the server's place, how many servers there are, how many shares are needed and made, each
-- as two bytes with the high one first, and what stands for the secret
unfoldable pub settings_bytes : List ℕ → StoreSettings → List ℕ
settings_bytes format s = format ++ to_be_bytes w16 s.place ++ to_be_bytes w16 s.servers
    ++ to_be_bytes w16 s.needed ++ to_be_bytes w16 s.made ++ s.secret

-- they, and their seal
abbrev pub settings_text_as : List ℕ → StoreSettings → List ℕ
settings_text_as format s = sealed (settings_bytes format s)

-- the text of a settings file
abbrev pub settings_text : StoreSettings → List ℕ
settings_text s = settings_text_as (codes "wozhinnam shelf2") s

-- what stands for a secret: the SHA-256 of a tag and the secret
unfoldable pub secret_digest : List ℕ → List ℕ
secret_digest secret = sha256 (codes "wozhinnam shelf secret:" ++ secret)

-- numbers of 16 bits, and a digest
pub record AreSettings (s : StoreSettings) : Type 0 where
  pub place : s.place < 2 ^ 16
  pub servers : s.servers < 2 ^ 16
  pub needed : s.needed < 2 ^ 16
  pub made : s.made < 2 ^ 16
  pub long : length s.secret ≡ 32
  pub octets : All (λ byte. byte < 256) s.secret
