-- What requests are carried out with.
use Rattle.std.specs.Prelude.{ℕ, Bool, false, List}
use Rattle.chk_file.specs.Upload.{Upload, uploaded}

-- any k of n shares give a file back, and its key has the secret in it; and whether checks tell where the shares are
pub record Encoding : Type 0 where
  pub k : ℕ
  pub n : ℕ
  pub secret : List ℕ
  pub mapped : Bool

abbrev pub encoding_of : ℕ → ℕ → List ℕ → Encoding
encoding_of k n secret = record { k = k; n = n; secret = secret; mapped = false }

-- the same, with such checks or without
abbrev pub mapping : Bool → Encoding → Encoding
mapping mapped e = record { k = e.k; n = e.n; secret = e.secret; mapped = mapped }

-- these bytes as an upload
abbrev pub upload_of : Encoding → List ℕ → Upload
upload_of e bytes = uploaded e.k e.n e.secret bytes
