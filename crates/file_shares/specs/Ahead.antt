-- What is prepared of a long file before it is read.
use Rattle.std.specs.Prelude.{◌≡◌, ◌≤◌, ℕ, List, true, map, take, Some}
use Rattle.std.specs.List.{concat, list_all, range_with_len}
use Rattle.aes_ctr.specs.Crypt.{crypt}
use Rattle.share_codec.specs.Params.{ParamsValue}
use Rattle.share_codec.specs.Segments.{segment_count}
use Rattle.share_codec.specs.GoodShare.{GoodShare}
use Rattle.caps.specs.Fields.{ReadValue}
use Rattle.file_shares.specs.Numbers.{params_of}
use Rattle.file_shares.specs.Gathered.{Found, by_number, good_below, fit_of}
use Rattle.file_shares.specs.Taken.{AreTaken}
use Rattle.file_shares.specs.Fit.{segment_from, has_zeros, crypttext_from}
use Rattle.file_shares.specs.Bound.{Bound}

-- the numbers of a file, by the fields of its cap
abbrev pub file_params : ReadValue → ParamsValue
file_params f = params_of f.k f.n f.size

-- of what was gathered these are the shares that are read: the first k good ones; for private clauses
pub record AreChosen (f : ReadValue) (found : List Found) (shares : List GoodShare) : Type 0 where
  pub taken : AreTaken (file_params f) shares
  pub first : shares ≡ take f.k (good_below (file_params f) f.ueb (by_number f.n found) f.n)

-- the first segments that these shares give, each padded with zeros; for private clauses
pub record AreDecoded (p : ParamsValue) (shares : List GoodShare) (at : ℕ) (found : List ℕ) : Type 0 where
  pub within : at ≤ segment_count p
  pub bytes : found ≡ concat (map (segment_from p shares) (range_with_len 0 at))
  pub padding : list_all (has_zeros p shares) (range_with_len 0 at) ≡ true

-- what they give, decrypted
abbrev pub plain_from : ReadValue → List GoodShare → List ℕ
plain_from f shares = crypt f.key (crypttext_from (file_params f) shares)

-- these are k good shares of the file that verification finds in what was gathered
pub record AreVerified (f : ReadValue) (found : List Found) (shares : List GoodShare) : Type 0 where
  pub taken : AreTaken (file_params f) shares
  pub bound : Bound f (plain_from f shares)
  pub fit : fit_of found f ≡ Some (plain_from f shares)
