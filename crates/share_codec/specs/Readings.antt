-- Strings that are judged in steps.
use Rattle.std.specs.Prelude.{ℕ, ◌-◌, List, length}
use Rattle.std.specs.List.{slice_range}
use Rattle.share_codec.specs.Params.{ParamsValue}
use Rattle.share_codec.specs.Segments.{blocks_size, cut_blocks}

-- a string, and the numbers of the file that it is of; how far it is judged is unseen
pub record Reading : Type 0 where
  pub text : List ℕ
  pub params : ParamsValue

-- where the string is a good share, its blocks: they stand before its last byte
unfoldable pub last_blocks : ParamsValue → List ℕ → List (List ℕ)
last_blocks p s = cut_blocks p (slice_range s (length s - 1 - blocks_size p) (length s - 1))
