-- Downloads: bytes that are given a segment at a time.
use Rattle.std.specs.Prelude.{◌≡◌, ◌<◌, ◌≤◌, ℕ, ◌+◌, ◌*◌, List, [], length, take, drop}
use Rattle.share_codec.specs.Params.{ParamsValue}
use Rattle.share_codec.specs.Segments.{segment_size}

-- the bytes that are left, and how many a segment has
pub record DownloadValue : Type 0 where
  pub left : List ℕ
  pub each : ℕ

-- of a file's bytes, those from a segment on
abbrev pub download_left : ParamsValue → List ℕ → ℕ → DownloadValue
download_left p plain at = record { left = drop (at * segment_size p) plain; each = segment_size p }

-- the next segment was given, which isn't empty
pub record IsGiven (given : List ℕ) (old new : DownloadValue) : Type 0 where
  pub some : 0 < length given
  pub is : given ≡ take old.each old.left
  pub left : new.left ≡ drop old.each old.left
  pub each : new.each ≡ old.each

-- none was left
pub record IsDone (old new : DownloadValue) : Type 0 where
  pub nothing : old.left ≡ []
  pub same : new ≡ old

-- so many bytes were passed over, no more than were asked for, and less than a segment fewer
pub record IsPassed (passed asked : ℕ) (old new : DownloadValue) : Type 0 where
  pub within : passed ≤ asked
  pub near : asked < passed + old.each
  pub left : new.left ≡ drop passed old.left
  pub each : new.each ≡ old.each
