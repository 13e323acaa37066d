-- What a put leaves: a share that stands is kept.
use Rattle.std.specs.Prelude.{ℕ, List, if◌then◌else◌}
use Rattle.std.specs.FinMap.{insert, contains_key}
use Rattle.share_store.specs.Shares.{Shares, ShareKey}

-- with this share, where none stands there
abbrev pub put_once : Shares → ShareKey → List ℕ → Shares
put_once shares key bytes = if contains_key shares key then shares else insert shares key bytes
