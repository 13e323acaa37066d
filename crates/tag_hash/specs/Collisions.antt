-- The premise that some strings do not collide.
use Rattle.std.specs.Prelude.{◌≡◌, List, Contains}
use Rattle.tag_hash.specs.Use.{Use, digest}

-- no two of these uses have digests of one length that are equal, and strings that are not
abbrev pub NoCollision : List Use → Type 0
NoCollision uses =
    (one other : Use) → Contains uses one → Contains uses other
    → one.size ≡ other.size → digest one ≡ digest other → one.text ≡ other.text

-- each use of the part is one of these uses
abbrev pub Includes : List Use → List Use → Type 0
Includes uses part = (one : Use) → Contains part one → Contains uses one
