-- How many bytes a reply holds while it waits.
use Rattle.std.specs.Prelude.{ℕ, length, min, Bool, if◌then◌else◌}
use Rattle.caps.specs.declared.cap.Cap.{Cap}
use Rattle.caps.specs.declared.cap.Cap.TheVariants.{Chk, Lit, DirChk, DirLit}
use Rattle.gate_core.specs.declared.foresight.Wanted.{Wanted}
use Rattle.gate_core.specs.declared.foresight.Wanted.TheVariants.{Content, Listing}

-- Shares, or a file, that are held until their last byte is made, where the bytes of what a cap names are given: those of a
-- file that stores don't lend, or the bytes of a literal one.
abbrev pub content_shares : Cap → Bool → ℕ
content_shares (Chk fields) lent = if lent then 0 else fields.size
content_shares (Lit bytes) _ = length bytes
content_shares _ _ = 0

-- and beside them, of a file that stores lend, the segment that is made
abbrev pub content_text : Cap → Bool → ℕ
content_text (Chk fields) lent = if lent then min fields.size 131072 else 0
content_text _ _ = 0

-- the text of a directory, where its children are listed
abbrev pub listing_text : Cap → ℕ
listing_text (DirChk fields) = fields.size
listing_text (DirLit bytes) = length bytes
listing_text _ = 0

-- the same by what is wanted of what the cap names: a check holds nothing
abbrev pub wanted_shares : Wanted → Cap → Bool → ℕ
wanted_shares Content end lent = content_shares end lent
wanted_shares _ _ _ = 0

abbrev pub wanted_text : Wanted → Cap → Bool → ℕ
wanted_text Content end lent = content_text end lent
wanted_text Listing end _ = listing_text end
wanted_text _ _ _ = 0
