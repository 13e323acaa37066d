-- How many bytes a reply holds while it waits.
use Rattle.std.specs.Prelude.{ℕ, ◌+◌, ◌==◌, min, max, if◌then◌else◌}

-- None where nothing waits. Else shares of so many bytes, and of what waits no more than the text has, or than are made at a
-- time.
abbrev pub held_while : ℕ → ℕ → ℕ → ℕ
held_while shares text waiting = if waiting == 0 then 0 else shares + min waiting (max text 131072)
