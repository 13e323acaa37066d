-- How many connections to a gateway a task has at once, each opened when it is needed.
use Rattle.std.specs.Prelude.{◌≡◌, ◌≤◌, ℕ, Bool, List, Option, Some, None, option_map, if◌then◌else◌}
use Rattle.octets.specs.Decimal.{number_to}
use Rattle.client_options.specs.declared.task.Task.{Task}
use Rattle.client_options.specs.declared.task.Task.TheVariants.{Put, Get, List as Ls, Check, Repair, Mkdir}

-- as many as the text says, from 1 to 64; without one 8 for a folder, and else one
abbrev pub IsCountGiven : Bool → Option (List ℕ) → ℕ → Type 0
IsCountGiven recursive None count = count ≡ (if recursive then 8 else 1)
IsCountGiven recursive (Some text) count = (number_to 64 text ≡ Some count) × (1 ≤ count)

-- a put and a get have as many as `--jobs` says, all else one
abbrev pub IsJobCount : Task → ℕ → Type 0
IsJobCount (Put what recursive jobs state verified) count = IsCountGiven recursive (option_map (λ s. s.now) jobs) count
IsJobCount (Get node file recursive jobs) count = IsCountGiven recursive (option_map (λ s. s.now) jobs) count
IsJobCount (Ls node json) count = count ≡ 1
IsJobCount (Check node verify read recursive) count = count ≡ 1
IsJobCount (Repair node recursive) count = count ≡ 1
IsJobCount (Mkdir children) count = count ≡ 1
