use Rattle.std.proofs.Common.{◌≡◌, map, take}
use Rattle.std.specs.List.{All}
use Rattle.server_options.specs.Listening.{HasNoComma, listen_text}
use Rattle.server_options.proofs.options.read_listens.Given as goal

-- what was read of the texts so far
abbrev pub invariant-loop-text : goal.invariant-loop-text
invariant-loop-text l = (map listen_text l.listens.items ≡ map (λ s. s.now) (take l.text-index l.text-items)) × All (λ wanted. HasNoComma wanted.address.now) l.listens.items
