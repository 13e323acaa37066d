use Rattle.std.proofs.Common.{◌≢◌}
use Rattle.std.specs.List.{AllWithin}
use Rattle.server_stores.proofs.folder_look.is_among.Given as goal

-- no path that was looked at is this one
abbrev pub invariant-loop-path : goal.invariant-loop-path
invariant-loop-path l = AllWithin (λ path. path.now ≢ l.folder) l.paths 0 l.path-index
