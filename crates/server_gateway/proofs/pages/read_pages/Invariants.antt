use Rattle.std.specs.Prelude.{All}
use Rattle.server_gateway.specs.Pages.{IsFilePage}
use Rattle.server_gateway.proofs.pages.read_pages.Given as goal

abbrev pub invariant-loop-entry : goal.invariant-loop-entry
invariant-loop-entry g l = All IsFilePage l.pages.items
