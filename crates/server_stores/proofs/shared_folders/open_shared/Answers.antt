use Rattle.std.proofs.Common.{IfOk, subst}
use Rattle.std.specs.Prelude.{string_bytes}
use Rattle.server_stores.specs.Shared.{IsSharedAs}
use Rattle.server_stores.proofs.shared_folders.open_shared.Goals as goal

pub returns-in-Ok : goal.returns-in-Ok
returns-in-Ok g c =
    subst (λ opened. IfOk opened (λ store. IsSharedAs c.args.folder.now c.args.settings.now (string_bytes store.top) store.made)) c.in-Ok.ensures c.open_locked.ensures
