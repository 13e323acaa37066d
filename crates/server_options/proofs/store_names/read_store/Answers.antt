use Rattle.std.proofs.Common.{IfSome, codes, subst, sym}
use Rattle.server_options.specs.Named.{IsNameOf}
use Rattle.server_options.proofs.TextLemmas.{behind}
use Rattle.server_options.proofs.store_names.read_store.Goals as goal

pub returns-in-Some : goal.returns-in-Some
returns-in-Some c =
    subst (λ text. IfSome c.read_memory.result (IsNameOf c.args.room text)) (sym (behind (codes "mem:") c.args.name.now c.in-Some.bytes c.in-Some.ensures.cases))
    (c.read_memory.ensures c.args.room)
