use Rattle.std.proofs.Common.{◌++◌, IfSome, codes, subst, sym}
use Rattle.server_options.specs.Named.{IsNameOf}
use Rattle.server_options.proofs.TextLemmas.{before}
use Rattle.server_options.proofs.store_names.read_folder.Goals as goal

pub returns-in-Some-strip_suffix : goal.returns-in-Some-strip_suffix
returns-in-Some-strip_suffix c =
    subst (λ text. IfSome c.read_shared.result (IsNameOf c.args.room (codes "dir:" ++ text)))
    (sym (before (codes ",shared") c.args.folder.now c.in-Some-strip_suffix.path c.in-Some-strip_suffix.ensures.cases))
    (c.read_shared.ensures c.args.room)
