use Rattle.std.proofs.Common.{Some, lit<}
use Rattle.std.proofs.lemmas.Str.Pattern.{split_once_first}
use Rattle.server_options.proofs.CommaLemmas.{none_in_all, none_before}
use Rattle.server_options.proofs.listening.read_listen.Goals as goal

pub returns-in_default-clause-address : goal.returns-in_default-clause-address
returns-in_default-clause-address c =
    let cut = split_once_first 44 c.args.text.now c.split_once.result c.split_once.ensures.cases (lit< tt) in
    none_in_all c.args.text.now (rw c.in_default.is at cut)

pub returns-in-Some-strip_prefix-clause-address : goal.returns-in-Some-strip_prefix-clause-address
returns-in-Some-strip_prefix-clause-address c =
    let parts = Some (c.in-Some.address, c.in-Some.behind) in
    let cut = split_once_first 44 c.args.text.now parts c.in-Some.ensures.cases (lit< tt) in
    none_before c.args.text.now c.in-Some.address.now cut.1
