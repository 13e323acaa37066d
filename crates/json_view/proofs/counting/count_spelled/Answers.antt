use Rattle.std.proofs.Common.{drop, subst}
use Rattle.std.proofs.lemmas.List.{take_rest}
use Rattle.dir_codec.specs.First.{IsFirstEntry}
use Rattle.json_view.proofs.Listings.{count_step}
use Rattle.json_view.proofs.counting.count_spelled.Goals as goal

pub returns-clause-counted : goal.returns-clause-counted
returns-clause-counted c =
    let text = c.args.text.now in
    let at = c.args.at in
    let entry = c.in_ok-entry.entry in
    let size = c.in_ok-entry.size in
    let first = subst (λ name. IsFirstEntry name (drop at text) entry size) c.deref.ensures.value (rw (take_rest text at) at c.in_ok-entry.ensures.read) in
    count_step c.args.last.now.items c.count_entry.new.last.items text at size c.args.count c.in_ok-more.more entry c.requires.begun first c.in_ok-more.ensures.name c.in_ok-more.ensures.more
