use Rattle.std.proofs.Common.{Some, lit<}
use Rattle.std.proofs.lemmas.Str.Pattern.{split_once_first}
use Rattle.server_options.proofs.PairLemmas.{no_comma, no_front, no_back, pair_of}
use Rattle.server_options.proofs.options.read_shares.Goals as goal

pub returns-in_default-clause-none : goal.returns-in_default-clause-none
returns-in_default-clause-none c = λ _ k n pair _.
    let cut = split_once_first 44 c.args.text.now c.split_once.result c.split_once.ensures.cases (lit< tt) in
    no_comma c.args.text.now (rw c.in_default.is at cut) k n pair

pub returns-in_default-read_count-clause-none : goal.returns-in_default-read_count-clause-none
returns-in_default-read_count-clause-none c = λ _ k n pair sharing.
    let parts = Some (c.in-Some.front, c.in-Some.back) in
    let cut = split_once_first 44 c.args.text.now parts c.in-Some.ensures.cases (lit< tt) in
    no_front c.args.text.now c.in-Some.front.now cut.1 (c.read_count.ensures.none c.in_default-read_count.is)
    k n pair sharing

pub returns-in_default-read_count-2-clause-none : goal.returns-in_default-read_count-2-clause-none
returns-in_default-read_count-2-clause-none c = λ _ k n pair sharing.
    let parts = Some (c.in-Some.front, c.in-Some.back) in
    let cut = split_once_first 44 c.args.text.now parts c.in-Some.ensures.cases (lit< tt) in
    no_back c.args.text.now c.in-Some.back.now cut.2 (c.read_count-2.ensures.none c.in_default-read_count-2.is)
    k n pair sharing

pub returns-then-is_sharing-clause-pair : goal.returns-then-is_sharing-clause-pair
returns-then-is_sharing-clause-pair c =
    let parts = Some (c.in-Some.front, c.in-Some.back) in
    let cut = split_once_first 44 c.args.text.now parts c.in-Some.ensures.cases (lit< tt) in
    pair_of c.args.text.now c.in-Some.front.now c.in-Some.back.now c.in-Some-read_count.needed
    c.in-Some-read_count-2.made cut.1 cut.2 c.in-Some-read_count.ensures.some c.in-Some-read_count-2.ensures.some
