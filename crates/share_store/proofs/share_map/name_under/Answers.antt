use Rattle.std.proofs.Common.{◌≡◌, ◌∙◌, ap, sym, slice_get}
use Rattle.std.proofs.lemmas.Option.{slice_get-map}
use Rattle.std.proofs.lemmas.Iterator.Consumers.{nth_from_yields_List, YieldsList-from_rest}
use Rattle.std.specs.Option.{option_map}
use Rattle.std.specs.Map.Iter.{deref_pair}
use Rattle.share_store.specs.Shares.{ShareEntry}
use Rattle.share_store.proofs.share_map.name_under.Goals as goal

pub returns-in-Some : goal.returns-in-Some
returns-in-Some g c =
    let entries = c.args.numbers.now.entries in
    let found : option_map deref_pair c.nth.result ≡ slice_get entries c.args.at = nth_from_yields_List c.nth.result c.nth.new.self c.args.at c.nth.ensures.ran (YieldsList-from_rest entries c.iter.ensures.rest) in
    sym (ap (option_map (λ (e : ShareEntry). e.0)) (slice_get-map (λ n. ((c.args.index, n.0), g.B.ShareValue.bytes_in n.1)) entries c.args.at
    ∙ ap (option_map (λ n. ((c.args.index, n.0), g.B.ShareValue.bytes_in n.1))) (sym found ∙ ap (option_map deref_pair) c.in-Some.is)))
