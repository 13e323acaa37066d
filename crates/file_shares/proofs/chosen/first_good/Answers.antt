use Rattle.std.proofs.Common.{◌≡◌, ◌<◌, ℕ, List, length, take, get_or, None, sym, ap, ◌∙◌, arith}
use Rattle.std.specs.Option.{option_or}
use Rattle.std.proofs.lemmas.List.{length-map, get_or-map, take-map, map_more}
use Rattle.share_codec.specs.GoodShare.{good_share}
use Rattle.file_shares.specs.Row.{ServerShare, first_good}
use Rattle.file_shares.specs.Gathered.{places_of}
use Rattle.file_shares.proofs.Goods.{first_found, first_more}
use Rattle.file_shares.proofs.chosen.first_good.Goals as goal

abbrev view : ℕ × List ℕ → ServerShare
view place = (place.0, place.1)

pub returns-in-Some : goal.returns-in-Some
returns-in-Some c =
    let p = c.args.params.now in
    let ueb = c.args.ueb.now in
    let number = c.args.number in
    let lent : List (ℕ × List ℕ) = c.args.places.now in
    let at : ℕ = c.loop-server.server-index in
    let item : ℕ × List ℕ = c.loop-server-item.result in
    let inside : at < length lent = c.loop-server-test.true in
    let within : at < length (places_of lent) = (let h = length-map lent view in omega arith) in
    let here : view item ≡ get_or (places_of lent) at (view item) = ap view c.loop-server-item.is ∙ sym (get_or-map view lent at item (view item) inside) in
    sym (first_found p ueb number (places_of lent) at (view item) c.in-Some.share within here
    (ap (first_good p ueb number) (take-map view at lent) ∙ c.loop-server.invariant)
    (ap (λ b. good_share b number p ueb) (sym c.bytes.ensures) ∙ sym c.in_ok-share.ensures ∙ c.in-Some.is))

pub loop-server-preserved : goal.loop-server-preserved
loop-server-preserved c =
    let p = c.args.params.now in
    let ueb = c.args.ueb.now in
    let number = c.args.number in
    let lent : List (ℕ × List ℕ) = c.args.places.now in
    let at : ℕ = c.loop-server.server-index in
    let item : ℕ × List ℕ = c.loop-server-item.result in
    let judged : good_share (get_or lent at item).1 number p ueb ≡ None =
    ap (λ (place : ℕ × List ℕ). good_share place.1 number p ueb) (sym c.loop-server-item.is)
    ∙ ap (λ b. good_share b number p ueb) (sym c.bytes.ensures) ∙ sym c.in_ok-share.ensures ∙ c.in_default.is in
    ap (first_good p ueb number) (map_more view lent at item c.loop-server-test.true)
    ∙ first_more p ueb number (places_of (take at lent)) (view (get_or lent at item))
    ∙ (λ i. option_or (c.loop-server.invariant i) (judged i))
