use Rattle.std.proofs.Common.{◌≡◌, ◌<◌, ◌≤◌, ◌∙◌, List, Some, length, map, slice_get, get_or, refl, sym, ap, arith}
use Rattle.std.proofs.lemmas.List.{length-map, take_all}
use Rattle.std.specs.Option.{option_map}
use Rattle.std.specs.Rc.{rc_slice_items}
use Rattle.share_store.specs.Shares.{Shares, ShareKey}
use Rattle.share_moves.specs.Moves.{first_share_of}
use Rattle.share_moves.proofs.Stores.{one_honest, map_at, looked_at_none, looked_at_one, none_of, some_of, some_mapped}
use Rattle.share_moves.proofs.Wholes.{first_none_more, first_is}
use Rattle.share_moves.proofs.strangers.first_share.Goals as goal

pub loop-server-init : goal.loop-server-init
loop-server-init g c = record {
  kept = looked_at_none g.S.Store.honest g.S.Store.shares c.args.from.now;
  none = λ all. refl;
}

pub loop-server-preserved : goal.loop-server-preserved
loop-server-preserved g c =
    let inv = c.loop-server.invariant in
    let i = c.loop-server.server in
    let from = c.loop-server.from in
    let old = get_or from i c.index-from-server.result in
    let read : old ≡ get_or from i old = ap (λ x. get_or from i x) c.index-from-server.is in
    let lt : i < length from = omega arith in
    let key : ShareKey = (c.args.index, c.args.number) in
    let maps = map g.S.Store.shares c.args.from.now in
    record {
      kept = looked_at_one g.S.Store.honest g.S.Store.shares g.S.Store.room g.S.Store.failures c.args.from.now from i old c.share_of.new.store lt read inv.kept c.in_ok-found.ensures.looked;
      none = λ all.
          let at : slice_get maps i ≡ Some (g.S.Store.shares old) = ap (λ (ms : List Shares). slice_get ms i) (sym (inv.kept.same_shares all)) ∙ map_at g.S.Store.shares from i old lt read in
          let gone = none_of c.in_ok-found.found c.is_some.result c.is_some.ensures c.if-is_some.false in
          first_none_more maps i (g.S.Store.shares old) key at (inv.none all)
          (sym (c.in_ok-found.ensures.found (one_honest g.S.Store.honest from i old lt read (inv.kept.still_honest all))) ∙ ap (option_map rc_slice_items) gone);
    }

pub returns-then-is_some-clause-found : goal.returns-then-is_some-clause-found
returns-then-is_some-clause-found g c = λ all.
    let inv = c.loop-server.invariant in
    let i = c.loop-server.server in
    let from = c.loop-server.from in
    let old = get_or from i c.index-from-server.result in
    let read : old ≡ get_or from i old = ap (λ x. get_or from i x) c.index-from-server.is in
    let lt : i < length from = omega arith in
    let maps = map g.S.Store.shares c.args.from.now in
    let at : slice_get maps i ≡ Some (g.S.Store.shares old) = ap (λ (ms : List Shares). slice_get ms i) (sym (inv.kept.same_shares all)) ∙ map_at g.S.Store.shares from i old lt read in
    first_is maps i (g.S.Store.shares old) (c.args.index, c.args.number) (option_map rc_slice_items c.in_ok-found.found) at (inv.none all)
    (some_mapped rc_slice_items c.in_ok-found.found ∙ some_of c.in_ok-found.found c.is_some.result c.is_some.ensures c.if-is_some.true)
    (c.in_ok-found.ensures.found (one_honest g.S.Store.honest from i old lt read (inv.kept.still_honest all)))

pub returns-then-is_some-clause-kept : goal.returns-then-is_some-clause-kept
returns-then-is_some-clause-kept g c =
    let i = c.loop-server.server in
    let from = c.loop-server.from in
    let old = get_or from i c.index-from-server.result in
    let read : old ≡ get_or from i old = ap (λ x. get_or from i x) c.index-from-server.is in
    let lt : i < length from = omega arith in
    looked_at_one g.S.Store.honest g.S.Store.shares g.S.Store.room g.S.Store.failures c.args.from.now from i old c.share_of.new.store lt read c.loop-server.invariant.kept c.in_ok-found.ensures.looked

pub returns-in_err-found-clause-kept : goal.returns-in_err-found-clause-kept
returns-in_err-found-clause-kept g c =
    let i = c.loop-server.server in
    let from = c.loop-server.from in
    let old = get_or from i c.index-from-server.result in
    let read : old ≡ get_or from i old = ap (λ x. get_or from i x) c.index-from-server.is in
    let lt : i < length from = omega arith in
    looked_at_one g.S.Store.honest g.S.Store.shares g.S.Store.room g.S.Store.failures c.args.from.now from i old c.share_of.new.store lt read c.loop-server.invariant.kept c.in_err-found.ensures.looked

pub returns-clause-found : goal.returns-clause-found
returns-clause-found g c = λ all.
    let maps = map g.S.Store.shares c.args.from.now in
    let key : ShareKey = (c.args.index, c.args.number) in
    let whole : length maps ≤ c.loop-server.server = omega (arith, c.loop-server-test.false, length-map c.args.from.now g.S.Store.shares) in
    sym (ap (λ ms. first_share_of ms key) (sym (take_all c.loop-server.server maps whole)) ∙ c.loop-server.invariant.none all)
