use Rattle.std.proofs.Common.{◌≡◌, ◌<◌, ◌≤◌, ◌∙◌, List, Some, IsTrue, All, length, map, slice_get, get_or, refl, sym, ap, subst, arith}
use Rattle.std.proofs.lemmas.List.{length-map, take_all}
use Rattle.std.proofs.lemmas.List.Elements.{All-set}
use Rattle.std.specs.FinMap.{get}
use Rattle.share_store.specs.Shares.{Shares}
use Rattle.grid.specs.Standing.{standing}
use Rattle.share_moves.specs.Moves.{with_moved_shares}
use Rattle.share_moves.specs.Steps.{with_found, AreFoundInPlace}
use Rattle.share_moves.proofs.Stores.{one_honest, map_at, maps_kept}
use Rattle.share_moves.proofs.Wholes.{moved_more, moved_none, first_more, first_all}
use Rattle.share_moves.proofs.moving.move_shares.Goals as goal

pub loop-server-init : goal.loop-server-init
loop-server-init g c = record {
  kept = λ all. refl;
  upright = λ all. all;
  honest = λ all. all;
  moved = λ upright all. moved_none (length c.args.into.now) (map g.S.Store.shares c.args.from.now) (standing (map g.T.Store.shares c.args.into.now));
  there = λ upright all none server lt. absurd (omega (arith, lt));
}

pub loop-server-preserved : goal.loop-server-preserved
loop-server-preserved g c =
    let inv = c.loop-server.invariant in
    let i = c.loop-server.server in
    let from = c.loop-server.from in
    let old = get_or from i c.index-from-server.result in
    let read : old ≡ get_or from i old = ap (λ x. get_or from i x) c.index-from-server.is in
    let store = c.move_server.new.from in
    let one = c.in_ok-move_server.ensures in
    let count = length c.args.into.now in
    let maps = map g.S.Store.shares c.args.from.now in
    let before = standing (map g.T.Store.shares c.args.into.now) in
    let mid = standing (map g.T.Store.shares c.loop-server.into) in
    let new = standing (map g.T.Store.shares c.move_server.new.into) in
    let lt : i < length from = omega arith in
    let here : All (λ s. IsTrue (g.S.Store.honest s)) c.args.from.now → IsTrue (g.S.Store.honest old) = λ upright.
    one_honest g.S.Store.honest from i old lt read (inv.upright upright) in
    let at : All (λ s. IsTrue (g.S.Store.honest s)) c.args.from.now → slice_get maps i ≡ Some (g.S.Store.shares old) = λ upright.
    ap (λ (ms : List Shares). slice_get ms i) (sym (inv.kept upright)) ∙ map_at g.S.Store.shares from i old lt read in
    record {
      kept = λ upright. maps_kept g.S.Store.shares from i old store read (one.looked.same_shares (here upright)) ∙ inv.kept upright;
      upright = λ upright. All-set (λ s. IsTrue (g.S.Store.honest s)) from i store (one.looked.still_honest (here upright)) (inv.upright upright);
      honest = λ all. one.honest (inv.honest all);
      moved = λ upright all. moved_more count maps i (g.S.Store.shares old) before mid new (at upright) (inv.moved upright all)
          (subst (λ n. new ≡ with_found n (get (g.S.Store.shares old)) mid) c.loop-server.auto.into (one.moved (here upright) (inv.honest all)));
      there = λ upright all none.
          let now = one.there (here upright) (inv.honest all) none in
          first_more count maps i (g.S.Store.shares old) mid new (at upright)
          (subst (λ n. new ≡ with_found n (get (g.S.Store.shares old)) mid) c.loop-server.auto.into (one.moved (here upright) (inv.honest all)))
          (inv.there upright all now.0) (subst (λ n. AreFoundInPlace n (get (g.S.Store.shares old)) new) c.loop-server.auto.into now.1);
    }

pub returns-clause-moved : goal.returns-clause-moved
returns-clause-moved g c = λ upright all.
    let maps = map g.S.Store.shares c.args.from.now in
    let whole : length maps ≤ c.loop-server.server = omega (arith, c.loop-server-test.false, length-map c.args.from.now g.S.Store.shares) in
    c.loop-server.invariant.moved upright all ∙ ap (λ ms. with_moved_shares (length c.args.into.now) ms (standing (map g.T.Store.shares c.args.into.now))) (take_all c.loop-server.server maps whole)

pub returns-clause-there : goal.returns-clause-there
returns-clause-there g c = λ upright all none.
    let maps = map g.S.Store.shares c.args.from.now in
    let whole : length maps ≤ c.loop-server.server = omega (arith, c.loop-server-test.false, length-map c.args.from.now g.S.Store.shares) in
    first_all (length c.args.into.now) maps c.loop-server.server (standing (map g.T.Store.shares c.loop-server.into)) whole (c.loop-server.invariant.there upright all none)

pub returns-in_err-move_server-clause-kept : goal.returns-in_err-move_server-clause-kept
returns-in_err-move_server-clause-kept g c = λ upright.
    let inv = c.loop-server.invariant in
    let from = c.loop-server.from in
    let old = get_or from c.loop-server.server c.index-from-server.result in
    let read : old ≡ get_or from c.loop-server.server old = ap (λ x. get_or from c.loop-server.server x) c.index-from-server.is in
    let lt : c.loop-server.server < length from = omega arith in
    maps_kept g.S.Store.shares from c.loop-server.server old c.move_server.new.from read
    (c.in_err-move_server.ensures.looked.same_shares (one_honest g.S.Store.honest from c.loop-server.server old lt read (inv.upright upright)))
    ∙ inv.kept upright
