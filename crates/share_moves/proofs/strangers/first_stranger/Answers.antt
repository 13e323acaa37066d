use Rattle.std.proofs.Common.{◌≡◌, ◌<◌, ◌≤◌, ◌∙◌, ℕ, List, Some, is_some, false, length, map, slice_get, get_or, sym, ap, subst, arith}
use Rattle.std.proofs.lemmas.List.{length-map}
use Rattle.std.specs.FinMap.{get}
use Rattle.share_store.specs.Shares.{Shares, ShareKey}
use Rattle.share_moves.specs.Moves.{moved_shares}
use Rattle.share_moves.proofs.Stores.{one_honest, map_at, looked_at_none, looked_at_both, looked_at_one, none_of, some_of}
use Rattle.share_moves.proofs.Wholes.{first_moved_more, all_moved}
use Rattle.share_moves.proofs.strangers.first_stranger.Goals as goal

pub loop-server-init : goal.loop-server-init
loop-server-init g c = record {
  from = looked_at_none g.S.Store.honest g.S.Store.shares c.args.from.now;
  into = looked_at_none g.T.Store.honest g.T.Store.shares c.args.into.now;
  none = λ upright all server lt. absurd (omega (arith, lt));
}

pub loop-server-preserved : goal.loop-server-preserved
loop-server-preserved g c =
    let inv = c.loop-server.invariant in
    let i = c.loop-server.server in
    let into = c.loop-server.into in
    let old = get_or into i c.index-into-server.result in
    let read : old ≡ get_or into i old = ap (λ x. get_or into i x) c.index-into-server.is in
    let lt : i < length into = omega arith in
    let maps = map g.S.Store.shares c.args.from.now in
    let one = c.in_ok-found.ensures in
    record {
      from = looked_at_both inv.from one.kept;
      into = looked_at_one g.T.Store.honest g.T.Store.shares g.T.Store.room g.T.Store.failures c.args.into.now into i old c.stranger_at.new.store lt read inv.into one.looked;
      none = λ upright all.
          let at : slice_get (map g.T.Store.shares c.args.into.now) i ≡ Some (g.T.Store.shares old) = ap (λ (ms : List Shares). slice_get ms i) (sym (inv.into.same_shares all)) ∙ map_at g.T.Store.shares into i old lt read in
          first_moved_more (length c.args.into.now) maps (map g.T.Store.shares c.args.into.now) i (g.T.Store.shares old) at (inv.none upright all)
          (subst (λ (ms : List Shares). (key : ShareKey) (s : List ℕ) → get (g.T.Store.shares old) key ≡ Some s → moved_shares (length c.args.into.now) ms i key ≡ Some s) (inv.from.same_shares upright)
          (one.none (inv.from.still_honest upright) (one_honest g.T.Store.honest into i old lt read (inv.into.still_honest all))
          (none_of c.in_ok-found.found c.is_some.result c.is_some.ensures c.if-is_some.false)));
    }

pub returns-clause-none : goal.returns-clause-none
returns-clause-none g c = λ upright all same.
    let into = map g.T.Store.shares c.args.into.now in
    let whole : length into ≤ c.loop-server.server = omega (arith, c.loop-server-test.false, length-map c.args.into.now g.T.Store.shares) in
    all_moved (length c.args.into.now) (map g.S.Store.shares c.args.from.now) into c.loop-server.server whole (c.loop-server.invariant.none upright all)

pub returns-in_err-found-clause-into : goal.returns-in_err-found-clause-into
returns-in_err-found-clause-into g c = λ all.
    let inv = c.loop-server.invariant in
    let i = c.loop-server.server in
    let into = c.loop-server.into in
    let old = get_or into i c.index-into-server.result in
    let read : old ≡ get_or into i old = ap (λ x. get_or into i x) c.index-into-server.is in
    let lt : i < length into = omega arith in
    (looked_at_one g.T.Store.honest g.T.Store.shares g.T.Store.room g.T.Store.failures c.args.into.now into i old c.stranger_at.new.store lt read inv.into c.in_err-found.ensures.looked).same_shares all

pub returns-then-is_some-clause-from : goal.returns-then-is_some-clause-from
returns-then-is_some-clause-from g c = λ upright. (looked_at_both c.loop-server.invariant.from c.in_ok-found.ensures.kept).same_shares upright

pub returns-then-is_some-clause-into : goal.returns-then-is_some-clause-into
returns-then-is_some-clause-into g c = λ all.
    let inv = c.loop-server.invariant in
    let i = c.loop-server.server in
    let into = c.loop-server.into in
    let old = get_or into i c.index-into-server.result in
    let read : old ≡ get_or into i old = ap (λ x. get_or into i x) c.index-into-server.is in
    let lt : i < length into = omega arith in
    (looked_at_one g.T.Store.honest g.T.Store.shares g.T.Store.room g.T.Store.failures c.args.into.now into i old c.stranger_at.new.store lt read inv.into c.in_ok-found.ensures.looked).same_shares all

pub returns-then-is_some-clause-none : goal.returns-then-is_some-clause-none
returns-then-is_some-clause-none g c = λ upright all same.
    let clash : is_some c.in_ok-found.found ≡ false = ap is_some same in
    let real = some_of c.in_ok-found.found c.is_some.result c.is_some.ensures c.if-is_some.true in cc
