use Rattle.std.proofs.Common.{◌≡◌, ◌∙◌, Some, None, IsTrue, length, map, slice_get, sym, ap, subst}
use Rattle.std.specs.FinMap.{entries}
use Rattle.std.specs.Option.{option_map}
use Rattle.share_store.specs.Shares.{Shares}
use Rattle.share_store.specs.Stored.{entry_of}
use Rattle.grid.specs.Standing.{standing}
use Rattle.grid.specs.Placement.{server_of}
use Rattle.share_moves.specs.Steps.{single_share, with_found}
use Rattle.share_moves.proofs.Pushes.{found_none, found_alike, found_more, more_in_place}
use Rattle.share_moves.proofs.Stores.{looked_none, looked_both}
use Rattle.share_moves.proofs.Wholes.{all_found}
use Rattle.share_moves.proofs.moving.move_server.Goals as goal

pub loop-at-init : goal.loop-at-init
loop-at-init g c = record {
  looked = looked_none g.S.Store.honest g.S.Store.shares g.S.Store.room g.S.Store.failures c.args.from.now;
  honest = λ all. all;
  moved = λ honest all. sym (found_none (length c.args.into.now) (standing (map g.T.Store.shares c.args.into.now)));
  there = λ honest all none. (none, λ key s is. cc);
}

pub loop-at-preserved : goal.loop-at-preserved
loop-at-preserved g c =
    let inv = c.loop-at.invariant in
    let count = length c.args.into.now in
    let share = c.in-Some.share in
    let es = entries (g.S.Store.shares c.args.from.now) in
    let before = standing (map g.T.Store.shares c.args.into.now) in
    let mid = standing (map g.T.Store.shares c.loop-at.into) in
    let new = standing (map g.T.Store.shares c.put_share.new.into) in
    let one = c.in_ok-put_share-in-Some.ensures in
    let at : IsTrue (g.S.Store.honest c.args.from.now) → slice_get es c.loop-at.at ≡ Some (entry_of share) = λ honest.
    sym (sym (ap (option_map entry_of) c.in-Some.is) ∙ c.in_ok-share_at.ensures.found (inv.looked.still_honest honest) ∙ ap (λ (m : Shares). slice_get (entries m) c.loop-at.at) (inv.looked.same_shares honest)) in
    record {
      looked = looked_both inv.looked c.in_ok-share_at.ensures.looked;
      honest = λ all. one.honest (inv.honest all);
      moved = λ honest all. found_more count es c.loop-at.at (entry_of share) before mid new (at honest) (inv.moved honest all)
          (subst (λ n. new ≡ with_found n (single_share (entry_of share).0 (entry_of share).1) mid) c.loop-at.auto.into (one.moved (inv.honest all)));
      there = λ honest all none.
          let now = one.there (inv.honest all) none in
          let then = inv.there honest all now.0 in (
            then.0,
            more_in_place count es c.loop-at.at (entry_of share) mid new (at honest)
                (subst (λ n. new ≡ with_found n (single_share (entry_of share).0 (entry_of share).1) mid) c.loop-at.auto.into (one.moved (inv.honest all)))
                then.1
                (subst (λ n. new (server_of n (entry_of share).0.0 (entry_of share).0.1) (entry_of share).0 ≡ Some (entry_of share).1) c.loop-at.auto.into now.1),
          );
    }

pub returns-in-None-clause-moved : goal.returns-in-None-clause-moved
returns-in-None-clause-moved g c = λ honest all.
    let inv = c.loop-at.invariant in
    let m = g.S.Store.shares c.args.from.now in
    let none : slice_get (entries m) c.loop-at.at ≡ None =
    sym (sym (ap (option_map entry_of) c.in-None.is) ∙ c.in_ok-share_at.ensures.found (inv.looked.still_honest honest) ∙ ap (λ (n : Shares). slice_get (entries n) c.loop-at.at) (inv.looked.same_shares honest)) in
    inv.moved honest all ∙ found_alike (length c.args.into.now) _ _ (standing (map g.T.Store.shares c.args.into.now)) (λ q. all_found m c.loop-at.at q none)

pub returns-in-None-clause-there : goal.returns-in-None-clause-there
returns-in-None-clause-there g c = λ honest all left.
    let inv = c.loop-at.invariant in
    let m = g.S.Store.shares c.args.from.now in
    let none : slice_get (entries m) c.loop-at.at ≡ None =
    sym (sym (ap (option_map entry_of) c.in-None.is) ∙ c.in_ok-share_at.ensures.found (inv.looked.still_honest honest) ∙ ap (λ (n : Shares). slice_get (entries n) c.loop-at.at) (inv.looked.same_shares honest)) in
    let there = inv.there honest all left in
    (there.0, λ key s is. there.1 key s (all_found m c.loop-at.at key none ∙ is))

pub returns-in-None-clause-looked : goal.returns-in-None-clause-looked
returns-in-None-clause-looked g c = looked_both c.loop-at.invariant.looked c.in_ok-share_at.ensures.looked

pub returns-in_err-share_at-clause-looked : goal.returns-in_err-share_at-clause-looked
returns-in_err-share_at-clause-looked g c = looked_both c.loop-at.invariant.looked c.in_err-share_at.ensures.looked

pub returns-in_err-put_share-in-Some-clause-looked : goal.returns-in_err-put_share-in-Some-clause-looked
returns-in_err-put_share-in-Some-clause-looked g c = looked_both c.loop-at.invariant.looked c.in_ok-share_at.ensures.looked
