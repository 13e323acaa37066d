use Rattle.std.proofs.Common.{◌≡◌, ◌∙◌, List, Some, None, map, slice_get, sym, ap, subst}
use Rattle.std.specs.FinMap.{entries}
use Rattle.std.specs.Option.{option_map}
use Rattle.share_store.specs.Shares.{Shares}
use Rattle.share_store.specs.Stored.{entry_of}
use Rattle.share_moves.specs.Moves.{moved_shares}
use Rattle.share_moves.proofs.Pushes.{each_more}
use Rattle.share_moves.proofs.Stores.{looked_none, looked_both, looked_at_none, looked_at_both}
use Rattle.share_moves.proofs.Wholes.{all_found}
use Rattle.share_moves.proofs.strangers.stranger_at.Goals as goal

pub loop-at-init : goal.loop-at-init
loop-at-init g c = record {
  kept = looked_at_none g.S.Store.honest g.S.Store.shares c.args.from.now;
  looked = looked_none g.T.Store.honest g.T.Store.shares g.T.Store.room g.T.Store.failures c.args.store.now;
  none = λ all honest key s is. cc;
}

pub loop-at-preserved : goal.loop-at-preserved
loop-at-preserved g c =
    let inv = c.loop-at.invariant in
    let share = c.in-Some.share in
    let es = entries (g.T.Store.shares c.args.store.now) in
    let maps = map g.S.Store.shares c.args.from.now in
    record {
      kept = looked_at_both inv.kept c.is_moved.ensures.kept;
      looked = looked_both inv.looked c.in_ok-share.ensures.looked;
      none = λ all honest.
          let at : slice_get es c.loop-at.at ≡ Some (entry_of share) =
          sym (sym (ap (option_map entry_of) c.in-Some.is) ∙ c.in_ok-share.ensures.found (inv.looked.still_honest honest) ∙ ap (λ (m : Shares). slice_get (entries m) c.loop-at.at) (inv.looked.same_shares honest)) in
          each_more (λ key s. moved_shares c.args.servers maps c.args.server key ≡ Some s) es c.loop-at.at (entry_of share) at (inv.none all honest)
          (subst (λ (ms : List Shares). moved_shares c.args.servers ms c.args.server (share.index, share.number) ≡ Some (entry_of share).1) (inv.kept.same_shares all)
          (c.in_ok-is_moved.ensures.yes (inv.kept.still_honest all) c.if-not-branch.false));
    }

pub returns-in_default-clause-none : goal.returns-in_default-clause-none
returns-in_default-clause-none g c = λ all honest same key s is.
    let inv = c.loop-at.invariant in
    let m = g.T.Store.shares c.args.store.now in
    let gone = c.in_default.is in
    let none : slice_get (entries m) c.loop-at.at ≡ None =
    sym (sym (ap (option_map entry_of) gone) ∙ c.in_ok-share.ensures.found (inv.looked.still_honest honest) ∙ ap (λ (n : Shares). slice_get (entries n) c.loop-at.at) (inv.looked.same_shares honest)) in
    inv.none all honest key s (all_found m c.loop-at.at key none ∙ is)

pub returns-in_err-is_moved-clause-kept : goal.returns-in_err-is_moved-clause-kept
returns-in_err-is_moved-clause-kept g c = looked_at_both c.loop-at.invariant.kept c.is_moved.ensures.kept

pub returns-in_err-is_moved-clause-looked : goal.returns-in_err-is_moved-clause-looked
returns-in_err-is_moved-clause-looked g c = looked_both c.loop-at.invariant.looked c.in_ok-share.ensures.looked

pub returns-then-not-branch-clause-kept : goal.returns-then-not-branch-clause-kept
returns-then-not-branch-clause-kept g c = looked_at_both c.loop-at.invariant.kept c.is_moved.ensures.kept

pub returns-then-not-branch-clause-looked : goal.returns-then-not-branch-clause-looked
returns-then-not-branch-clause-looked g c = looked_both c.loop-at.invariant.looked c.in_ok-share.ensures.looked
