use Rattle.std.proofs.Common.{◌≡◌, ◌∷◌, ◌-◌, [], Bool, List, length, take, drop, sym, arith}
use Rattle.std.proofs.lemmas.List.{append-nil}
use Rattle.std.specs.Rc.{rc_slice_items}
use Rattle.share_store.specs.Shares.{Shares}
use Rattle.share_store.specs.Stored.{shares_in}
use Rattle.kept_store.specs.Calls.{after_call}
use Rattle.kept_store.specs.declared.calls.Call.{Call}
use Rattle.kept_store.proofs.Runs.{none_run, cut_run, first_call, refused_so, granted_so, more_answers, answered_is}
use Rattle.kept_store.proofs.kept_store.KeptStore.+run.Goals as goal

pub returns-in_default-clause-ran : goal.returns-in_default-clause-ran
returns-in_default-clause-ran g t c =
    let m : Shares = shares_in rc_slice_items c.args.self.now.memory.shares.indexes in
    ([], (sym (append-nil c.args.answers.now.items), omega arith), none_run g.H.Shelf.moment g.H.Shelf.left_since g.H.Shelf.honest c.args.calls.now c.args.self.now.down c.args.self.now.shelf m)

pub returns-in_err-push-clause-ran : goal.returns-in_err-push-clause-ran
returns-in_err-push-clause-ran g t c =
    let m : Shares = shares_in rc_slice_items c.args.self.now.memory.shares.indexes in
    let n : Shares = shares_in rc_slice_items c.call.new.self.memory.shares.indexes in
    let call : Call = c.call-item.result in
    let rest : List Call = take (length c.args.calls.now - 1) (drop 1 c.args.calls.now) in
    let ok : Bool = c.is_ok-granted.result in
    let cut : c.args.calls.now ≡ call ∷ rest = first_call c.args.calls.now call c.in-len1-up.len_at_least c.call-item.is in
    let is : n ≡ after_call call ok m = answered_is call m n c.call.result ok c.is_ok-granted.ensures.value c.call.ensures.done.shares c.call.ensures.done.err in (
      ok ∷ [],
      refused_so c.from_residual.result _ c.from_residual.ensures.0,
      cut_run g.H.Shelf.moment g.H.Shelf.left_since g.H.Shelf.honest c.args.calls.now call rest ok [] c.args.self.now.down c.call.new.self.down c.args.self.now.shelf c.call.new.self.shelf c.call.new.self.shelf m n n cut c.call.ensures.through.crash is c.call.ensures.failing.stays_down
          (none_run g.H.Shelf.moment g.H.Shelf.left_since g.H.Shelf.honest rest c.call.new.self.down c.call.new.self.shelf n),
    )

pub returns-clause-ran : goal.returns-clause-ran
returns-clause-ran g t c =
    let m : Shares = shares_in rc_slice_items c.args.self.now.memory.shares.indexes in
    let n : Shares = shares_in rc_slice_items c.call.new.self.memory.shares.indexes in
    let e : Shares = shares_in rc_slice_items c.run.new.self.memory.shares.indexes in
    let call : Call = c.call-item.result in
    let rest : List Call = take (length c.args.calls.now - 1) (drop 1 c.args.calls.now) in
    let ok : Bool = c.is_ok-granted.result in
    let oks : List Bool = c.run.ensures.ran.0 in
    let cut : c.args.calls.now ≡ call ∷ rest = first_call c.args.calls.now call c.in-len1-up.len_at_least c.call-item.is in
    let is : n ≡ after_call call ok m = answered_is call m n c.call.result ok c.is_ok-granted.ensures.value c.call.ensures.done.shares c.call.ensures.done.err in (
      ok ∷ oks,
      granted_so c.run.result _ _ (more_answers c.args.answers.now.items c.push.new.self.items c.run.new.answers.items ok oks c.args.calls.now rest call c.in_ok-push.ensures.items cut) c.run.ensures.ran.1,
      cut_run g.H.Shelf.moment g.H.Shelf.left_since g.H.Shelf.honest c.args.calls.now call rest ok oks c.args.self.now.down c.call.new.self.down c.args.self.now.shelf c.call.new.self.shelf c.run.new.self.shelf m n e cut c.call.ensures.through.crash is c.call.ensures.failing.stays_down c.run.ensures.ran.2,
    )
