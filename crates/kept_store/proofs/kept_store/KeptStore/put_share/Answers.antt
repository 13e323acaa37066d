use Rattle.std.proofs.Common.{◌≡◌, ◌+◌, Err, refl, sym, ap, subst, ◌∙◌}
use Rattle.std.specs.Prelude.{IsTrue}
use Rattle.std.specs.FinMap.{insert, remove}
use Rattle.std.specs.Rc.{rc_slice_items}
use Rattle.share_store.specs.Shares.{Shares}
use Rattle.share_store.specs.Put.{put_once}
use Rattle.share_store.specs.Stored.{shares_in}
use Rattle.share_store.specs.declared.mem_store.MemStore.{MemStore}
use Rattle.kept_store.specs.Changed.{shares_in_memory, WritesThrough}
use Rattle.kept_store.specs.declared.kept_store.KeptStore.{KeptStore}
use Rattle.kept_store.proofs.Steps.{looked_room, told, quiet_keeps, put_is, put_undone}
use Rattle.kept_store.proofs.kept_store.KeptStore.put_share.Given.{Over}
use Rattle.kept_store.proofs.kept_store.KeptStore.put_share.Goals as goal
use Rattle.kept_store.proofs.kept_store.KeptStore.put_share.Goals.{In_ok-_put, After-put-2}

-- taken out of memory again, where none stood
undone : (g : Over) → (c : In_ok-_put g) → (m : Shares) → m ≡ remove (shares_in rc_slice_items c.put.new.self.shares.indexes) (c.args.index, c.args.number) → m ≡ shares_in_memory c.args.self.now
undone g c m is =
    let added = c.in_ok-_put.ensures.shares refl ∙ ap (λ (n : Shares). put_once n (c.args.index, c.args.number) (rc_slice_items c.in_ok-lent.lent)) (c.has.ensures.looked.same_shares refl) in
    is ∙ ap (λ (n : Shares). remove n (c.args.index, c.args.number)) added
    ∙ put_undone (shares_in_memory c.args.self.now) (c.args.index, c.args.number) (rc_slice_items c.in_ok-lent.lent) (sym (c.in_ok-has.ensures.found refl refl) ∙ c.if-branch.false)

-- and what fits in all is as it was
room_undone : (g : Over) → (c : In_ok-_put g) → c.put.new.self.room + c.put.new.self.held ≡ c.args.self.now.memory.room + c.args.self.now.memory.held
room_undone g c = c.in_ok-_put.ensures.room refl ∙ looked_room c.args.self.now.memory c.has.new.self (c.has.ensures.looked.same_shares refl) (c.has.ensures.looked.same_room refl)

-- the shelf was told to put it
through : (g : Over) → (c : After-put-2 g) → {new : KeptStore g.row.H.Denot g.H.Shelf} → new.shelf ≡ c.put-2.new.self → WritesThrough (λ (m : Shares). put_once m (c.args.index, c.args.number) (rc_slice_items c.args.bytes)) c.args.self.now new
through g c same =
    let made = put_is (shares_in_memory c.args.self.now) (c.args.index, c.args.number) (rc_slice_items c.args.bytes) (sym (c.in_ok-has.ensures.found refl refl) ∙ c.if-branch.false) in
    told c.put-2.new.self (λ (m : Shares). insert m (c.args.index, c.args.number) (rc_slice_items c.args.bytes)) c.if-self.false same (sym made) c.put-2.ensures.honest c.put-2.ensures.crash c.put-2.ensures.history

pub returns-in-Ok-clause-through : goal.returns-in-Ok-clause-through
returns-in-Ok-clause-through g c = through g (goal.at.returns-in-Ok-clause-through g c).After-put-2 refl

pub returns-in-Err-NoMemory-clause-through : goal.returns-in-Err-NoMemory-clause-through
returns-in-Err-NoMemory-clause-through g c = through g (goal.at.returns-in-Err-NoMemory-clause-through g c).After-put-2 refl

pub returns-in-Err-Failed-clause-through : goal.returns-in-Err-Failed-clause-through
returns-in-Err-Failed-clause-through g c = through g (goal.at.returns-in-Err-Failed-clause-through g c).After-put-2 c.refuse-in-Err-Failed.ensures.shelf

pub returns-in-Err-NoMemory-clause-done : goal.returns-in-Err-NoMemory-clause-done
returns-in-Err-NoMemory-clause-done g c =
    let put = (goal.at.returns-in-Err-NoMemory-clause-done g c).In_ok-_put in
    record { shares = tt; err = undone g put _ c.remove-undone.ensures.shares; room = c.remove-undone.ensures.room ∙ room_undone g put }

pub returns-in-Err-Failed-clause-done : goal.returns-in-Err-Failed-clause-done
returns-in-Err-Failed-clause-done g c =
    let put = (goal.at.returns-in-Err-Failed-clause-done g c).In_ok-_put in
    let same = c.refuse-in-Err-Failed.ensures.memory in
    record {
      shares = tt;
      err = ap (λ (memory : MemStore). shares_in rc_slice_items memory.shares.indexes) same ∙ undone g put _ c.remove-undone-in-Err-Failed.ensures.shares;
      room = ap (λ (memory : MemStore). memory.room + memory.held) same ∙ c.remove-undone-in-Err-Failed.ensures.room ∙ room_undone g put;
    }

-- where there was no memory for it, the shelf keeps what it kept
pub invariant_of-self-in-Err-NoMemory : goal.invariant_of-self-in-Err-NoMemory
invariant_of-self-in-Err-NoMemory g c =
    let back = undone g (goal.at.invariant_of-self-in-Err-NoMemory g c).In_ok-_put _ c.remove-undone.ensures.shares in
    let quiet = c.in-Err-NoMemory.ensures.no_memory (ap Err c.in-Err-NoMemory.field-0-is) in
    record {
      in_step = λ up h d left.
          let kept = c.args.self.now.in_step up (subst IsTrue c.put-2.ensures.honest h) in
          quiet_keeps g.H.Shelf.moment g.H.Shelf.left_since g.H.Shelf.honest c.args.self.now.shelf c.put-2.new.self (shares_in_memory c.args.self.now) quiet kept d left ∙ sym back;
    }
