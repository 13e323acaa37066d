use Rattle.std.proofs.Common.{ap, sym, ◌∙◌, arith}
use Rattle.std.specs.Rc.{rc_slice_items}
use Rattle.share_store.specs.Shares.{bytes_of}
use Rattle.share_store.proofs.Sizes.{inserted}
use Rattle.share_store.proofs.Stands.{some_put, none_by}
use Rattle.share_store.proofs.mem_store.MemStoreStore.put.Goals as goal

pub invariant_of-self-2-clause-summed : goal.invariant_of-self-2-clause-summed
invariant_of-self-2-clause-summed c =
    let none = sym c.get.ensures ∙ none_by (λ bytes. rc_slice_items bytes.now) c.get.result c.is_some.result c.is_some.ensures c.if-is_some.false in
    omega (arith, ap bytes_of c.in_ok-insert.ensures.ok ∙ inserted _ (c.args.index, c.args.number) (rc_slice_items c.args.bytes) none, c.args.self.now.summed, c.len-len.ensures)

pub invariant_of-self-2-clause-some : goal.invariant_of-self-2-clause-some
invariant_of-self-2-clause-some c = some_put _ _ (c.args.index, c.args.number) (rc_slice_items c.args.bytes) c.args.self.now.some c.requires c.in_ok-insert.ensures.ok
