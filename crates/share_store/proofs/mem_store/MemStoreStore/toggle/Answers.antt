use Rattle.std.proofs.Common.{◌≡◌, ◌<◌, ap, sym, ◌∙◌, arith, length}
use Rattle.std.specs.Option.{option_map}
use Rattle.std.specs.Rc.{rc_slice_items}
use Rattle.share_store.specs.Stored.{shares_in}
use Rattle.share_store.specs.Toggle.{toggled}
use Rattle.share_store.proofs.Toggling.{length-toggled}
use Rattle.share_store.proofs.Stands.{found_from_all, some_put_or, bytes_put_or}
use Rattle.share_store.proofs.mem_store.MemStoreStore.toggle.Goals as goal

pub invariant_of-self : goal.invariant_of-self
invariant_of-self c =
    let m = shares_in rc_slice_items c.args.self.now.shares.indexes in
    let n = shares_in rc_slice_items c.insert.new.self.indexes in
    let was = rc_slice_items c.in-Some.bytes.now in
    let now = rc_slice_items c.in_ok-changed.changed in
    let found = sym c.get.ensures ∙ ap (option_map (λ bytes. rc_slice_items bytes.now)) c.in-Some.is in
    let is : now ≡ toggled was c.args.place = c.in_ok-changed.ensures ∙ ap (λ bytes. toggled bytes c.args.place) c.as_slice.ensures.value in
    let long : length now ≡ length was = ap length is ∙ length-toggled was c.args.place in
    let some : 0 < length was = found_from_all m c.args.self.now.some (c.args.index, c.args.number) was found in
    record {
      summed = c.args.self.now.summed ∙ sym (bytes_put_or m n (c.args.index, c.args.number) now was c.insert.result found long c.insert.ensures.ok c.insert.ensures.err);
      some = some_put_or m n (c.args.index, c.args.number) now c.insert.result c.args.self.now.some (omega arith) c.insert.ensures.ok c.insert.ensures.err;
      fits = c.args.self.now.fits;
    }
