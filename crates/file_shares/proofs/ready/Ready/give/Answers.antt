use Rattle.std.proofs.Common.{◌≡◌, List, map, sym, ap, subst, ◌∙◌}
use Rattle.std.specs.Rc.{rc_slice_items}
use Rattle.file_shares.specs.Gathered.{found_string, Found}
use Rattle.file_shares.specs.Ahead.{AreVerified}
use Rattle.file_shares.proofs.ready.Ready.give.Goals as goal

pub returns-then-are_same : goal.returns-then-are_same
returns-then-are_same c =
    let same : map (found_string rc_slice_items) c.args.self.found.items ≡ map (found_string rc_slice_items) c.args.gathered.now =
    ap (map (found_string rc_slice_items)) (sym c.deref.ensures.value) ∙ c.are_same.ensures c.if-are_same.true in
    subst (λ (found : List Found). AreVerified c.args.self.fields found c.args.self.shares.items) same c.args.self.verified
