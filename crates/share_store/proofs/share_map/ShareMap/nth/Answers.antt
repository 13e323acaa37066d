use Rattle.std.proofs.Common.{◌∙◌, slice_get, sym, ap}
use Rattle.std.specs.Option.{option_map}
use Rattle.share_store.specs.Shares.{ShareEntry}
use Rattle.share_store.proofs.Levels.{entries_in}
use Rattle.share_store.proofs.Parts.{passed_before, passed_more, passed_to, found_next, found_none}
use Rattle.share_store.proofs.share_map.ShareMap.nth.Goals as goal

pub loop-index-init : goal.loop-index-init
loop-index-init g c =
    let m = c.args.self.now in
    let start = c.start_for-from in
    passed_before g.B.ShareValue.bytes_in m.indexes.entries c.into_iter-index-iterator.result start.result.1 c.args.at start.result.0 m.kept.ordered (c.into_iter-index-iterator.ensures.into_iter_gives ∙ c.range-index-items.ensures.between tt) start.ensures.counted start.ensures.within

pub invariant_of-self-then-left-count : goal.invariant_of-self-then-left-count
invariant_of-self-then-left-count g c =
    let m = c.args.self.now in
    record {
      kept = m.kept;
      counted = passed_to g.B.ShareValue.bytes_in m.indexes.entries c.loop-index.index-iterator c.loop-index.before c.args.at c.loop-index.invariant c.in-Some.index.now c.in-Some.numbers.now c.next.new.self m.kept.ordered c.in-Some.ensures.steps;
    }

pub returns-then-left-count-clause-found : goal.returns-then-left-count-clause-found
returns-then-left-count-clause-found g c =
    let m = c.args.self.now in
    let there = found_next g.B.ShareValue.bytes_in m.indexes.entries c.loop-index.index-iterator c.loop-index.before c.args.at c.loop-index.invariant c.in-Some.index.now c.in-Some.numbers.now c.next.new.self c.len-count.result c.in-Some.ensures.steps c.len-count.ensures.len c.if-left-count.true in
    c.name_under.ensures ∙ ap (option_map (λ (e : ShareEntry). e.0)) (sym (ap (λ es. slice_get es c.args.at) (entries_in g.B.ShareValue.bytes_in m.indexes m.kept) ∙ there))

pub loop-index-preserved : goal.loop-index-preserved
loop-index-preserved g c =
    passed_more g.B.ShareValue.bytes_in c.args.self.now.indexes.entries c.loop-index.index-iterator c.loop-index.before c.args.at c.loop-index.invariant c.in-Some.index.now c.in-Some.numbers.now c.next.new.self c.len-count.result c.in-Some.ensures.steps c.len-count.ensures.len c.if-left-count.false

pub returns-clause-found : goal.returns-clause-found
returns-clause-found g c =
    let m = c.args.self.now in
    ap (option_map (λ (e : ShareEntry). e.0)) (sym (ap (λ es. slice_get es c.args.at) (entries_in g.B.ShareValue.bytes_in m.indexes m.kept)
    ∙ found_none g.B.ShareValue.bytes_in m.indexes.entries c.loop-index.index-iterator c.loop-index.before c.args.at c.loop-index.invariant c.in-None.ensures.steps.0))
