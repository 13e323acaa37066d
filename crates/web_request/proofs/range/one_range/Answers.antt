use Rattle.std.proofs.Common.{sym, ◌∙◌}
use Rattle.web_request.proofs.RangeLemmas.{one_is_first, not_one_range}
use Rattle.web_request.proofs.range.one_range.Goals as goal

pub returns-then-count_ranges-ne1 : goal.returns-then-count_ranges-ne1
returns-then-count_ranges-ne1 c = not_one_range c.args.fields.now (rw (← c.count_ranges.ensures) c.if-count_ranges-ne1.true)

pub returns : goal.returns
returns c = c.first_range.ensures ∙ one_is_first c.args.fields.now (sym c.count_ranges.ensures ∙ c.if-count_ranges-ne1.false)
