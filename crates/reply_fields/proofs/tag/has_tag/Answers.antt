use Rattle.std.proofs.Common.{List, ℕ, rules, tests}
use Rattle.std.proofs.lemmas.Iterator.Search.{any_from_yields_List}
use Rattle.std.proofs.lemmas.Iterator.Splits.{YieldsList-from_slice_split}
use Rattle.httparse.specs.Grammar.{trim_ows}
use Rattle.http_edge.specs.Judge.{is_comma}
use Rattle.reply_fields.specs.Tags.{is_weakly, has_tag}
use Rattle.reply_fields.proofs.tag.has_tag.Goals as goal

pub returns : goal.returns
unfolding has_tag
returns c =
    any_from_yields_List (λ (piece : List ℕ). is_weakly c.args.tag.now (trim_ows piece)) _ _ _ c.any.ensures.ran
    (YieldsList-from_slice_split _ is_comma c.args.value.now c.split.ensures.rest c.split.ensures.done c.split.ensures.closure (λ x b q k. search (rules, tests)))
    (λ x b q k. search (rules, tests))
