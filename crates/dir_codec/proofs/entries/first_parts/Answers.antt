use Rattle.std.proofs.Common.{◌≡◌, ◌-◌, ◌<◌, length, drop, Some, option_map, sym, ap, ◌∙◌, arith}
use Rattle.dir_codec.specs.Cuts.{texts_now, entry_now}
use Rattle.dir_codec.specs.Parts.{first_entry}
use Rattle.dir_codec.specs.Reading.{from_texts, reading_after}
use Rattle.dir_codec.proofs.Belong.{not_zero}
use Rattle.dir_codec.proofs.Steps.{entry_shorter, entry_rest, read_first, read_torn}
use Rattle.dir_codec.proofs.entries.first_parts.Goals as goal

pub returns-in_default-clause-torn : goal.returns-in_default-clause-torn
returns-in_default-clause-torn c last =
    read_torn c.netstrings_are_read_back.ensures.reads_nothing_else last c.args.text.now (not_zero (length c.args.text.now) c.requires) (sym c.first_entry.ensures ∙ ap (option_map entry_now) c.in_default.is)

pub overflow_sub-result : goal.overflow_sub-result
overflow_sub-result c =
    let found = sym c.first_entry.ensures ∙ ap (option_map entry_now) c.in-Some.is in
    let shorter = entry_shorter c.netstrings_are_read_back.ensures.reads_nothing_else c.args.text.now _ found in
    omega (arith, shorter)

pub returns-clause-ok : goal.returns-clause-ok
returns-clause-ok c =
    let law = c.netstrings_are_read_back.ensures.reads_nothing_else in
    let text = c.args.text.now in
    let texts = texts_now c.in-Some.parts in
    let found = sym c.first_entry.ensures ∙ ap (option_map entry_now) c.in-Some.is in
    let shorter : length c.in-Some.more.now < length text = entry_shorter law text _ found in
    let cut : first_entry text ≡ Some (texts, drop (length text - length c.in-Some.more.now) text) = found ∙ ap (λ more. Some (texts, more)) (entry_rest law text _ found) in
    record {
      some = omega (arith, shorter);
      within = omega (arith, shorter);
      cut = cut;
      read = λ last. read_first law last text (not_zero (length text) c.requires) ∙ ap (from_texts reading_after last) cut;
    }
