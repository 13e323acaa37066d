use Rattle.std.proofs.Common.{arith}
use Rattle.json_spelling.proofs.CutPlaces.{cut_seen, seen_on, cut_inside}
use Rattle.json_spelling.proofs.comma_search.CommaSearch.step.Goals as goal

pub returns-in-Some-clause-searched : goal.returns-in-Some-clause-searched
returns-in-Some-clause-searched c at before =
    let old = c.args.self.now in
    seen_on c.cuts_are_found_in_parts.ensures.modes c.args.text.now at old.reached c.min-end.result old.scanner c.last_cut-cut.new.self (omega (arith, c.min-end.ensures, c.saturating_add.ensures))
    (omega (arith, c.min-end.ensures)) c.in-Some.ensures.mode before

pub returns-in-Some-clause-cut : goal.returns-in-Some-clause-cut
returns-in-Some-clause-cut c =
    let text = c.args.text.now in
    let old = c.args.self.now in
    let law = c.cuts_are_found_in_parts.ensures in
    let end = c.min-end.result in
    let cut = c.in-Some.ensures.cut.0 in
    let inside = cut_inside text old.reached end c.in-Some.cut old.scanner (omega (arith, c.min-end.ensures, c.saturating_add.ensures)) (omega (arith, c.min-end.ensures)) cut in (
      omega arith,
      inside,
      λ at before.
          cut_seen (λ mode before bytes at. (law.places mode before bytes at).0) text at old.reached end c.in-Some.cut old.scanner (omega (arith, c.min-end.ensures, c.saturating_add.ensures)) (omega (arith, c.min-end.ensures)) cut before,
    )

pub returns-clause-searched : goal.returns-clause-searched
returns-clause-searched c at before =
    let old = c.args.self.now in
    seen_on c.cuts_are_found_in_parts.ensures.modes c.args.text.now at old.reached c.min-end.result old.scanner c.last_cut-cut.new.self (omega (arith, c.min-end.ensures, c.saturating_add.ensures))
    (omega (arith, c.min-end.ensures)) c.in_default.ensures.mode before
