use Rattle.std.proofs.Common.{◌≡◌, ◌-◌, ◌≤◌, length, drop, true, false, None, option_map, refl, sym, ap, ◌∙◌, subst, arith, length-drop}
use Rattle.std.proofs.lemmas.List.{take_all}
use Rattle.std.specs.Bool.{then_some}
use Rattle.std.specs.Option.{option_or}
use Rattle.std.specs.Prelude.{bytes_eq}
use Rattle.dir_codec.specs.Cuts.{texts_now, entry_now}
use Rattle.json_spelling.specs.Judging.{IsJudgedBehind, judged_bytes}
use Rattle.dir_codec.specs.Parts.{first_entry}
use Rattle.dir_codec.specs.Reading.{entry_reading}
use Rattle.json_spelling.specs.declared.judging.Judged.{Judged}
use Rattle.dir_codec.proofs.EntrySizes.{metadata_sizes}
use Rattle.dir_codec.proofs.NextEntries.{torn_sought, fault_sought, none_sought, judged_on, entry_sought}
use Rattle.dir_codec.proofs.SoughtNames.{all_read}
use Rattle.dir_codec.proofs.finder.Finder.with_next.Goals as goal

pub returns-then-at-text-clause-found : goal.returns-then-at-text-clause-found
returns-then-at-text-clause-found c name so = c.sought_of.ensures ∙ all_read name c.args.text.now c.args.self so (omega (arith, c.if-at-text.true))

pub returns-in_default-clause-found : goal.returns-in_default-clause-found
returns-in_default-clause-found c name so =
    let text = c.args.text.now in
    let at = c.args.self.at in
    let rest = take_all (length text - at) (drop at text) (omega (arith, length-drop at text)) in
    let none : first_entry (drop at text) ≡ None = ap first_entry (sym rest) ∙ sym c.first_entry.ensures ∙ ap (option_map entry_now) c.in_default.is in
    torn_sought c.netstrings_are_read_back.ensures.reads_nothing_else name text c.args.self so c.if-at-text.false none

pub returns-in-More-clause-found : goal.returns-in-More-clause-found
returns-in-More-clause-found c name so =
    let text = c.args.text.now in
    let at = c.args.self.at in
    let rest = take_all (length text - at) (drop at text) (omega (arith, length-drop at text)) in
    let found = ap first_entry (sym rest) ∙ sym c.first_entry.ensures ∙ ap (option_map entry_now) c.in-Some.is in
    judged_on c.netstrings_are_read_back.ensures.reads_nothing_else name text c.args.self so c.if-at-text.false (texts_now c.in-Some.parts) c.in-Some.more.now found
    _ c.in-More.judging c.in_ok-judging.field-0 c.in-More.is c.in_ok-judging.ensures.judged refl refl refl refl refl

pub overflow_sub-result : goal.overflow_sub-result
overflow_sub-result c =
    let text = c.args.text.now in
    let at = c.args.self.at in
    let rest = take_all (length text - at) (drop at text) (omega (arith, length-drop at text)) in
    let found = ap first_entry (sym rest) ∙ sym c.first_entry.ensures ∙ ap (option_map entry_now) c.in-Some.is in
    let sizes = metadata_sizes c.netstrings_are_read_back.ensures.reads_nothing_else (drop at text) (texts_now c.in-Some.parts, c.in-Some.more.now) found in
    omega (arith, sizes, length-drop at text)

pub returns-in-Ok-clause-found : goal.returns-in-Ok-clause-found
returns-in-Ok-clause-found c name so =
    let text = c.args.text.now in
    let self = c.args.self in
    let at = self.at in
    let rest = take_all (length text - at) (drop at text) (omega (arith, length-drop at text)) in
    let found = ap first_entry (sym rest) ∙ sym c.first_entry.ensures ∙ ap (option_map entry_now) c.in-Some.is in
    let read = c.in-Ok.field-0.name in
    let same : bytes_eq c.as_str-in-Ok.result.now c.as_str-in-Ok-2.result.now ≡ bytes_eq read self.name = rw (c.as_str-in-Ok.ensures, c.as_str-in-Ok-2.ensures) refl in
    let is : c.eq-is_sought.result ≡ bytes_eq read self.name = c.eq-is_sought.ensures ∙ same in
    let last = c.as_bytes.ensures.value ∙ c.as_str.ensures in
    let reading = ap (λ name. entry_reading name (texts_now c.in-Some.parts)) (sym last) ∙ c.in-Ok.ensures.ok in
    entry_sought c.netstrings_are_read_back.ensures.reads_nothing_else name text self so c.if-at-text.false (texts_now c.in-Some.parts) c.in-Some.more.now found
    _ c.in_ok-judging.field-0 read c.in-Ok.field-0.cap (c.in-Done-true.is ∙ ap (λ b. Judged.Done b) c.in-Done-true.field-0-test) c.in_ok-judging.ensures.judged reading refl refl refl refl
    (c.or.ensures ∙ ap (option_or self.found) (c.then_some.ensures ∙ ap (λ sought. then_some sought c.in-Ok.field-0.cap) is))

pub returns-in-Ok-clause-ahead : goal.returns-in-Ok-clause-ahead
returns-in-Ok-clause-ahead c =
    let text = c.args.text.now in
    let at = c.args.self.at in
    let rest = take_all (length text - at) (drop at text) (omega (arith, length-drop at text)) in
    let found = ap first_entry (sym rest) ∙ sym c.first_entry.ensures ∙ ap (option_map entry_now) c.in-Some.is in
    let sizes = metadata_sizes c.netstrings_are_read_back.ensures.reads_nothing_else (drop at text) (texts_now c.in-Some.parts, c.in-Some.more.now) found in
    let judged : judged_bytes c.args.self.judging ≤ length c.in-Some.parts.metadata.now =
    subst (IsJudgedBehind c.in-Some.parts.metadata.now (judged_bytes c.args.self.judging)) (c.in-Done-true.is ∙ ap (λ b. Judged.Done b) c.in-Done-true.field-0-test) c.in_ok-judging.ensures.behind refl in
    omega (arith, sizes, length-drop at text)

pub returns-in-Done-false-clause-found : goal.returns-in-Done-false-clause-found
returns-in-Done-false-clause-found c name so =
    let text = c.args.text.now in
    let at = c.args.self.at in
    let rest = take_all (length text - at) (drop at text) (omega (arith, length-drop at text)) in
    let found = ap first_entry (sym rest) ∙ sym c.first_entry.ensures ∙ ap (option_map entry_now) c.in-Some.is in
    none_sought c.netstrings_are_read_back.ensures.reads_nothing_else name text c.args.self so c.if-at-text.false (texts_now c.in-Some.parts) c.in-Some.more.now found
    c.in_ok-judging.field-0 (c.in-Done-false.is ∙ ap (λ b. Judged.Done b) c.in-Done-false.field-0-test) c.in_ok-judging.ensures.judged

pub returns-clause-found : goal.returns-clause-found
returns-clause-found c name so =
    let text = c.args.text.now in
    let at = c.args.self.at in
    let rest = take_all (length text - at) (drop at text) (omega (arith, length-drop at text)) in
    let found = ap first_entry (sym rest) ∙ sym c.first_entry.ensures ∙ ap (option_map entry_now) c.in-Some.is in
    let last = c.as_bytes.ensures.value ∙ c.as_str.ensures in
    let refused = c.in-Err.ensures.err (λ none. absurd (let h : false ≡ true = c.if-is_memory.ensures.1 none in cc)) in
    fault_sought c.netstrings_are_read_back.ensures.reads_nothing_else name text c.args.self so c.if-at-text.false (texts_now c.in-Some.parts) c.in-Some.more.now found c.in-Err.fault
    (ap (λ name. entry_reading name (texts_now c.in-Some.parts)) (sym last) ∙ refused)
