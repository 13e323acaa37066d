use Rattle.std.proofs.Common.{[], ◌∷◌, ◌++◌, ◌-◌, length, drop, Ok, sym, ap, ◌∙◌, append-nil, arith, length-drop}
use Rattle.std.proofs.lemmas.List.{take_all}
use Rattle.std.proofs.lemmas.Result.{err_from_is_err_and}
use Rattle.dir_codec.specs.Entries.{last_name}
use Rattle.dir_codec.specs.Reading.{reading_after, directory_reading}
use Rattle.dir_codec.proofs.Above.{last_of_more, one_more_above}
use Rattle.dir_codec.specs.Sought.{after_those}
use Rattle.dir_codec.proofs.Steps.{after_one_more, read_all}
use Rattle.dir_codec.proofs.decoder.read_entries.Goals as goal

pub returns-in_err-entry-clause-err : goal.returns-in_err-entry-clause-err
unfolding directory_reading
returns-in_err-entry-clause-err c =
    let those = c.loop-rest.entries.items in
    let named = c.last_name.ensures ∙ ap (last_name []) c.deref.ensures.value in
    let p = err_from_is_err_and c.from_residual.result c.from_residual.ensures.1 in
    rw (p.1, p.2) (λ other. c.loop-rest.invariant.read ∙ ap (after_those those) (ap (λ name. reading_after name c.loop-rest.rest.now) (sym named) ∙ c.in_err-entry.ensures.refused other))

pub loop-rest-preserved : goal.loop-rest-preserved
loop-rest-preserved c =
    let those = c.loop-rest.entries.items in
    let rest = c.loop-rest.rest.now in
    let entry = c.in_ok-entry.entry in
    let size = c.in_ok-entry.size in
    let first = c.in_ok-entry.ensures.read in
    let named = c.last_name.ensures ∙ ap (last_name []) c.deref.ensures.value in
    let more = take_all (length rest - size) (drop size rest) (omega (arith, length-drop size rest)) in
    record {
      read = rw (c.in_ok-push.ensures.items, more)
          (c.loop-rest.invariant.read ∙ ap (λ name. after_those those (reading_after name rest)) (sym named) ∙ ap (after_those those) first.read
          ∙ after_one_more those entry (reading_after entry.name (drop size rest))
          ∙ ap (λ name. after_those (those ++ entry ∷ []) (reading_after name (drop size rest))) (sym (last_of_more [] those entry)));
      kept = rw c.in_ok-push.ensures.items (one_more_above [] c.last_name.result.now those entry c.loop-rest.invariant.kept (sym named) first.above first.kept);
    }

pub returns-clause-ok : goal.returns-clause-ok
unfolding directory_reading
returns-clause-ok c =
    let those = c.loop-rest.entries.items in
    let none = sym c.is_empty.ensures ∙ c.loop-rest-test.false in
    c.loop-rest.invariant.read ∙ ap (after_those those) (read_all (last_name [] those) c.loop-rest.rest.now none) ∙ ap Ok (append-nil those)
