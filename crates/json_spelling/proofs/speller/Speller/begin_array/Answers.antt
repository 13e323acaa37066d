use Rattle.std.proofs.Common.{◌+◌, ◌<◌, ◌≤◌, length, false, refl, arith}
use Rattle.json.specs.Token.{Token}
use Rattle.json.specs.Json as json
use Rattle.json_stack.specs.Machine.{in_array}
use Rattle.serde_json.specs.Data.{no_items}
use Rattle.json_spelling.specs.Spelled.{IsExtent}
use Rattle.json_spelling.specs.Speller.{data_array}
use Rattle.json_spelling.specs.declared.speller.Opened.{Opened}
use Rattle.json_spelling.proofs.Following.{frame_begun, frame_refused, too_deep}
use Rattle.json_spelling.proofs.speller.Speller.begin_array.Goals as goal

pub returns-in_err-begin_value-clause-err : goal.returns-in_err-begin_value-clause-err
returns-in_err-begin_value-clause-err c not_json = frame_refused Token.begin_array (in_array json.no_items) (λ room frames. refl) c.args.self.now (c.begin_value.ensures.err (grind arith))

pub returns-in_err-level-clause-err : goal.returns-in_err-level-clause-err
returns-in_err-level-clause-err c not_json =
    let deep : c.begin_value.new.self.levels ≤ length c.begin_value.new.self.opened.items = grind arith in
    too_deep Token.begin_array (in_array json.no_items) (λ room frames. refl) c.args.self.now c.begin_value.new.self c.in_ok-begin_value.ensures.ok deep

pub returns-clause-ok : goal.returns-clause-ok
returns-clause-ok c =
    let begun = c.begin_value.new.self in
    let level = c.in_ok-level.level in
    let deep : length begun.opened.items < begun.levels = grind arith in
    let level_is : IsExtent level (length begun.opened.items + 1) false = (grind arith, grind arith) in
    λ s at. frame_begun Token.begin_array (in_array json.no_items) (data_array no_items) (Opened.Array false) 91 (λ room frames. refl) refl refl refl refl refl refl begun _ level deep level_is c.beside-self.ensures c.in_ok-push.ensures.items c.in_ok-push-2.ensures.items refl refl s (c.in_ok-begin_value.ensures.ok s at)
