use Rattle.std.proofs.Common.{true, false, suc, ◌∷◌, ◌++◌, refl, sym, ap, ◌∙◌}
use Rattle.std.proofs.Math.Bool.{or-false}
use Rattle.std.proofs.lemmas.Result.{on_ok_weaker}
use Rattle.std.specs.String.{string_bytes}
use Rattle.json.specs.Print.{quoted}
use Rattle.serde_json.specs.Data.{items_depth, null, boolean, string, array, object}
use Rattle.serde_json.specs.View.{view, items_view, members_view}
use Rattle.serde_json.specs.Written.{items_have_float, items_text}
use Rattle.serde_json.proofs.Views.{view-Array, view-Object}
use Rattle.json_tree.specs.Parts.{items_part_count}
use Rattle.json_tree.specs.declared.rest.Rest.{Rest}
use Rattle.json_tree.proofs.Begun.{token_begun, opened, on_three}
use Rattle.json_tree.proofs.Frames.{view-Null, view-Bool, view-String}
use Rattle.json_tree.proofs.writer.TextWriter.begin.Goals as goal

pub returns-in-Array : goal.returns-in-Array
returns-in-Array c =
    let same = sym c.from_vec.ensures.items in
    on_three c.open.result
    (λ out rests levels. opened c.args.self.now c.open.new.self c.args.value (array (items_view c.in-Array.items.items)) 91 (Rest.Items c.from_vec.result false) (ap view c.in-Array.is ∙ view-Array c.in-Array.items)
    (ap (λ vs. 91 ∷ items_text false (items_view vs)) same) (ap (λ vs. suc (items_depth (items_view vs))) same) (ap (λ vs. items_have_float (items_view vs)) same) (ap (λ vs. suc (suc (items_part_count (items_view vs)))) same)
    out rests levels c.open.ensures.fractional c.open.ensures.next)
    c.open.ensures.out c.open.ensures.rests c.open.ensures.levels

pub returns-in-Object : goal.returns-in-Object
returns-in-Object c =
    on_three c.open-in-Object.result
    (λ out rests levels. opened c.args.self.now c.open-in-Object.new.self c.args.value (object (members_view c.in-Object.members.entries)) 123 (Rest.Members c.in-Object.members false) (ap view c.in-Object.is ∙ view-Object c.in-Object.members)
    refl refl refl refl out rests levels c.open-in-Object.ensures.fractional c.open-in-Object.ensures.next)
    c.open-in-Object.ensures.out c.open-in-Object.ensures.rests c.open-in-Object.ensures.levels

pub returns-in-String : goal.returns-in-String
returns-in-String c =
    on_ok_weaker c.put_string.result
    (λ put. token_begun c.args.self.now _ c.args.value (string (string_bytes c.in-String.text)) (ap view c.in-String.is ∙ view-String c.in-String.text) refl refl
    (put ∙ ap (λ s. c.args.self.now.out.items ++ quoted s) c.as_str.ensures.value) (sym (or-false c.args.self.now.fractional)) refl refl refl)
    c.put_string.ensures

pub returns-in-Bool-true : goal.returns-in-Bool-true
returns-in-Bool-true c =
    on_ok_weaker c.put_word.result
    (λ put. token_begun c.args.self.now _ c.args.value (boolean true) (ap view c.in-Bool-true.is ∙ view-Bool c.in-Bool-true.field-0 ∙ ap boolean c.in-Bool-true.field-0-test) refl refl put (sym (or-false c.args.self.now.fractional)) refl refl refl)
    c.put_word.ensures

pub returns-in-Bool-false : goal.returns-in-Bool-false
returns-in-Bool-false c =
    on_ok_weaker c.put_word-in-Bool-false.result
    (λ put. token_begun c.args.self.now _ c.args.value (boolean false) (ap view c.in-Bool-false.is ∙ view-Bool c.in-Bool-false.field-0 ∙ ap boolean c.in-Bool-false.field-0-test) refl refl put (sym (or-false c.args.self.now.fractional)) refl refl refl)
    c.put_word-in-Bool-false.ensures

pub returns-in-Null : goal.returns-in-Null
returns-in-Null c =
    on_ok_weaker c.put_word-in-Null.result
    (λ put. token_begun c.args.self.now _ c.args.value null (ap view c.in-Null.is ∙ view-Null) refl refl put (sym (or-false c.args.self.now.fractional)) refl refl refl)
    c.put_word-in-Null.ensures
