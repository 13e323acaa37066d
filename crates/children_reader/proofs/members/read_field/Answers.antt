use Rattle.std.specs.Str.{IsUtf8}
use Rattle.std.proofs.Common.{◌≡◌, [], ◌∷◌, ◌++◌, true, sym, ap, ◌∙◌, subst, refl, arith}
use Rattle.json.specs.Json.{value}
use Rattle.json.specs.Reads.{token_of}
use Rattle.json.proofs.Grammar.{value_is}
use Rattle.serde_json.specs.Data.{null, string}
use Rattle.serde_json.specs.Read.{of_json, converted}
use Rattle.serde_json.specs.Written.{compact_text}
use Rattle.json.specs.Token.{Token}
use Rattle.json_spelling.proofs.ReadData.{null_read, string_read}
use Rattle.children_reader.proofs.ReadChildren.{is_passed, an_object, other_field}
use Rattle.json_spelling.proofs.SoundLemmas.{converted_sound}
use Rattle.children_reader.proofs.members.read_field.Goals as goal

pub returns-in_err-token-clause-err : goal.returns-in_err-token-clause-err
returns-in_err-token-clause-err c not_json =
    let empty : c.args.reader.now ≡ [] = grind arith in
    ap (converted of_json) (ap (value c.args.depth) empty ∙ value_is c.args.depth [])

pub returns-in-Null-clause-ok : goal.returns-in-Null-clause-ok
returns-in-Null-clause-ok c =
    let first : c.args.reader.now ≡ token_of c.in_ok-token.token ∷ c.next.new.self = grind arith in
    let is = first ∙ ap (λ k. token_of k ∷ c.next.new.self) c.in-Null.is in
    (null, ap (λ ts. converted of_json (value c.args.depth ts)) is ∙ null_read c.args.depth c.next.new.self, refl)

pub returns-in_ok-from_str-in-String-clause-ok : goal.returns-in_ok-from_str-in-String-clause-ok
returns-in_ok-from_str-in-String-clause-ok c =
    let first : c.args.reader.now ≡ token_of c.in_ok-token.token ∷ c.next.new.self = grind arith in
    let is = first ∙ ap (λ k. token_of k ∷ c.next.new.self) c.in-String.is in
    (string c.in-String.text.now, ap (λ ts. converted of_json (value c.args.depth ts)) is ∙ string_read c.args.depth c.next.new.self c.in-String.text.now, ap string (sym c.in_ok-from_str-in-String.ensures.ok))

pub returns-in_ok-extent-in-BeginObject-clause-ok : goal.returns-in_ok-extent-in-BeginObject-clause-ok
returns-in_ok-extent-in-BeginObject-clause-ok c =
    let first : c.args.reader.now ≡ token_of c.in_ok-token.token ∷ c.next.new.self = grind arith in
    let is = first ∙ ap (λ k. token_of k ∷ c.next.new.self) c.in-BeginObject.is in
    let done = c.in_ok-extent-in-BeginObject.ensures.ok in
    let d = done.0 in
    let shape = an_object c.args.depth c.next.new.self d c.spell_token.new.reader done.1 in
    let text = done.2 ∙ ap (λ s. s ++ compact_text d) c.new-text.ensures.items in
    let sound = converted_sound (value c.args.depth (Token.begin_object ∷ c.next.new.self)) d c.spell_token.new.reader done.1 in
    (d, ap (λ ts. converted of_json (value c.args.depth ts)) is ∙ done.1, (shape.0, shape.1, (text, done.3, subst IsUtf8 (sym text) done.4), sound))

pub returns-in_ok-pass_by-in-Bool-clause-ok : goal.returns-in_ok-pass_by-in-Bool-clause-ok
returns-in_ok-pass_by-in-Bool-clause-ok c =
    let first : c.args.reader.now ≡ token_of c.in_ok-token.token ∷ c.next.new.self = grind arith in
    let passed : is_passed (token_of c.in_ok-token.token) ≡ true = grind arith in
    let done = c.in_ok-pass_by-in-Bool.ensures.ok in (
      done.0,
      ap (λ ts. converted of_json (value c.args.depth ts)) first ∙ done.1,
      other_field c.args.depth (token_of c.in_ok-token.token) c.next.new.self done.0 c.pass_by.new.reader done.1 passed,
    )
