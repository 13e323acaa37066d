use Rattle.std.proofs.Common.{◌≡◌, [], ◌∷◌, ap, ◌∙◌, arith}
use Rattle.json.specs.Json.{value}
use Rattle.json.specs.Reads.{token_of}
use Rattle.json.proofs.Grammar.{value_is}
use Rattle.serde_json.specs.Read.{of_json, converted}
use Rattle.children_reader.proofs.ReadChildren.{a_text}
use Rattle.children_reader.proofs.members.pass_by_kind.Goals as goal

pub returns-in_err-token-clause-err : goal.returns-in_err-token-clause-err
returns-in_err-token-clause-err c not_json =
    let empty : c.args.reader.now ≡ [] = grind arith in
    ap (converted of_json) (ap (value c.args.depth) empty ∙ value_is c.args.depth [])

pub returns-clause-ok : goal.returns-clause-ok
returns-clause-ok c =
    let first : c.args.reader.now ≡ token_of c.in_ok-token.token ∷ c.next.new.self = grind arith in
    let done = c.in_ok-pass_by.ensures.ok in (
      done.0,
      ap (λ ts. converted of_json (value c.args.depth ts)) first ∙ done.1,
      c.begins_text.ensures ∙ a_text c.args.depth (token_of c.in_ok-token.token) c.next.new.self done.0 c.pass_by.new.reader done.1,
    )
