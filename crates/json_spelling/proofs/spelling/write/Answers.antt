use Rattle.std.proofs.Common.{◌≡◌, [], ◌∷◌, ◌++◌, ap, ap₂, ◌∙◌, subst}
use Rattle.std.specs.Str.{IsUtf8}
use Rattle.json.specs.Print.{print}
use Rattle.json.specs.Reads.{token_of}
use Rattle.json_spelling.proofs.OnePass.{print_one}
use Rattle.json_spelling.proofs.spelling.write.Goals as goal

pub returns-clause-written : goal.returns-clause-written
returns-clause-written c =
    let t = token_of c.args.token in
    let written = c.in_ok-token.ensures in
    let tokens : c.token.new.self.tokens ≡ t ∷ [] = written.ok ∙ ap (λ ts. ts ++ t ∷ []) c.new-writer.ensures.tokens in
    let before : c.token.new.self.before ≡ [] = written.room.0 ∙ c.new-writer.ensures.before ∙ c.new.ensures.items in
    let alone = c.into_inner.ensures.items ∙ ap₂ (λ b ts. b ++ print ts) before tokens ∙ print_one t in
    c.in_ok-extend_from_slice.ensures.items ∙ ap (λ s. c.args.out.now.items ++ s) (c.as_slice.ensures.value ∙ alone)

pub returns-clause-utf8 : goal.returns-clause-utf8
returns-clause-utf8 c =
    let t = token_of c.args.token in
    let tokens : c.token.new.self.tokens ≡ t ∷ [] = c.in_ok-token.ensures.ok ∙ ap (λ ts. ts ++ t ∷ []) c.new-writer.ensures.tokens in
    subst IsUtf8 (ap print tokens ∙ print_one t) c.into_inner.ensures.utf8
