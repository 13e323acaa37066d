-- The tokens of a text that is cut at a comma outside strings.
use Rattle.std.proofs.Common.{◌≡◌, ℕ, ◌+◌, List, ◌∷◌, ◌++◌, None, take, drop, refl, sym, ap, ◌∙◌}
use Rattle.std.proofs.lemmas.List.{take-append-drop, drop_more}
use Rattle.json.specs.Lex.{between, fresh, lex, punctuate, tokens}
use Rattle.json_seams.specs.Cuts.{IsCutComma}
use Rattle.json_seams.specs.Seams.{seam}
use Rattle.json_seams.proofs.Lexing.{lex_cut}
use Rattle.json_seams.proofs.Punctuated.{punctuate_cut}

parted : (text : List ℕ) (at : ℕ) → IsCutComma text at → text ≡ take at text ++ 44 ∷ drop (at + 1) text
parted text at is = sym (take-append-drop at text) ∙ ap (λ t. take at text ++ t) (drop_more text at 0 is.within ∙ ap (λ x. x ∷ drop (at + 1) text) is.comma)

pub joined : (text : List ℕ) (at : ℕ) → IsCutComma text at → tokens text ≡ seam (tokens (take at text)) (tokens (drop (at + 1) text))
joined text at is =
    let front = take at text in
    let rest = drop (at + 1) text in
    ap tokens (parted text at is) ∙ ap (punctuate fresh) (lex_cut 44 refl rest between front is.outside) ∙ punctuate_cut (lex between rest) fresh None (lex between front) (λ r. refl)
