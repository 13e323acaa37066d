use Rattle.std.proofs.Common.{◌≡◌, ℕ, zero, suc, ◌+◌, ◌≤◌, List, [], ◌∷◌, ◌++◌, length, ap, ◌∙◌, arith}
use Rattle.std.proofs.lemmas.List.{append_assoc, length-map}
use Rattle.std.specs.Int.Digits.{digits_of}
use Rattle.std.proofs.lemmas.Int.Digits.{length-digits_of-le}
use Rattle.tag_hash.specs.Decimal.{decimal_text}
use Rattle.tag_hash.specs.Netstring.{netstring}
use Rattle.tag_hash.proofs.batch.short_netstring.Goals as goal

few_digits : (n : ℕ) → n ≤ 60 → length (decimal_text n) ≤ 2
unfolding decimal_text
few_digits zero le = omega arith
few_digits (suc n) le =
    let few = length-digits_of-le 10 2 (suc n) (omega arith) (omega arith) in
    omega (arith, few, length-map (digits_of 10 (suc n)) (λ (digit : ℕ). 48 + digit))

joined : (digits bytes : List ℕ) → digits ≡ decimal_text (length bytes) → ((digits ++ 58 ∷ []) ++ bytes) ++ 44 ∷ [] ≡ netstring bytes
unfolding netstring
joined digits bytes size = ap (λ t. ((t ++ 58 ∷ []) ++ bytes) ++ 44 ∷ []) size ∙ simp append_assoc

pub append-comma-requires : goal.append-comma-requires
append-comma-requires c =
    let size = ap length (c.as_bytes.ensures ∙ c.new-size.ensures) in
    let few = few_digits (length c.args.tag.now) c.requires in
    omega (arith, size, few, c.append-colon.ensures.len, c.append-start.ensures.len)

pub append-len-requires : goal.append-len-requires
append-len-requires c =
    let size = ap length (c.as_bytes.ensures ∙ c.new-size.ensures) in
    let few = few_digits (length c.args.tag.now) c.requires in
    omega (arith, size, few, c.append-colon.ensures.len, c.append-start.ensures.len, c.append-comma.ensures.len)

pub returns-clause-text : goal.returns-clause-text
returns-clause-text c =
    let digits = c.append-colon.ensures.text in
    let colon = c.append-start.ensures.text ∙ ap (λ t. t ++ 58 ∷ []) digits in
    let tag = c.append-comma.ensures.text ∙ ap (λ t. t ++ c.args.tag.now) colon in
    c.append-len.ensures.text ∙ ap (λ t. t ++ 44 ∷ []) tag
    ∙ joined c.as_bytes.result.now c.args.tag.now (c.as_bytes.ensures ∙ c.new-size.ensures)
