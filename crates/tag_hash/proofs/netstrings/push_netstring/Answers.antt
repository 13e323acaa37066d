use Rattle.std.proofs.Common.{◌≡◌, List, ℕ, [], ◌∷◌, ◌++◌, length, ap, ◌∙◌}
use Rattle.std.proofs.lemmas.List.{append_assoc}
use Rattle.tag_hash.specs.Decimal.{decimal_text}
use Rattle.tag_hash.specs.Netstring.{netstring}
use Rattle.tag_hash.proofs.netstrings.push_netstring.Goals as goal

joined : (m digits text bytes : List ℕ) → text ≡ digits → digits ≡ decimal_text (length bytes) → (((m ++ text) ++ (58 ∷ [])) ++ bytes) ++ (44 ∷ []) ≡ m ++ netstring bytes
unfolding netstring
joined m digits text bytes read size =
    ap (λ t. (((m ++ t) ++ (58 ∷ [])) ++ bytes) ++ (44 ∷ [])) (read ∙ size) ∙ simp append_assoc

pub returns-clause-ok : goal.returns-clause-ok
returns-clause-ok c =
    let one = c.in_ok-extend_from_slice.ensures.items ∙ ap (λ t. t ++ c.as_bytes-digits.result.now) c.in_ok-reserve.ensures.items in
    let two = c.in_ok-extend_from_slice-2.ensures.items ∙ ap (λ t. t ++ 58 ∷ []) one in
    let three = c.in_ok-extend_from_slice-3.ensures.items ∙ ap (λ t. t ++ c.args.bytes.now) two in
    let four = c.in_ok-extend_from_slice-4.ensures.items ∙ ap (λ t. t ++ 44 ∷ []) three in
    four ∙ joined c.args.text.now.items c.new-size.result c.as_bytes-digits.result.now c.args.bytes.now c.as_bytes-digits.ensures c.new-size.ensures
