use Rattle.std.proofs.Common.{◌≡◌, List, ℕ, ◌++◌, ◌∙◌, ◌∷◌, [], refl, ap, string_bytes, decimal, arith}
use Rattle.std.specs.List.{join_with_byte}
use Rattle.base32_text.specs.Base32.{spelling}
use Rattle.base32_text.proofs.CodingLemmas.{all_fit}
use Rattle.caps.proofs.ParserLemmas.{fields_written, joined_rest}
use Rattle.caps.proofs.printer.stored_text.Goals as goal

pub returns : goal.returns
returns c =
    let start : List ℕ = c.args.beginning.now in
    let name : List ℕ = spelling c.args.name.now in
    let ueb : List ℕ = spelling c.args.ueb.now in
    let rest : List ℕ = join_with_byte 58 (name ∷ ueb ∷ decimal c.args.k ∷ decimal c.args.n ∷ decimal c.args.size ∷ []) in
    let e1 : string_bytes c.push_str.new.self ≡ start = c.in_ok-push_str.ensures.bytes ∙ ap (λ s. s ++ start) c.in_ok-text.ensures.bytes in
    let e2 : string_bytes c.push_encoded.new.text ≡ start ++ name = c.in_ok-push_encoded.ensures.ok ∙ ap (λ s. s ++ name) e1 in
    let e3 : string_bytes c.push_str-2.new.self ≡ (start ++ name) ++ 58 ∷ [] = c.in_ok-push_str-2.ensures.bytes ∙ ap (λ s. s ++ 58 ∷ []) e2 in
    let e4 : string_bytes c.push_encoded-2.new.text ≡ ((start ++ name) ++ 58 ∷ []) ++ ueb = c.in_ok-push_encoded-2.ensures.ok ∙ ap (λ s. s ++ ueb) e3 in
    let e5 : string_bytes c.push_number.new.text ≡ (((start ++ name) ++ 58 ∷ []) ++ ueb) ++ 58 ∷ decimal c.args.k =
    c.in_ok-push_number.ensures ∙ ap (λ d. string_bytes c.push_encoded-2.new.text ++ 58 ∷ decimal d) c.from.ensures
    ∙ ap (λ s. s ++ 58 ∷ decimal c.args.k) e4 in
    let e6 : string_bytes c.push_number-2.new.text ≡ ((((start ++ name) ++ 58 ∷ []) ++ ueb) ++ 58 ∷ decimal c.args.k) ++ 58 ∷ decimal c.args.n =
    c.in_ok-push_number-2.ensures ∙ ap (λ d. string_bytes c.push_number.new.text ++ 58 ∷ decimal d) c.from-2.ensures
    ∙ ap (λ s. s ++ 58 ∷ decimal c.args.n) e5 in
    let e7 : string_bytes c.push_number-3.new.text ≡ start ++ rest =
    c.in_ok-push_number-3.ensures ∙ ap (λ s. s ++ 58 ∷ decimal c.args.size) e6
    ∙ joined_rest start name ueb (decimal c.args.k) (decimal c.args.n) (decimal c.args.size) in (
      rest,
      e7,
      fields_written c.args.name.now c.args.ueb.now rest c.args.k c.args.n c.args.size (all_fit c.args.name.now c.type_inv.name) c.requires.name_long
          (all_fit c.args.ueb.now c.type_inv.ueb) c.requires.ueb_long c.requires.sharing (omega arith) refl,
    )
