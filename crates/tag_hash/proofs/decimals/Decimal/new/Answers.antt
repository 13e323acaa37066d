use Rattle.std.proofs.Common.{◌≡◌, ℕ, ◌<◌, ◌≤◌, List, drop, ◌+◌, ◌-◌, length, ◌/◌, ◌%◌, [], ◌∷◌, ◌++◌, set, sym, ap, ◌∙◌, arith}
use Rattle.std.proofs.Math.ListN.{length-set}
use Rattle.std.proofs.lemmas.List.{drop-set, append_assoc}
use Rattle.tag_hash.specs.Decimal.{decimal_text}
use Rattle.tag_hash.proofs.DecimalLemmas.{decimal_text_digit, decimal_text_step, room_left}
use Rattle.tag_hash.proofs.decimals.Decimal.new.Goals as goal

moved : (number rest start : ℕ) (digits : List ℕ) → 10 ≤ rest → 1 ≤ start → start < length digits → decimal_text number ≡ decimal_text rest ++ drop (start + 1) digits → decimal_text number ≡ decimal_text (rest / 10) ++ drop (start - 1 + 1) (set digits start (48 + rest % 10))
moved number rest start digits large some in_range text =
    let same : start - 1 + 1 ≡ start = omega arith in
    let tail : drop (start - 1 + 1) (set digits start (48 + rest % 10)) ≡ (48 + rest % 10) ∷ drop (start + 1) digits = rw same (drop-set digits start (48 + rest % 10) in_range) in
    text ∙ (λ i. decimal_text_step rest large i ++ drop (start + 1) digits)
    ∙ append_assoc (decimal_text (rest / 10)) ((48 + rest % 10) ∷ []) (drop (start + 1) digits)
    ∙ ap (λ t. decimal_text (rest / 10) ++ t) (sym tail)

pub loop-rest-preserved : goal.loop-rest-preserved
loop-rest-preserved c =
    let left = room_left c.loop-rest.rest c.loop-rest.start c.loop-rest-test.true c.loop-rest.invariant.room in
    record {
      text = moved c.args.number c.loop-rest.rest c.loop-rest.start c.loop-rest.digits c.loop-rest-test.true left.0 (omega arith) c.loop-rest.invariant.text;
      room = left.1;
      in_range = omega arith;
      sized = length-set c.loop-rest.digits c.loop-rest.start (48 + c.loop-rest.rest % 10) ∙ c.loop-rest.invariant.sized;
    }

ended : (number rest start : ℕ) (digits : List ℕ) → rest < 10 → start < length digits → decimal_text number ≡ decimal_text rest ++ drop (start + 1) digits → drop start (set digits start (48 + rest)) ≡ decimal_text number
ended number rest start digits small in_range text =
    drop-set digits start (48 + rest) in_range ∙ sym (text ∙ (λ i. decimal_text_digit rest small i ++ drop (start + 1) digits))

pub returns : goal.returns
returns c = ended c.args.number c.loop-rest.rest c.loop-rest.start c.loop-rest.digits (omega arith) (omega arith) c.loop-rest.invariant.text
