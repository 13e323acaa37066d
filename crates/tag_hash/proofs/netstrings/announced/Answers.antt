use Rattle.std.proofs.Common.{◌≡◌, ℕ, ◌<◌, ◌≤◌, ◌≢◌, List, length, take, Bool, true, false, refl, sym, ap, subst, ◌∙◌}
use Rattle.std.specs.Prelude.{nat_lt, nat_eq, if◌then◌else◌, Option, Some, None, Ok, Err}
use Rattle.std.specs.Option.{ok_or}
use Rattle.std.specs.List.{list_all}
use Rattle.std.specs.Char.{is_ascii_digit}
use Rattle.std.specs.Str.Parse.{digits_value}
use Rattle.tag_hash.specs.NetstringAt.{digit_count, first_value}
use Rattle.tag_hash.specs.declared.netstrings.NetFault.{NetFault}
use Rattle.tag_hash.specs.declared.netstrings.NetFault.TheVariants.{TooLong}
use Rattle.tag_hash.proofs.Comparisons.{equal_is, unequal_is}
use Rattle.tag_hash.proofs.Announced.{announced_empty, announced_bare, announced_led, announced_value, first_digits_pass, in_64_bits}
use Rattle.tag_hash.proofs.netstrings.announced.Goals as goal
use Rattle.tag_hash.proofs.netstrings.announced.Goals.{else-text-eq48-via-then-text-eq48+else-digits-gt1, else-text-eq48-via-else-text-eq48}

pub returns-then-is_empty : goal.returns-then-is_empty
returns-then-is_empty c = sym (announced_empty c.args.text.now (equal_is _ _ (sym c.is_empty.ensures ∙ c.if-is_empty.true)))

some_there : (text : List ℕ) (empty : Bool) → empty ≡ (nat_eq (length text) 0) → empty ≡ false → length text ≢ 0
some_there text empty is full = unequal_is (length text) 0 (sym is ∙ full)

pub returns-then-digits-eq0 : goal.returns-then-digits-eq0
returns-then-digits-eq0 c =
    sym (announced_bare c.args.text.now (some_there c.args.text.now c.is_empty.result c.is_empty.ensures c.if-is_empty.false)
    (sym c.digit_count-digits.ensures.count ∙ c.if-digits-eq0.true))

pub returns-then-digits-gt1 : goal.returns-then-digits-gt1
returns-then-digits-gt1 c =
    sym (announced_led c.args.text.now (some_there c.args.text.now c.is_empty.result c.is_empty.ensures c.if-is_empty.false)
    (λ none. c.if-digits-eq0.false (c.digit_count-digits.ensures.count ∙ none)) c.if-text-eq48.true (subst (λ n. 1 < n) c.digit_count-digits.ensures.count c.if-digits-gt1.true))

pub value_of-requires : goal.value_of-requires
value_of-requires c = subst (λ n. list_all is_ascii_digit (take n c.args.text.now) ≡ true) (sym c.digit_count-digits.ensures.count) (first_digits_pass c.args.text.now)

with_fault : (b : Bool) (n : ℕ) (fault : NetFault) → ok_or (if b then Some n else None) fault ≡ (if b then Ok n else Err fault)
with_fault true n fault = refl
with_fault false n fault = refl

answer : (text : List ℕ) (count : ℕ) (read : Option ℕ) → count ≡ digit_count text → read ≡ (if nat_lt (digits_value 10 (take count text)) 18446744073709551616 then Some (digits_value 10 (take count text)) else None) → ok_or read TooLong ≡ in_64_bits (first_value text)
answer text count read is value =
    ap (λ r. ok_or r TooLong) value
    ∙ with_fault (nat_lt (digits_value 10 (take count text)) 18446744073709551616) (digits_value 10 (take count text)) TooLong
    ∙ ap (λ n. in_64_bits (digits_value 10 (take n text))) is

pub returns : goal.returns
returns c =
    let text = c.args.text.now in
    c.ok_or.ensures.value ∙ answer text c.digit_count-digits.result c.value_of.result c.digit_count-digits.ensures.count c.value_of.ensures
    ∙ sym (announced_value text (some_there text c.is_empty.result c.is_empty.ensures c.if-is_empty.false)
    (λ none. c.if-digits-eq0.false (c.digit_count-digits.ensures.count ∙ none))
    (λ zero. elim c.else-text-eq48.branch [
      | else-text-eq48-via-then-text-eq48+else-digits-gt1 w ↦ subst (λ n. n ≤ 1) c.digit_count-digits.ensures.count w.if-digits-gt1.false
      | else-text-eq48-via-else-text-eq48 w ↦ absurd (w.if-text-eq48.false zero)
    ]))
