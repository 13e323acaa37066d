-- The line of a bulk string.
use Rattle.std.proofs.Common.{◌≡◌, ◌<◌, ◌≤◌, ◌-◌, ℕ, List, [], ◌∷◌, ◌++◌, length, take, drop, get_or, Ok, refl, sym, ap, subst, ◌∙◌, arith}
use Rattle.std.proofs.lemmas.List.{length-append, take_all, take_at}
use Rattle.resp.specs.declared.fault.ReadStop.{ReadStop}
use Rattle.resp.specs.declared.fault.ReadStop.TheVariants as stops
use Rattle.resp.specs.declared.limits.Limits.{Limits}
use Rattle.resp.specs.declared.reply.Item.TheVariants as item
use Rattle.resp.specs.declared.reply.Reply.TheVariants as reply
use Rattle.resp.specs.Command.{line, line_end}
use Rattle.resp.specs.Spelled.{Writes, SpellsReply}
use Rattle.resp.specs.Reading.{Stops, number_at}
use Rattle.resp.proofs.Steps.{given, value_is, rest_is}
use Rattle.resp.proofs.Numbers.{reads-number}
use Rattle.resp.proofs.Verdicts.{front_length}

-- bytes that begin with the mark
pub first_is : (bytes : List ℕ) → 1 ≤ length bytes → get_or bytes 0 0 ≡ 36 → bytes ≡ 36 ∷ take (length bytes - 1) (drop 1 bytes)
first_is [] some e = absurd (omega (arith, some))
first_is (x ∷ xs) some e = ap (λ (c : ℕ). c ∷ xs) e ∙ ap (λ (t : List ℕ). 36 ∷ t) (sym (take_all (length (x ∷ xs) - 1) xs (omega arith)))

pub line_within : (limits : Limits) (n : ℕ) (bytes rest after : List ℕ) → 0 < limits.line → bytes ≡ 36 ∷ rest → number_at limits limits.bulk rest ≡ Ok (n, after) → length after ≤ length bytes
line_within limits n bytes rest after room is e =
    let f = (reads-number limits limits.bulk room).found rest n after e in
    omega (arith, ap length is, ap length f.parts, length-append f.front after)

-- after a mark, a number was read
pub line_sound : (limits : Limits) (n : ℕ) (bytes rest after : List ℕ) → 0 < limits.line → bytes ≡ 36 ∷ rest → number_at limits limits.bulk rest ≡ Ok (n, after)
    → (length bytes - length after ≤ length bytes) × ((content : List ℕ) → length content ≡ n
    → SpellsReply limits (reply.One (item.Bulk content)) (take (length bytes - length after) bytes ++ content ++ line_end))
line_sound limits n bytes rest after room is e =
    let f = (reads-number limits limits.bulk room).found rest n after e in
    let digits = f.spelled.0 in
    let whole : bytes ≡ line 36 digits ++ after = is ∙ ap (λ (t : List ℕ). 36 ∷ t) (f.parts ∙ ap (λ (t : List ℕ). t ++ after) f.spelled.2) in
    let front : take (length bytes - length after) bytes ≡ line 36 digits =
    ap (λ (t : List ℕ). take (length bytes - length after) t) whole ∙ take_at (line 36 digits) after (length bytes - length after) (front_length bytes (line 36 digits) after whole) in (
      omega arith,
      λ content long. subst (λ t. SpellsReply limits (reply.One (item.Bulk content)) (t ++ content ++ line_end)) (sym front)
          (digits, subst (λ m. Writes limits limits.bulk digits m) (sym long) f.spelled.1, refl),
    )

-- a line stands in front
pub line_begins : (limits : Limits) (n : ℕ) (bytes rest digits back : List ℕ) → 0 < limits.line → bytes ≡ 36 ∷ rest → Writes limits limits.bulk digits n → bytes ≡ line 36 digits ++ back
    → number_at limits limits.bulk rest ≡ Ok (n, back)
line_begins limits n bytes rest digits back room is writes parts =
    let same : rest ≡ digits ++ line_end ++ back = cc in
    ap (number_at limits limits.bulk) same ∙ (reads-number limits limits.bulk room).again n (digits ++ line_end) back (digits, writes, refl)

-- and so it is what was read
pub line_whole : (limits : Limits) (n : ℕ) (bytes rest after digits back : List ℕ) (len : ℕ) → 0 < limits.line → bytes ≡ 36 ∷ rest → number_at limits limits.bulk rest ≡ Ok (n, after)
    → Writes limits limits.bulk digits len → bytes ≡ line 36 digits ++ back → (n ≡ len) × (length bytes - length after ≡ length (line 36 digits))
line_whole limits n bytes rest after digits back len room is e writes parts =
    let same : given n after ≡ given len back = sym e ∙ line_begins limits len bytes rest digits back room is writes parts in (
      value_is n len after back same,
      ap (λ (t : List ℕ). length bytes - length t) (rest_is n len after back same) ∙ sym (front_length bytes (line 36 digits) back parts),
    )

-- where reading stops no line stands in front
pub line_stops : (limits : Limits) (stop : ReadStop) (rest : List ℕ) (n : ℕ) (back : List ℕ) → Stops ⊥ stop (number_at limits limits.bulk rest) → number_at limits limits.bulk rest ≡ Ok (n, back) → ⊥
line_stops limits stops.More rest n back is e = cc
line_stops limits (stops.Wrong wrong left) rest n back is e = cc
line_stops limits stops.NoMemory rest n back is e = is
