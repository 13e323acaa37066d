use Rattle.std.proofs.Common.{◌≡◌, ℕ, ◌+◌, ◌-◌, ◌*◌, ◌/◌, List, [], ◌∷◌, ◌++◌, length, slice_index, sym, ap, ◌∙◌, arith, inl, inr}
use Rattle.std.proofs.lemmas.Bool.{cases_lt}
use Rattle.std.proofs.lemmas.Simd.{get_or-replicate}
use Rattle.tag_hash.proofs.PaddedMessage.{block_of_value, bytes_of_block, prefix_at, value_at, one_at, zero_at, length_field_at, past_end}
use Rattle.tag_hash.proofs.messages.block_of.Goals as goal

pub returns-then-at-len : goal.returns-then-at-len
returns-then-at-len c = λ k.
    ap (λ (l : List ℕ). slice_index l k)
    (c.copy_from_slice.ensures.after ∙ block_of_value c.args.prefix.now c.args.value.now c.args.n c.if-prefix-at.true c.if-at-len.true)

pub returns : goal.returns
returns c =
    let p = c.args.prefix.now in
    let v = c.args.value.now in
    let bits = c.to_be_bytes-bits.result in
    let end : ℕ = (length p + length v + 72) / 64 * 64 in
    let eight : length bits ≡ 8 = ap length c.to_be_bytes-bits.ensures in
    let first = c.lay.ensures in
    let second = c.lay-2.ensures in
    let third = c.lay-3.ensures in
    let last = c.lay-4.ensures in
    bytes_of_block c.lay-4.new.block (p ++ v) c.args.n last.long
    (λ k lt.
    let i : ℕ = 64 * c.args.n + k in
    elim (cases_lt i (length p)) [
      | inl in_prefix ↦
          let at : i - 0 ≡ i = omega arith in
          last.before k (omega arith) ∙ third.before k (omega arith) ∙ second.before k (omega arith) ∙ first.inside k lt (omega arith) (omega arith)
          ∙ ap (λ (x : ℕ). slice_index p x) at ∙ sym (prefix_at p v i in_prefix)
      | inr past_prefix ↦ elim (cases_lt i (length p + length v)) [
        | inl in_value ↦
            last.before k (omega arith) ∙ third.before k (omega arith) ∙ second.inside k lt past_prefix in_value
            ∙ sym (value_at p v i past_prefix in_value)
        | inr past_value ↦ elim (cases_lt (length p + length v) i) [
          | inl after ↦ elim (cases_lt (i + 8) end) [
            | inl zero ↦
                last.before k (omega arith) ∙ third.after k (omega arith) ∙ second.after k (omega arith) ∙ first.after k (omega arith)
                ∙ get_or-replicate 64 k 0 0 lt ∙ sym (zero_at p v i after zero)
            | inr field ↦ elim (cases_lt i end) [
              | inl inside ↦
                  let at : i - (64 * c.block_count-end.result - 8) ≡ i + 8 - end = omega arith in
                  last.inside k lt (omega arith) (omega (arith, eight)) ∙ ap (λ (x : ℕ). slice_index bits x) at
                  ∙ length_field_at p v bits i c.requires.short c.to_be_bytes-bits.ensures inside field
              | inr past ↦
                  last.after k (omega (arith, eight)) ∙ third.after k (omega arith) ∙ second.after k (omega arith) ∙ first.after k (omega arith)
                  ∙ get_or-replicate 64 k 0 0 lt ∙ sym (past_end p v i past)
            ]
          ]
          | inr not_after ↦
              let e : i ≡ length p + length v = omega arith in
              let at : i - (length p + length v) ≡ 0 = omega arith in
              last.before k (omega arith) ∙ third.inside k lt past_value (omega arith) ∙ ap (λ (x : ℕ). slice_index (0x80 ∷ []) x) at
              ∙ sym (one_at p v i e)
        ]
      ]
    ])
