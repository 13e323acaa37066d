use Rattle.std.proofs.Common.{◌≡◌, ◌+◌, ◌-◌, ◌<◌, ◌++◌, length, take, string_bytes, ap, ◌∙◌, subst, arith}
use Rattle.base32_text.specs.Bits.{joined}
use Rattle.base32_text.proofs.WaitingLemmas.{bits_of-zero}
use Rattle.base32_text.proofs.SpellingLemmas.{noughts}
use Rattle.base32_text.proofs.CodingLemmas.{Written, nothing_written, bits_put, letter_written, all_written, joined_more, rest_length, put_length, all_are_taken, nothing_more, all_fit, more_letters, on_err}
use Rattle.base32_text.proofs.encoder.push_letters.Goals as goal
use Rattle.base32_text.proofs.encoder.push_letters.Goals.{then-len-ge5+in_ok-push_group-2, else-len-ge5}

pub loop-byte-init : goal.loop-byte-init
unfolding joined
loop-byte-init c = rw (c.in_ok-reserve.ensures.bytes, c.new-waiting.ensures) (nothing_written _, omega arith)

pub push_group-requires : goal.push_group-requires
push_group-requires c = omega (arith, put_length 8 c.from.result c.loop-byte.waiting _ c.put.ensures)

pub loop-byte-preserved : goal.loop-byte-preserved
loop-byte-preserved c =
    let small : length c.loop-byte.waiting < 5 = c.loop-byte.invariant.1 in
    let longer : length c.put.new.self ≡ length c.loop-byte.waiting + 8 = put_length 8 c.from.result c.loop-byte.waiting _ c.put.ensures in
    let shorter : length c.put.new.self ≡ 5 + length c.push_group.new.waiting =
    rest_length 5 c.in_ok-push_group.ensures.ok.0 _ _ c.in_ok-push_group.ensures.ok.2 in
    let put : Written (string_bytes c.args.text.now) (string_bytes c.loop-byte.text) c.put.new.self (joined 8 (take (c.loop-byte.byte-index + 1) c.args.bytes.now)) =
    subst (Written (string_bytes c.args.text.now) (string_bytes c.loop-byte.text) c.put.new.self)
    (joined_more 8 c.args.bytes.now c.loop-byte.byte-index c.from.result (omega arith) c.from.ensures)
    (bits_put _ _ _ _ _ _ c.loop-byte.invariant.0 c.put.ensures) in
    let one : Written (string_bytes c.args.text.now) (string_bytes c.push_group.new.text) c.push_group.new.waiting (joined 8 (take (c.loop-byte.byte-index + 1) c.args.bytes.now)) =
    letter_written _ _ _ _ _ _ c.in_ok-push_group.ensures.ok.0 put c.in_ok-push_group.ensures.ok.1 c.in_ok-push_group.ensures.ok.2 c.in_ok-push_group.ensures.ok.3 in
    elim c.if-len-ge5.branch [
      | then-len-ge5+in_ok-push_group-2 w ↦
          let last : length c.push_group.new.waiting ≡ 5 + length w.push_group-then-len-ge5.new.waiting =
          rest_length 5 w.in_ok-push_group-2.ensures.ok.0 _ _ w.in_ok-push_group-2.ensures.ok.2 in
          rw (w.text-is, w.waiting-is) (
            letter_written _ _ _ _ _ _ w.in_ok-push_group-2.ensures.ok.0 one w.in_ok-push_group-2.ensures.ok.1 w.in_ok-push_group-2.ensures.ok.2 w.in_ok-push_group-2.ensures.ok.3,
            omega arith,
          )
      | else-len-ge5 w ↦ rw (w.text-is, w.waiting-is) (one, omega (arith, c.len.ensures))
    ]

pub push_group-requires-then-left-gt0 : goal.push_group-requires-then-left-gt0
push_group-requires-then-left-gt0 c =
    omega (arith, put_length (5 - c.len-left.result) 0 c.loop-byte.waiting _ c.put-then-left-gt0.ensures, c.len-left.ensures)

pub returns-in_ok-push_group-3-clause-ok : goal.returns-in_ok-push_group-3-clause-ok
returns-in_ok-push_group-3-clause-ok c =
    let put : Written (string_bytes c.args.text.now) (string_bytes c.loop-byte.text) c.put-then-left-gt0.new.self (joined 8 c.args.bytes.now ++ noughts (5 - c.len-left.result)) =
    bits_put _ _ _ _ _ _
    (subst (Written (string_bytes c.args.text.now) (string_bytes c.loop-byte.text) c.loop-byte.waiting)
    (all_are_taken c.args.bytes.now c.loop-byte.byte-index (omega arith)) c.loop-byte.invariant.0)
    (c.put-then-left-gt0.ensures ∙ ap (λ s. c.loop-byte.waiting ++ s) (bits_of-zero (5 - c.len-left.result))) in
    let longer : length c.put-then-left-gt0.new.self ≡ length c.loop-byte.waiting + (5 - c.len-left.result) =
    put_length (5 - c.len-left.result) 0 c.loop-byte.waiting _ c.put-then-left-gt0.ensures in
    let shorter : length c.put-then-left-gt0.new.self ≡ 5 + length c.push_group-then-left-gt0.new.waiting =
    rest_length 5 c.in_ok-push_group-3.ensures.ok.0 _ _ c.in_ok-push_group-3.ensures.ok.2 in
    all_written _ _ _ _ (5 - c.len-left.result)
    (letter_written _ _ _ _ _ _ c.in_ok-push_group-3.ensures.ok.0 put c.in_ok-push_group-3.ensures.ok.1 c.in_ok-push_group-3.ensures.ok.2 c.in_ok-push_group-3.ensures.ok.3)
    (omega (arith, c.len-left.ensures)) (omega arith) (all_fit _ c.type_inv.bytes)

pub returns-else-left-gt0-clause-ok : goal.returns-else-left-gt0-clause-ok
returns-else-left-gt0-clause-ok c =
    all_written _ _ _ _ 0
    (nothing_more _ _ _ _
    (subst (Written (string_bytes c.args.text.now) (string_bytes c.loop-byte.text) c.loop-byte.waiting)
    (all_are_taken c.args.bytes.now c.loop-byte.byte-index (omega arith)) c.loop-byte.invariant.0))
    (omega (arith, c.len-left.ensures)) (omega arith) (all_fit _ c.type_inv.bytes)

pub returns-in_err-push_group-clause-err : goal.returns-in_err-push_group-clause-err
returns-in_err-push_group-clause-err c = on_err _ _ (more_letters _ _ _ _ _ c.loop-byte.invariant.0 c.in_err-push_group.ensures.err)

pub returns-in_err-push_group-2-clause-err : goal.returns-in_err-push_group-2-clause-err
returns-in_err-push_group-2-clause-err c =
    on_err _ _ (
    more_letters _ _ _ _ _
    (letter_written _ _ _ _ _ _ c.in_ok-push_group.ensures.ok.0 (bits_put _ _ _ _ _ _ c.loop-byte.invariant.0 c.put.ensures) c.in_ok-push_group.ensures.ok.1 c.in_ok-push_group.ensures.ok.2 c.in_ok-push_group.ensures.ok.3)
    c.in_err-push_group-2.ensures.err
    )

pub returns-in_err-push_group-3-clause-err : goal.returns-in_err-push_group-3-clause-err
returns-in_err-push_group-3-clause-err c = on_err _ _ (more_letters _ _ _ _ _ c.loop-byte.invariant.0 c.in_err-push_group-3.ensures.err)
