use Rattle.std.proofs.Common.{true, false, ◌≡◌, ◌+◌, length, refl, arith}
use Rattle.base32_text.proofs.CodingLemmas.{Taken, nothing_taken, letter_taken, byte_taken, ended, refused_length, refused_loose, spelled_by, rest_length, put_length}
use Rattle.base32_text.proofs.decoder.decode.Goals as goal
use Rattle.base32_text.proofs.decoder.decode.Goals.{then-len-ge8+in_ok-push, else-len-ge8}

pub loop-place-init : goal.loop-place-init
loop-place-init c = rw (c.in_ok-bytes.ensures.items, c.new-waiting.ensures) (nothing_taken c.args.text.now, omega arith)

pub loop-place-preserved : goal.loop-place-preserved
loop-place-preserved c =
    let letter : Taken c.args.text.now (c.loop-place.place + 1) c.loop-place.bytes.items c.put.new.self =
    letter_taken c.args.text.now c.loop-place.place _ _ _ c.in-Some.group c.loop-place.invariant.0 (omega arith) c.in-Some.ensures.0 c.in-Some.ensures.1 c.put.ensures in
    let longer : length c.put.new.self ≡ length c.loop-place.waiting + 5 = put_length 5 c.in-Some.group _ _ c.put.ensures in
    elim c.if-len-ge8.branch [
      | then-len-ge8+in_ok-push w ↦
          let shorter : length c.put.new.self ≡ 8 + length w.take-octet.new.self = rest_length 8 w.take-octet.result _ _ w.take-octet.ensures.bits in
          rw (w.bytes-is, w.waiting-is) (
            byte_taken c.args.text.now (c.loop-place.place + 1) _ _ _ _ w.take-octet.result letter w.take-octet.ensures.fits w.take-octet.ensures.bits w.in_ok-push.ensures.items,
            omega arith,
          )
      | else-len-ge8 w ↦ rw (w.bytes-is, w.waiting-is) (letter, omega (arith, c.len.ensures))
    ]

pub returns-then-len-ge5-clause-refused : goal.returns-then-len-ge5-clause-refused
returns-then-len-ge5-clause-refused c =
    refused_length c.args.text.now c.loop-place.bytes.items c.loop-place.waiting
    (ended _ _ _ _ c.loop-place.invariant.0 (omega arith))
    (omega (arith, c.len-2.ensures)) c.loop-place.invariant.1

pub returns-then-not-is_zero-clause-refused : goal.returns-then-not-is_zero-clause-refused
returns-then-not-is_zero-clause-refused c =
    refused_loose c.args.text.now c.loop-place.bytes.items c.loop-place.waiting
    (ended _ _ _ _ c.loop-place.invariant.0 (omega arith))
    (omega (arith, c.len-2.ensures))
    (λ same. let h : c.is_zero.result ≡ true = c.is_zero.ensures.1 same in let k : c.is_zero.result ≡ false = c.if-not-is_zero.true in cc)

pub returns-clause-spelled : goal.returns-clause-spelled
returns-clause-spelled c =
    spelled_by c.args.text.now c.loop-place.bytes.items c.loop-place.waiting
    (ended _ _ _ _ c.loop-place.invariant.0 (omega arith))
    (omega (arith, c.len-2.ensures)) (c.if-not-is_zero.ensures.0 refl)
