use Rattle.std.proofs.Common.{◌≡◌, ◌++◌, ℕ, List, Err, take, sym, ap, subst, ◌∙◌, arith}
use Rattle.std.specs.List.{concat}
use Rattle.erasure.specs.Blocks.{primary_from}
use Rattle.erasure.specs.Given.{numbered_of, numbers_of, blocks_of, AreDistinct, HasAnotherLength}
use Rattle.share_repair.specs.Decoded.{numbered_blocks}
use Rattle.share_repair.proofs.Decodes.{numbers-numbered, never_repeats, one_length, all_below, looked_at, decoded_primary}
use Rattle.share_repair.proofs.decoding.push_decoded.Goals as goal

pub numbered-requires : goal.numbered-requires
numbered-requires c k d below =
    let e = (c.requires.cut k d below).count in
    let inside = c.requires.inside in
    omega arith

pub decode_into-requires : goal.decode_into-requires
decode_into-requires c =
    all_below c.args.params.now c.args.code.now.k c.args.code.now.n c.deref.result.now c.args.shares.now c.args.at c.requires.code.1 c.requires.cut
    (ap numbered_of c.deref.ensures.value ∙ c.in_ok-blocks.ensures)

pub returns-in-Ok-clause-bytes : goal.returns-in-Ok-clause-bytes
returns-in-Ok-clause-bytes c crypttext good =
    let laws = c.segments_are_joined_again.ensures in
    let p = c.args.params.now in
    let shares = c.args.shares.now in
    let e : numbered_of c.deref.result.now ≡ numbered_blocks shares c.args.at = ap numbered_of c.deref.ensures.value ∙ c.in_ok-blocks.ensures in
    let seen = looked_at c.args.code.now.k c.deref.result.now shares c.args.at e (good.many ∙ sym c.requires.code.0) in
    c.in-Ok.ensures.primary ∙ (λ i. c.args.bytes.now.items ++ concat (primary_from (c.requires.code.0 i) (seen i)))
    ∙ ap (λ primary. c.args.bytes.now.items ++ concat primary)
    (decoded_primary c.true_blocks_decode.ensures laws.count laws.each laws.primary_count laws.primary p crypttext shares good c.args.at c.requires.inside)

pub returns-in-Ok-clause-apart : goal.returns-in-Ok-clause-apart
returns-in-Ok-clause-apart c told =
    let shares = c.args.shares.now in
    let e : numbered_of c.deref.result.now ≡ numbered_blocks shares c.args.at = ap numbered_of c.deref.ensures.value ∙ c.in_ok-blocks.ensures in
    let seen = looked_at c.args.code.now.k c.deref.result.now shares c.args.at e (c.requires.many ∙ sym c.requires.code.0) in
    subst AreDistinct (ap numbers_of seen ∙ numbers-numbered shares c.args.at) c.in-Ok.ensures.taken.1

pub returns-in-Err-Repeated-clause-yes : goal.returns-in-Err-Repeated-clause-yes
returns-in-Err-Repeated-clause-yes c crypttext good =
    let shares = c.args.shares.now in
    let e : numbered_of c.deref.result.now ≡ numbered_blocks shares c.args.at = ap numbered_of c.deref.ensures.value ∙ c.in_ok-blocks.ensures in
    let seen = looked_at c.args.code.now.k c.deref.result.now shares c.args.at e (good.many ∙ sym c.requires.code.0) in
    let repeats = (c.decode_into.ensures.repeated.0 (c.in-Err-Repeated.is ∙ ap Err c.in-Err-Repeated.field-0-is)).1 in
    absurd (never_repeats (numbers_of (numbered_of (take c.args.code.now.k c.deref.result.now)))
    (subst AreDistinct (sym (ap numbers_of seen ∙ numbers-numbered shares c.args.at)) good.apart) repeats)

pub returns-in-Err-Repeated-clause-bytes : goal.returns-in-Err-Repeated-clause-bytes
returns-in-Err-Repeated-clause-bytes c crypttext good =
    let shares = c.args.shares.now in
    let e : numbered_of c.deref.result.now ≡ numbered_blocks shares c.args.at = ap numbered_of c.deref.ensures.value ∙ c.in_ok-blocks.ensures in
    let seen = looked_at c.args.code.now.k c.deref.result.now shares c.args.at e (good.many ∙ sym c.requires.code.0) in
    let repeats = (c.decode_into.ensures.repeated.0 (c.in-Err-Repeated.is ∙ ap Err c.in-Err-Repeated.field-0-is)).1 in
    absurd (never_repeats (numbers_of (numbered_of (take c.args.code.now.k c.deref.result.now)))
    (subst AreDistinct (sym (ap numbers_of seen ∙ numbers-numbered shares c.args.at)) good.apart) repeats)

pub returns-clause-yes : goal.returns-clause-yes
returns-clause-yes c crypttext good =
    let shares = c.args.shares.now in
    let e : numbered_of c.deref.result.now ≡ numbered_blocks shares c.args.at = ap numbered_of c.deref.ensures.value ∙ c.in_ok-blocks.ensures in
    let seen = looked_at c.args.code.now.k c.deref.result.now shares c.args.at e (good.many ∙ sym c.requires.code.0) in
    let other = (c.decode_into.ensures.unequal.0 (c.in-Err-UnequalLength.is ∙ ap Err c.in-Err-UnequalLength.field-0-is)).2 in
    absurd (one_length c.args.params.now shares c.args.at c.requires.inside c.requires.cut (subst (λ (g : List (ℕ × List ℕ)). HasAnotherLength (blocks_of g)) seen other))

pub returns-clause-bytes : goal.returns-clause-bytes
returns-clause-bytes c crypttext good =
    let shares = c.args.shares.now in
    let e : numbered_of c.deref.result.now ≡ numbered_blocks shares c.args.at = ap numbered_of c.deref.ensures.value ∙ c.in_ok-blocks.ensures in
    let seen = looked_at c.args.code.now.k c.deref.result.now shares c.args.at e (good.many ∙ sym c.requires.code.0) in
    let other = (c.decode_into.ensures.unequal.0 (c.in-Err-UnequalLength.is ∙ ap Err c.in-Err-UnequalLength.field-0-is)).2 in
    absurd (one_length c.args.params.now shares c.args.at c.requires.inside c.requires.cut (subst (λ (g : List (ℕ × List ℕ)). HasAnotherLength (blocks_of g)) seen other))
