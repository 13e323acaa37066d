use Rattle.std.proofs.Common.{◌≡◌, ◌<◌, ◌++◌, ℕ, List, Bor, Err, length, take, sym, ap, subst, ◌∙◌, arith}
use Rattle.std.specs.Prelude.{All}
use Rattle.std.specs.List.{concat}
use Rattle.std.proofs.lemmas.List.{take_all, length-map}
use Rattle.std.proofs.lemmas.List.Elements.{All-take}
use Rattle.erasure.specs.Blocks.{primary_from}
use Rattle.erasure.specs.Given.{numbered_of, numbers_of, blocks_of, AreDistinct, HasAnotherLength}
use Rattle.share_codec.specs.GoodShare.{GoodShare}
use Rattle.file_shares.specs.Fit.{blocks_at}
use Rattle.file_shares.proofs.Goods.{numbers-blocks_at, never_repeats, one_length, from_images, below_at}
use Rattle.file_shares.proofs.segment.push_decoded.Goals as goal

-- the blocks that are passed are k, so all of them are looked at
looked_at : (k : ℕ) (blocks : List (ℕ × Bor (List ℕ))) (shares : List GoodShare) (at : ℕ) → numbered_of blocks ≡ blocks_at shares at → length shares ≡ k → numbered_of (take k blocks) ≡ blocks_at shares at
looked_at k blocks shares at e many =
    let long : length blocks ≡ length shares =
    sym (length-map blocks (λ b. (b.0, b.1.now))) ∙ ap length e ∙ length-map shares _ in
    ap numbered_of (take_all k blocks (omega arith)) ∙ e

pub numbered-requires : goal.numbered-requires
numbered-requires c k d below =
    let e = (c.requires.taken.cut k d below).count in
    let inside = c.requires.inside in
    omega arith

pub decode_into-requires : goal.decode_into-requires
decode_into-requires c =
    let p = c.args.params.now in
    let given = c.deref.result.now in
    let e : numbered_of given ≡ blocks_at c.args.shares.now c.args.at = ap numbered_of c.deref.ensures.value ∙ c.in_ok-blocks.ensures in
    let all : All (λ (g : ℕ × List ℕ). g.0 < p.n) (numbered_of given) = subst (All (λ (g : ℕ × List ℕ). g.0 < p.n)) (sym e) (below_at p c.args.shares.now c.args.at c.requires.taken.cut) in
    subst (λ n. All (λ b. b.0 < n) (take c.args.code.now.k given)) (sym c.requires.code.1)
    (All-take (λ (b : ℕ × Bor (List ℕ)). b.0 < p.n) c.args.code.now.k given
    (from_images (λ (g : ℕ × List ℕ). g.0 < p.n) (λ (b : ℕ × Bor (List ℕ)). (b.0, b.1.now)) given all))

pub returns-in-Ok : goal.returns-in-Ok
returns-in-Ok c =
    let given = c.deref.result.now in
    let e : numbered_of given ≡ blocks_at c.args.shares.now c.args.at = ap numbered_of c.deref.ensures.value ∙ c.in_ok-blocks.ensures in
    let seen : numbered_of (take c.args.code.now.k given) ≡ blocks_at c.args.shares.now c.args.at =
    looked_at c.args.code.now.k given c.args.shares.now c.args.at e (c.requires.taken.many ∙ sym c.requires.code.0) in
    c.in-Ok.ensures.primary ∙ (λ i. c.args.bytes.now.items ++ concat (primary_from (c.requires.code.0 i) (seen i)))

pub unreachable-requires-in-Err-Repeated : goal.unreachable-requires-in-Err-Repeated
unreachable-requires-in-Err-Repeated c =
    let given = c.deref.result.now in
    let e : numbered_of given ≡ blocks_at c.args.shares.now c.args.at = ap numbered_of c.deref.ensures.value ∙ c.in_ok-blocks.ensures in
    let seen : numbered_of (take c.args.code.now.k given) ≡ blocks_at c.args.shares.now c.args.at =
    looked_at c.args.code.now.k given c.args.shares.now c.args.at e (c.requires.taken.many ∙ sym c.requires.code.0) in
    let repeats = (c.decode_into.ensures.repeated.0 (c.in-Err-Repeated.is ∙ ap Err c.in-Err-Repeated.field-0-is)).1 in
    never_repeats (numbers_of (numbered_of (take c.args.code.now.k given)))
    (subst AreDistinct (sym (ap numbers_of seen ∙ numbers-blocks_at c.args.shares.now c.args.at)) c.requires.taken.apart) repeats

pub unreachable-requires-in-Err-UnequalLength : goal.unreachable-requires-in-Err-UnequalLength
unreachable-requires-in-Err-UnequalLength c =
    let given = c.deref.result.now in
    let e : numbered_of given ≡ blocks_at c.args.shares.now c.args.at = ap numbered_of c.deref.ensures.value ∙ c.in_ok-blocks.ensures in
    let seen : numbered_of (take c.args.code.now.k given) ≡ blocks_at c.args.shares.now c.args.at =
    looked_at c.args.code.now.k given c.args.shares.now c.args.at e (c.requires.taken.many ∙ sym c.requires.code.0) in
    let other = (c.decode_into.ensures.unequal.0 (c.in-Err-UnequalLength.is ∙ ap Err c.in-Err-UnequalLength.field-0-is)).2 in
    one_length c.args.params.now c.args.shares.now c.args.at c.requires.inside c.requires.taken.cut (subst (λ (g : List (ℕ × List ℕ)). HasAnotherLength (blocks_of g)) seen other)
