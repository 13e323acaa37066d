use Rattle.std.proofs.Common.{rules, ◌≡◌, slice_index, ap, sym, ◌∙◌, arith, refl, w32}
use Rattle.std.proofs.lemmas.List.{take_all}
use Rattle.std.proofs.lemmas.Slice.{overwrites}
use Rattle.std.specs.Int.{to_be_bytes}
use Rattle.sha2.specs.Sha256.{digest_bytes}
use Rattle.sha2.proofs.Absorbing256.{digest_more}
use Rattle.tag_hash.proofs.LaneLemmas.{vector_of_lane}
use Rattle.tag_hash.proofs.messages.digest_at.Goals as goal

pub loop-i-init : goal.loop-i-init
unfolding digest_bytes
loop-i-init g c = (refl, λ h held lane. refl)

pub loop-i-preserved : goal.loop-i-preserved
loop-i-preserved g c = (
  search (rules, overwrites),
  λ h held lane.
      let vector = vector_of_lane g.L.Words.of c.args.state.now h c.loop-i.i _ held (omega arith) in
      let word = c.words.ensures (λ j. slice_index (h j) c.loop-i.i) c.args.j vector lane in
      digest_more c.loop-i.digest (h c.args.j) _ c.loop-i.i _ (c.loop-i.invariant.1 h held lane) (omega (arith, c.loop-i.invariant.0))
      (c.copy_from_slice.ensures.after ∙ c.to_be_bytes.ensures ∙ ap (to_be_bytes w32) word),
)

pub returns : goal.returns
returns g c = λ h held lane.
    let done : c.loop-i.i ≡ 8 = omega arith in
    sym (take_all 32 c.loop-i.digest (omega (arith, c.loop-i.invariant.0))) ∙ rw done at (c.loop-i.invariant.1 h held lane)
