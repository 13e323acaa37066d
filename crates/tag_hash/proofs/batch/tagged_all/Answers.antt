use Rattle.std.proofs.Common.{◌≡◌, ℕ, ◌-◌, ◌++◌, ◌≤◌, List, Bor, length, map, take, drop, sym, ap, ◌∙◌, arith, length-drop}
use Rattle.std.proofs.Math.Seq.{take-add}
use Rattle.std.proofs.lemmas.List.{map-append, take_all}
use Rattle.tag_hash.specs.Tagged.{tagged}
use Rattle.tag_hash.proofs.batch.tagged_all.Goals as goal

pub loop-at-preserved : goal.loop-at-preserved
loop-at-preserved c =
    let f : Bor (List ℕ) → List ℕ = λ value. tagged c.args.tag.now value.now in
    let values : List (Bor (List ℕ)) = c.args.values.now in
    let at : ℕ = c.loop-at.at in
    let n : ℕ = c.in_ok-at.field-0 in
    let size = length-drop at values in
    let rest : take (length values - at) (drop at values) ≡ drop at values = take_all (length values - at) (drop at values) (omega arith) in
    let within : n ≤ length (drop at values) = rw rest at c.in_ok-at.ensures.within in
    record {
      within = omega arith;
      hashed = c.in_ok-at.ensures.pushed
          ∙ ap (λ l. c.loop-at.digests.items ++ map f (take n l)) rest
          ∙ ap (λ l. l ++ map f (take n (drop at values))) c.loop-at.invariant.hashed
          ∙ sym (ap (map f) (take-add at n values) ∙ map-append f (take at values) (take n (drop at values)));
    }
