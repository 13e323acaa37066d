use Rattle.std.proofs.Common.{ℕ, List, ◌++◌, true, false, length, get_or, [], ap, sym, ◌∙◌, arith}
use Rattle.std.specs.Prelude.{◌==◌, not}
use Rattle.file_shares.specs.Gathered.{places_at}
use Rattle.file_shares.proofs.Counts.{kept_counted, flat_more}
use Rattle.file_shares.proofs.tally.standing.Goals as goal
use Rattle.file_shares.proofs.tally.standing.Goals.{then-not-is_empty, else-not-is_empty}

pub loop-number-preserved : goal.loop-number-preserved
loop-number-preserved c =
    let rows = c.args.rows.now in
    let n : ℕ = c.loop-number.number in
    let of_row = ap (λ (l : List ℕ). not (length l == 0)) (sym c.servers-there.ensures) in
    let placed =
    c.in_ok-put_places.ensures
    ∙ (λ i. c.loop-number.invariant.places i ++ places_at n (c.servers-there.ensures i))
    ∙ sym (flat_more (λ number. places_at number (get_or rows number [])) n) in
    elim c.if-not-is_empty.branch [
      | then-not-is_empty w ↦
          let more = kept_counted (λ number. not (length (get_or rows number []) == 0)) n true (of_row ∙ ap not (sym c.is_empty.ensures ∙ w.if-not-is_empty.true)) in
          let before = c.loop-number.invariant.count in let few = c.loop-number.invariant.few in let is = w.count-is in
          record { count = omega arith; few = omega arith; places = placed }
      | else-not-is_empty w ↦
          let more = kept_counted (λ number. not (length (get_or rows number []) == 0)) n false (of_row ∙ ap not (sym c.is_empty.ensures ∙ w.if-not-is_empty.false)) in
          let before = c.loop-number.invariant.count in let few = c.loop-number.invariant.few in let is = w.count-is in
          record { count = omega arith; few = omega arith; places = placed }
    ]
