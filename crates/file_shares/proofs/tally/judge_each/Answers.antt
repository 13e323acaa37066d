use Rattle.std.proofs.Common.{◌≡◌, ℕ, ◌++◌, true, false, get_or, [], ap, sym, ◌∙◌, arith, Option}
use Rattle.std.specs.Prelude.{is_some}
use Rattle.share_codec.specs.GoodShare.{GoodShare}
use Rattle.file_shares.specs.Row.{first_good}
use Rattle.file_shares.specs.Check.{bad_places, good_places}
use Rattle.file_shares.proofs.Counts.{good_counted, flat_more}
use Rattle.file_shares.proofs.tally.judge_each.Goals as goal
use Rattle.file_shares.proofs.tally.judge_each.Goals.{then-branch, else-branch}

pub loop-number-preserved : goal.loop-number-preserved
loop-number-preserved c =
    let p = c.args.params.now in
    let ueb = c.args.ueb.now in
    let rows = c.args.rows.now in
    let n : ℕ = c.loop-number.number in
    let f : ℕ → Option GoodShare = λ number. first_good p ueb number (get_or rows number []) in
    let any : c.in_ok-judge.field-0 ≡ is_some (f n) = c.in_ok-judge.ensures.good ∙ ap (λ found. is_some (first_good p ueb n found)) c.places-found.ensures in
    let bad =
    c.in_ok-judge.ensures.corrupt
    ∙ (λ i. c.loop-number.invariant.corrupt i ++ bad_places p ueb n (c.places-found.ensures i))
    ∙ sym (flat_more (λ number. bad_places p ueb number (get_or rows number [])) n) in
    let placed =
    c.in_ok-judge.ensures.places
    ∙ (λ i. c.loop-number.invariant.places i ++ good_places p ueb n (c.places-found.ensures i))
    ∙ sym (flat_more (λ number. good_places p ueb number (get_or rows number [])) n) in
    elim c.if-branch.branch [
      | then-branch w ↦
          let more = good_counted f n true (sym any ∙ w.if-branch.true) in
          let before = c.loop-number.invariant.count in let few = c.loop-number.invariant.few in let is = w.count-is in
          record { count = omega arith; few = omega arith; corrupt = bad; places = placed }
      | else-branch w ↦
          let more = good_counted f n false (sym any ∙ w.if-branch.false) in
          let before = c.loop-number.invariant.count in let few = c.loop-number.invariant.few in let is = w.count-is in
          record { count = omega arith; few = omega arith; corrupt = bad; places = placed }
    ]
