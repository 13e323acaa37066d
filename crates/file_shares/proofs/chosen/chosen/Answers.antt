use Rattle.std.proofs.Common.{◌≡◌, ◌++◌, [], ◌∷◌, ℕ, List, get_or, Option, sym, ap, ◌∙◌, arith, length, length-append}
use Rattle.std.specs.Prelude.{option_to_list}
use Rattle.std.proofs.lemmas.List.{append-nil}
use Rattle.share_codec.specs.Params.{ParamsValue}
use Rattle.share_codec.specs.GoodShare.{GoodShare}
use Rattle.file_shares.specs.Row.{ServerShare, first_good}
use Rattle.file_shares.specs.Gathered.{good_below}
use Rattle.file_shares.proofs.Tools.{one_more, enough_below}
use Rattle.file_shares.proofs.chosen.chosen.Goals as goal
use Rattle.file_shares.proofs.chosen.chosen.Goals.{in-Some+in_ok-push, in_default}

pub returns-then-len-params : goal.returns-then-len-params
returns-then-len-params c =
    let e = c.loop-number.invariant.good in
    let f : ℕ → Option GoodShare = λ number. first_good c.args.params.now c.args.ueb.now number (get_or c.args.rows.now number []) in
    let long : length c.loop-number.shares.items ≡ c.args.params.now.k = (let a = c.loop-number.shares.ok.0 in let b = c.len.ensures in let d = c.if-len-params.true in let k = ap (λ (q : ParamsValue). q.k) c.params.view_is in omega arith) in
    e ∙ enough_below f c.args.params.now.k c.loop-number.number c.args.params.now.n (let n = ap (λ (q : ParamsValue). q.n) c.params.view_is in omega arith) (sym (ap length e) ∙ long)

pub loop-number-preserved : goal.loop-number-preserved
loop-number-preserved c =
    let p = c.args.params.now in
    let ueb = c.args.ueb.now in
    let rows : List (List ServerShare) = c.args.rows.now in
    let n : ℕ = c.loop-number.number in
    let f : ℕ → Option GoodShare = λ number. first_good p ueb number (get_or rows number []) in
    let share_is = c.in_ok-share.ensures ∙ ap (first_good p ueb n) c.places.ensures in
    elim c.match-branch-2.branch [
      | in-Some+in_ok-push w ↦ record {
        good = ap (λ v. v.items) w.shares-is ∙ w.in_ok-push.ensures.items ∙ (λ j. c.loop-number.invariant.good j ++ w.in-Some.share ∷ [])
            ∙ sym (one_more f n ∙ ap (λ o. good_below p ueb rows n ++ option_to_list o) (sym share_is ∙ w.in-Some.is));
        few =
            let e : length c.match-branch-2.shares.items ≡ length (c.loop-number.shares.items ++ w.in-Some.share ∷ []) = ap (λ v. length v.items) w.shares-is ∙ ap length w.in_ok-push.ensures.items in
            let f = length-append c.loop-number.shares.items (w.in-Some.share ∷ []) in
            let a = c.loop-number.shares.ok.0 in let b = c.len.ensures in let d = c.if-len-params.false in let k = ap (λ (q : ParamsValue). q.k) c.params.view_is in let g = c.loop-number.invariant.few in omega arith;
      }
      | in_default w ↦ record {
        good = ap (λ v. v.items) w.shares-is ∙ c.loop-number.invariant.good
            ∙ sym (one_more f n ∙ ap (λ o. good_below p ueb rows n ++ option_to_list o) (sym share_is ∙ w.in_default.is) ∙ append-nil (good_below p ueb rows n));
        few = let e : length c.match-branch-2.shares.items ≡ length c.loop-number.shares.items = ap (λ v. length v.items) w.shares-is in let g = c.loop-number.invariant.few in omega arith;
      }
    ]
