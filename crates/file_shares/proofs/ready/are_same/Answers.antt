use Rattle.std.proofs.Common.{◌≡◌, ◌++◌, ◌∷◌, [], ◌≤◌, ℕ, List, Global, map, length, sym, ap, ◌∙◌, arith}
use Rattle.std.specs.Rc.{rc_slice_items}
use Rattle.std.specs.declared.rc.RcSlice.{RcSlice}
use Rattle.std.proofs.lemmas.List.{map_more, take_all}
use Rattle.file_shares.specs.Gathered.{found_string, Found}
use Rattle.file_shares.proofs.ready.are_same.Goals as goal

abbrev Lent : Type 0
Lent = ℕ × ℕ × RcSlice ℕ Global

abbrev view : Lent → Found
view = found_string rc_slice_items

pub loop-at-preserved : goal.loop-at-preserved
loop-at-preserved c =
    let some : List Lent = c.args.some.now in
    let others : List Lent = c.args.others.now in
    let at : ℕ = c.loop-at.at in
    let long : length some ≡ length others = c.if-some-others.false in
    let one : Lent = c.index-some-at.result in
    let other : Lent = c.index-others-at.result in
    let same : view one ≡ view other = c.is_same.ensures c.if-not-is_same.false in
    map_more view some at one c.loop-at-test.true
    ∙ (λ i. c.loop-at.invariant i ++ (ap view (sym c.index-some-at.is) ∙ same ∙ ap view c.index-others-at.is) i ∷ [])
    ∙ sym (map_more view others at other (let h = c.loop-at-test.true in omega arith))

pub returns : goal.returns
returns c is =
    let some : List Lent = c.args.some.now in
    let others : List Lent = c.args.others.now in
    let long : length some ≡ length others = c.if-some-others.false in
    let all : length some ≤ c.loop-at.at = (let h = c.loop-at-test.false in omega arith) in
    let all_others : length others ≤ c.loop-at.at = omega arith in
    ap (map view) (sym (take_all c.loop-at.at some all)) ∙ c.loop-at.invariant ∙ ap (map view) (take_all c.loop-at.at others all_others)
