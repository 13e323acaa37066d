use Rattle.std.proofs.Common.{[], ◌∷◌, ◌+◌, ◌≤◌, sym, subst, arith}
use Rattle.json_members.specs.Brackets.{bracket_depth}
use Rattle.json_members.specs.MemberCuts.{IsMemberCutFrom}
use Rattle.children_reader.specs.Piecewise.{read_to, IsReadTo}
use Rattle.children_reader.proofs.Windows.{read_none}
use Rattle.children_reader.proofs.cutting.Looked.new.Goals as goal

pub returns-clause-looked : goal.returns-clause-looked
returns-clause-looked c =
    let parts = c.member_cuts_are_found_in_parts.ensures in
    let first = c.new-scanner.result in
    let next = c.last_cut.new.self in
    let search = c.new.result in
    let modes = c.last_cut.ensures.mode in
    let depths = c.last_cut.ensures.depth in
    let few : next.depth ≤ 1 = omega (arith, depths, c.new-scanner.ensures.depth, parts.bounded first.mode first.depth (123 ∷ [])) in
    λ json within.
    let read =
    read_none json c.args.at next.mode next.depth few
    (λ bytes place is.
    (let moved = subst (λ m. IsMemberCutFrom m (bracket_depth first.mode first.depth (123 ∷ [])) bytes place) modes (subst (λ n. IsMemberCutFrom next.mode n bytes place) depths is) in
    let found = (parts.places first.mode first.depth (123 ∷ []) bytes place).0 moved in
    subst (λ m. IsMemberCutFrom m 0 (123 ∷ bytes) (1 + place)) c.new-scanner.ensures.mode (subst (λ n. IsMemberCutFrom first.mode n (123 ∷ bytes) (1 + place)) c.new-scanner.ensures.depth found)))
    within in
    record {
      begun = omega arith;
      searched = c.new.ensures.searched json within;
      read = subst (λ n. IsReadTo json c.args.at n (read_to c.args.at n json) next.mode next.depth) (sym c.new.ensures.reached) read;
    }
