use Rattle.std.proofs.Common.{◌≡◌, List, [], ◌∷◌, refl, sym, ap, ◌∙◌, subst, option_and_then}
use Rattle.json.specs.Token.{Token}
use Rattle.json_stack.specs.Machine.{StackState, next_state, state_after, start_state, result_of}
use Rattle.serde_json.specs.Read.{of_json}
use Rattle.json_tree.specs.Builders.{FollowsStack}
use Rattle.json_tree.proofs.laws.builders_read_the_grammar.Goals as goal

after_first : (s : StackState) (t : Token) (ts : List Token) → state_after s (t ∷ ts) ≡ state_after (next_state s t) ts
unfolding state_after
after_first s t ts = refl

after_none : (s : StackState) → state_after s [] ≡ s
unfolding state_after
after_none s = refl

pub returns-clause-begins : goal.returns-clause-begins
returns-clause-begins c levels builder at = subst (λ s. FollowsStack s builder) (sym (after_none (start_state levels))) at

pub returns-clause-goes_on : goal.returns-clause-goes_on
returns-clause-goes_on c levels ts t old new at over =
    let s = state_after (start_state levels) ts in
    let after = c.pieces_are_read_on.ensures.joined (start_state levels) ts (t ∷ []) ∙ after_first s t [] ∙ after_none (next_state s t) in
    subst (λ r. FollowsStack r new) (sym after) (over s at)

pub returns-clause-refuses : goal.returns-clause-refuses
returns-clause-refuses c levels ts more t builder at refused =
    let s = state_after (start_state levels) ts in
    let after = c.pieces_are_read_on.ensures.joined (start_state levels) ts (t ∷ more) ∙ after_first s t more in
    ap (option_and_then of_json) (c.machine_reads_the_grammar.ensures.value levels _ ∙ ap result_of after) ∙ refused s at more
