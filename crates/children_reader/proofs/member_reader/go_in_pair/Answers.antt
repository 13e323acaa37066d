use Rattle.std.proofs.Common.{◌≡◌, None, sym, subst, ◌∙◌}
use Rattle.json.specs.Token.{Token}
use Rattle.json.specs.Reads.{token_of}
use Rattle.json_stack.specs.Machine.{state_within}
use Rattle.serde_json.specs.Data.{array}
use Rattle.children_reader.specs.Kept.{IsOutcome}
use Rattle.children_reader.specs.MemberReader.{IsOn}
use Rattle.children_reader.specs.declared.member_reader.Stage.{Stage}
use Rattle.children_reader.proofs.MemberStages.{array_end_is, list_ended}
use Rattle.children_reader.proofs.member_reader.go_in_pair.Goals as goal

pub returns-then-closes_array-clause-ok : goal.returns-then-closes_array-clause-ok
returns-then-closes_array-clause-ok c =
    let t = token_of c.args.token in
    let key = c.args.key in
    let outcome = c.in_ok-outcome.outcome in
    let is : t ≡ Token.end_array = array_end_is t (sym c.closes_array.ensures ∙ c.if-closes_array.true) in
    λ room frames at.
    subst (λ u. IsOn (state_within room frames u) c.push.new.self.items Stage.Members None) (sym is)
    (list_ended c.args.outcomes.now.items c.push.new.self.items key c.args.listed outcome c.in_ok-push.ensures.items
    (λ ds are. subst (λ k. IsOutcome k (array ds) outcome) c.as_str.ensures.value (c.in_ok-outcome.ensures (array ds) (c.node_of.ensures ds are))) room frames at)
