use Rattle.std.proofs.Common.{◌≡◌, ◌∙◌, ℕ, List, inr, ap, subst, false, true, IsTrue}
use Rattle.redis_store.specs.Keys.{key}
use Rattle.redis_store.proofs.Puts.{stood_before, given_behind, set_behind, replaced}
use Rattle.redis_store.proofs.redis_store.RedisStore.offer.Goals as goal

pub returns-clause-said : goal.returns-clause-said
returns-clause-said g c =
    let old = c.args.self.now in
    let first = old.connection.first in
    let name : List ℕ = key old.grid c.args.index.now c.args.number in
    let share : List ℕ = c.args.share.now in
    let named : c.deref.result.now ≡ name = c.deref.ensures.value ∙ c.in_ok-name.ensures in
    let named_again : c.deref-2.result.now ≡ name = c.deref-2.ensures.value ∙ c.in_ok-name.ensures in
    let anew = c.in_ok-put_anew.ensures in
    let there = c.in_ok-is_there.ensures in
    let given = there.given in
    inr (replaced first old.longest name share old.connection.is_open _ _ _ _ given.0
    (stood_before first old.longest name share _ _ _ _ _ c.if-branch.false named anew.said)
    (given_behind first old.longest name share _ _ _ _ _ _ _ anew.well.0 anew.same.2 anew.same.1 (ap (λ (l : List ℕ). key l c.args.index.now c.args.number) anew.same.0) given.1)
    (λ is. absurd (let never : false ≡ true = subst IsTrue c.if-branch-2.false (given.2.1 is) in cc))
    (set_behind first old.longest name share _ _ _ _ _ there.well.0 (there.same.2 ∙ anew.same.2) named_again c.in_ok-replace.ensures.done))
