use Rattle.std.proofs.Common.{rules, ◌≡◌, ℕ, List, [], ◌∷◌, ◌++◌, ◌+◌, ◌∙◌, take, drop, refl, ap, sym, subst, append-nil, append_assoc, arith, rules}
use Rattle.std.proofs.lemmas.List.{take_all}
use Rattle.std.proofs.lemmas.Grind.{common_steps}
use Rattle.resp.specs.declared.reply.Reply.{Reply}
use Rattle.resp.specs.Spelled.{SpellsReply, SpellsAll}
use Rattle.redis_store.proofs.Talks.{heard_none, more_heard}
use Rattle.redis_store.proofs.Lists.{spelled_more, taken_more}
use Rattle.redis_store.proofs.talk.hear_each.Goals as goal

pub loop-init : goal.loop-init
loop-init g c = record {
  heard = ([], sym (append-nil c.args.came.now.items), sym (heard_none (g.L.Link.talk c.args.link.now)));
  within = search rules;
  spelled = search rules;
  count = search rules;
}

pub loop-preserved : goal.loop-preserved
loop-preserved g c =
    let before = c.loop.invariant.heard in
    let part = c.in_ok-next.ensures.heard in
    let start : ℕ = c.loop.start in
    let len : ℕ = c.in_ok-next.next.1 in
    let old : List ℕ = c.loop.came.items in
    let new : List ℕ = c.next_reply.new.came.items in
    let all = spelled_more (SpellsReply c.args.limits) c.loop.replies.items c.in_ok-next.next.0 (take start old) (take len (drop start new)) c.loop.invariant.spelled c.in_ok-next.ensures.spelled in
    record {
      heard = (
        before.0 ++ part.0,
        part.1 ∙ ap (λ (l : List ℕ). l ++ part.0) before.1 ∙ append_assoc _ before.0 part.0,
        more_heard _ _ _ before.0 part.0 (before.0 ++ part.0) before.2 part.2 refl,
      );
      within = c.in_ok-next.ensures.within;
      spelled = subst (λ (l : List Reply). SpellsAll (SpellsReply c.args.limits) l (take (start + len) new)) (search rules)
          (subst (λ (l : List ℕ). SpellsAll (SpellsReply c.args.limits) (c.loop.replies.items ++ c.in_ok-next.next.0 ∷ []) l) (sym (taken_more start len old part.0 new part.1 c.loop.invariant.within)) all);
      count = grind (arith, common_steps);
    }

pub returns-clause-heard : goal.returns-clause-heard
returns-clause-heard g c =
    let inv = c.loop.invariant in
    let all : take c.loop.start c.loop.came.items ≡ c.loop.came.items = take_all c.loop.start c.loop.came.items (search rules) in
    (inv.heard.0, inv.heard.1, subst (λ (l : List ℕ). SpellsAll (SpellsReply c.args.limits) c.loop.replies.items l) all inv.spelled, inv.heard.2)
