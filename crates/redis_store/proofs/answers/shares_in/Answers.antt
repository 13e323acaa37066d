use Rattle.std.proofs.Common.{◌≡◌, ◌<◌, ◌+◌, ◌++◌, ℕ, List, [], ◌∷◌, length, map, sym, ap, subst, ◌∙◌, arith}
use Rattle.std.specs.Prelude.{All}
use Rattle.std.specs.Option.{option_map}
use Rattle.std.specs.Rc.{rc_slice_items}
use Rattle.std.specs.Vec.Iter.{into_iter_len}
use Rattle.std.proofs.lemmas.List.{map-id, length-append}
use Rattle.std.proofs.lemmas.Iterator.Adapters.{YieldsList-from_vec}
use Rattle.std.proofs.lemmas.Iterator.Consumers.{YieldsList-end}
use Rattle.resp.specs.declared.reply.Reply.{Reply}
use Rattle.share_store.specs.NumberedShares.{numbered_bytes}
use Rattle.redis_store.specs.Answers.{GiveShares, numbered_share}
use Rattle.redis_store.proofs.Lists.{given_more, some_more}
use Rattle.redis_store.proofs.answers.shares_in.Goals as goal

pub loop-reply-preserved : goal.loop-reply-preserved
loop-reply-preserved c =
    let inv = c.loop-reply.invariant in
    let yielded = c.loop-reply.yielded in
    let reply = c.in-Some.reply in
    let share = c.in_ok-share.share in
    let old = map (numbered_bytes rc_slice_items) c.loop-reply.shares.items in
    let pushed : map (numbered_bytes rc_slice_items) c.push_share.new.shares.items ≡ old ++ numbered_share (length yielded) share =
    c.in_ok-push_share.ensures ∙ ap (λ n. old ++ numbered_share n (option_map rc_slice_items c.in_ok-lent.field-0)) inv.at ∙ ap (λ s. old ++ numbered_share (length yielded) s) c.in_ok-lent.ensures.same in
    record {
      given = subst (GiveShares 0 (yielded ++ reply ∷ [])) (sym pushed) (given_more yielded old reply share inv.given c.in_ok-share.ensures.found);
      some = subst (All (λ (s : ℕ × List ℕ). 0 < length s.1)) (sym pushed) (some_more old (length yielded) share inv.some c.in_ok-share.ensures.some);
      at = ap (λ n. n + 1) inv.at ∙ sym (length-append yielded (reply ∷ []));
    }

pub returns-clause-given : goal.returns-clause-given
returns-clause-given c =
    let long : into_iter_len c.into_iter-reply-iterator.result ≡ length c.args.replies.items = omega arith in
    let all = YieldsList-end (YieldsList-from_vec c.args.replies.items c.into_iter-reply-iterator.ensures.into_iter_gives.0 long) c.loop-reply.yielded _ c.loop-reply.yielded_by c.next.result c.next.new.self c.in-None.is c.next.ensures.steps in
    subst (λ (l : List Reply). GiveShares 0 l (map (numbered_bytes rc_slice_items) c.loop-reply.shares.items)) (sym (map-id c.loop-reply.yielded) ∙ all.0) c.loop-reply.invariant.given
