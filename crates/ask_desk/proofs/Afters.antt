-- How a desk stands after each call.
use Rattle.std.proofs.Common.{◌≡◌, ◌≢◌, ◌<◌, ◌+◌, ◌-◌, ℕ, zero, suc, Bool, true, false, cond, eqb, ◌&&◌, List, [], ◌∷◌, ◌++◌, length, map, take, drop, get_or, refl, sym, ap, subst, ◌∙◌, arith, Option, Some, None, is_some, Bor}
use Rattle.std.specs.Prelude.{is_none, filter, not, IsSome, IfSome, ◌↔◌, slice_get}
use Rattle.std.specs.Option.{option_map, option_copied}
use Rattle.std.specs.List.{flat_map}
use Rattle.std.proofs.lemmas.Bool.{eqb-true, eqb-false, ne_eqb, false≢true}
use Rattle.std.proofs.lemmas.List.{take_all, length-drop}
use Rattle.resp.specs.declared.reply.Reply.{Reply}
use Rattle.ask_desk.specs.declared.ask.Ask.{Ask}
use Rattle.ask_desk.specs.declared.desk.Desk.{Desk}
use Rattle.ask_desk.specs.declared.fault.DeskFault.{DeskFault}
use Rattle.ask_desk.specs.Asks.{is_asked_by, disowned, next_due, due_of, answer_for, last_ask, command_in, is_nobodys}
use Rattle.ask_desk.specs.Dialogue.{Dialogue, IsBehind, unanswered, replies_in, forsaken_in}
use Rattle.ask_desk.specs.Past.{Past, no_past, past_asked, past_again, past_begun, past_written, past_heard, past_over, past_forsaken, past_ended, due_in, last_bytes, next_bytes}
use Rattle.ask_desk.specs.Kept.{kept_for}
use Rattle.ask_desk.specs.Reading.{IsBlank, IsReplyFor, HoldsNext}
use Rattle.ask_desk.specs.After.{IsAfter}
use Rattle.ask_desk.proofs.Orders.{rest_of, unanswered_told, unanswered_forsaken, earlier_forsaken, earlier_more, not_none, due_first}
use Rattle.ask_desk.proofs.Owners.{none_of_forsaken, all_of_others, all_earlier}
use Rattle.ask_desk.proofs.Pasts.{Standing, no_fault, standing_silence, standing_more, standing_whole, standing_over, standing_told, standing_written, standing_forsaken, kept_more, kept_told}

-- all but what waits is as it was
pub record SameBut (desk desk' : Desk) : Type 0 where
  pub awaited : desk'.awaited.items ≡ desk.awaited.items
  pub left : desk'.left ≡ desk.left
  pub reader : desk'.reader ≡ desk.reader
  pub kept : desk'.kept ≡ desk.kept
  pub over : desk'.is_over ≡ desk.is_over

pub standing_of : (past : Past) (desk : Desk) → IsAfter past desk → Standing past.now desk.reader
standing_of past desk a = record { now = a.now; next = a.next }

waits : (past : Past) (desk desk' : Desk) (asked : ℕ) (waiting : List Ask) → IsAfter past desk → SameBut desk desk' → desk'.asked ≡ asked → desk'.waiting.items ≡ waiting → IsAfter (record past { asked = asked; waiting = waiting }) desk'
waits past desk desk' asked waiting a same asked_is waiting_is = record {
  now = a.now;
  earlier = a.earlier;
  asked = asked_is;
  waiting = waiting_is;
  awaited = same.awaited ∙ a.awaited;
  left = same.left ∙ a.left;
  kept = λ owner. ap (λ k. kept_for k.of_owners.entries owner) same.kept ∙ a.kept owner;
  over = same.over ∙ a.over;
  next = λ hearing. subst (λ r. HoldsNext (due_in past) r a.now.part) (sym same.reader) (a.next hearing);
}

pub after_asked : (past : Past) (desk desk' : Desk) (ask : Ask) → IsAfter past desk → SameBut desk desk' → desk'.asked ≡ desk.asked + 1 → desk'.waiting.items ≡ desk.waiting.items ++ ask ∷ [] → IsAfter (past_asked ask past) desk'
after_asked past desk desk' ask a same asked waiting =
    waits past desk desk' (past.asked + 1) (past.waiting ++ ask ∷ []) a same (asked ∙ ap (λ n. n + 1) a.asked) (waiting ∙ ap (λ (l : List Ask). l ++ ask ∷ []) a.waiting)

pub after_nothing : (past : Past) (desk desk' : Desk) → IsAfter past desk → SameBut desk desk' → desk'.asked ≡ desk.asked → desk'.waiting.items ≡ desk.waiting.items → IsAfter past desk'
after_nothing past desk desk' a same asked waiting = waits past desk desk' past.asked past.waiting a same (asked ∙ a.asked) (waiting ∙ a.waiting)

pub after_again : (past : Past) (desk desk' : Desk) (ask : Ask) (ok : Bool) → IsAfter past desk → SameBut desk desk' → is_none ask.owner ≡ false → desk'.asked ≡ desk.asked
    → desk'.waiting.items ≡ cond ok (desk.waiting.items ++ ask ∷ []) desk.waiting.items → IsAfter (cond (is_some ask.owner && ok) (past_again ask past) past) desk'
after_again past desk desk' ask ok a same some asked waiting = by_case ask.owner ok some waiting
  where
    by_case : (whose : Option ℕ) (ok : Bool) → is_none whose ≡ false → desk'.waiting.items ≡ cond ok (desk.waiting.items ++ ask ∷ []) desk.waiting.items → IsAfter (cond (is_some whose && ok) (past_again ask past) past) desk'
    by_case None ok e w = absurd cc
    by_case (Some one) true e w = waits past desk desk' past.asked (past.waiting ++ ask ∷ []) a same (asked ∙ a.asked) (w ∙ ap (λ (l : List Ask). l ++ ask ∷ []) a.waiting)
    by_case (Some one) false e w = after_nothing past desk desk' a same asked w

-- ---- bytes were written

going_on : (count : ℕ) (past : Past) → 0 < past.now.left → past_written count past ≡ record past { now = record past.now { left = past.now.left - count } }
going_on count past some = by_case (eqb past.now.left 0) refl
  where
    by_case : (b : Bool) → eqb past.now.left 0 ≡ b → cond b (cond (eqb count 0) past (past_begun count past.waiting past)) (record past { now = record past.now { left = past.now.left - count } }) ≡ record past { now = record past.now { left = past.now.left - count } }
    by_case true is = absurd (omega (arith, some, eqb-true past.now.left 0 is))
    by_case false is = refl

none_written : (past : Past) → past.now.left ≡ 0 → past_written 0 past ≡ past
none_written past none = ap (λ n. cond (eqb n 0) (cond (eqb 0 0) past (past_begun 0 past.waiting past)) (record past { now = record past.now { left = past.now.left - 0 } })) none

one_begun : (count : ℕ) (past : Past) (waiting : List Ask) → past.now.left ≡ 0 → count ≢ 0 → past.waiting ≡ waiting → past_written count past ≡ past_begun count waiting past
one_begun count past waiting none some is =
    ap (λ n. cond (eqb n 0) (cond (eqb count 0) past (past_begun count past.waiting past)) (record past { now = record past.now { left = past.now.left - count } })) none
    ∙ ap (λ b. cond b past (past_begun count past.waiting past)) (ne_eqb count 0 some)
    ∙ ap (λ (l : List Ask). past_begun count l past) is

pub after_going_on : (past : Past) (desk desk' : Desk) (count : ℕ) → IsAfter past desk → desk.is_over ≡ false → 0 < desk.left → desk' ≡ record desk { left = desk.left - count } → IsAfter (past_written count past) desk'
after_going_on past desk desk' count a hearing some is =
    let none = no_fault desk.is_over past.now.fault a.over hearing in
    let more : 0 < past.now.left = omega (arith, some, a.left) in
    let s = standing_written past.now desk.reader (standing_of past desk a) (past.now.left - count) none more in
    subst (λ (p : Past). IsAfter p desk') (sym (going_on count past more))
    (subst (λ (d : Desk). IsAfter (record past { now = record past.now { left = past.now.left - count } }) d) (sym is) (record {
      now = s.now;
      earlier = a.earlier;
      asked = a.asked;
      waiting = a.waiting;
      awaited = a.awaited;
      left = ap (λ n. n - count) a.left;
      kept = a.kept;
      over = a.over;
      next = s.next;
    }))

pub after_none_written : (past : Past) (desk : Desk) (count : ℕ) → IsAfter past desk → desk.left ≡ 0 → count ≡ 0 → IsAfter (past_written count past) desk
after_none_written past desk count a none zero_count =
    subst (λ n. IsAfter (past_written n past) desk) (sym zero_count) (subst (λ (p : Past). IsAfter p desk) (sym (none_written past (sym a.left ∙ none))) a)

pub after_none_waits : (past : Past) (desk desk' : Desk) (count : ℕ) → IsAfter past desk → SameBut desk desk' → desk.left ≡ 0 → count ≢ 0 → desk.waiting.items ≡ [] → desk'.asked ≡ desk.asked → desk'.waiting.items ≡ [] → IsAfter (past_written count past) desk'
after_none_waits past desk desk' count a same none some empty asked waiting =
    subst (λ (p : Past). IsAfter p desk') (sym (one_begun count past [] (sym a.left ∙ none) some (sym a.waiting ∙ empty)))
    (after_nothing past desk desk' a same asked (waiting ∙ sym empty))

pub after_begun : (past : Past) (desk desk' : Desk) (count : ℕ) (ask : Ask) → IsAfter past desk → desk.is_over ≡ false → desk.left ≡ 0 → count ≢ 0 → desk.waiting.items ≡ ask ∷ desk'.waiting.items → desk'.awaited.items ≡ desk.awaited.items ++ ask ∷ []
    → desk'.left ≡ length ask.command - count → desk'.asked ≡ desk.asked → desk'.reader ≡ desk.reader → desk'.kept ≡ desk.kept → desk'.is_over ≡ desk.is_over → IsAfter (past_written count past) desk'
after_begun past desk desk' count ask a hearing zero_left some waiting awaited left asked reader kept over =
    let none = no_fault desk.is_over past.now.fault a.over hearing in
    let s = standing_told past.now desk.reader (standing_of past desk a) ask (length ask.command - count) none (sym a.left ∙ zero_left) in
    let more = unanswered_told past.now.told (ask ∷ []) past.now.replies a.now.short in
    subst (λ (p : Past). IsAfter p desk') (sym (one_begun count past (ask ∷ desk'.waiting.items) (sym a.left ∙ zero_left) some (sym a.waiting ∙ waiting))) (record {
      now = s.now;
      earlier = a.earlier;
      asked = asked ∙ a.asked;
      waiting = refl;
      awaited = awaited ∙ ap (λ (l : List Ask). l ++ ask ∷ []) a.awaited ∙ sym more;
      left = left;
      kept = λ owner. kept_told owner past ask (kept_for desk'.kept.of_owners.entries owner) a.now (ap (λ k. kept_for k.of_owners.entries owner) kept ∙ a.kept owner);
      over = over ∙ a.over;
      next = λ e. subst (λ r. HoldsNext (next_due (length ask.command - count) (drop (length past.now.replies) (past.now.told ++ ask ∷ []))) r s.now.part) (sym reader) (s.next e);
    })

-- ---- bytes came

-- all but what came is as it was
pub record SameAsks (desk desk' : Desk) : Type 0 where
  pub asked : desk'.asked ≡ desk.asked
  pub waiting : desk'.waiting.items ≡ desk.waiting.items
  pub left : desk'.left ≡ desk.left

-- what happened over the connection is another, and the desk holds it
heard_so : (past : Past) (desk desk' : Desk) (d : Dialogue) → IsAfter past desk → Standing d desk'.reader → SameAsks desk desk' → d.left ≡ past.now.left → desk'.awaited.items ≡ unanswered d
    → ((owner : ℕ) → kept_for desk'.kept.of_owners.entries owner ≡ flat_map (replies_in owner) past.earlier ++ replies_in owner d) → desk'.is_over ≡ is_some d.fault → IsAfter (record past { now = d }) desk'
heard_so past desk desk' d a s same left awaited kept over = record {
  now = s.now;
  earlier = a.earlier;
  asked = same.asked ∙ a.asked;
  waiting = same.waiting ∙ a.waiting;
  awaited = awaited;
  left = same.left ∙ a.left ∙ sym left;
  kept = kept;
  over = over;
  next = s.next;
}

pub after_more : (past : Past) (desk desk' : Desk) (bytes : List ℕ) (a : IsAfter past desk) → desk.is_over ≡ false → SameAsks desk desk' → desk'.awaited.items ≡ desk.awaited.items → desk'.kept ≡ desk.kept → desk'.is_over ≡ desk.is_over
    → HoldsNext (due_in past) desk'.reader (a.now.part ++ bytes) → IsAfter (past_heard bytes None past) desk'
after_more past desk desk' bytes a hearing same awaited kept over held =
    heard_so past desk desk' (record past.now { came = past.now.came ++ bytes }) a (standing_more past.now desk'.reader a.now bytes (no_fault desk.is_over past.now.fault a.over hearing) held) same refl
    (awaited ∙ a.awaited) (λ owner. ap (λ k. kept_for k.of_owners.entries owner) kept ∙ a.kept owner) (over ∙ a.over)

pub after_whole : (past : Past) (desk desk' : Desk) (bytes : List ℕ) (ask : Ask) (answer : Reply) (a : IsAfter past desk) → desk.is_over ≡ false → SameAsks desk desk' → due_in past ≡ Some ask → desk'.awaited.items ≡ drop 1 desk.awaited.items
    → ((owner : ℕ) → kept_for desk'.kept.of_owners.entries owner ≡ kept_for desk.kept.of_owners.entries owner ++ answer_for owner (due_of ask) answer) → desk'.is_over ≡ desk.is_over → IsReplyFor ask.most (a.now.part ++ bytes) answer → IsBlank desk'.reader
    → IsAfter (past_heard bytes (Some answer) past) desk'
after_whole past desk desk' bytes ask answer a hearing same due awaited kept over whole blank =
    let d = due_first past.now.left (unanswered past.now) ask due in
    let left : drop (length (past.now.replies ++ answer ∷ [])) past.now.told ≡ d.rest = rest_of past.now.told d.rest past.now.replies ask answer d.is in
    heard_so past desk desk' (record past.now { came = past.now.came ++ bytes; replies = past.now.replies ++ answer ∷ [] }) a
    (standing_whole past.now desk'.reader a.now bytes ask d.rest answer (no_fault desk.is_over past.now.fault a.over hearing) d.is d.more whole blank) same refl
    (awaited ∙ ap (drop 1) a.awaited ∙ ap (drop 1) d.is ∙ sym left)
    (λ owner. kept_more owner past ask d.rest answer (kept_for desk.kept.of_owners.entries owner) (kept_for desk'.kept.of_owners.entries owner) d.is (a.kept owner) (kept owner)) (over ∙ a.over)

pub after_over : (past : Past) (desk desk' : Desk) (bytes : List ℕ) (fault : DeskFault) (a : IsAfter past desk) → SameAsks desk desk' → desk'.awaited.items ≡ desk.awaited.items
    → ((owner : ℕ) → kept_for desk'.kept.of_owners.entries owner ≡ kept_for desk.kept.of_owners.entries owner) → desk'.is_over ≡ true → IsBehind (Some fault) (due_in past) (a.now.part ++ bytes) → IsAfter (past_over bytes fault past) desk'
after_over past desk desk' bytes fault a same awaited kept over behind =
    heard_so past desk desk' (record past.now { came = past.now.came ++ bytes; fault = Some fault }) a (standing_over past.now desk'.reader a.now bytes fault behind) same refl
    (awaited ∙ a.awaited) (λ owner. kept owner ∙ a.kept owner) over

-- ---- an owner forsook

pub after_forsaken : (past : Past) (desk desk' : Desk) (owner : ℕ) (a : IsAfter past desk) → desk'.asked ≡ desk.asked → desk'.waiting.items ≡ filter (λ (ask : Ask). not (is_asked_by owner ask)) desk.waiting.items
    → desk'.awaited.items ≡ map (disowned owner) desk.awaited.items → desk'.left ≡ desk.left → desk'.is_over ≡ desk.is_over → kept_for desk'.kept.of_owners.entries owner ≡ []
    → ((other : ℕ) → other ≢ owner → kept_for desk'.kept.of_owners.entries other ≡ kept_for desk.kept.of_owners.entries other)
    → ((part : List ℕ) → HoldsNext (due_in past) desk.reader part → HoldsNext (option_map (disowned owner) (due_in past)) desk'.reader part) → IsAfter (past_forsaken owner past) desk'
after_forsaken past desk desk' owner a asked waiting awaited left over own others holds =
    let s = standing_forsaken owner past.now desk.reader desk'.reader (standing_of past desk a) holds in
    record {
      now = s.now;
      earlier = earlier_forsaken owner past.earlier a.earlier;
      asked = asked ∙ a.asked;
      waiting = waiting ∙ ap (filter (λ (ask : Ask). not (is_asked_by owner ask))) a.waiting;
      awaited = awaited ∙ ap (map (disowned owner)) a.awaited ∙ sym (unanswered_forsaken owner past.now);
      left = left ∙ a.left;
      kept = λ other. by_case other (eqb other owner) refl;
      over = over ∙ a.over;
      next = s.next;
    }
  where
    by_case : (other : ℕ) (b : Bool) → eqb other owner ≡ b
        → kept_for desk'.kept.of_owners.entries other ≡ flat_map (replies_in other) (map (forsaken_in owner) past.earlier) ++ replies_in other (forsaken_in owner past.now)
    by_case other true is =
        let same = eqb-true other owner is in
        subst (λ n. kept_for desk'.kept.of_owners.entries n ≡ flat_map (replies_in n) (map (forsaken_in owner) past.earlier) ++ replies_in n (forsaken_in owner past.now)) (sym same)
        (own ∙ sym (none_of_forsaken owner past.earlier past.now))
    by_case other false is =
        let apart : other ≢ owner = eqb-false other owner is in
        others other apart ∙ a.kept other ∙ sym (all_of_others owner other past.earlier past.now apart)

-- ---- the connection ended

pub after_ended : (past : Past) (desk desk' : Desk) → IsAfter past desk → desk'.asked ≡ desk.asked → desk'.waiting.items ≡ desk.waiting.items → desk'.awaited.items ≡ [] → desk'.left ≡ 0 → desk'.is_over ≡ false → desk'.kept ≡ desk.kept → IsBlank desk'.reader
    → IsAfter (past_ended past) desk'
after_ended past desk desk' a asked waiting awaited left over kept blank =
    let s = standing_silence desk'.reader blank in
    record {
      now = s.now;
      earlier = earlier_more past.earlier past.now a.earlier a.now;
      asked = asked ∙ a.asked;
      waiting = waiting ∙ a.waiting;
      awaited = awaited;
      left = left;
      kept = λ owner. ap (λ k. kept_for k.of_owners.entries owner) kept ∙ a.kept owner ∙ sym (all_earlier owner past.earlier past.now);
      over = over;
      next = s.next;
    }

pub after_nothing_yet : (desk : Desk) → desk.asked ≡ 0 → desk.waiting.items ≡ [] → desk.awaited.items ≡ [] → desk.left ≡ 0 → desk.is_over ≡ false → ((owner : ℕ) → kept_for desk.kept.of_owners.entries owner ≡ []) → IsBlank desk.reader → IsAfter no_past desk
after_nothing_yet desk asked waiting awaited left over kept blank =
    let s = standing_silence desk.reader blank in
    record {
      now = s.now;
      earlier = tt;
      asked = asked;
      waiting = waiting;
      awaited = awaited;
      left = left;
      kept = kept;
      over = over;
      next = s.next;
    }

-- ---- what is to be written

last_dropped : (n : ℕ) (asks : List Ask) → drop n asks ≢ [] → last_ask (drop n asks) ≡ last_ask asks
last_dropped zero asks some = refl
last_dropped (suc n) [] some = refl
last_dropped (suc n) (ask ∷ []) some = absurd (some (nothing n))
  where
    nothing : (n : ℕ) → ◌≡◌ {A = List Ask} (drop n []) []
    nothing zero = refl
    nothing (suc n) = refl
last_dropped (suc n) (ask ∷ other ∷ asks) some = last_dropped n (other ∷ asks) some

last_is : (asks : List Ask) (ask : Ask) → asks ≢ [] → ask ≡ get_or asks (length asks - 1) ask → last_ask asks ≡ Some ask
last_is [] ask some is = absurd (some refl)
last_is (one ∷ []) ask some is = ap (λ (x : Ask). Some x) (sym is)
last_is (one ∷ other ∷ asks) ask some is = last_is (other ∷ asks) ask (not_none other asks) (is ∙ ap (λ n. get_or (one ∷ other ∷ asks) n ask) at)
  where
    at : length (one ∷ other ∷ asks) - 1 ≡ suc (length (other ∷ asks) - 1)
    at = omega arith

-- the last one of those that await is the last one that was told
pub last_awaited : (past : Past) (desk : Desk) (ask : Ask) → IsAfter past desk → 0 < desk.left → ask ≡ get_or desk.awaited.items (length desk.awaited.items - 1) ask → last_ask past.now.told ≡ Some ask
last_awaited past desk ask a some is =
    let still : 0 < past.now.left = omega (arith, some, a.left) in
    sym (last_dropped (length past.now.replies) past.now.told (a.now.written still))
    ∙ last_is (unanswered past.now) ask (a.now.written still) (subst (λ (l : List Ask). ask ≡ get_or l (length l - 1) ask) a.awaited is)

-- the last one of a queue, by what `back` gives
back_is : (r : Option (Bor Ask)) (items : List Ask) (n : ℕ) → (IsSome r ↔ (0 < n)) → IfSome r (λ x. x.now ≡ get_or items (n - 1) x.now) → n ≡ length items → 0 < n → (ask : Ask) × (option_copied r ≡ Some ask) × (ask ≡ get_or items (length items - 1) ask)
back_is None items n variant lookup long some = absurd (false≢true (variant.1 some))
back_is (Some x) items n variant lookup long some = (x.now, refl, lookup ∙ ap (λ m. get_or items (m - 1) x.now) long)

-- some one awaits a reply while one is being written
some_awaited : (asks : List Ask) → asks ≢ [] → 0 < length asks
some_awaited [] some = absurd (some refl)
some_awaited (ask ∷ asks) some = omega arith

pub next_of_begun : (past : Past) (desk : Desk) (r : Option (Bor Ask)) (n k : ℕ) (command : List ℕ) → IsAfter past desk → (desk.left ≡ 0 → ⊥) → (IsSome r ↔ (0 < n)) → IfSome r (λ x. x.now ≡ get_or desk.awaited.items (n - 1) x.now) → n ≡ length desk.awaited.items
    → command ≡ command_in (option_copied r) → k ≡ length command - desk.left → take (length command - k) (drop k command) ≡ next_bytes past
next_of_begun past desk r n k command a begun variant lookup long command_is k_is =
    let some : 0 < desk.left = omega (arith, begun) in
    let still : 0 < past.now.left = omega (arith, some, a.left) in
    let awaits : 0 < n = omega (arith, long, ap length a.awaited, some_awaited (unanswered past.now) (a.now.written still)) in
    let b = back_is r desk.awaited.items n variant lookup long awaits in
    let told : last_ask past.now.told ≡ option_copied r = last_awaited past desk b.0 a some b.2 ∙ sym b.1 in
    let mine : command ≡ command_in (last_ask past.now.told) = command_is ∙ ap command_in (sym told) in
    take_all (length command - k) (drop k command) (omega (arith, length-drop k command))
    ∙ ap (λ m. drop m command) (k_is ∙ ap (λ m. length command - m) a.left)
    ∙ ap (λ (l : List ℕ). last_bytes past.now.left l) mine
    ∙ sym (ap (λ b. cond b (command_in (slice_get past.waiting 0)) (last_bytes past.now.left (command_in (last_ask past.now.told)))) (ne_eqb past.now.left 0 (λ e. omega (arith, e, still))))

-- ---- the first one of a queue, by what `front` gives

pub front_is : (r : Option (Bor Ask)) (items : List Ask) (n : ℕ) → (IsSome r ↔ (0 < n)) → IfSome r (λ x. x.now ≡ get_or items 0 x.now) → n ≡ length items → option_copied r ≡ slice_get items 0
front_is None [] n variant lookup long = refl
front_is None (ask ∷ items) n variant lookup long = absurd (false≢true (variant.1 (omega (arith, long))))
front_is (Some x) [] n variant lookup long = absurd (omega (arith, long, variant.0 refl))
front_is (Some x) (ask ∷ items) n variant lookup long = ap (λ (a : Ask). Some a) lookup

-- whether the first one is nobody's, once an owner forsook
pub first_forsaken : (past : Past) (desk : Desk) (owner : ℕ) (awaited : List Ask) (front : Option Ask) (none : Bool) → IsAfter past desk → awaited ≡ map (disowned owner) desk.awaited.items → front ≡ slice_get awaited 0 → none ≡ is_nobodys front
    → (ask : Ask) → due_in past ≡ Some ask → none ≡ is_none (disowned owner ask).owner
first_forsaken past desk owner awaited front none a awaited_is front_is none_is ask due =
    let d = due_first past.now.left (unanswered past.now) ask due in
    none_is ∙ ap is_nobodys (front_is ∙ ap (λ (l : List Ask). slice_get l 0) (awaited_is ∙ ap (map (disowned owner)) (a.awaited ∙ d.is)))
