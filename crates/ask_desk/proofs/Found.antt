-- Where the reply to an ask stands.
use Rattle.std.proofs.Common.{◌≡◌, ℕ, suc, zero, Bool, true, false, cond, eqb, List, [], ◌∷◌, ◌++◌, length, refl, sym, ap, ◌∙◌, Option, Some, None, ◌⊎◌, inl, inr, Bor}
use Rattle.std.specs.Prelude.{slice_get, find, IfSome}
use Rattle.std.specs.Option.{option_map, option_copied}
use Rattle.std.specs.List.{flat_map, AllByRecursion}
use Rattle.std.proofs.lemmas.Bool.{eqb-true}
use Rattle.resp.specs.declared.reply.Reply.{Reply}
use Rattle.ask_desk.specs.declared.ask.Ask.{Ask}
use Rattle.ask_desk.specs.declared.kept.Answer.{Answer}
use Rattle.ask_desk.specs.Asks.{is_owner, is_asked_by}
use Rattle.ask_desk.specs.Dialogue.{Dialogue, IsInOrder, replies_to, replies_in}
use Rattle.ask_desk.specs.Past.{Past, answers_in, IsReplyTo}
use Rattle.ask_desk.specs.Kept.{reply_of_ticket}

-- an ask with its place and the reply that stands there
pub record Placed (owner ticket : ℕ) (told : List Ask) (answers : List Reply) (answer : Reply) : Type 0 where
  pub ask : Ask
  pub place : ℕ
  pub asked : (ask.owner ≡ Some owner) × (ask.ticket ≡ ticket)
  pub told_there : slice_get told place ≡ Some ask
  pub given : slice_get answers place ≡ Some answer

further : (owner ticket : ℕ) (told : List Ask) (answers : List Reply) (first : Ask) (one answer : Reply) → Placed owner ticket told answers answer → Placed owner ticket (first ∷ told) (one ∷ answers) answer
further owner ticket told answers first one answer p = record { ask = p.ask; place = suc p.place; asked = p.asked; told_there = p.told_there; given = p.given }

owned : (owner : ℕ) (whose : Option ℕ) → is_owner owner whose ≡ true → whose ≡ Some owner
owned owner None is = absurd cc
owned owner (Some one) is = ap (λ n. Some n) (eqb-true one owner is)

-- the answer with a ticket is this one, or one of the others
first_or : (ticket : ℕ) (one : Answer) (others : List Answer) (answer : Reply) → reply_of_ticket ticket (one ∷ others) ≡ Some answer
    → ((one.ticket ≡ ticket) × (one.reply ≡ answer)) ⊎ (reply_of_ticket ticket others ≡ Some answer)
first_or ticket one others answer found = by_case (eqb one.ticket ticket) refl found
  where
    by_case : (b : Bool) → eqb one.ticket ticket ≡ b → option_map (λ (a : Answer). a.reply) (cond b (Some one) (find (λ (a : Answer). eqb a.ticket ticket) others)) ≡ Some answer
        → ((one.ticket ≡ ticket) × (one.reply ≡ answer)) ⊎ (reply_of_ticket ticket others ≡ Some answer)
    by_case true is f = inl (eqb-true one.ticket ticket is, (let same : one.reply ≡ answer = cc in same))
    by_case false is f = inr f

pub placed : (owner ticket : ℕ) (told : List Ask) (answers : List Reply) (answer : Reply) → reply_of_ticket ticket (replies_to owner told answers) ≡ Some answer → Placed owner ticket told answers answer
placed owner ticket [] answers answer found = absurd cc
placed owner ticket (ask ∷ told) [] answer found = absurd cc
placed owner ticket (ask ∷ told) (one ∷ answers) answer found =
    by_case (is_asked_by owner ask) refl (placed owner ticket told answers answer) found
  where
    by_case : (b : Bool) → is_asked_by owner ask ≡ b
        → (reply_of_ticket ticket (replies_to owner told answers) ≡ Some answer → Placed owner ticket told answers answer)
        → reply_of_ticket ticket (cond b (record { ticket = ask.ticket; reply = one } ∷ replies_to owner told answers) (replies_to owner told answers)) ≡ Some answer
        → Placed owner ticket (ask ∷ told) (one ∷ answers) answer
    by_case false is rest f = further owner ticket told answers ask one answer (rest f)
    by_case true is rest f = elim (first_or ticket (record { ticket = ask.ticket; reply = one }) (replies_to owner told answers) answer f) [
      | inl here ↦ record { ask = ask; place = 0; asked = (owned owner ask.owner is, here.0); told_there = refl; given = ap (λ (r : Reply). Some r) here.1 }
      | inr there ↦ further owner ticket told answers ask one answer (rest there)
    ]

pub found_behind : (ticket : ℕ) (front back : List Answer) (answer : Reply) → reply_of_ticket ticket (front ++ back) ≡ Some answer
    → (reply_of_ticket ticket front ≡ Some answer) ⊎ (reply_of_ticket ticket back ≡ Some answer)
found_behind ticket [] back answer found = inr found
found_behind ticket (one ∷ front) back answer found = by_case (eqb one.ticket ticket) refl (found_behind ticket front back answer) found
  where
    by_case : (b : Bool) → eqb one.ticket ticket ≡ b
        → (reply_of_ticket ticket (front ++ back) ≡ Some answer → (reply_of_ticket ticket front ≡ Some answer) ⊎ (reply_of_ticket ticket back ≡ Some answer)) → option_map (λ (a : Answer). a.reply) (cond b (Some one) (find (λ (a : Answer). eqb a.ticket ticket) (front ++ back))) ≡ Some answer
        → (option_map (λ (a : Answer). a.reply) (cond (eqb one.ticket ticket) (Some one) (find (λ (a : Answer). eqb a.ticket ticket) front)) ≡ Some answer) ⊎ (reply_of_ticket ticket back ≡ Some answer)
    by_case true is rest f = inl (ap (λ b. option_map (λ (a : Answer). a.reply) (cond b (Some one) (find (λ (a : Answer). eqb a.ticket ticket) front))) is ∙ f)
    by_case false is rest f = elim (rest f) [
      | inl here ↦ inl (ap (λ b. option_map (λ (a : Answer). a.reply) (cond b (Some one) (find (λ (a : Answer). eqb a.ticket ticket) front))) is ∙ here)
      | inr there ↦ inr there
    ]

-- a connection of a list, with an ask and its reply
pub record Listed (owner ticket : ℕ) (ds : List Dialogue) (answer : Reply) : Type 0 where
  pub dialogue : Dialogue
  pub number : ℕ
  pub of_list : slice_get ds number ≡ Some dialogue
  pub there : Placed owner ticket dialogue.told dialogue.replies answer
  pub in_order : IsInOrder dialogue

pub listed : (owner ticket : ℕ) (ds : List Dialogue) (answer : Reply) → AllByRecursion IsInOrder ds → reply_of_ticket ticket (flat_map (replies_in owner) ds) ≡ Some answer → Listed owner ticket ds answer
listed owner ticket [] answer all found = absurd cc
listed owner ticket (d ∷ ds) answer all found = elim (found_behind ticket (replies_in owner d) (flat_map (replies_in owner) ds) answer found) [
  | inl here ↦ record { dialogue = d; number = 0; of_list = refl; there = placed owner ticket d.told d.replies answer here; in_order = all.0 }
  | inr later ↦
      let l = listed owner ticket ds answer all.1 later in
      record { dialogue = l.dialogue; number = suc l.number; of_list = l.of_list; there = l.there; in_order = l.in_order }
]

in_front : (ds more : List Dialogue) (number : ℕ) (d : Dialogue) → slice_get ds number ≡ Some d → slice_get (ds ++ more) number ≡ Some d
in_front [] more number d is = absurd cc
in_front (first ∷ ds) more zero d is = is
in_front (first ∷ ds) more (suc number) d is = in_front ds more number d is

at_end : (ds : List Dialogue) (d : Dialogue) → slice_get (ds ++ d ∷ []) (length ds) ≡ Some d
at_end [] d = refl
at_end (first ∷ ds) d = at_end ds d

pub found_in_past : (owner ticket : ℕ) (past : Past) (answer : Reply) → AllByRecursion IsInOrder past.earlier → IsInOrder past.now → reply_of_ticket ticket (answers_in owner past) ≡ Some answer → IsReplyTo owner ticket past answer
found_in_past owner ticket past answer earlier now found = elim (found_behind ticket (flat_map (replies_in owner) past.earlier) (replies_in owner past.now) answer found) [
  | inl before ↦
      let l = listed owner ticket past.earlier answer earlier before in
      record {
        dialogue = l.dialogue;
        ask = l.there.ask;
        number = l.number;
        place = l.there.place;
        of_past = in_front past.earlier (past.now ∷ []) l.number l.dialogue l.of_list;
        asked = l.there.asked;
        told = l.there.told_there;
        given = l.there.given;
        in_order = l.in_order;
      }
  | inr here ↦
      let p = placed owner ticket past.now.told past.now.replies answer here in
      record {
        dialogue = past.now;
        ask = p.ask;
        number = length past.earlier;
        place = p.place;
        of_past = at_end past.earlier past.now;
        asked = p.asked;
        told = p.told_there;
        given = p.given;
        in_order = now;
      }
]

pub given_in_order : (owner ticket : ℕ) (past : Past) (r : Option (Bor Reply)) → AllByRecursion IsInOrder past.earlier → IsInOrder past.now → option_copied r ≡ reply_of_ticket ticket (answers_in owner past) → IfSome r (λ answer. IsReplyTo owner ticket past answer.now)
given_in_order owner ticket past None earlier now is = tt
given_in_order owner ticket past (Some x) earlier now is = found_in_past owner ticket past x.now earlier now (sym is)
