-- What hearing bytes leads to.
use Rattle.std.proofs.Common.{◌≡◌, ℕ, Bool, true, false, List, ◌++◌, take, drop, refl, sym, ap, subst, ◌∙◌, Option, Some, None, is_some, Result, Ok, Err}
use Rattle.std.specs.Prelude.{is_err, OnErr, OnOk}
use Rattle.std.proofs.lemmas.Bool.{false≢true}
use Rattle.std.specs.Option.{option_map}
use Rattle.resp.specs.declared.reply.Reply.{Reply}
use Rattle.ask_desk.specs.declared.ask.Ask.{Ask}
use Rattle.ask_desk.specs.declared.desk.Desk.{Desk}
use Rattle.ask_desk.specs.declared.desk.Due.{Due}
use Rattle.ask_desk.specs.declared.fault.DeskFault.{DeskFault}
use Rattle.ask_desk.specs.declared.reader.Read.TheVariants.{More, Whole, Skipped}
use Rattle.ask_desk.specs.Asks.{next_due, due_of, answer_for}
use Rattle.ask_desk.specs.Past.{Past, past_over, due_in}
use Rattle.ask_desk.specs.Kept.{kept_for}
use Rattle.ask_desk.specs.Reading.{IsHeld, IsStep, IsStoppedBy, IsReplyFor, HoldsNext}
use Rattle.ask_desk.specs.After.{IsAfter, IsHeard, owner_answered}
use Rattle.ask_desk.proofs.Orders.{some_due}
use Rattle.ask_desk.proofs.Pasts.{no_fault, stopped_behind, kept_none}
use Rattle.ask_desk.proofs.Afters.{SameAsks, after_more, after_whole, after_over}

-- what is said of a failure, or of a success, where it is one
pub at_err : {T E P : Type 0} (r : Result T E) (b : Bool) → b ≡ is_err r → b ≡ true → OnErr r P → P
at_err (Ok x) b is failed p = absurd (false≢true (sym is ∙ failed))
at_err (Err e) b is failed p = p

pub at_ok : {T E P : Type 0} (r : Result T E) (b : Bool) → b ≡ is_err r → b ≡ false → OnOk r P → P
at_ok (Ok x) b is done p = p
at_ok (Err e) b is done p = absurd (false≢true (sym done ∙ is))

-- the ask that is due, by what the code knows of it
pub record Expected (past : Past) (desk : Desk) (a : IsAfter past desk) (due : Due) (keeps : Bool) : Type 0 where
  pub ask : Ask
  pub is : due_in past ≡ Some ask
  pub due_is : due ≡ due_of ask
  pub held : IsHeld keeps due.most desk.reader a.now.part

same_due : (past : Past) (desk : Desk) → IsAfter past desk → next_due desk.left desk.awaited.items ≡ due_in past
same_due past desk a = ap (λ n. next_due n desk.awaited.items) a.left ∙ ap (next_due past.now.left) a.awaited

ask_of : (o : Option Ask) (due : Due) → Some due ≡ option_map due_of o → (ask : Ask) × (o ≡ Some ask) × (due ≡ due_of ask)
ask_of None due is = absurd cc
ask_of (Some ask) due is = (ask, refl, (let same : due ≡ due_of ask = cc in same))

pub expected : (past : Past) (desk : Desk) (a : IsAfter past desk) (due : Due) (keeps : Bool) → desk.is_over ≡ false → Some due ≡ option_map due_of (next_due desk.left desk.awaited.items) → keeps ≡ is_some due.owner → Expected past desk a due keeps
expected past desk a due keeps hearing is keeps_is =
    let found = ask_of (due_in past) due (is ∙ ap (option_map due_of) (same_due past desk a)) in
    let ask = found.0 in
    let held : IsHeld (is_some ask.owner) ask.most desk.reader a.now.part = some_due (due_in past) ask desk.reader a.now.part (a.next (no_fault desk.is_over past.now.fault a.over hearing)) found.1 in
    record {
      ask = ask;
      is = found.1;
      due_is = found.2;
      held = subst (λ b. IsHeld b due.most desk.reader a.now.part) (sym keeps_is) (subst (λ (d : Due). IsHeld (is_some d.owner) d.most desk.reader a.now.part) (sym found.2) held);
    }

-- a step that asks for more
pub hears_more : (past : Past) (desk desk' : Desk) (a : IsAfter past desk) (bytes : List ℕ) (due : Due) (keeps : Bool) (count : ℕ) → desk.is_over ≡ false → keeps ≡ is_some due.owner → Expected past desk a due keeps
    → IsStep keeps due.most a.now.part bytes (record { count = count; read = More }) desk'.reader → SameAsks desk desk' → desk'.awaited.items ≡ desk.awaited.items → desk'.kept ≡ desk.kept → desk'.is_over ≡ desk.is_over
    → IsHeard past bytes (record { count = count; owner = None }) desk'
hears_more past desk desk' a bytes due keeps count hearing keeps_is e s same awaited kept over =
    let held : IsHeld (is_some due.owner) due.most desk'.reader (a.now.part ++ take count bytes) = subst (λ b. IsHeld b due.most desk'.reader (a.now.part ++ take count bytes)) keeps_is s.leads in
    let of_ask : IsHeld (is_some e.ask.owner) e.ask.most desk'.reader (a.now.part ++ take count bytes) = subst (λ (d : Due). IsHeld (is_some d.owner) d.most desk'.reader (a.now.part ++ take count bytes)) e.due_is held in
    record {
      answer = None;
      some = s.some;
      within = s.within;
      owner = refl;
      after = after_more past desk desk' (take count bytes) a hearing same awaited kept over
          (subst (λ (o : Option Ask). HoldsNext o desk'.reader (a.now.part ++ take count bytes)) (sym e.is) of_ask);
    }

-- and one with which the reply is whole
pub hears_whole : (past : Past) (desk desk' : Desk) (a : IsAfter past desk) (bytes : List ℕ) (due : Due) (keeps : Bool) (count : ℕ) (answer : Reply) → desk.is_over ≡ false → Expected past desk a due keeps
    → IsStep keeps due.most a.now.part bytes (record { count = count; read = Whole answer }) desk'.reader → SameAsks desk desk' → desk'.awaited.items ≡ drop 1 desk.awaited.items
    → ((owner : ℕ) → kept_for desk'.kept.of_owners.entries owner ≡ kept_for desk.kept.of_owners.entries owner ++ answer_for owner due answer) → desk'.is_over ≡ desk.is_over
    → IsHeard past bytes (record { count = count; owner = due.owner }) desk'
hears_whole past desk desk' a bytes due keeps count answer hearing e s same awaited kept over = record {
  answer = Some answer;
  some = s.some;
  within = s.within;
  owner = ap (λ (d : Due). d.owner) e.due_is ∙ sym (ap (owner_answered (Some answer)) e.is);
  after = after_whole past desk desk' (take count bytes) e.ask answer a hearing same e.is awaited
      (λ owner. kept owner ∙ ap (λ (d : Due). kept_for desk.kept.of_owners.entries owner ++ answer_for owner d answer) e.due_is) over
      (subst (λ (d : Due). IsReplyFor d.most (a.now.part ++ take count bytes) answer) e.due_is s.leads.0) s.leads.1;
}

-- and one that is nobody's
pub hears_skipped : (past : Past) (desk desk' : Desk) (a : IsAfter past desk) (bytes : List ℕ) (due : Due) (keeps : Bool) (count : ℕ) → desk.is_over ≡ false → keeps ≡ is_some due.owner → Expected past desk a due keeps
    → IsStep keeps due.most a.now.part bytes (record { count = count; read = Skipped }) desk'.reader → SameAsks desk desk' → desk'.awaited.items ≡ drop 1 desk.awaited.items → desk'.kept ≡ desk.kept → desk'.is_over ≡ desk.is_over
    → IsHeard past bytes (record { count = count; owner = due.owner }) desk'
hears_skipped past desk desk' a bytes due keeps count hearing keeps_is e s same awaited kept over =
    let answer = s.leads.1.0 in
    let nobody : is_some e.ask.owner ≡ false = sym (ap (λ (d : Due). is_some d.owner) e.due_is) ∙ sym keeps_is ∙ s.leads.0 in
    record {
      answer = Some answer;
      some = s.some;
      within = s.within;
      owner = ap (λ (d : Due). d.owner) e.due_is ∙ sym (ap (owner_answered (Some answer)) e.is);
      after = after_whole past desk desk' (take count bytes) e.ask answer a hearing same e.is awaited
          (λ owner. ap (λ k. kept_for k.of_owners.entries owner) kept ∙ kept_none owner e.ask answer (kept_for desk.kept.of_owners.entries owner) nobody) over
          (subst (λ (d : Due). IsReplyFor d.most (a.now.part ++ take count bytes) answer) e.due_is s.leads.1.1) s.leads.2;
    }

-- no step was made
pub hears_no_more : (past : Past) (desk desk' : Desk) (a : IsAfter past desk) (bytes : List ℕ) (due : Due) (keeps : Bool) (fault : DeskFault) → Expected past desk a due keeps → IsStoppedBy due.most (a.now.part ++ bytes) fault → SameAsks desk desk'
    → desk'.awaited.items ≡ desk.awaited.items → ((owner : ℕ) → kept_for desk'.kept.of_owners.entries owner ≡ kept_for desk.kept.of_owners.entries owner) → desk'.is_over ≡ true → IsAfter (past_over bytes fault past) desk'
hears_no_more past desk desk' a bytes due keeps fault e stopped same awaited kept over =
    after_over past desk desk' bytes fault a same awaited kept over
    (stopped_behind fault (due_in past) e.ask (a.now.part ++ bytes) e.is (subst (λ (d : Due). IsStoppedBy d.most (a.now.part ++ bytes) fault) e.due_is stopped))
