-- What was told, and the replies to it in their order.
use Rattle.std.proofs.Common.{◌≡◌, ◌≢◌, ◌<◌, ◌≤◌, ℕ, Bool, true, false, cond, eqb, List, [], ◌∷◌, ◌++◌, length, map, drop, refl, sym, ap, subst, ◌∙◌, append-nil, append_assoc, arith, Option, Some, None, is_some}
use Rattle.std.specs.Option.{option_map}
use Rattle.std.specs.List.{AllByRecursion}
use Rattle.std.proofs.lemmas.Bool.{eqb-true}
use Rattle.std.proofs.lemmas.List.{drop-append-le, drop-map}
use Rattle.resp.specs.Spelled.{SpellsAll, SpellsReply}
use Rattle.resp.specs.declared.reply.Reply.{Reply}
use Rattle.ask_desk.specs.declared.ask.Ask.{Ask}
use Rattle.ask_desk.specs.declared.fault.DeskFault.{DeskFault}
use Rattle.ask_desk.specs.declared.fault.DeskFault.TheVariants.{Unasked, TooLong, NoReply, NoMemory}
use Rattle.ask_desk.specs.declared.reader.Reader.{Reader}
use Rattle.ask_desk.specs.Asks.{is_asked_by, disowned, next_due}
use Rattle.ask_desk.specs.CameIn.{reply_limits, IsShort, IsTooLong, IsPart}
use Rattle.ask_desk.specs.Dialogue.{Dialogue, unanswered, AnswerInOrder, IsBehind, IsInOrder, forsaken_in}
use Rattle.ask_desk.specs.Reading.{HoldsNext, IsHeld}
use Rattle.ask_desk.proofs.Contents.{blank_next, next_part}

-- ---- one more

pub spelled_more : (answers : List Reply) (answer : Reply) (front bytes : List ℕ) → SpellsAll (SpellsReply reply_limits) answers front → SpellsReply reply_limits answer bytes
    → SpellsAll (SpellsReply reply_limits) (answers ++ answer ∷ []) (front ++ bytes)
spelled_more [] answer front bytes none one =
    (bytes, [], one, refl, ap (λ (l : List ℕ). l ++ bytes) none ∙ sym (append-nil bytes))
spelled_more (first ∷ answers) answer front bytes some one =
    (some.0, some.1 ++ bytes, some.2, spelled_more answers answer some.1 bytes some.3 one, ap (λ (l : List ℕ). l ++ bytes) some.4 ∙ append_assoc some.0 some.1 bytes)

pub in_order_more : (told rest : List Ask) (answers : List Reply) (ask : Ask) (answer : Reply) → AnswerInOrder told answers → drop (length answers) told ≡ ask ∷ rest → IsShort ask.most answer
    → AnswerInOrder told (answers ++ answer ∷ [])
in_order_more [] rest [] ask answer order left short = absurd cc
in_order_more (first ∷ told) rest [] ask answer order left short =
    let same : first ≡ ask = cc in (subst (λ (a : Ask). IsShort a.most answer) (sym same) short, tt)
in_order_more [] rest (one ∷ answers) ask answer order left short = absurd order
in_order_more (first ∷ told) rest (one ∷ answers) ask answer order left short =
    (order.0, in_order_more told rest answers ask answer order.1 left short)

pub rest_of : (told rest : List Ask) (answers : List Reply) (ask : Ask) (answer : Reply) → drop (length answers) told ≡ ask ∷ rest → drop (length (answers ++ answer ∷ [])) told ≡ rest
rest_of [] rest [] ask answer left = absurd cc
rest_of (first ∷ told) rest [] ask answer left = cc
rest_of [] rest (one ∷ answers) ask answer left = absurd cc
rest_of (first ∷ told) rest (one ∷ answers) ask answer left = rest_of told rest answers ask answer left

-- ---- more is told

pub enough_told : (told : List Ask) (answers : List Reply) → AnswerInOrder told answers → length answers ≤ length told
enough_told told [] order = omega arith
enough_told [] (answer ∷ answers) order = absurd order
enough_told (ask ∷ told) (answer ∷ answers) order = omega (arith, enough_told told answers order.1)

pub in_order_told : (told more : List Ask) (answers : List Reply) → AnswerInOrder told answers → AnswerInOrder (told ++ more) answers
in_order_told told more [] order = tt
in_order_told [] more (answer ∷ answers) order = absurd order
in_order_told (ask ∷ told) more (answer ∷ answers) order = (order.0, in_order_told told more answers order.1)

pub unanswered_told : (told more : List Ask) (answers : List Reply) → AnswerInOrder told answers → drop (length answers) (told ++ more) ≡ drop (length answers) told ++ more
unanswered_told told more answers order = drop-append-le (length answers) told more (enough_told told answers order)

pub not_nothing : (asks : List Ask) (ask : Ask) → asks ++ ask ∷ [] ≢ []
not_nothing [] ask e = cc
not_nothing (first ∷ asks) ask e = cc

-- what is held of the next reply, once one more was told
pub next_told : (left : ℕ) (asks : List Ask) (ask : Ask) (reader : Reader) (part : List ℕ) → HoldsNext (next_due 0 asks) reader part → HoldsNext (next_due left (asks ++ ask ∷ [])) reader part
next_told left [] ask reader part h = subst (HoldsNext (next_due left (ask ∷ [])) reader) (sym h.1) (blank_next (next_due left (ask ∷ [])) reader h.0)
next_told left (first ∷ []) ask reader part h = h
next_told left (first ∷ second ∷ asks) ask reader part h = h

-- and once more of the last one was written
pub next_written : (left fewer : ℕ) (asks : List Ask) (reader : Reader) (part : List ℕ) → 0 < left → HoldsNext (next_due left asks) reader part → HoldsNext (next_due fewer asks) reader part
next_written left fewer [] reader part some h = h
next_written left fewer (ask ∷ []) reader part some h = by_case (eqb left 0) refl h
  where
    by_case : (b : Bool) → eqb left 0 ≡ b → HoldsNext (cond b (Some ask) None) reader part → HoldsNext (next_due fewer (ask ∷ [])) reader part
    by_case true is k = absurd (omega (arith, some, eqb-true left 0 is))
    by_case false is k = subst (HoldsNext (next_due fewer (ask ∷ [])) reader) (sym k.1) (blank_next (next_due fewer (ask ∷ [])) reader k.0)
next_written left fewer (ask ∷ other ∷ asks) reader part some h = h

-- ---- the next one

pub not_none : (ask : Ask) (asks : List Ask) → ask ∷ asks ≢ []
not_none ask asks e = cc

-- the ask that is due is the first one
pub record First (left : ℕ) (asks : List Ask) (ask : Ask) : Type 0 where
  pub rest : List Ask
  pub is : asks ≡ ask ∷ rest
  pub more : 0 < left → rest ≢ []

pub due_first : (left : ℕ) (asks : List Ask) (ask : Ask) → next_due left asks ≡ Some ask → First left asks ask
due_first left [] ask due = absurd cc
due_first left (first ∷ []) ask due = by_case (eqb left 0) refl due
  where
    by_case : (b : Bool) → eqb left 0 ≡ b → cond b (Some first) None ≡ Some ask → First left (first ∷ []) ask
    by_case true is e =
        let same : first ≡ ask = cc in
        record { rest = []; is = ap (λ (a : Ask). a ∷ []) same; more = λ some. absurd (omega (arith, some, eqb-true left 0 is)) }
    by_case false is e = absurd cc
due_first left (first ∷ other ∷ asks) ask due =
    let same : first ≡ ask = cc in
    record { rest = other ∷ asks; is = ap (λ (a : Ask). a ∷ other ∷ asks) same; more = λ some. not_none other asks }

pub some_due : (due : Option Ask) (ask : Ask) (reader : Reader) (part : List ℕ) → HoldsNext due reader part → due ≡ Some ask → IsHeld (is_some ask.owner) ask.most reader part
some_due None ask reader part h is = absurd cc
some_due (Some first) ask reader part h is =
    let same : first ≡ ask = cc in subst (λ (a : Ask). IsHeld (is_some a.owner) a.most reader part) same h

pub next_behind : (due : Option Ask) (reader : Reader) (part : List ℕ) → HoldsNext due reader part → IsBehind None due part
next_behind due reader part h = next_part due reader part h

-- ---- once an owner forsook

-- an ask stays as long as it was
pub same_most : (owner : ℕ) (ask : Ask) → (disowned owner ask).most ≡ ask.most
same_most owner ask = by_case (is_asked_by owner ask)
  where
    by_case : (b : Bool) → (cond b (record ask { owner = None }) ask).most ≡ ask.most
    by_case true = refl
    by_case false = refl

pub in_order_forsaken : (owner : ℕ) (told : List Ask) (answers : List Reply) → AnswerInOrder told answers → AnswerInOrder (map (disowned owner) told) answers
in_order_forsaken owner told [] order = tt
in_order_forsaken owner [] (answer ∷ answers) order = absurd order
in_order_forsaken owner (ask ∷ told) (answer ∷ answers) order =
    (subst (λ n. IsShort n answer) (sym (same_most owner ask)) order.0, in_order_forsaken owner told answers order.1)

pub due_forsaken : (owner left : ℕ) (asks : List Ask) → next_due left (map (disowned owner) asks) ≡ option_map (disowned owner) (next_due left asks)
due_forsaken owner left [] = refl
due_forsaken owner left (ask ∷ []) = by_case (eqb left 0)
  where
    by_case : (b : Bool) → cond b (Some (disowned owner ask)) None ≡ option_map (disowned owner) (cond b (Some ask) None)
    by_case true = refl
    by_case false = refl
due_forsaken owner left (ask ∷ other ∷ asks) = refl

part_forsaken : (owner : ℕ) (due : Option Ask) (part : List ℕ) → IsPart due part → IsPart (option_map (disowned owner) due) part
part_forsaken owner None part h = h
part_forsaken owner (Some ask) part h = (h.0, λ long. h.1 (subst (λ n. IsTooLong n part) (same_most owner ask) long))

pub behind_forsaken : (owner : ℕ) (fault : Option DeskFault) (due : Option Ask) (part : List ℕ) → IsBehind fault due part → IsBehind fault (option_map (disowned owner) due) part
behind_forsaken owner None due part h = part_forsaken owner due part h
behind_forsaken owner (Some Unasked) None part h = h
behind_forsaken owner (Some Unasked) (Some ask) part h = absurd (let e : ◌≡◌ {A = Option Ask} (Some ask) None = h.0 in cc)
behind_forsaken owner (Some TooLong) None part h = h
behind_forsaken owner (Some TooLong) (Some ask) part h = subst (λ n. IsTooLong n part) (sym (same_most owner ask)) h
behind_forsaken owner (Some NoReply) None part h = h
behind_forsaken owner (Some NoReply) (Some ask) part h = h
behind_forsaken owner (Some NoMemory) due part h = tt

pub unanswered_forsaken : (owner : ℕ) (d : Dialogue) → unanswered (forsaken_in owner d) ≡ map (disowned owner) (unanswered d)
unanswered_forsaken owner d = drop-map (disowned owner) (length d.replies) d.told

pub due_of_forsaken : (owner : ℕ) (d : Dialogue) → next_due d.left (unanswered (forsaken_in owner d)) ≡ option_map (disowned owner) (next_due d.left (unanswered d))
due_of_forsaken owner d = ap (next_due d.left) (unanswered_forsaken owner d) ∙ due_forsaken owner d.left (unanswered d)

pub begun_forsaken : (owner : ℕ) (asks : List Ask) → asks ≢ [] → map (disowned owner) asks ≢ []
begun_forsaken owner [] some e = some refl
begun_forsaken owner (ask ∷ asks) some e = not_none (disowned owner ask) (map (disowned owner) asks) e

pub dialogue_forsaken : (owner : ℕ) (d : Dialogue) → IsInOrder d → IsInOrder (forsaken_in owner d)
dialogue_forsaken owner d o = record {
  front = o.front;
  part = o.part;
  came = o.came;
  spelled = o.spelled;
  short = in_order_forsaken owner d.told d.replies o.short;
  written = λ some e. begun_forsaken owner (unanswered d) (o.written some) (sym (unanswered_forsaken owner d) ∙ e);
  left = subst (λ (due : Option Ask). IsBehind d.fault due o.part) (sym (due_of_forsaken owner d)) (behind_forsaken owner d.fault (next_due d.left (unanswered d)) o.part o.left);
}

pub earlier_forsaken : (owner : ℕ) (ds : List Dialogue) → AllByRecursion IsInOrder ds → AllByRecursion IsInOrder (map (forsaken_in owner) ds)
earlier_forsaken owner [] all = tt
earlier_forsaken owner (d ∷ ds) all = (dialogue_forsaken owner d all.0, earlier_forsaken owner ds all.1)

pub earlier_more : (ds : List Dialogue) (d : Dialogue) → AllByRecursion IsInOrder ds → IsInOrder d → AllByRecursion IsInOrder (ds ++ d ∷ [])
earlier_more [] d all one = (one, tt)
earlier_more (first ∷ ds) d all one = (all.0, earlier_more ds d all.1 one)
