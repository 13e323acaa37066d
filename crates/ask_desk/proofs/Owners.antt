-- The replies to an owner's asks.
use Rattle.std.proofs.Common.{◌≡◌, ◌≢◌, ℕ, Bool, true, false, cond, List, [], ◌∷◌, ◌++◌, length, map, drop, refl, sym, ap, ◌∙◌, append-nil, append_assoc, Option, Some, None}
use Rattle.std.specs.List.{flat_map}
use Rattle.std.proofs.lemmas.Bool.{eqb-true, ne_eqb}
use Rattle.resp.specs.declared.reply.Reply.{Reply}
use Rattle.ask_desk.specs.declared.ask.Ask.{Ask}
use Rattle.ask_desk.specs.declared.kept.Answer.{Answer}
use Rattle.ask_desk.specs.Asks.{is_owner, is_asked_by, disowned, due_of, answer_for}
use Rattle.ask_desk.specs.Dialogue.{Dialogue, AnswerInOrder, replies_to, replies_in, forsaken_in}

-- ---- one more

pub to_more : (owner : ℕ) (told rest : List Ask) (answers : List Reply) (ask : Ask) (answer : Reply) → drop (length answers) told ≡ ask ∷ rest
    → replies_to owner told (answers ++ answer ∷ []) ≡ replies_to owner told answers ++ answer_for owner (due_of ask) answer
to_more owner [] rest [] ask answer left = absurd cc
to_more owner (first ∷ told) rest [] ask answer left =
    let same : first ≡ ask = cc in
    ap (λ (a : Ask). cond (is_asked_by owner a) (record { ticket = a.ticket; reply = answer } ∷ replies_to owner told []) (replies_to owner told [])) same
    ∙ none_left told (is_asked_by owner ask)
  where
    none_at : (told : List Ask) → replies_to owner told [] ≡ []
    none_at [] = refl
    none_at (a ∷ told) = refl

    none_left : (told : List Ask) (b : Bool) → cond b (record { ticket = ask.ticket; reply = answer } ∷ replies_to owner told []) (replies_to owner told []) ≡ cond b (record { ticket = ask.ticket; reply = answer } ∷ []) []
    none_left told true = ap (λ (l : List Answer). record { ticket = ask.ticket; reply = answer } ∷ l) (none_at told)
    none_left told false = none_at told
to_more owner [] rest (one ∷ answers) ask answer left = absurd cc
to_more owner (first ∷ told) rest (one ∷ answers) ask answer left =
    both (is_asked_by owner first) (replies_to owner told (answers ++ answer ∷ [])) (replies_to owner told answers) (answer_for owner (due_of ask) answer) (to_more owner told rest answers ask answer left)
  where
    both : (b : Bool) (all some more : List Answer) → all ≡ some ++ more
        → cond b (record { ticket = first.ticket; reply = one } ∷ all) all ≡ cond b (record { ticket = first.ticket; reply = one } ∷ some) some ++ more
    both true all some more is = ap (λ (l : List Answer). record { ticket = first.ticket; reply = one } ∷ l) is
    both false all some more is = is

-- ---- more is told

pub to_told : (owner : ℕ) (told more : List Ask) (answers : List Reply) → AnswerInOrder told answers → replies_to owner (told ++ more) answers ≡ replies_to owner told answers
to_told owner [] [] [] order = refl
to_told owner [] (ask ∷ more) [] order = refl
to_told owner (first ∷ told) more [] order = refl
to_told owner [] more (one ∷ answers) order = absurd order
to_told owner (first ∷ told) more (one ∷ answers) order =
    ap (λ (l : List Answer). cond (is_asked_by owner first) (record { ticket = first.ticket; reply = one } ∷ l) l) (to_told owner told more answers order.1)

-- ---- once an owner forsook

nobodys : (owner : ℕ) (ask : Ask) → is_asked_by owner (disowned owner ask) ≡ false
nobodys owner ask = by_case (is_asked_by owner ask) refl
  where
    by_case : (b : Bool) → is_asked_by owner ask ≡ b → is_asked_by owner (cond b (record ask { owner = None }) ask) ≡ false
    by_case true is = refl
    by_case false is = is

same_owner : (owner other : ℕ) (whose : Option ℕ) → is_owner owner whose ≡ true → other ≢ owner → is_owner other whose ≡ false
same_owner owner other None is apart = refl
same_owner owner other (Some one) is apart = ne_eqb one other (λ e. apart (sym e ∙ eqb-true one owner is))

others_still : (owner other : ℕ) (ask : Ask) → other ≢ owner → is_asked_by other (disowned owner ask) ≡ is_asked_by other ask
others_still owner other ask apart = by_case (is_asked_by owner ask) refl
  where
    by_case : (b : Bool) → is_asked_by owner ask ≡ b → is_asked_by other (cond b (record ask { owner = None }) ask) ≡ is_asked_by other ask
    by_case true is = sym (same_owner owner other ask.owner is apart)
    by_case false is = refl

same_ticket : (owner : ℕ) (ask : Ask) → (disowned owner ask).ticket ≡ ask.ticket
same_ticket owner ask = by_case (is_asked_by owner ask)
  where
    by_case : (b : Bool) → (cond b (record ask { owner = None }) ask).ticket ≡ ask.ticket
    by_case true = refl
    by_case false = refl

none_forsaken : (owner : ℕ) (told : List Ask) (answers : List Reply) → replies_to owner (map (disowned owner) told) answers ≡ []
none_forsaken owner [] answers = refl
none_forsaken owner (ask ∷ told) [] = refl
none_forsaken owner (ask ∷ told) (one ∷ answers) =
    ap (λ b. cond b (record { ticket = (disowned owner ask).ticket; reply = one } ∷ replies_to owner (map (disowned owner) told) answers) (replies_to owner (map (disowned owner) told) answers)) (nobodys owner ask)
    ∙ none_forsaken owner told answers

others_forsaken : (owner other : ℕ) (told : List Ask) (answers : List Reply) → other ≢ owner → replies_to other (map (disowned owner) told) answers ≡ replies_to other told answers
others_forsaken owner other [] answers apart = refl
others_forsaken owner other (ask ∷ told) [] apart = refl
others_forsaken owner other (ask ∷ told) (one ∷ answers) apart =
    ap (λ b. cond b (record { ticket = (disowned owner ask).ticket; reply = one } ∷ replies_to other (map (disowned owner) told) answers) (replies_to other (map (disowned owner) told) answers)) (others_still owner other ask apart)
    ∙ ap (λ n. cond (is_asked_by other ask) (record { ticket = n; reply = one } ∷ replies_to other (map (disowned owner) told) answers) (replies_to other (map (disowned owner) told) answers)) (same_ticket owner ask)
    ∙ ap (λ (l : List Answer). cond (is_asked_by other ask) (record { ticket = ask.ticket; reply = one } ∷ l) l) (others_forsaken owner other told answers apart)

none_in_all : (owner : ℕ) (ds : List Dialogue) → flat_map (replies_in owner) (map (forsaken_in owner) ds) ≡ []
none_in_all owner [] = refl
none_in_all owner (d ∷ ds) = ap (λ (l : List Answer). l ++ flat_map (replies_in owner) (map (forsaken_in owner) ds)) (none_forsaken owner d.told d.replies) ∙ none_in_all owner ds

others_in_all : (owner other : ℕ) (ds : List Dialogue) → other ≢ owner → flat_map (replies_in other) (map (forsaken_in owner) ds) ≡ flat_map (replies_in other) ds
others_in_all owner other [] apart = refl
others_in_all owner other (d ∷ ds) apart =
    ap (λ (l : List Answer). l ++ flat_map (replies_in other) (map (forsaken_in owner) ds)) (others_forsaken owner other d.told d.replies apart)
    ∙ ap (λ (l : List Answer). replies_in other d ++ l) (others_in_all owner other ds apart)

pub none_of_forsaken : (owner : ℕ) (ds : List Dialogue) (d : Dialogue) → flat_map (replies_in owner) (map (forsaken_in owner) ds) ++ replies_in owner (forsaken_in owner d) ≡ []
none_of_forsaken owner ds d =
    ap (λ (l : List Answer). l ++ replies_in owner (forsaken_in owner d)) (none_in_all owner ds) ∙ none_forsaken owner d.told d.replies

pub all_of_others : (owner other : ℕ) (ds : List Dialogue) (d : Dialogue) → other ≢ owner
    → flat_map (replies_in other) (map (forsaken_in owner) ds) ++ replies_in other (forsaken_in owner d) ≡ flat_map (replies_in other) ds ++ replies_in other d
all_of_others owner other ds d apart =
    ap (λ (l : List Answer). l ++ replies_in other (forsaken_in owner d)) (others_in_all owner other ds apart)
    ∙ ap (λ (l : List Answer). flat_map (replies_in other) ds ++ l) (others_forsaken owner other d.told d.replies apart)

-- ---- the connection ended

pub all_earlier : (owner : ℕ) (ds : List Dialogue) (d : Dialogue) → flat_map (replies_in owner) (ds ++ d ∷ []) ++ [] ≡ flat_map (replies_in owner) ds ++ replies_in owner d
all_earlier owner [] d = append-nil (replies_in owner d ++ []) ∙ append-nil (replies_in owner d)
all_earlier owner (first ∷ ds) d =
    append_assoc (replies_in owner first) (flat_map (replies_in owner) (ds ++ d ∷ [])) []
    ∙ ap (λ (l : List Answer). replies_in owner first ++ l) (all_earlier owner ds d)
    ∙ sym (append_assoc (replies_in owner first) (flat_map (replies_in owner) ds) (replies_in owner d))
