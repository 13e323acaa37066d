-- An exchange that meets the premise of an engine.
use Rattle.std.proofs.Common.{◌≡◌, inl, inr, ◌<◌, ◌≤◌, ◌+◌, ◌^◌, ℕ, suc, List, [], ◌∷◌, ◌++◌, map, length, get_or, codes, refl, sym, ap, subst, ◌∙◌, append-nil, arith, length-append, drop}
use Rattle.std.proofs.lemmas.List.{drop_at}
use Rattle.std.specs.List.{AllZip, AllByRecursion}
use Rattle.std.specs.Prelude.{flat_map}
use Rattle.resp.specs.declared.limits.Limits.{Limits}
use Rattle.resp.specs.declared.reply.Item.{Item}
use Rattle.resp.specs.declared.reply.Item.TheVariants as item
use Rattle.resp.specs.declared.reply.Element.{Element}
use Rattle.resp.specs.declared.reply.Element.TheVariants as element
use Rattle.resp.specs.declared.reply.Reply.{Reply}
use Rattle.resp.specs.declared.reply.Reply.TheVariants as reply
use Rattle.resp.specs.Command.{command}
use Rattle.resp.specs.Spelled.{Writes, SpellsItem, SpellsAll, SpellsElement, SpellsReply}
use Rattle.redis_store.specs.Commands.{get_command, delete_command}
use Rattle.redis_store.specs.Engine.{EngineValue, EngineState, nothing, of_bytes, of_other_kind, StoodUnder, SaysValue, IsGetReply, IsExistsReply, IsEngineExchange}

-- ---- one reading of what came

-- at least as large in each way
record IsRoomier (limits bigger : Limits) : Type 0 where
  pub line : limits.line ≤ bigger.line
  pub bulk : limits.bulk ≤ bigger.bulk
  pub elements : limits.elements ≤ bigger.elements

module _ (limits bigger : Limits) (room : IsRoomier limits bigger) where
  writes_more : (most over : ℕ) (text : List ℕ) (n : ℕ) → most ≤ over → Writes limits most text n → Writes bigger over text n
  writes_more most over text n le w =
      let short = w.1 in
      let small = w.3 in
      let line = room.line in
      (w.0, omega (arith, short, line), w.2, omega (arith, small, le))

  item_more : (one : Item) (bytes : List ℕ) → SpellsItem limits one bytes → SpellsItem bigger one bytes
  item_more (item.Text text) bytes s = let short = s.0.1 in let line = room.line in ((s.0.0, omega (arith, short, line)), s.1)
  item_more (item.Error text) bytes s = let short = s.0.1 in let line = room.line in ((s.0.0, omega (arith, short, line)), s.1)
  item_more (item.Integer n) bytes (text, (digits, m, inl plain), is) = (text, (digits, m, inl (plain.0, writes_more _ _ digits m (omega arith) plain.1, plain.2)), is)
  item_more (item.Integer n) bytes (text, (digits, m, inr (inl plus)), is) = (text, (digits, m, inr (inl (plus.0, writes_more _ _ digits m (omega arith) plus.1, plus.2))), is)
  item_more (item.Integer n) bytes (text, (digits, m, inr (inr minus)), is) = (text, (digits, m, inr (inr (minus.0, writes_more _ _ digits m (omega arith) minus.1, minus.2))), is)
  item_more (item.Bulk content) bytes s = (s.0, writes_more limits.bulk bigger.bulk s.0 (length content) room.bulk s.1, s.2)
  item_more item.Null bytes s = s

  all_more : {A : Type 0} (P Q : A → List ℕ → Type 0) → ((a : A) (bytes : List ℕ) → P a bytes → Q a bytes) → (all : List A) (bytes : List ℕ) → SpellsAll P all bytes → SpellsAll Q all bytes
  all_more P Q more [] bytes s = s
  all_more P Q more (a ∷ all) bytes s = (s.0, s.1, more a s.0 s.2, all_more P Q more all s.1 s.3, s.4)

  element_more : (one : Element) (bytes : List ℕ) → SpellsElement limits one bytes → SpellsElement bigger one bytes
  element_more (element.One one) bytes s = item_more one bytes s
  element_more (element.Several items) bytes s = (s.0, s.1, writes_more limits.elements bigger.elements s.0 (length items) room.elements s.2, all_more (SpellsItem limits) (SpellsItem bigger) item_more items s.1 s.3, s.4)

  reply_more : (one : Reply) (bytes : List ℕ) → SpellsReply limits one bytes → SpellsReply bigger one bytes
  reply_more (reply.One one) bytes s = item_more one bytes s
  reply_more (reply.Several elements) bytes s = (s.0, s.1, writes_more limits.elements bigger.elements s.0 (length elements) room.elements s.2, all_more (SpellsElement limits) (SpellsElement bigger) element_more elements s.1 s.3, s.4)

-- what holds of replies, by their laws
abbrev pub OneReply : Type 0
OneReply = (limits : Limits) (one two : Reply) (front back other rest : List ℕ) → 0 < limits.line → SpellsReply limits one front → SpellsReply limits two other → front ++ back ≡ other ++ rest → (one ≡ two) × (length front ≡ length other)

abbrev pub CommandsAreReplies : Type 0
CommandsAreReplies = (limits : Limits) (words : List (List ℕ)) → 20 ≤ limits.line → limits.bulk < 2 ^ 32 → limits.elements < 2 ^ 32 → length words ≤ limits.elements → AllByRecursion (λ word. length word ≤ limits.bulk) words
    → SpellsReply limits (reply.Several (map (λ word. element.One (item.Bulk word)) words)) (command words)

same_rest : (front back other rest : List ℕ) → length front ≡ length other → front ++ back ≡ other ++ rest → back ≡ rest
same_rest front back other rest long e = sym (drop_at front back (length other) long) ∙ ap (drop (length other)) e ∙ drop_at other rest (length other) refl

same_words : (words others : List (List ℕ)) → map (λ (word : List ℕ). element.One (item.Bulk word)) words ≡ map (λ (word : List ℕ). element.One (item.Bulk word)) others → words ≡ others
same_words [] [] e = refl
same_words [] (o ∷ others) e = cc
same_words (w ∷ words) [] e = cc
same_words (w ∷ words) (o ∷ others) e =
    let here : w ≡ o = cc in
    let rest : map (λ (word : List ℕ). element.One (item.Bulk word)) words ≡ map (λ (word : List ℕ). element.One (item.Bulk word)) others = cc in
    let more = same_words words others rest in
    λ i. here i ∷ more i

-- a command is as long as its words
long_command : (words : List (List ℕ)) → 1 ≤ length (command words)
unfolding command
long_command words = simp length-append (omega arith)

holds_two : (verb name : List ℕ) → length name ≤ length (command (verb ∷ name ∷ []))
unfolding command
holds_two verb name = simp length-append (omega arith)

holds_three : (verb name content : List ℕ) → length name + length content ≤ length (command (verb ∷ name ∷ content ∷ []))
unfolding command
holds_three verb name content = simp length-append (omega arith)

module _ (one_reply : OneReply) (commands_are : CommandsAreReplies) where
  same_replies : (limits : Limits) → 0 < limits.line → (all others : List Reply) (came : List ℕ) → length others ≡ length all → SpellsAll (SpellsReply limits) all came → SpellsAll (SpellsReply limits) others came → others ≡ all
  same_replies limits room [] [] came many here there = refl
  same_replies limits room [] (b ∷ others) came many here there = absurd (omega (arith, many))
  same_replies limits room (a ∷ all) [] came many here there = absurd (omega (arith, many))
  same_replies limits room (a ∷ all) (b ∷ others) came many here there =
      let parts : there.0 ++ there.1 ≡ here.0 ++ here.1 = sym there.4 ∙ here.4 in
      let same = one_reply limits b a there.0 there.1 here.0 here.1 room there.2 here.2 parts in
      let rest = same_rest there.0 there.1 here.0 here.1 same.1 parts in
      let more = same_replies limits room all others here.1 (omega (arith, many)) here.3 (subst (SpellsAll (SpellsReply limits) others) rest there.3) in
      λ i. same.0 i ∷ more i

  -- however large replies may be
  one_reading : (limits another : Limits) (all others : List Reply) (came : List ℕ) → length others ≡ length all → SpellsAll (SpellsReply limits) all came → SpellsAll (SpellsReply another) others came → others ≡ all
  one_reading limits another all others came many here there =
      let both : Limits = record { line = suc (limits.line + another.line); bulk = limits.bulk + another.bulk; elements = limits.elements + another.elements } in
      let this : IsRoomier limits both = record { line = omega arith; bulk = omega arith; elements = omega arith } in
      let that : IsRoomier another both = record { line = omega arith; bulk = omega arith; elements = omega arith } in
      same_replies both (omega arith) all others came many
      (all_more limits both this (SpellsReply limits) (SpellsReply both) (reply_more limits both this) all came here)
      (all_more another both that (SpellsReply another) (SpellsReply both) (reply_more another both that) others came there)

  -- ---- one reading of what was told

  same_command : (words others : List (List ℕ)) (back rest : List ℕ) → length words ≤ 16 → length others ≤ 16 → AllByRecursion (λ word. length word ≤ 4294967295) words → AllByRecursion (λ word. length word ≤ 4294967295) others
      → command words ++ back ≡ command others ++ rest → (words ≡ others) × (back ≡ rest)
  same_command words others back rest few fewer short shorter e =
      let limits : Limits = record { line = 20; bulk = 4294967295; elements = 16 } in
      let same = one_reply limits _ _ (command words) back (command others) rest (omega arith)
      (commands_are limits words (omega arith) (omega arith) (omega arith) few short)
      (commands_are limits others (omega arith) (omega arith) (omega arith) fewer shorter) e in
      let whole : reply.Several (map (λ (word : List ℕ). element.One (item.Bulk word)) words) ≡ reply.Several (map (λ (word : List ℕ). element.One (item.Bulk word)) others) = same.0 in
      let elements : map (λ (word : List ℕ). element.One (item.Bulk word)) words ≡ map (λ (word : List ℕ). element.One (item.Bulk word)) others = cc in
      (same_words words others elements, same_rest (command words) back (command others) rest same.1 e)

  -- one reading of commands with a verb and a name each
  same_told : (verb other : List ℕ) → length verb ≤ 16 → length other ≤ 16 → (names others : List (List ℕ)) → length (flat_map (λ name. command (verb ∷ name ∷ [])) names) ≤ 4294967295
      → flat_map (λ name. command (verb ∷ name ∷ [])) names ≡ flat_map (λ name. command (other ∷ name ∷ [])) others → (others ≡ names) × ((verb ≡ other → ⊥) → others ≡ [])
  same_told verb other few fewer [] [] small e = (refl, λ _. refl)
  same_told verb other few fewer [] (o ∷ others) small e =
      absurd (omega (arith, ap length e, length-append (command (other ∷ o ∷ [])) (flat_map (λ name. command (other ∷ name ∷ [])) others), long_command (other ∷ o ∷ [])))
  same_told verb other few fewer (n ∷ names) [] small e =
      absurd (omega (arith, ap length e, length-append (command (verb ∷ n ∷ [])) (flat_map (λ name. command (verb ∷ name ∷ [])) names), long_command (verb ∷ n ∷ [])))
  same_told verb other few fewer (n ∷ names) (o ∷ others) small e =
      let rest : List ℕ = flat_map (λ name. command (verb ∷ name ∷ [])) names in
      let past : List ℕ = flat_map (λ name. command (other ∷ name ∷ [])) others in
      let one : length n ≤ 4294967295 = omega (arith, small, length-append (command (verb ∷ n ∷ [])) rest, holds_two verb n) in
      let two : length o ≤ 4294967295 = omega (arith, small, ap length e, length-append (command (other ∷ o ∷ [])) past, holds_two other o) in
      let less : length rest ≤ 4294967295 = omega (arith, small, length-append (command (verb ∷ n ∷ [])) rest) in
      let same = same_command (verb ∷ n ∷ []) (other ∷ o ∷ []) rest past (omega arith) (omega arith) (omega arith, (one, tt)) (omega arith, (two, tt)) e in
      let words : verb ∷ n ∷ [] ≡ other ∷ o ∷ [] = same.0 in
      let verbs : verb ≡ other = cc in
      let name : o ≡ n = cc in
      let more = same_told verb other few fewer names others less same.1 in
      (λ i. name i ∷ more.0 i, λ differ. absurd (differ verbs))

  -- and of none with another count of words
  not_put : (verb : List ℕ) → length verb ≤ 16 → (names : List (List ℕ)) (name content : List ℕ) → length (flat_map get_command names) ≤ 4294967295 → flat_map get_command names ≡ command (verb ∷ name ∷ content ∷ []) → ⊥
  not_put verb few [] name content small e = omega (arith, ap length e, long_command (verb ∷ name ∷ content ∷ []))
  not_put verb few (n ∷ names) name content small e =
      let rest : List ℕ = flat_map get_command names in
      let one : length n ≤ 4294967295 = omega (arith, small, length-append (get_command n) rest, holds_two (codes "GET") n) in
      let both = holds_three verb name content in
      let two : length name ≤ 4294967295 = omega (arith, small, ap length e, both) in
      let three : length content ≤ 4294967295 = omega (arith, small, ap length e, both) in
      let same = same_command (codes "GET" ∷ n ∷ []) (verb ∷ name ∷ content ∷ []) rest [] (omega arith) (omega arith) (omega arith, (one, tt)) (omega (arith, few), (two, (three, tt))) (e ∙ sym (append-nil (command (verb ∷ name ∷ content ∷ [])))) in
      let long : 2 ≡ 3 = ap length same.0 in
      omega (arith, long)

-- ---- what states meet

-- a reply says one thing
same_value : (a b : EngineValue) (answer : Reply) → SaysValue a answer → SaysValue b answer → a ≡ b
same_value nothing nothing answer p q = refl
same_value nothing (of_bytes c) answer p q = cc
same_value nothing of_other_kind answer p q = cc
same_value (of_bytes c) nothing answer p q = cc
same_value (of_bytes c) (of_bytes d) answer p q = cc
same_value (of_bytes c) of_other_kind answer p q = cc
same_value of_other_kind nothing answer p q = cc
same_value of_other_kind (of_bytes c) answer p q = cc
same_value of_other_kind of_other_kind answer p q = refl

replies_of : (states : List EngineState) (names : List (List ℕ)) (answers : List Reply) → AllZip (λ name answer. (value : EngineValue) × StoodUnder states name value × SaysValue value answer) names answers → AllZip (IsGetReply states) names answers
replies_of states [] [] all = tt
replies_of states [] (a ∷ answers) all = absurd all
replies_of states (n ∷ names) [] all = absurd all
replies_of states (n ∷ names) (a ∷ answers) all = (λ value says. subst (StoodUnder states n) (same_value all.0.0 value a all.0.2 says) all.0.1, replies_of states names answers all.1)

as_many : {A B : Type 0} (R : A → B → Type 0) (xs : List A) (ys : List B) → AllZip R xs ys → length ys ≡ length xs
as_many R [] [] all = refl
as_many R [] (y ∷ ys) all = absurd all
as_many R (x ∷ xs) [] all = absurd all
as_many R (x ∷ xs) (y ∷ ys) all = let more = as_many R xs ys all.1 in omega (arith, more)

none_zip : {A B : Type 0} (R : A → B → Type 0) (xs : List A) (ys : List B) → xs ≡ [] → length ys ≡ length xs → AllZip R xs ys
none_zip R [] [] none many = tt
none_zip R [] (y ∷ ys) none many = absurd (omega (arith, many))
none_zip R (x ∷ xs) ys none many = cc

pub premise_met : OneReply → CommandsAreReplies → (limits : Limits) (states : List EngineState) (names : List (List ℕ)) (answers : List Reply) (came : List ℕ) → length (flat_map get_command names) < 2 ^ 32
    → AllZip (λ name answer. (value : EngineValue) × StoodUnder states name value × SaysValue value answer) names answers → SpellsAll (SpellsReply limits) answers came → IsEngineExchange states (flat_map get_command names, came)
premise_met one_reply commands_are limits states names answers came small says spelled =
    let bound : length (flat_map get_command names) ≤ 4294967295 = omega (arith, small) in
    record {
      gets = λ another others replies told many there.
          let name = (same_told one_reply commands_are (codes "GET") (codes "GET") (omega arith) (omega arith) names others bound told).0 in
          let count : length replies ≡ length answers = many ∙ ap length name ∙ sym (as_many (λ name answer. (value : EngineValue) × StoodUnder states name value × SaysValue value answer) names answers says) in
          let reply = one_reading one_reply commands_are limits another answers replies came count spelled there in
          subst (λ (ns : List (List ℕ)). AllZip (IsGetReply states) ns replies) (sym name)
          (subst (λ (rs : List Reply). AllZip (IsGetReply states) names rs) (sym reply) (replies_of states names answers says));
      exist = λ another others replies told many there.
          let none = (same_told one_reply commands_are (codes "GET") (codes "EXISTS") (omega arith) (omega arith) names others bound told).1 (λ same. (let long : 3 ≡ 6 = ap length same in omega (arith, long))) in
          none_zip (IsExistsReply states) others replies none many;
      put = λ another name content answer told there. absurd (not_put one_reply commands_are (codes "SETNX") (omega arith) names name content bound told);
      replace = λ another name content answer told there. absurd (not_put one_reply commands_are (codes "SET") (omega arith) names name content bound told);
      delete = λ another name answer told there.
          let one : flat_map get_command names ≡ flat_map delete_command (name ∷ []) = told ∙ sym (append-nil (delete_command name)) in
          let none = (same_told one_reply commands_are (codes "GET") (codes "DEL") (omega arith) (omega arith) names (name ∷ []) bound one).1 (λ same. (let first : 71 ≡ 68 = ap (λ (l : List ℕ). get_or l 0 0) same in omega (arith, first))) in
          absurd (let never : name ∷ [] ≡ [] = none in cc);
    }
