-- What the grammar goes on to read from a state is what the machine comes to.
use Rattle.std.proofs.Common.{◌≡◌, ℕ, zero, suc, ◌<◌, ◌≤◌, List, [], ◌∷◌, length, Option, Some, None, option_and_then, refl, sym, ap, ◌∙◌, arith}
use Rattle.json.specs.Token.{Token}
use Rattle.json.specs.Json.{Json, null, boolean, number, string, array, object, Items, no_items, item, Members, no_members, member, Parse, parse_map, after_end_array, read_key, items_step, members_step, items, members, value_with, value, if_last}
use Rattle.json.proofs.Grammar.{left, Takes, skip_value-shorter, items_fail, read_key-shorter}
use Rattle.std.specs.Prelude.{⊤, true, if◌then◌else◌}
use Rattle.std.proofs.lemmas.Bool.{false≢true}
use Rattle.json_stack.specs.Machine.{items_and, members_and, Frame, in_array, in_object, in_member, StackState, reading, done, failed, value_ended, awaits_value, opened_frame, array_ended, object_ended, key_read, state_within, next_state, state_after, start_state, result_of}

-- ---- the items so far, and then the rest

unfoldable items_before : Items → Items → Items
items_before no_items more = more
items_before (item j items) more = item j (items_before items more)

unfoldable members_before : Members → Members → Members
members_before no_members more = more
members_before (member k j members) more = member k j (members_before members more)

items_before-items_and : (items : Items) (j : Json) (more : Items) → items_before (items_and items j) more ≡ items_before items (item j more)
unfolding items_before items_and
items_before-items_and no_items j more = refl
items_before-items_and (item i items) j more = ap (item i) (items_before-items_and items j more)

items_before-no_items : (items : Items) → items_before items no_items ≡ items
unfolding items_before
items_before-no_items no_items = refl
items_before-no_items (item i items) = ap (item i) (items_before-no_items items)

members_before-members_and : (members : Members) (k : List ℕ) (j : Json) (more : Members) → members_before (members_and members k j) more ≡ members_before members (member k j more)
unfolding members_before members_and
members_before-members_and no_members k j more = refl
members_before-members_and (member l i members) k j more = ap (member l i) (members_before-members_and members k j more)

members_before-no_members : (members : Members) → members_before members no_members ≡ members
unfolding members_before
members_before-no_members no_members = refl
members_before-no_members (member l i members) = ap (member l i) (members_before-no_members members)

-- ---- one reading after another

same_then : {A B : Type 0} (f g : A → Option B) (o : Option A) → ((a : A) → f a ≡ g a) → option_and_then f o ≡ option_and_then g o
same_then f g None same = refl
same_then f g (Some a) same = same a

then_mapped : {A B C : Type 0} (f : A → B) (g : B × List Token → Option C) (o : Option (A × List Token)) → option_and_then g (parse_map f o) ≡ option_and_then (λ p. g (f p.0, p.1)) o
then_mapped f g None = refl
then_mapped f g (Some p) = refl

-- ---- any number of turns that is enough gives the same

module _ (p : Parse Json) (takes : Takes p) where
  same_turns : {B : Type 0} (f : Json → B → B) (m n : Parse B) (bound : ℕ) (o : Option (Json × List Token)) → ((ts : List Token) → length ts < bound → m ts ≡ n ts) → ((r : List Token) → left o ≡ Some r → length r < bound)
      → option_and_then (λ q. parse_map (f q.0) (m q.1)) o ≡ option_and_then (λ q. parse_map (f q.0) (n q.1)) o
  same_turns f m n bound None same short = refl
  same_turns f m n bound (Some q) same short = ap (parse_map (f q.0)) (same q.1 (short q.1 refl))

  none_of_nothing : (o : Option (Json × List Token)) → ((r : List Token) → left o ≡ Some r → length r < 0) → o ≡ None
  none_of_nothing None short = refl
  none_of_nothing (Some q) short = let never : ⊥ = omega (arith, short q.1 refl) in absurd never

  items_turn : (m n : Parse Items) (ts : List Token) (o : Option (List Token)) → ((r : List Token) → length r < length ts → m r ≡ n r) → items_step p m ts o ≡ items_step p n ts o
  items_turn m n ts (Some rest) same = refl
  items_turn m n ts None same = same_turns item m n (length ts) (p ts) same (takes ts)

  items_enough : (m n : ℕ) (ts : List Token) → length ts ≤ m → length ts ≤ n → items p m ts ≡ items p n ts
  unfolding items
  items_enough zero zero ts le also = refl
  items_enough zero (suc n) [] le also = sym (items_fail p (suc n) [] refl (none_of_nothing (p []) (takes [])))
  items_enough zero (suc n) (t ∷ ts) le also = let never : ⊥ = omega arith in absurd never
  items_enough (suc m) zero [] le also = items_fail p (suc m) [] refl (none_of_nothing (p []) (takes []))
  items_enough (suc m) zero (t ∷ ts) le also = let never : ⊥ = omega arith in absurd never
  items_enough (suc m) (suc n) ts le also = items_turn (items p m) (items p n) ts (after_end_array ts) (λ r short. items_enough m n r (omega arith) (omega arith))

  members_turn : (m n : Parse Members) (ts : List Token) (o : Option (Option (List ℕ) × List Token)) → read_key ts ≡ o → ((r : List Token) → length r < length ts → m r ≡ n r)
      → option_and_then (λ q. members_step p m q.0 q.1) o ≡ option_and_then (λ q. members_step p n q.0 q.1) o
  members_turn m n ts None e same = refl
  members_turn m n ts (Some (None, s)) e same = refl
  members_turn m n ts (Some (Some k, s)) e same = same_turns (member k) m n (length s) (p s) (λ r short. same r (omega (arith, short, read_key-shorter ts (Some k) s e))) (takes s)

  members_enough : (m n : ℕ) (ts : List Token) → length ts ≤ m → length ts ≤ n → members p m ts ≡ members p n ts
  unfolding members
  members_enough zero zero ts le also = refl
  members_enough zero (suc n) [] le also = refl
  members_enough zero (suc n) (t ∷ ts) le also = let never : ⊥ = omega arith in absurd never
  members_enough (suc m) zero [] le also = refl
  members_enough (suc m) zero (t ∷ ts) le also = let never : ⊥ = omega arith in absurd never
  members_enough (suc m) (suc n) ts le also = members_turn (members p m) (members p n) ts (read_key ts) refl (λ r short. members_enough m n r (omega arith) (omega arith))

-- ---- what the grammar goes on to read

-- after a value that has ended inside these frames
unfoldable after_value : ℕ → List Frame → Json → List Token → Option Json
after_value room [] j ts = if_last j ts
after_value room (in_array js ∷ frames) j ts = option_and_then (λ p. after_value (suc room) frames (array (items_before js (item j p.0))) p.1) (items (value room) (length ts) ts)
after_value room (in_object ms ∷ frames) j ts = None
after_value room (in_member ms k ∷ frames) j ts = option_and_then (λ p. after_value (suc room) frames (object (members_before ms (member k j p.0))) p.1) (members (value room) (length ts) ts)

-- a value inside these frames, and what follows it
abbrev value_first : ℕ → List Frame → List Token → Option Json
value_first room frames ts = option_and_then (λ p. after_value room frames p.0 p.1) (value room ts)

abbrev items_first : ℕ → Items → List Frame → Option (Items × List Token) → Option Json
items_first room js frames o = option_and_then (λ p. after_value (suc room) frames (array (items_before js p.0)) p.1) o

abbrev members_first : ℕ → Members → List Frame → Option (Members × List Token) → Option Json
members_first room ms frames o = option_and_then (λ p. after_value (suc room) frames (object (members_before ms p.0)) p.1) o

abbrev read_from : StackState → List Token → Option Json
read_from (reading room []) ts = value_first room [] ts
read_from (reading room (in_array js ∷ frames)) ts = items_first room js frames (items (value room) (length ts) ts)
read_from (reading room (in_object ms ∷ frames)) ts = members_first room ms frames (members (value room) (length ts) ts)
read_from (reading room (in_member ms k ∷ frames)) ts = value_first room (in_member ms k ∷ frames) ts
read_from (done j) ts = if_last j ts
read_from failed ts = None

ended_is : (room : ℕ) (frames : List Frame) (j : Json) (ts : List Token) → after_value room frames j ts ≡ read_from (value_ended room frames j) ts
unfolding after_value
ended_is room [] j ts = refl
ended_is room (in_array js ∷ frames) j ts =
    same_then _ _ (items (value room) (length ts) ts) (λ p. ap (λ x. after_value (suc room) frames (array x) p.1) (sym (items_before-items_and js j p.0)))
ended_is room (in_object ms ∷ frames) j ts = refl
ended_is room (in_member ms k ∷ frames) j ts =
    same_then _ _ (members (value room) (length ts) ts) (λ p. ap (λ x. after_value (suc room) frames (object x) p.1) (sym (members_before-members_and ms k j p.0)))

-- ---- where a value is awaited

abbrev inner_items : ℕ → Parse Items
inner_items zero ts = None
inner_items (suc room) ts = items (value room) (length ts) ts

abbrev inner_members : ℕ → Parse Members
inner_members zero ts = None
inner_members (suc room) ts = members (value room) (length ts) ts

value_levels : (room : ℕ) (ts : List Token) → value room ts ≡ value_with (inner_items room) (inner_members room) ts
unfolding value
value_levels zero ts = refl
value_levels (suc room) ts = refl

-- the frame isn't closed by this token
abbrev GoesOn : List Frame → Token → Type 0
GoesOn [] t = ⊤
GoesOn (in_array js ∷ frames) Token.end_array = ⊥
GoesOn (in_array js ∷ frames) t = ⊤
GoesOn (in_object ms ∷ frames) t = ⊥
GoesOn (in_member ms k ∷ frames) t = ⊤

array_opened : (room : ℕ) (frames : List Frame) (ts : List Token) → awaits_value frames ≡ true
    → option_and_then (λ p. after_value room frames p.0 p.1) (parse_map array (inner_items room ts)) ≡ read_from (opened_frame room frames (in_array no_items)) ts
unfolding items_before
array_opened zero frames ts awaits = refl
array_opened (suc room) frames ts awaits =
    then_mapped array (λ p. after_value (suc room) frames p.0 p.1) (items (value room) (length ts) ts)
    ∙ ap (λ b. read_from (if b then reading room (in_array no_items ∷ frames) else failed) ts) (sym awaits)

object_opened : (room : ℕ) (frames : List Frame) (ts : List Token) → awaits_value frames ≡ true
    → option_and_then (λ p. after_value room frames p.0 p.1) (parse_map object (inner_members room ts)) ≡ read_from (opened_frame room frames (in_object no_members)) ts
unfolding members_before
object_opened zero frames ts awaits = refl
object_opened (suc room) frames ts awaits =
    then_mapped object (λ p. after_value (suc room) frames p.0 p.1) (members (value room) (length ts) ts)
    ∙ ap (λ b. read_from (if b then reading room (in_object no_members ∷ frames) else failed) ts) (sym awaits)

no_array_end : (room : ℕ) (frames : List Frame) → GoesOn frames Token.end_array → array_ended room frames ≡ failed
no_array_end room [] goes = refl
no_array_end room (in_array js ∷ frames) goes = absurd goes
no_array_end room (in_object ms ∷ frames) goes = absurd goes
no_array_end room (in_member ms k ∷ frames) goes = refl

no_object_end : (room : ℕ) (frames : List Frame) → awaits_value frames ≡ true → object_ended room frames ≡ failed
no_object_end room [] awaits = refl
no_object_end room (in_array js ∷ frames) awaits = refl
no_object_end room (in_object ms ∷ frames) awaits = absurd (false≢true awaits)
no_object_end room (in_member ms k ∷ frames) awaits = refl

no_key : (room : ℕ) (frames : List Frame) (k : List ℕ) → awaits_value frames ≡ true → key_read room frames k ≡ failed
no_key room [] k awaits = refl
no_key room (in_array js ∷ frames) k awaits = refl
no_key room (in_object ms ∷ frames) k awaits = absurd (false≢true awaits)
no_key room (in_member ms l ∷ frames) k awaits = refl

value_token : (room : ℕ) (frames : List Frame) (t : Token) (ts : List Token) → awaits_value frames ≡ true → GoesOn frames t
    → option_and_then (λ p. after_value room frames p.0 p.1) (value_with (inner_items room) (inner_members room) (t ∷ ts)) ≡ read_from (state_within room frames t) ts
value_token room frames Token.begin_object ts awaits goes = object_opened room frames ts awaits
value_token room frames Token.end_object ts awaits goes = ap (λ s. read_from s ts) (sym (no_object_end room frames awaits))
value_token room frames Token.begin_array ts awaits goes = array_opened room frames ts awaits
value_token room frames Token.end_array ts awaits goes = ap (λ s. read_from s ts) (sym (no_array_end room frames goes))
value_token room frames (Token.key k) ts awaits goes = ap (λ s. read_from s ts) (sym (no_key room frames k awaits))
value_token room frames (Token.string s) ts awaits goes = ended_is room frames (string s) ts
value_token room frames (Token.number s) ts awaits goes = ended_is room frames (number s) ts
value_token room frames (Token.boolean b) ts awaits goes = ended_is room frames (boolean b) ts
value_token room frames Token.null ts awaits goes = ended_is room frames null ts
value_token room frames Token.bad ts awaits goes = refl

value_turn : (room : ℕ) (frames : List Frame) (t : Token) (ts : List Token) → awaits_value frames ≡ true → GoesOn frames t
    → value_first room frames (t ∷ ts) ≡ read_from (state_within room frames t) ts
value_turn room frames t ts awaits goes = ap (option_and_then (λ p. after_value room frames p.0 p.1)) (value_levels room (t ∷ ts)) ∙ value_token room frames t ts awaits goes

-- ---- where an array or an object goes on

-- a value, and then the rest of its array or object
item_then : (room : ℕ) (js : Items) (frames : List Frame) (n : ℕ) (o : Option (Json × List Token)) → ((r : List Token) → left o ≡ Some r → length r ≤ n)
    → items_first room js frames (option_and_then (λ q. parse_map (item q.0) (items (value room) n q.1)) o) ≡ option_and_then (λ p. after_value room (in_array js ∷ frames) p.0 p.1) o
unfolding after_value
item_then room js frames n None short = refl
item_then room js frames n (Some q) short =
    then_mapped (item q.0) (λ p. after_value (suc room) frames (array (items_before js p.0)) p.1) (items (value room) n q.1)
    ∙ ap (option_and_then (λ p. after_value (suc room) frames (array (items_before js (item q.0 p.0))) p.1)) (items_enough (value room) (skip_value-shorter room) n (length q.1) q.1 (short q.1 refl) (omega arith))

member_then : (room : ℕ) (ms : Members) (k : List ℕ) (frames : List Frame) (n : ℕ) (o : Option (Json × List Token)) → ((r : List Token) → left o ≡ Some r → length r ≤ n)
    → members_first room ms frames (option_and_then (λ q. parse_map (member k q.0) (members (value room) n q.1)) o) ≡ option_and_then (λ p. after_value room (in_member ms k ∷ frames) p.0 p.1) o
unfolding after_value
member_then room ms k frames n None short = refl
member_then room ms k frames n (Some q) short =
    then_mapped (member k q.0) (λ p. after_value (suc room) frames (object (members_before ms p.0)) p.1) (members (value room) n q.1)
    ∙ ap (option_and_then (λ p. after_value (suc room) frames (object (members_before ms (member k q.0 p.0))) p.1)) (members_enough (value room) (skip_value-shorter room) n (length q.1) q.1 (short q.1 refl) (omega arith))

item_turn : (room : ℕ) (js : Items) (frames : List Frame) (t : Token) (ts : List Token) → after_end_array (t ∷ ts) ≡ None → GoesOn (in_array js ∷ frames) t
    → read_from (reading room (in_array js ∷ frames)) (t ∷ ts) ≡ read_from (state_within room (in_array js ∷ frames) t) ts
unfolding items
item_turn room js frames t ts none goes =
    ap (λ o. items_first room js frames (items_step (value room) (items (value room) (length ts)) (t ∷ ts) o)) none
    ∙ item_then room js frames (length ts) (value room (t ∷ ts)) (λ r e. omega (arith, skip_value-shorter room (t ∷ ts) r e))
    ∙ value_turn room (in_array js ∷ frames) t ts refl goes

array_turn : (room : ℕ) (js : Items) (frames : List Frame) (t : Token) (ts : List Token)
    → read_from (reading room (in_array js ∷ frames)) (t ∷ ts) ≡ read_from (state_within room (in_array js ∷ frames) t) ts
unfolding items
array_turn room js frames Token.begin_object ts = item_turn room js frames Token.begin_object ts refl tt
array_turn room js frames Token.end_object ts = item_turn room js frames Token.end_object ts refl tt
array_turn room js frames Token.begin_array ts = item_turn room js frames Token.begin_array ts refl tt
array_turn room js frames Token.end_array ts = ap (λ x. after_value (suc room) frames (array x) ts) (items_before-no_items js) ∙ ended_is (suc room) frames (array js) ts
array_turn room js frames (Token.key s) ts = item_turn room js frames (Token.key s) ts refl tt
array_turn room js frames (Token.string s) ts = item_turn room js frames (Token.string s) ts refl tt
array_turn room js frames (Token.number s) ts = item_turn room js frames (Token.number s) ts refl tt
array_turn room js frames (Token.boolean b) ts = item_turn room js frames (Token.boolean b) ts refl tt
array_turn room js frames Token.null ts = item_turn room js frames Token.null ts refl tt
array_turn room js frames Token.bad ts = item_turn room js frames Token.bad ts refl tt

closed_frame : (room : ℕ) (ms : Members) (frames : List Frame) (frame : Frame) (ts : List Token) → None ≡ read_from (opened_frame room (in_object ms ∷ frames) frame) ts
closed_frame zero ms frames frame ts = refl
closed_frame (suc room) ms frames frame ts = refl

object_turn : (room : ℕ) (ms : Members) (frames : List Frame) (t : Token) (ts : List Token)
    → read_from (reading room (in_object ms ∷ frames)) (t ∷ ts) ≡ read_from (state_within room (in_object ms ∷ frames) t) ts
unfolding members
object_turn room ms frames Token.begin_object ts = closed_frame room ms frames (in_object no_members) ts
object_turn room ms frames Token.end_object ts = ap (λ x. after_value (suc room) frames (object x) ts) (members_before-no_members ms) ∙ ended_is (suc room) frames (object ms) ts
object_turn room ms frames Token.begin_array ts = closed_frame room ms frames (in_array no_items) ts
object_turn room ms frames Token.end_array ts = refl
object_turn room ms frames (Token.key k) ts = member_then room ms k frames (length ts) (value room ts) (λ r e. omega (arith, skip_value-shorter room ts r e))
object_turn room ms frames (Token.string s) ts = refl
object_turn room ms frames (Token.number s) ts = refl
object_turn room ms frames (Token.boolean b) ts = refl
object_turn room ms frames Token.null ts = refl
object_turn room ms frames Token.bad ts = refl

-- ---- a token, and then all

token_turn : (s : StackState) (t : Token) (ts : List Token) → read_from s (t ∷ ts) ≡ read_from (next_state s t) ts
token_turn (reading room []) t ts = value_turn room [] t ts refl tt
token_turn (reading room (in_array js ∷ frames)) t ts = array_turn room js frames t ts
token_turn (reading room (in_object ms ∷ frames)) t ts = object_turn room ms frames t ts
token_turn (reading room (in_member ms k ∷ frames)) t ts = value_turn room (in_member ms k ∷ frames) t ts refl tt
token_turn (done j) t ts = refl
token_turn failed t ts = refl

value_none : (room : ℕ) → value room [] ≡ None
unfolding value
value_none zero = refl
value_none (suc room) = refl

at_end : (s : StackState) → read_from s [] ≡ result_of s
unfolding items members
at_end (reading room []) = ap (option_and_then (λ p. after_value room [] p.0 p.1)) (value_none room)
at_end (reading room (in_array js ∷ frames)) = refl
at_end (reading room (in_object ms ∷ frames)) = refl
at_end (reading room (in_member ms k ∷ frames)) = ap (option_and_then (λ p. after_value room (in_member ms k ∷ frames) p.0 p.1)) (value_none room)
at_end (done j) = refl
at_end failed = refl

read_from_is : (s : StackState) (ts : List Token) → read_from s ts ≡ result_of (state_after s ts)
unfolding state_after
read_from_is s [] = at_end s
read_from_is s (t ∷ ts) = token_turn s t ts ∙ read_from_is (next_state s t) ts

pub machine_reads : (depth : ℕ) (ts : List Token) → option_and_then (λ p. if_last p.0 p.1) (value depth ts) ≡ result_of (state_after (start_state depth) ts)
unfolding after_value
machine_reads depth ts = read_from_is (start_state depth) ts
