-- Turns come.
use Rattle.std.proofs.Common.{◌≡◌, ℕ, ◌+◌, ◌-◌, ◌*◌, ◌<◌, ◌≤◌, ◌⊎◌, min, List, [], ◌∷◌, ◌++◌, length, refl, sym, ap, subst, ◌∙◌, append_assoc, arith, length-append, inl, inr}
use Rattle.std.proofs.lemmas.Nat.{mul-le}
use Rattle.gate_turns.specs.declared.seat.Lane.{Lane}
use Rattle.gate_turns.specs.declared.seat.Lane.TheVariants.{Quick, Fresh, Slow}
use Rattle.gate_turns.specs.Lanes.{LanesState, AreBounded, queue_of, turns_due, queued_count, lanes_with, lanes_at_round, lanes_cut_short, HasTurn}
use Rattle.gate_turns.specs.Before.{StandsBehind, rounds_before, turns_before, Happening, Queues, Begins, Shortens, Turns, Course, turns_in, HasTurnIn}

-- fewer rounds of the same room, and fewer turns that are left
fewer : (a b r d e k : ℕ) → a ≤ b → d + k ≤ e → a * r + d + k ≤ b * r + e
fewer a b r d e k ab de = omega (arith, mul-le a r b r ab (omega arith), de)

-- one round less, for its turns
one_less : (a b r d : ℕ) → a + 1 ≤ b → d ≤ r → a * r + d ≤ b * r
one_less a b r d ab dr = omega (arith, mul-le (a + 1) r b r ab (omega arith), dr)

due_within : (s : LanesState) → AreBounded s → turns_due s ≤ s.room
due_within s sound = omega (arith, sound.within, sound.quick, sound.first, sound.fresh, sound.slow)

begun_within : (s : LanesState) → AreBounded s → turns_due (lanes_at_round s) ≤ s.room
begun_within s sound = omega (arith, sound.within)

rounds_within : (lane : Lane) (n : ℕ) (s : LanesState) → rounds_before lane n s ≤ n + 1
rounds_within Quick n s = omega arith
rounds_within Fresh n s = omega arith
rounds_within Slow n s = omega arith

in_all : (a n r d : ℕ) → a ≤ n + 1 → d ≤ r → a * r + d ≤ (n + 2) * r
in_all a n r d an dr = one_less a (n + 2) r d (omega (arith, an)) dr

pub bounded : (lane : Lane) (n : ℕ) (s : LanesState) → AreBounded s → turns_before lane n s ≤ (n + 2) * s.room
bounded lane n s sound = in_all (rounds_before lane n s) n s.room (turns_due s) (rounds_within lane n s) (due_within s sound)

pub quick_bounded : (n : ℕ) (s : LanesState) → AreBounded s → turns_before Quick n s ≤ 2 * s.room
quick_bounded n s sound = one_less (min 1 (n + 1 - s.due_quick)) 2 s.room (turns_due s) (omega arith) (due_within s sound)

pub some_due : (s : LanesState) → 0 < queued_count s → 0 < turns_due (lanes_at_round s)
some_due s some = omega arith

-- it stands still there, and no more turns are had before
abbrev Stays : Lane → ℕ → List ℕ → LanesState → LanesState → ℕ → Type 0
Stays lane id ahead s t k = (now : List ℕ) × StandsBehind lane id now t × (turns_before lane (length now) t + k ≤ turns_before lane (length ahead) s)

queued : (lane to : Lane) (id other : ℕ) (ahead : List ℕ) (s : LanesState) → StandsBehind lane id ahead s → StandsBehind lane id ahead (lanes_with to other s)
queued Quick Quick id other ahead s st = record { behind = st.behind ++ other ∷ []; is = ap (λ r. r ++ other ∷ []) st.is ∙ append_assoc ahead (id ∷ st.behind) (other ∷ []) }
queued Quick Fresh id other ahead s st = record { behind = st.behind; is = st.is }
queued Quick Slow id other ahead s st = record { behind = st.behind; is = st.is }
queued Fresh Quick id other ahead s st = record { behind = st.behind; is = st.is }
queued Fresh Fresh id other ahead s st = record { behind = st.behind ++ other ∷ []; is = ap (λ r. r ++ other ∷ []) st.is ∙ append_assoc ahead (id ∷ st.behind) (other ∷ []) }
queued Fresh Slow id other ahead s st = record { behind = st.behind; is = st.is }
queued Slow Quick id other ahead s st = record { behind = st.behind; is = st.is }
queued Slow Fresh id other ahead s st = record { behind = st.behind; is = st.is }
queued Slow Slow id other ahead s st = record { behind = st.behind ++ other ∷ []; is = ap (λ r. r ++ other ∷ []) st.is ∙ append_assoc ahead (id ∷ st.behind) (other ∷ []) }

queued_before : (lane to : Lane) (other n : ℕ) (s : LanesState) → turns_before lane n (lanes_with to other s) + 0 ≤ turns_before lane n s
queued_before Quick Quick other n s = omega arith
queued_before Quick Fresh other n s = omega arith
queued_before Quick Slow other n s = omega arith
queued_before Fresh Quick other n s = omega arith
queued_before Fresh Fresh other n s = omega arith
queued_before Fresh Slow other n s = omega arith
queued_before Slow Quick other n s = omega arith
queued_before Slow Fresh other n s = omega arith
queued_before Slow Slow other n s = omega arith

after_queued : (lane to : Lane) (id other : ℕ) (ahead : List ℕ) (s t : LanesState) → t ≡ lanes_with to other s → StandsBehind lane id ahead s → Stays lane id ahead s t 0
after_queued lane to id other ahead s t is st =
    subst (λ (x : LanesState). Stays lane id ahead s x 0) (sym is) (ahead, queued lane to id other ahead s st, queued_before lane to other (length ahead) s)

-- a lane has as many as stand in it, and one more ahead of the next
ahead_within : (xs ahead behind : List ℕ) (id : ℕ) → xs ≡ ahead ++ id ∷ behind → length ahead + 1 ≤ length xs
ahead_within xs ahead behind id is = grind (arith, length-append, is)

begun_rounds : (lane : Lane) (n : ℕ) (s : LanesState) → n + 1 ≤ length (queue_of lane s) → turns_due s ≡ 0 → rounds_before lane n (lanes_at_round s) + 1 ≤ rounds_before lane n s
begun_rounds Quick n s within over = omega (arith, within, over)
begun_rounds Fresh n s within over = omega (arith, within, over)
begun_rounds Slow n s within over = omega (arith, within, over)

begun_stands : (lane : Lane) (id : ℕ) (ahead : List ℕ) (s : LanesState) → StandsBehind lane id ahead s → StandsBehind lane id ahead (lanes_at_round s)
begun_stands Quick id ahead s st = record { behind = st.behind; is = st.is }
begun_stands Fresh id ahead s st = record { behind = st.behind; is = st.is }
begun_stands Slow id ahead s st = record { behind = st.behind; is = st.is }

begun_before : (lane : Lane) (n : ℕ) (s : LanesState) → n + 1 ≤ length (queue_of lane s) → AreBounded s → turns_due s ≡ 0 → turns_before lane n (lanes_at_round s) + 0 ≤ turns_before lane n s
begun_before lane n s within sound over =
    omega (arith, one_less (rounds_before lane n (lanes_at_round s)) (rounds_before lane n s) s.room (turns_due (lanes_at_round s)) (begun_rounds lane n s within over) (begun_within s sound))

after_begun : (lane : Lane) (id : ℕ) (ahead : List ℕ) (s t : LanesState) → AreBounded s → turns_due s ≡ 0 → t ≡ lanes_at_round s → StandsBehind lane id ahead s → Stays lane id ahead s t 0
after_begun lane id ahead s t sound over is st =
    subst (λ (x : LanesState). Stays lane id ahead s x 0) (sym is) (ahead, begun_stands lane id ahead s st, begun_before lane (length ahead) s (ahead_within (queue_of lane s) ahead st.behind id st.is) sound over)

shortened_stands : (lane : Lane) (id : ℕ) (ahead : List ℕ) (s : LanesState) → StandsBehind lane id ahead s → StandsBehind lane id ahead (lanes_cut_short s)
shortened_stands Quick id ahead s st = record { behind = st.behind; is = st.is }
shortened_stands Fresh id ahead s st = record { behind = st.behind; is = st.is }
shortened_stands Slow id ahead s st = record { behind = st.behind; is = st.is }

shortened_before : (lane : Lane) (n : ℕ) (s : LanesState) → turns_before lane n (lanes_cut_short s) + 0 ≤ turns_before lane n s
shortened_before Quick n s = omega arith
shortened_before Fresh n s = omega arith
shortened_before Slow n s = omega arith

after_shortened : (lane : Lane) (id : ℕ) (ahead : List ℕ) (s t : LanesState) → t ≡ lanes_cut_short s → StandsBehind lane id ahead s → Stays lane id ahead s t 0
after_shortened lane id ahead s t is st =
    subst (λ (x : LanesState). Stays lane id ahead s x 0) (sym is) (ahead, shortened_stands lane id ahead s st, shortened_before lane (length ahead) s)

first_of : (x y : ℕ) (xs ys : List ℕ) → x ∷ xs ≡ y ∷ ys → x ≡ y
first_of x y xs ys is = cc

rest_of : (x y : ℕ) (xs ys : List ℕ) → x ∷ xs ≡ y ∷ ys → xs ≡ ys
rest_of x y xs ys is = cc

-- the lane's first one had its turn: it was this one, or one of those ahead of it
popped : (xs ys ahead behind : List ℕ) (id other : ℕ) → xs ≡ other ∷ ys → xs ≡ ahead ++ id ∷ behind
    → ((other ≡ id) × (ahead ≡ [])) ⊎ ((now : List ℕ) × (ys ≡ now ++ id ∷ behind) × (length now + 1 ≡ length ahead))
popped xs ys [] behind id other one two = inl (first_of other id ys behind (sym one ∙ two), refl)
popped xs ys (x ∷ more) behind id other one two = inr (more, rest_of other x ys (more ++ id ∷ behind) (sym one ∙ two), omega arith)

-- the same where the rooms are two names of one
fewer_in : (a b q r d e k : ℕ) → a ≤ b → q ≡ r → d + k ≤ e → a * q + d + k ≤ b * r + e
fewer_in a b q r d e k ab same de = subst (λ (x : ℕ). a * x + d + k ≤ b * r + e) (sym same) (fewer a b r d e k ab de)

turned_Quick : (other : ℕ) (s t : LanesState) → AreBounded s → HasTurn Quick other s t → (lane : Lane) (n m : ℕ) → rounds_before lane n t ≤ rounds_before lane m s → turns_before lane n t + 1 ≤ turns_before lane m s
turned_Quick other s t sound (front, some, is) lane n m less =
    let q = ap (λ (x : LanesState). x.due_quick) is in
    let f = ap (λ (x : LanesState). x.due_first) is in
    let g = ap (λ (x : LanesState). x.due_fresh) is in
    let w = ap (λ (x : LanesState). x.due_slow) is in
    let r = ap (λ (x : LanesState). x.room) is in
    fewer_in (rounds_before lane n t) (rounds_before lane m s) t.room s.room (turns_due t) (turns_due s) 1 less r (omega (arith, q, f, g, w, some, sound.first, sound.slow))

same_Quick : (other n m : ℕ) (s t : LanesState) → AreBounded s → HasTurn Quick other s t → n + 1 ≡ m → rounds_before Quick n t ≤ rounds_before Quick m s
same_Quick other n m s t sound (front, some, is) less =
    let q = ap (λ (x : LanesState). x.due_quick) is in
    let f = ap (λ (x : LanesState). x.due_first) is in
    let g = ap (λ (x : LanesState). x.due_fresh) is in
    let w = ap (λ (x : LanesState). x.due_slow) is in
    let r = ap (λ (x : LanesState). x.room) is in
    omega (arith, q, f, g, w, some, sound.first, sound.slow, less)

apart_Quick_Fresh : (other n : ℕ) (s t : LanesState) → AreBounded s → HasTurn Quick other s t → rounds_before Fresh n t ≤ rounds_before Fresh n s
apart_Quick_Fresh other n s t sound (front, some, is) =
    let q = ap (λ (x : LanesState). x.due_quick) is in
    let f = ap (λ (x : LanesState). x.due_first) is in
    let g = ap (λ (x : LanesState). x.due_fresh) is in
    let w = ap (λ (x : LanesState). x.due_slow) is in
    let r = ap (λ (x : LanesState). x.room) is in
    omega (arith, q, f, g, w, some, sound.first, sound.slow)

apart_Quick_Slow : (other n : ℕ) (s t : LanesState) → AreBounded s → HasTurn Quick other s t → rounds_before Slow n t ≤ rounds_before Slow n s
apart_Quick_Slow other n s t sound (front, some, is) =
    let q = ap (λ (x : LanesState). x.due_quick) is in
    let f = ap (λ (x : LanesState). x.due_first) is in
    let g = ap (λ (x : LanesState). x.due_fresh) is in
    let w = ap (λ (x : LanesState). x.due_slow) is in
    let r = ap (λ (x : LanesState). x.room) is in
    omega (arith, q, f, g, w, some, sound.first, sound.slow)

own_Quick : (id other : ℕ) (ahead : List ℕ) (s t : LanesState) → AreBounded s → (turn : HasTurn Quick other s t) → (st : StandsBehind Quick id ahead s) → (other ≡ id) ⊎ Stays Quick id ahead s t 1
own_Quick id other ahead s t sound turn st = elim (popped s.quick t.quick ahead st.behind id other turn.0 st.is) [
  | inl same ↦ inl same.0
  | inr more ↦ inr (more.0, record { behind = st.behind; is = more.1 }, turned_Quick other s t sound turn Quick (length more.0) (length ahead) (same_Quick other (length more.0) (length ahead) s t sound turn more.2))
]

turned_Fresh : (other : ℕ) (s t : LanesState) → AreBounded s → HasTurn Fresh other s t → (lane : Lane) (n m : ℕ) → rounds_before lane n t ≤ rounds_before lane m s → turns_before lane n t + 1 ≤ turns_before lane m s
turned_Fresh other s t sound (front, no_quick, some, is) lane n m less =
    let q = ap (λ (x : LanesState). x.due_quick) is in
    let f = ap (λ (x : LanesState). x.due_first) is in
    let g = ap (λ (x : LanesState). x.due_fresh) is in
    let w = ap (λ (x : LanesState). x.due_slow) is in
    let r = ap (λ (x : LanesState). x.room) is in
    fewer_in (rounds_before lane n t) (rounds_before lane m s) t.room s.room (turns_due t) (turns_due s) 1 less r (omega (arith, q, f, g, w, no_quick, some, sound.first, sound.slow))

apart_Fresh_Quick : (other n : ℕ) (s t : LanesState) → AreBounded s → HasTurn Fresh other s t → rounds_before Quick n t ≤ rounds_before Quick n s
apart_Fresh_Quick other n s t sound (front, no_quick, some, is) =
    let q = ap (λ (x : LanesState). x.due_quick) is in
    let f = ap (λ (x : LanesState). x.due_first) is in
    let g = ap (λ (x : LanesState). x.due_fresh) is in
    let w = ap (λ (x : LanesState). x.due_slow) is in
    let r = ap (λ (x : LanesState). x.room) is in
    omega (arith, q, f, g, w, no_quick, some, sound.first, sound.slow)

same_Fresh : (other n m : ℕ) (s t : LanesState) → AreBounded s → HasTurn Fresh other s t → n + 1 ≡ m → rounds_before Fresh n t ≤ rounds_before Fresh m s
same_Fresh other n m s t sound (front, no_quick, some, is) less =
    let q = ap (λ (x : LanesState). x.due_quick) is in
    let f = ap (λ (x : LanesState). x.due_first) is in
    let g = ap (λ (x : LanesState). x.due_fresh) is in
    let w = ap (λ (x : LanesState). x.due_slow) is in
    let r = ap (λ (x : LanesState). x.room) is in
    omega (arith, q, f, g, w, no_quick, some, sound.first, sound.slow, less)

apart_Fresh_Slow : (other n : ℕ) (s t : LanesState) → AreBounded s → HasTurn Fresh other s t → rounds_before Slow n t ≤ rounds_before Slow n s
apart_Fresh_Slow other n s t sound (front, no_quick, some, is) =
    let q = ap (λ (x : LanesState). x.due_quick) is in
    let f = ap (λ (x : LanesState). x.due_first) is in
    let g = ap (λ (x : LanesState). x.due_fresh) is in
    let w = ap (λ (x : LanesState). x.due_slow) is in
    let r = ap (λ (x : LanesState). x.room) is in
    omega (arith, q, f, g, w, no_quick, some, sound.first, sound.slow)

own_Fresh : (id other : ℕ) (ahead : List ℕ) (s t : LanesState) → AreBounded s → (turn : HasTurn Fresh other s t) → (st : StandsBehind Fresh id ahead s) → (other ≡ id) ⊎ Stays Fresh id ahead s t 1
own_Fresh id other ahead s t sound turn st = elim (popped s.fresh t.fresh ahead st.behind id other turn.0 st.is) [
  | inl same ↦ inl same.0
  | inr more ↦ inr (more.0, record { behind = st.behind; is = more.1 }, turned_Fresh other s t sound turn Fresh (length more.0) (length ahead) (same_Fresh other (length more.0) (length ahead) s t sound turn more.2))
]

turned_Slow : (other : ℕ) (s t : LanesState) → AreBounded s → HasTurn Slow other s t → (lane : Lane) (n m : ℕ) → rounds_before lane n t ≤ rounds_before lane m s → turns_before lane n t + 1 ≤ turns_before lane m s
turned_Slow other s t sound (front, no_quick, no_first, no_fresh, some, is) lane n m less =
    let q = ap (λ (x : LanesState). x.due_quick) is in
    let f = ap (λ (x : LanesState). x.due_first) is in
    let g = ap (λ (x : LanesState). x.due_fresh) is in
    let w = ap (λ (x : LanesState). x.due_slow) is in
    let r = ap (λ (x : LanesState). x.room) is in
    fewer_in (rounds_before lane n t) (rounds_before lane m s) t.room s.room (turns_due t) (turns_due s) 1 less r (omega (arith, q, f, g, w, no_quick, no_first, no_fresh, some, sound.first, sound.slow))

apart_Slow_Quick : (other n : ℕ) (s t : LanesState) → AreBounded s → HasTurn Slow other s t → rounds_before Quick n t ≤ rounds_before Quick n s
apart_Slow_Quick other n s t sound (front, no_quick, no_first, no_fresh, some, is) =
    let q = ap (λ (x : LanesState). x.due_quick) is in
    let f = ap (λ (x : LanesState). x.due_first) is in
    let g = ap (λ (x : LanesState). x.due_fresh) is in
    let w = ap (λ (x : LanesState). x.due_slow) is in
    let r = ap (λ (x : LanesState). x.room) is in
    omega (arith, q, f, g, w, no_quick, no_first, no_fresh, some, sound.first, sound.slow)

apart_Slow_Fresh : (other n : ℕ) (s t : LanesState) → AreBounded s → HasTurn Slow other s t → rounds_before Fresh n t ≤ rounds_before Fresh n s
apart_Slow_Fresh other n s t sound (front, no_quick, no_first, no_fresh, some, is) =
    let q = ap (λ (x : LanesState). x.due_quick) is in
    let f = ap (λ (x : LanesState). x.due_first) is in
    let g = ap (λ (x : LanesState). x.due_fresh) is in
    let w = ap (λ (x : LanesState). x.due_slow) is in
    let r = ap (λ (x : LanesState). x.room) is in
    omega (arith, q, f, g, w, no_quick, no_first, no_fresh, some, sound.first, sound.slow)

same_Slow : (other n m : ℕ) (s t : LanesState) → AreBounded s → HasTurn Slow other s t → n + 1 ≡ m → rounds_before Slow n t ≤ rounds_before Slow m s
same_Slow other n m s t sound (front, no_quick, no_first, no_fresh, some, is) less =
    let q = ap (λ (x : LanesState). x.due_quick) is in
    let f = ap (λ (x : LanesState). x.due_first) is in
    let g = ap (λ (x : LanesState). x.due_fresh) is in
    let w = ap (λ (x : LanesState). x.due_slow) is in
    let r = ap (λ (x : LanesState). x.room) is in
    omega (arith, q, f, g, w, no_quick, no_first, no_fresh, some, sound.first, sound.slow, less)

own_Slow : (id other : ℕ) (ahead : List ℕ) (s t : LanesState) → AreBounded s → (turn : HasTurn Slow other s t) → (st : StandsBehind Slow id ahead s) → (other ≡ id) ⊎ Stays Slow id ahead s t 1
own_Slow id other ahead s t sound turn st = elim (popped s.slow t.slow ahead st.behind id other turn.0 st.is) [
  | inl same ↦ inl same.0
  | inr more ↦ inr (more.0, record { behind = st.behind; is = more.1 }, turned_Slow other s t sound turn Slow (length more.0) (length ahead) (same_Slow other (length more.0) (length ahead) s t sound turn more.2))
]

after_turn : (lane to : Lane) (id other : ℕ) (ahead : List ℕ) (s t : LanesState) → AreBounded s → HasTurn to other s t → StandsBehind lane id ahead s → (other ≡ id) ⊎ Stays lane id ahead s t 1
after_turn Quick Quick id other ahead s t sound turn st = own_Quick id other ahead s t sound turn st
after_turn Fresh Quick id other ahead s t sound turn st = inr (ahead, record { behind = st.behind; is = ap (λ (x : LanesState). x.fresh) turn.2 ∙ st.is }, turned_Quick other s t sound turn Fresh (length ahead) (length ahead) (apart_Quick_Fresh other (length ahead) s t sound turn))
after_turn Slow Quick id other ahead s t sound turn st = inr (ahead, record { behind = st.behind; is = ap (λ (x : LanesState). x.slow) turn.2 ∙ st.is }, turned_Quick other s t sound turn Slow (length ahead) (length ahead) (apart_Quick_Slow other (length ahead) s t sound turn))
after_turn Quick Fresh id other ahead s t sound turn st = inr (ahead, record { behind = st.behind; is = ap (λ (x : LanesState). x.quick) turn.3 ∙ st.is }, turned_Fresh other s t sound turn Quick (length ahead) (length ahead) (apart_Fresh_Quick other (length ahead) s t sound turn))
after_turn Fresh Fresh id other ahead s t sound turn st = own_Fresh id other ahead s t sound turn st
after_turn Slow Fresh id other ahead s t sound turn st = inr (ahead, record { behind = st.behind; is = ap (λ (x : LanesState). x.slow) turn.3 ∙ st.is }, turned_Fresh other s t sound turn Slow (length ahead) (length ahead) (apart_Fresh_Slow other (length ahead) s t sound turn))
after_turn Quick Slow id other ahead s t sound turn st = inr (ahead, record { behind = st.behind; is = ap (λ (x : LanesState). x.quick) turn.5 ∙ st.is }, turned_Slow other s t sound turn Quick (length ahead) (length ahead) (apart_Slow_Quick other (length ahead) s t sound turn))
after_turn Fresh Slow id other ahead s t sound turn st = inr (ahead, record { behind = st.behind; is = ap (λ (x : LanesState). x.fresh) turn.5 ∙ st.is }, turned_Slow other s t sound turn Fresh (length ahead) (length ahead) (apart_Slow_Fresh other (length ahead) s t sound turn))
after_turn Slow Slow id other ahead s t sound turn st = own_Slow id other ahead s t sound turn st

none_before : (n : ℕ) → n < 0 → ⊥
none_before n less = omega (arith, less)

pub comes : (lane : Lane) (id : ℕ) (ahead : List ℕ) (s t : LanesState) (hs : List Happening) → Course hs s t → StandsBehind lane id ahead s → turns_before lane (length ahead) s < turns_in hs → HasTurnIn id hs
comes lane id ahead s t [] course st more = elim (none_before _ more) [ ]
comes lane id ahead s t (Queues to other ∷ hs) (mid, sound, is, rest) st more =
    let stays = after_queued lane to id other ahead s mid is st in
    comes lane id stays.0 mid t hs rest stays.1 (omega (arith, stays.2, more))
comes lane id ahead s t (Begins ∷ hs) (mid, sound, is, rest) st more =
    let stays = after_begun lane id ahead s mid sound is.0 is.1 st in
    comes lane id stays.0 mid t hs rest stays.1 (omega (arith, stays.2, more))
comes lane id ahead s t (Shortens ∷ hs) (mid, sound, is, rest) st more =
    let stays = after_shortened lane id ahead s mid is st in
    comes lane id stays.0 mid t hs rest stays.1 (omega (arith, stays.2, more))
comes lane id ahead s t (Turns to other ∷ hs) (mid, sound, turn, rest) st more = elim (after_turn lane to id other ahead s mid sound turn st) [
  | inl same ↦ inl same
  | inr stays ↦ inr (comes lane id stays.0 mid t hs rest stays.1 (omega (arith, stays.2, more)))
]
