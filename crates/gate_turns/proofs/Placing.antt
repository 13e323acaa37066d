-- The one that has been idle longest is found.
use Rattle.std.proofs.Common.{◌≡◌, ℕ, ◌≤◌, ◌<◌, List, [], ◌∷◌, ◌++◌, Bool, true, false, Option, Some, None, refl, sym, ap, subst, ◌∙◌, arith}
use Rattle.std.specs.Prelude.{MatchOption, nat_lt, if◌then◌else◌}
use Rattle.std.specs.Ordering.{nat_cmp}
use Rattle.std.specs.List.{All, Contains}
use Rattle.std.specs.List.Sorted.{IsStrictlySortedBy}
use Rattle.std.specs.Map.{keys_of}
use Rattle.std.specs.Cmp.{eq_by_cmp_equiv, nat_cmp_total}
use Rattle.std.proofs.lemmas.List.{append-nil, append_assoc}
use Rattle.std.proofs.lemmas.List.Elements.{All-nil, All-push, All-weaker, Contains-push, Contains-append_left}
use Rattle.std.proofs.lemmas.Map.Keys.{IsDistinct-from_sorted}
use Rattle.std.proofs.lemmas.Map.Views.{lookup-from_Contains}
use Rattle.gate_turns.specs.declared.seat.Seat.{Seat}
use Rattle.gate_turns.specs.Places.{IsLongestIdle, NobodyIsIdle, idle_for, longer_idle}

-- the best one of those before, and of these
abbrev pub best_of : Option ℕ → Option (ℕ × ℕ) → List (ℕ × Seat) → Option (ℕ × ℕ)
best_of wanted best [] = best
best_of wanted best (e ∷ es) = best_of wanted (longer_idle best e.0 (idle_for wanted e.1)) es

-- no other that was seen has been idle for longer than the best one
abbrev IsNoLonger : Option ℕ → ℕ → ℕ × Seat → Type 0
IsNoLonger wanted since e = (before : ℕ) → idle_for wanted e.1 ≡ Some before → since ≤ before

record IsBest (wanted : Option ℕ) (seen : List (ℕ × Seat)) (id since : ℕ) : Type 0 where
  seat : Seat
  there : Contains seen (id, seat)
  idle : idle_for wanted seat ≡ Some since
  longest : All (IsNoLonger wanted since) seen

abbrev Best : Option ℕ → List (ℕ × Seat) → Option (ℕ × ℕ) → Type 0
Best wanted seen None = NobodyIsIdle wanted seen
Best wanted seen (Some best) = IsBest wanted seen best.0 best.1

none_some : (n : ℕ) → None ≡ Some n → ⊥
none_some n is = cc

some_none : {X : Type 0} (x : X) → Some x ≡ None → ⊥
some_none x is = cc

some_is : (n m : ℕ) → Some n ≡ Some m → n ≡ m
some_is n m is = cc

no_longer : (wanted : Option ℕ) (since other : ℕ) (e : ℕ × Seat) → since ≤ other → idle_for wanted e.1 ≡ Some other → IsNoLonger wanted since e
no_longer wanted since other e less is before idle = omega (arith, less, some_is other before (sym is ∙ idle))

not_idle : (wanted : Option ℕ) (since : ℕ) (e : ℕ × Seat) → idle_for wanted e.1 ≡ None → IsNoLonger wanted since e
not_idle wanted since e none before idle = absurd (none_some before (sym none ∙ idle))

becomes : (wanted : Option ℕ) (seen : List (ℕ × Seat)) (id : ℕ) (seat : Seat) (since : ℕ) → idle_for wanted seat ≡ Some since → All (IsNoLonger wanted since) seen
    → IsBest wanted (seen ++ (id, seat) ∷ []) id since
becomes wanted seen id seat since is others = record {
  seat = seat;
  there = Contains-push seen (id, seat);
  idle = is;
  longest = All-push (IsNoLonger wanted since) seen (id, seat) others (no_longer wanted since since (id, seat) (omega arith) is);
}

stays : (wanted : Option ℕ) (seen : List (ℕ × Seat)) (e : ℕ × Seat) (id since : ℕ) → IsBest wanted seen id since → IsNoLonger wanted since e → IsBest wanted (seen ++ e ∷ []) id since
stays wanted seen e id since was more = record {
  seat = was.seat;
  there = Contains-append_left seen (e ∷ []) (id, was.seat) was.there;
  idle = was.idle;
  longest = All-push (IsNoLonger wanted since) seen e was.longest more;
}

less_true : (a b : ℕ) → nat_lt a b ≡ true → a ≤ b
less_true a b is = grind (arith, is)

less_false : (a b : ℕ) → nat_lt a b ≡ false → b ≤ a
less_false a b is = grind (arith, is)

either : (wanted : Option ℕ) (seen : List (ℕ × Seat)) (id : ℕ) (seat : Seat) (since : ℕ) (best : ℕ × ℕ) (b : Bool) → (b ≡ true → since ≤ best.1) → (b ≡ false → best.1 ≤ since)
    → idle_for wanted seat ≡ Some since → IsBest wanted seen best.0 best.1 → Best wanted (seen ++ (id, seat) ∷ []) (if b then Some (id, since) else Some best)
either wanted seen id seat since best true less more is was =
    becomes wanted seen id seat since is (All-weaker (IsNoLonger wanted best.1) (IsNoLonger wanted since) (λ e no before idle. omega (arith, less refl, no before idle)) seen was.longest)
either wanted seen id seat since best false less more is was = stays wanted seen (id, seat) best.0 best.1 was (no_longer wanted best.1 since (id, seat) (more refl) is)

-- one more was seen
seen_one : (wanted : Option ℕ) (seen : List (ℕ × Seat)) (id : ℕ) (seat : Seat) (best : Option (ℕ × ℕ)) (idle : Option ℕ) → idle_for wanted seat ≡ idle → Best wanted seen best
    → Best wanted (seen ++ (id, seat) ∷ []) (longer_idle best id idle)
seen_one wanted seen id seat None None is was = All-push (λ e. idle_for wanted e.1 ≡ None) seen (id, seat) was is
seen_one wanted seen id seat (Some best) None is was = stays wanted seen (id, seat) best.0 best.1 was (not_idle wanted best.1 (id, seat) is)
seen_one wanted seen id seat None (Some since) is was =
    becomes wanted seen id seat since is (All-weaker (λ e. idle_for wanted e.1 ≡ None) (IsNoLonger wanted since) (λ e none. not_idle wanted since e none) seen was)
seen_one wanted seen id seat (Some best) (Some since) is was = either wanted seen id seat since best (nat_lt since best.1) (less_true since best.1) (less_false since best.1) is was

seen_all : (wanted : Option ℕ) (seen more : List (ℕ × Seat)) (best : Option (ℕ × ℕ)) → Best wanted seen best → Best wanted (seen ++ more) (best_of wanted best more)
seen_all wanted seen [] best was = subst (λ (s : List (ℕ × Seat)). Best wanted s best) (sym (append-nil seen)) was
seen_all wanted seen (e ∷ es) best was = subst (λ (s : List (ℕ × Seat)). Best wanted s (best_of wanted (longer_idle best e.0 (idle_for wanted e.1)) es)) (append_assoc seen (e ∷ []) es)
    (seen_all wanted (seen ++ e ∷ []) es (longer_idle best e.0 (idle_for wanted e.1)) (seen_one wanted seen e.0 e.1 best (idle_for wanted e.1) refl was))

all_seen : (wanted : Option ℕ) (seats : List (ℕ × Seat)) → Best wanted seats (best_of wanted None seats)
all_seen wanted seats = seen_all wanted [] seats None (All-nil (λ e. idle_for wanted e.1 ≡ None))

pub is_longest : (wanted : Option ℕ) (seats : List (ℕ × Seat)) (id since : ℕ) → IsStrictlySortedBy nat_cmp (keys_of seats) → best_of wanted None seats ≡ Some (id, since) → IsLongestIdle wanted seats id
is_longest wanted seats id since sorted is =
    let best = subst (Best wanted seats) is (all_seen wanted seats) in
    record {
      seat = best.seat;
      there = lookup-from_Contains (eq_by_cmp_equiv nat_cmp_total) id best.seat seats (IsDistinct-from_sorted nat_cmp (keys_of seats) sorted) best.there;
      since = since;
      idle = best.idle;
      longest = best.longest;
    }

pub is_nobody : (wanted : Option ℕ) (seats : List (ℕ × Seat)) → best_of wanted None seats ≡ None → NobodyIsIdle wanted seats
is_nobody wanted seats is = subst (Best wanted seats) is (all_seen wanted seats)

-- an iterator that gave nothing has nothing left
pub ended : {X : Type 0} (r : Option X) (A : Type 0) (B : X → Type 0) → MatchOption r A B → r ≡ None → A
ended None A B all is = all
ended (Some x) A B all is = absurd (some_none x is)

-- what is left of those that were looked through is nothing
pub best_at_end : (wanted : Option ℕ) (best : Option (ℕ × ℕ)) (left seats : List (ℕ × Seat)) → left ≡ [] → best_of wanted best left ≡ best_of wanted None seats → best_of wanted None seats ≡ best
best_at_end wanted best left seats none is = sym is ∙ ap (best_of wanted best) none
