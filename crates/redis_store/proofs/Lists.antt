-- Commands and replies, one more.
use Rattle.std.proofs.Common.{◌≡◌, inl, inr, ℕ, zero, suc, ◌+◌, ◌-◌, ◌<◌, ◌≤◌, cond, take, drop, get_or, zero-add, List, [], ◌∷◌, ◌++◌, length, Bool, true, false, Option, Some, None, All, IfSome, refl, sym, ap, subst, ◌∙◌, append-nil, append_assoc, arith}
use Rattle.std.proofs.lemmas.List.{map-id, take_more, take_all, length-take-le, length-drop, take-append-le}
use Rattle.std.proofs.lemmas.List.FromFn.{map-range_with_len_more}
use Rattle.std.proofs.lemmas.List.Elements.{All-push}
use Rattle.std.proofs.lemmas.Grind.{flat_map-append}
use Rattle.std.specs.List.{range_with_len}
use Rattle.std.specs.Prelude.{flat_map}
use Rattle.resp.specs.declared.reply.Reply.{Reply}
use Rattle.resp.specs.Spelled.{SpellsAll}
use Rattle.redis_store.specs.Keys.{key}
use Rattle.redis_store.specs.Commands.{exists_command, exists_below, get_command, get_below}
use Rattle.redis_store.specs.Replies.{GivesShare}
use Rattle.redis_store.specs.Answers.{SaysWhether, SayWhich, GiveShares, numbered_share}

range_next : (n : ℕ) → range_with_len 0 (n + 1) ≡ range_with_len 0 n ++ n ∷ []
range_next n =
    sym (map-id (range_with_len 0 (n + 1)))
    ∙ map-range_with_len_more (λ k. k) 0 n n (omega arith)
    ∙ ap (λ ks. ks ++ n ∷ []) (map-id (range_with_len 0 n))

-- a number more
pub flat_more : {X : Type 0} (f : ℕ → List X) (n : ℕ) → flat_map f (range_with_len 0 (n + 1)) ≡ flat_map f (range_with_len 0 n) ++ f n
flat_more f n =
    ap (flat_map f) (range_next n) ∙ flat_map-append f (range_with_len 0 n) (n ∷ [])
    ∙ ap (λ ys. flat_map f (range_with_len 0 n) ++ ys) (append-nil (f n))

-- a reply more
pub spelled_more : {A : Type 0} (Spells : A → List ℕ → Type 0) (all : List A) (a : A) (bytes last : List ℕ) → SpellsAll Spells all bytes → Spells a last → SpellsAll Spells (all ++ a ∷ []) (bytes ++ last)
spelled_more Spells [] a bytes last none one =
    (last, [], one, refl, ap (λ (l : List ℕ). l ++ last) none ∙ sym (append-nil last))
spelled_more Spells (b ∷ all) a bytes last some one =
    (some.0, some.1 ++ last, some.2, spelled_more Spells all a some.1 last some.3 one, ap (λ (l : List ℕ). l ++ last) some.4 ∙ append_assoc some.0 some.1 last)

-- a reply that says one, more
pub one_said : (number : ℕ) (answers : List Reply) (answer : Reply) (numbers : List ℕ) → SayWhich number answers numbers → SaysWhether true answer → SayWhich number (answers ++ answer ∷ []) (numbers ++ (number + length answers) ∷ [])
one_said number [] answer numbers none one =
    inl (one, ([], ap (λ (l : List ℕ). l ++ (number + 0) ∷ []) none ∙ ap (λ n. n ∷ []) (omega arith), refl))
one_said number (a ∷ answers) answer numbers said one =
    elim said as (λ s. SayWhich number ((a ∷ answers) ++ answer ∷ []) (numbers ++ (number + length (a ∷ answers)) ∷ [])) [
      | inl here ↦
          let next = one_said (suc number) answers answer here.1.0 here.1.2 one in
          let same : suc number + length answers ≡ number + length (a ∷ answers) = omega arith in
          inl (
            here.0,
            (
              here.1.0 ++ (number + length (a ∷ answers)) ∷ [],
              ap (λ (l : List ℕ). l ++ (number + length (a ∷ answers)) ∷ []) here.1.1,
              subst (λ n. SayWhich (suc number) (answers ++ answer ∷ []) (here.1.0 ++ n ∷ [])) same next,
            ),
          )
      | inr there ↦
          let next = one_said (suc number) answers answer numbers there.1 one in
          let same : suc number + length answers ≡ number + length (a ∷ answers) = omega arith in
          inr (there.0, subst (λ n. SayWhich (suc number) (answers ++ answer ∷ []) (numbers ++ n ∷ [])) same next)
    ]

-- and one that says none
pub none_said : (number : ℕ) (answers : List Reply) (answer : Reply) (numbers : List ℕ) → SayWhich number answers numbers → SaysWhether false answer → SayWhich number (answers ++ answer ∷ []) numbers
none_said number [] answer numbers none one = inr (one, none)
none_said number (a ∷ answers) answer numbers said one =
    elim said as (λ s. SayWhich number ((a ∷ answers) ++ answer ∷ []) numbers) [
      | inl here ↦ inl (here.0, (here.1.0, here.1.1, none_said (suc number) answers answer here.1.0 here.1.2 one))
      | inr there ↦ inr (there.0, none_said (suc number) answers answer numbers there.1 one)
    ]

-- the numbers of one reply more
pub said_next : (answers : List Reply) (i : ℕ) (numbers : List ℕ) (answer : Reply) (said : Bool) → i < length answers → answer ≡ get_or answers i answer → SayWhich 0 (take i answers) numbers → SaysWhether said answer
    → SayWhich 0 (take (i + 1) answers) (cond said (numbers ++ i ∷ []) numbers)
said_next answers i numbers answer true lt is before one =
    let more : take (i + 1) answers ≡ take i answers ++ answer ∷ [] = take_more answers i answer lt ∙ ap (λ a. take i answers ++ a ∷ []) (sym is) in
    let many : 0 + length (take i answers) ≡ i = zero-add (length (take i answers)) ∙ length-take-le i answers (omega (arith, lt)) in
    subst (λ (l : List Reply). SayWhich 0 l (numbers ++ i ∷ [])) (sym more)
    (subst (λ n. SayWhich 0 (take i answers ++ answer ∷ []) (numbers ++ n ∷ [])) many (one_said 0 (take i answers) answer numbers before one))
said_next answers i numbers answer false lt is before one =
    let more : take (i + 1) answers ≡ take i answers ++ answer ∷ [] = take_more answers i answer lt ∙ ap (λ a. take i answers ++ a ∷ []) (sym is) in
    subst (λ (l : List Reply). SayWhich 0 l numbers) (sym more) (none_said 0 (take i answers) answer numbers before one)

none_taken : {X : Type 0} (n : ℕ) → take n (let l : List X = [] in l) ≡ []
none_taken zero = refl
none_taken (suc n) = refl

none_left : {X : Type 0} (n : ℕ) → drop n (let l : List X = [] in l) ≡ []
none_left zero = refl
none_left (suc n) = refl

take-add : (m n : ℕ) (xs : List ℕ) → take (m + n) xs ≡ take m xs ++ take n (drop m xs)
take-add zero n xs = ap (λ k. take k xs) (zero-add n)
take-add (suc m) n [] = none_taken (suc m + n) ∙ sym (ap (λ (l : List ℕ). [] ++ take n l) (none_left {X = ℕ} (suc m)) ∙ none_taken n)
take-add (suc m) n (x ∷ xs) =
    let e : suc m + n ≡ suc (m + n) = omega arith in
    ap (λ k. take k (x ∷ xs)) e ∙ ap (λ l. x ∷ l) (take-add m n xs)

-- the bytes up to a place, and those of a reply there
pub taken_more : (start len : ℕ) (old part new : List ℕ) → new ≡ old ++ part → start ≤ length old → take (start + len) new ≡ take start old ++ take len (drop start new)
taken_more start len old part new is le =
    take-add start len new ∙ ap (λ (l : List ℕ). l ++ take len (drop start new)) (ap (take start) is ∙ take-append-le start old part le)

-- a reply at a place
pub slice_taken : (start len : ℕ) (came bytes : List ℕ) → bytes ≡ take (length came - start) (drop start came) → take len bytes ≡ take len (drop start came)
slice_taken start len came bytes is =
    ap (take len) (is ∙ take_all (length came - start) (drop start came) (omega (arith, length-drop start came)))

-- the question for one number more
pub exists_more : (grid index : List ℕ) (n : ℕ) → exists_below grid index (n + 1) ≡ exists_below grid index n ++ exists_command (key grid index n)
exists_more grid index n = flat_more (λ number. exists_command (key grid index number)) n

pub gets_more : (grid index : List ℕ) (n : ℕ) → get_below grid index (n + 1) ≡ get_below grid index n ++ get_command (key grid index n)
gets_more grid index n = flat_more (λ number. get_command (key grid index number)) n

-- a reply that gives a share, more
one_given : (number : ℕ) (answers : List Reply) (answer : Reply) (shares : List (ℕ × List ℕ)) (bytes : List ℕ) → GiveShares number answers shares → GivesShare answer (Some bytes) → GiveShares number (answers ++ answer ∷ []) (shares ++ (number + length answers, bytes) ∷ [])
one_given number [] answer shares bytes none one =
    inl (bytes, one, ([], ap (λ (l : List (ℕ × List ℕ)). l ++ (number + 0, bytes) ∷ []) none ∙ ap (λ n. (n, bytes) ∷ []) (omega arith), refl))
one_given number (a ∷ answers) answer shares bytes given one =
    elim given as (λ s. GiveShares number ((a ∷ answers) ++ answer ∷ []) (shares ++ (number + length (a ∷ answers), bytes) ∷ [])) [
      | inl here ↦
          let next = one_given (suc number) answers answer here.2.0 bytes here.2.2 one in
          let same : suc number + length answers ≡ number + length (a ∷ answers) = omega arith in
          inl (
            here.0,
            here.1,
            (
              here.2.0 ++ (number + length (a ∷ answers), bytes) ∷ [],
              ap (λ (l : List (ℕ × List ℕ)). l ++ (number + length (a ∷ answers), bytes) ∷ []) here.2.1,
              subst (λ n. GiveShares (suc number) (answers ++ answer ∷ []) (here.2.0 ++ (n, bytes) ∷ [])) same next,
            ),
          )
      | inr there ↦
          let next = one_given (suc number) answers answer shares bytes there.1 one in
          let same : suc number + length answers ≡ number + length (a ∷ answers) = omega arith in
          inr (there.0, subst (λ n. GiveShares (suc number) (answers ++ answer ∷ []) (shares ++ (n, bytes) ∷ [])) same next)
    ]

-- and one that gives none
none_given : (number : ℕ) (answers : List Reply) (answer : Reply) (shares : List (ℕ × List ℕ)) → GiveShares number answers shares → GivesShare answer None → GiveShares number (answers ++ answer ∷ []) shares
none_given number [] answer shares none one = inr (one, none)
none_given number (a ∷ answers) answer shares given one =
    elim given as (λ s. GiveShares number ((a ∷ answers) ++ answer ∷ []) shares) [
      | inl here ↦ inl (here.0, here.1, (here.2.0, here.2.1, none_given (suc number) answers answer here.2.0 here.2.2 one))
      | inr there ↦ inr (there.0, none_given (suc number) answers answer shares there.1 one)
    ]

-- the shares of one reply more
pub given_more : (answers : List Reply) (shares : List (ℕ × List ℕ)) (answer : Reply) (share : Option (List ℕ)) → GiveShares 0 answers shares → GivesShare answer share → GiveShares 0 (answers ++ answer ∷ []) (shares ++ numbered_share (length answers) share)
given_more answers shares answer (Some bytes) before one =
    subst (λ n. GiveShares 0 (answers ++ answer ∷ []) (shares ++ (n, bytes) ∷ [])) (zero-add (length answers)) (one_given 0 answers answer shares bytes before one)
given_more answers shares answer None before one =
    subst (λ (l : List (ℕ × List ℕ)). GiveShares 0 (answers ++ answer ∷ []) l) (sym (append-nil shares)) (none_given 0 answers answer shares before one)

-- and each of them has bytes
pub some_more : (shares : List (ℕ × List ℕ)) (number : ℕ) (share : Option (List ℕ)) → All (λ s. 0 < length s.1) shares → IfSome share (λ bytes. 0 < length bytes) → All (λ s. 0 < length s.1) (shares ++ numbered_share number share)
some_more shares number (Some bytes) all some = All-push (λ (s : ℕ × List ℕ). 0 < length s.1) shares (number, bytes) all some
some_more shares number None all some = subst (All (λ (s : ℕ × List ℕ). 0 < length s.1)) (sym (append-nil shares)) all
