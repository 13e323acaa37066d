-- The shares of one store after another.
use Rattle.std.proofs.Common.{◌≡◌, ◌⊎◌, inl, inr, ℕ, zero, suc, ◌<◌, ◌≤◌, ◌+◌, true, List, [], ◌∷◌, ◌++◌, length, take, Option, Some, None, is_some, slice_get, refl, sym, ap, ◌∙◌, arith}
use Rattle.std.proofs.lemmas.List.{take_all}
use Rattle.std.proofs.lemmas.Option.{none-some}
use Rattle.std.specs.FinMap.{get, entries, get-entries}
use Rattle.std.specs.Option.{option_or}
use Rattle.share_store.specs.Shares.{Shares, ShareKey}
use Rattle.grid.specs.Standing.{Standing, standing}
use Rattle.grid.specs.Placement.{server_of}
use Rattle.share_moves.specs.Moves.{first_share_of, moved_shares, with_moved_shares, IsPartlyMoved, AreSharesInPlace, AreMovedShares}
use Rattle.share_moves.specs.Steps.{found_share, with_found, AreFoundInPlace}
use Rattle.share_moves.proofs.Pushes.{or_none, or_or, or_some, found_then, found_alike, found_none, take_one_more, past_end}

-- all entries of a store have what the store has
pub all_found : (m : Shares) (i : ℕ) (q : ShareKey) → slice_get (entries m) i ≡ None → found_share (take i (entries m)) q ≡ get m q
all_found m i q none = ap (λ l. found_share l q) (take_all i (entries m) (past_end (entries m) i none)) ∙ sym (get-entries m q)

-- one more store behind others
first_push : (maps : List Shares) (m : Shares) (q : ShareKey) → first_share_of (maps ++ m ∷ []) q ≡ option_or (first_share_of maps q) (get m q)
first_push [] m q = or_none (get m q)
first_push (x ∷ maps) m q = ap (option_or (get x q)) (first_push maps m q) ∙ sym (or_or (get x q) (first_share_of maps q) (get m q))

-- after the shares of the store at a place were put too
pub moved_more : (count : ℕ) (maps : List Shares) (i : ℕ) (m : Shares) (before mid new : Standing) → slice_get maps i ≡ Some m → mid ≡ with_moved_shares count (take i maps) before → new ≡ with_found count (get m) mid
    → new ≡ with_moved_shares count (take (i + 1) maps) before
moved_more count maps i m before mid new at so_far put =
    put ∙ ap (with_found count (get m)) so_far ∙ found_then count (first_share_of (take i maps)) (get m) before
    ∙ found_alike count (λ q. option_or (first_share_of (take i maps) q) (get m q)) (first_share_of (take (i + 1) maps)) before
    (λ q. sym (ap (λ l. first_share_of l q) (take_one_more maps i m at) ∙ first_push (take i maps) m q))

pub moved_none : (count : ℕ) (maps : List Shares) (before : Standing) → before ≡ with_moved_shares count (take 0 maps) before
moved_none count maps before = sym (found_none count before) ∙ found_alike count (λ q. None) (first_share_of (take 0 maps)) before (λ q. refl)

-- each share of the first stores stands in its place
abbrev pub AreFirstInPlace : ℕ → List Shares → ℕ → Standing → Type 0
AreFirstInPlace count maps n now = (server : ℕ) → server < n → (key : ShareKey) (s : List ℕ) → standing maps server key ≡ Some s → now (server_of count key.0 key.1) key ≡ Some s

pub first_more : (count : ℕ) (maps : List Shares) (i : ℕ) (m : Shares) (mid new : Standing) → slice_get maps i ≡ Some m → new ≡ with_found count (get m) mid → AreFirstInPlace count maps i mid → AreFoundInPlace count (get m) new
    → AreFirstInPlace count maps (i + 1) new
first_more count maps i m mid new at put before here server lt key s is = by_case (split server)
  where
    split : (n : ℕ) → (n < i) ⊎ ((n ≡ i) ⊎ (i < n))
    split n = grind arith

    has : server ≡ i → get m key ≡ Some s
    has same = sym (ap (λ o. there o) at) ∙ sym (ap (λ n. standing maps n key) same) ∙ is
      where
        there : Option Shares → Option (List ℕ)
        there None = None
        there (Some n) = get n key

    by_case : (server < i) ⊎ ((server ≡ i) ⊎ (i < server)) → new (server_of count key.0 key.1) key ≡ Some s
    by_case (inl below) = ap (λ (st : Standing). st (server_of count key.0 key.1) key) put ∙ or_some (mid (server_of count key.0 key.1) key) _ s (before server below key s is)
    by_case (inr (inl same)) = here key s (has same)
    by_case (inr (inr above)) = absurd (omega arith)

-- past the last store nothing stands
past_last : (maps : List Shares) (server : ℕ) (key : ShareKey) → length maps ≤ server → standing maps server key ≡ None
past_last [] server key past = refl
past_last (m ∷ maps) zero key past = absurd (omega arith)
past_last (m ∷ maps) (suc server) key past = past_last maps server key (omega arith)

pub first_all : (count : ℕ) (maps : List Shares) (n : ℕ) (now : Standing) → length maps ≤ n → AreFirstInPlace count maps n now → AreSharesInPlace count maps now
first_all count maps n now whole there server key s is = by_case (split server)
  where
    split : (m : ℕ) → (m < n) ⊎ (n ≤ m)
    split m = grind arith

    by_case : (server < n) ⊎ (n ≤ server) → now (server_of count key.0 key.1) key ≡ Some s
    by_case (inl below) = there server below key s is
    by_case (inr past) = absurd (none-some s (sym (past_last maps server key (omega arith)) ∙ is))

-- ---- the first share of a key

pub first_none_more : (maps : List Shares) (i : ℕ) (m : Shares) (key : ShareKey) → slice_get maps i ≡ Some m → first_share_of (take i maps) key ≡ None → get m key ≡ None → first_share_of (take (i + 1) maps) key ≡ None
first_none_more maps i m key at before here = ap (λ l. first_share_of l key) (take_one_more maps i m at) ∙ first_push (take i maps) m key ∙ ap (λ o. option_or o (get m key)) before ∙ here

both_none : {A : Type 0} (a b : Option A) → option_or a b ≡ None → (a ≡ None) × (b ≡ None)
both_none None b e = (refl, e)
both_none (Some x) b e = cc

pub first_is : (maps : List Shares) (i : ℕ) (m : Shares) (key : ShareKey) (o : Option (List ℕ)) → slice_get maps i ≡ Some m → first_share_of (take i maps) key ≡ None → is_some o ≡ true → o ≡ get m key → o ≡ first_share_of maps key
first_is [] i m key o at before some is = cc
first_is (x ∷ maps) zero m key None at before some is = cc
first_is (x ∷ maps) zero m key (Some s) at before some is =
    let same : x ≡ m = cc in
    sym (or_some (get x key) (first_share_of maps key) s (ap (λ n. get n key) same ∙ sym is))
first_is (x ∷ maps) (suc i) m key o at before some is =
    let none = both_none (get x key) (first_share_of (take i maps) key) before in
    first_is maps i m key o at none.1 some is ∙ ap (λ p. option_or p (first_share_of maps key)) (sym none.0)

-- ---- all servers

-- each share at the first servers is a moved one
abbrev pub AreFirstMoved : ℕ → List Shares → ℕ → Standing → Type 0
AreFirstMoved count maps n now = (server : ℕ) → server < n → (key : ShareKey) (s : List ℕ) → now server key ≡ Some s → moved_shares count maps server key ≡ Some s

pub first_moved_more : (count : ℕ) (maps into : List Shares) (i : ℕ) (m : Shares) → slice_get into i ≡ Some m → AreFirstMoved count maps i (standing into) → ((key : ShareKey) (s : List ℕ) → get m key ≡ Some s → moved_shares count maps i key ≡ Some s)
    → AreFirstMoved count maps (i + 1) (standing into)
first_moved_more count maps into i m at before here server lt key s is = by_case (split server)
  where
    split : (n : ℕ) → (n < i) ⊎ ((n ≡ i) ⊎ (i < n))
    split n = grind arith

    has : server ≡ i → get m key ≡ Some s
    has same = sym (ap (λ o. there o) at) ∙ sym (ap (λ n. standing into n key) same) ∙ is
      where
        there : Option Shares → Option (List ℕ)
        there None = None
        there (Some n) = get n key

    by_case : (server < i) ⊎ ((server ≡ i) ⊎ (i < server)) → moved_shares count maps server key ≡ Some s
    by_case (inl below) = before server below key s is
    by_case (inr (inl same)) = ap (λ n. moved_shares count maps n key) same ∙ here key s (has same)
    by_case (inr (inr above)) = absurd (omega arith)

pub all_moved : (count : ℕ) (maps into : List Shares) (n : ℕ) → length into ≤ n → AreFirstMoved count maps n (standing into) → AreMovedShares count maps (standing into)
all_moved count maps into n whole there server key s is = by_case (split server)
  where
    split : (m : ℕ) → (m < n) ⊎ (n ≤ m)
    split m = grind arith

    by_case : (server < n) ⊎ (n ≤ server) → moved_shares count maps server key ≡ Some s
    by_case (inl below) = there server below key s is
    by_case (inr past) = absurd (none-some s (sym (past_last into server key (omega arith)) ∙ is))

-- ---- laws

pub fresh : (count : ℕ) (maps : List Shares) → with_moved_shares count maps (λ _ _. None) ≡ moved_shares count maps
fresh count maps = refl

pub with_some : (count : ℕ) (maps : List Shares) (before : Standing) → AreMovedShares count maps before → with_moved_shares count maps before ≡ moved_shares count maps
with_some count maps before are =
    let point : (s : ℕ) (q : ShareKey) → with_moved_shares count maps before s q ≡ moved_shares count maps s q = λ s q. by_case s q (before s q) refl in
    λ j s q. point s q j
  where
    by_case : (s : ℕ) (q : ShareKey) (o : Option (List ℕ)) → before s q ≡ o → option_or o (moved_shares count maps s q) ≡ moved_shares count maps s q
    by_case s q None is = refl
    by_case s q (Some b) is = sym (are s q b is)

pub cut_off : (count : ℕ) (maps : List Shares) (before now : Standing) → IsPartlyMoved count maps before now → with_moved_shares count maps now ≡ with_moved_shares count maps before
cut_off count maps before now partly =
    let point : (s : ℕ) (q : ShareKey) → with_moved_shares count maps now s q ≡ with_moved_shares count maps before s q = λ s q. by_case s q (partly s q) in
    λ j s q. point s q j
  where
    again : (a b : Option (List ℕ)) → option_or (option_or a b) b ≡ option_or a b
    again None None = refl
    again None (Some x) = refl
    again (Some x) b = refl

    by_case : (s : ℕ) (q : ShareKey) → (now s q ≡ before s q) ⊎ (now s q ≡ with_moved_shares count maps before s q) → with_moved_shares count maps now s q ≡ with_moved_shares count maps before s q
    by_case s q (inl same) = ap (λ o. option_or o (moved_shares count maps s q)) same
    by_case s q (inr done) = ap (λ o. option_or o (moved_shares count maps s q)) done ∙ again (before s q) (moved_shares count maps s q)

pub partly : (count : ℕ) (maps : List Shares) (now : Standing) → IsPartlyMoved count maps (λ _ _. None) now → AreMovedShares count maps now
partly count maps now is server key s there = by_case (is server key)
  where
    by_case : (now server key ≡ None) ⊎ (now server key ≡ moved_shares count maps server key) → moved_shares count maps server key ≡ Some s
    by_case (inl none) = absurd (none-some s (sym none ∙ there))
    by_case (inr done) = sym done ∙ there

-- where a key stands at no server, none has its share
none_first : (maps : List Shares) (key : ShareKey) → ((other : ℕ) → standing maps other key ≡ None) → first_share_of maps key ≡ None
none_first [] key none = refl
none_first (m ∷ maps) key none = ap (λ o. option_or o (first_share_of maps key)) (none 0) ∙ none_first maps key (λ other. none (suc other))

-- where a key stands at one server at most, its first share is the one that stands there
pub one_first : (maps : List Shares) (server : ℕ) (key : ShareKey) → ((other : ℕ) → (other ≡ server → ⊥) → standing maps other key ≡ None) → first_share_of maps key ≡ standing maps server key
one_first [] server key none = refl
one_first (m ∷ maps) zero key none = ap (option_or (get m key)) (none_first maps key (λ other. none (suc other) (λ same. omega arith))) ∙ or_none (get m key)
one_first (m ∷ maps) (suc server) key none = ap (λ o. option_or o (first_share_of maps key)) (none 0 (λ same. omega arith)) ∙ one_first maps server key (λ other no. none (suc other) (λ same. no (omega arith)))
