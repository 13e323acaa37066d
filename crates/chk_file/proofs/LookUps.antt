-- What is kept of names that are looked up, of listings and of strings that were gathered, among the entries of a cache.
use Rattle.std.proofs.Common.{◌≡◌, ℕ, zero, suc, inl, inr, List, [], ◌∷◌, ◌++◌, map, set, Contains, Option, Some, None, IfSome, refl, sym, subst}
use Rattle.std.proofs.lemmas.List.{map-set}
use Rattle.std.proofs.lemmas.List.Elements.{Contains-append_left, Contains-append_right}
use Rattle.std.specs.Prelude.{MatchOption}
use Rattle.std.specs.Option.{ForSome, option_to_list}
use Rattle.lru.proofs.Splits.{Contains-head, Contains-tail, Contains-cons, Contains-nil}
use Rattle.caps.specs.Fields.{ReadValue}
use Rattle.file_shares.specs.Bound.{Bound}
use Rattle.chk_file.specs.Cached.{CacheEntry, AreBound, IsWithin, IsWithinOr}
use Rattle.chk_file.proofs.CacheEntries.{within_or_beside, within_behind, within_or_behind, bound_within, bound_within_or}

-- what was found, or one that is looked through, among all
pub among_steps : (kept pinned steps looking : List CacheEntry) (entry : CacheEntry) → Contains steps entry → Contains (kept ++ (pinned ++ (steps ++ looking))) entry
among_steps kept pinned steps looking entry there =
    Contains-append_right kept (pinned ++ (steps ++ looking)) entry (Contains-append_right pinned (steps ++ looking) entry (Contains-append_left steps looking entry there))

pub among_looking : (kept pinned steps looking : List CacheEntry) (entry : CacheEntry) → Contains looking entry → Contains (kept ++ (pinned ++ (steps ++ looking))) entry
among_looking kept pinned steps looking entry there =
    Contains-append_right kept (pinned ++ (steps ++ looking)) entry (Contains-append_right pinned (steps ++ looking) entry (Contains-append_right steps looking entry there))

-- what changes among the steps, or of what is looked through, changes the cache so
pub within_or_steps : (kept pinned old new looking : List CacheEntry) (put : CacheEntry) → IsWithinOr old new put
    → IsWithinOr (kept ++ (pinned ++ (old ++ looking))) (kept ++ (pinned ++ (new ++ looking))) put
within_or_steps kept pinned old new looking put within =
    within_or_behind kept (pinned ++ (old ++ looking)) (pinned ++ (new ++ looking)) put (within_or_behind pinned (old ++ looking) (new ++ looking) put (within_or_beside old new looking put within))

-- what changes behind the steps changes the cache so
pub within_last : (kept pinned steps old new : List CacheEntry) → IsWithin old new → IsWithin (kept ++ (pinned ++ (steps ++ old))) (kept ++ (pinned ++ (steps ++ new)))
within_last kept pinned steps old new within =
    within_behind kept (pinned ++ (steps ++ old)) (pinned ++ (steps ++ new)) (within_behind pinned (steps ++ old) (steps ++ new) (within_behind steps old new within))

pub within_or_last : (kept pinned steps old new : List CacheEntry) (put : CacheEntry) → IsWithinOr old new put → IsWithinOr (kept ++ (pinned ++ (steps ++ old))) (kept ++ (pinned ++ (steps ++ new))) put
within_or_last kept pinned steps old new put within =
    within_or_behind kept (pinned ++ (steps ++ old)) (pinned ++ (steps ++ new)) put (within_or_behind pinned (steps ++ old) (steps ++ new) put (within_or_behind steps old new put within))

only : (old : List CacheEntry) (put : CacheEntry) → IsWithinOr old (put ∷ []) put
only old put entry there = elim (Contains-cons put [] entry there) [
  | inl is ↦ inr (sym is)
  | inr later ↦ absurd (Contains-nil entry later)
]

-- what is looked through is let go of, or another one is in its place
pub none_left_within : (kept pinned steps old listed : List CacheEntry) → IsWithin (kept ++ (pinned ++ (steps ++ (old ++ listed)))) (kept ++ (pinned ++ (steps ++ listed)))
none_left_within kept pinned steps old listed = within_last kept pinned steps (old ++ listed) listed (λ entry there. Contains-append_right old listed entry there)

pub one_put_within : (kept pinned steps old listed : List CacheEntry) (put : CacheEntry) → IsWithinOr (kept ++ (pinned ++ (steps ++ (old ++ listed)))) (kept ++ (pinned ++ (steps ++ (put ∷ listed)))) put
one_put_within kept pinned steps old listed put =
    within_or_last kept pinned steps (old ++ listed) (put ∷ listed) put (within_or_beside old (put ∷ []) listed put (only old put))

-- the same of what is listed
pub none_listed_within : (kept pinned steps looking old rest : List CacheEntry) → IsWithin (kept ++ (pinned ++ (steps ++ (looking ++ (old ++ rest))))) (kept ++ (pinned ++ (steps ++ (looking ++ rest))))
none_listed_within kept pinned steps looking old rest =
    within_last kept pinned steps (looking ++ (old ++ rest)) (looking ++ rest) (within_behind looking (old ++ rest) rest (λ entry there. Contains-append_right old rest entry there))

pub one_listed_within : (kept pinned steps looking old rest : List CacheEntry) (put : CacheEntry) → IsWithinOr (kept ++ (pinned ++ (steps ++ (looking ++ (old ++ rest))))) (kept ++ (pinned ++ (steps ++ (looking ++ (put ∷ rest))))) put
one_listed_within kept pinned steps looking old rest put =
    within_or_last kept pinned steps (looking ++ (old ++ rest)) (looking ++ (put ∷ rest)) put
    (within_or_behind looking (old ++ rest) (put ∷ rest) put (within_or_beside old (put ∷ []) rest put (only old put)))

-- the same of strings that were gathered
pub among_gathered : (kept pinned steps looking listed old : List CacheEntry) (entry : CacheEntry) → Contains old entry → Contains (kept ++ (pinned ++ (steps ++ (looking ++ (listed ++ old))))) entry
among_gathered kept pinned steps looking listed old entry there =
    among_looking kept pinned steps (looking ++ (listed ++ old)) entry (Contains-append_right looking (listed ++ old) entry (Contains-append_right listed old entry there))

pub none_gathered_within : (kept pinned steps looking listed old : List CacheEntry) → IsWithin (kept ++ (pinned ++ (steps ++ (looking ++ (listed ++ old))))) (kept ++ (pinned ++ (steps ++ (looking ++ (listed ++ [])))))
none_gathered_within kept pinned steps looking listed old =
    within_last kept pinned steps (looking ++ (listed ++ old)) (looking ++ (listed ++ []))
    (within_behind looking (listed ++ old) (listed ++ []) (within_behind listed old [] (λ entry there. absurd (Contains-nil entry there))))

pub one_gathered_within : (kept pinned steps looking listed old : List CacheEntry) (put : CacheEntry)
    → IsWithinOr (kept ++ (pinned ++ (steps ++ (looking ++ (listed ++ old))))) (kept ++ (pinned ++ (steps ++ (looking ++ (listed ++ put ∷ []))))) put
one_gathered_within kept pinned steps looking listed old put =
    within_or_last kept pinned steps (looking ++ (listed ++ old)) (looking ++ (listed ++ put ∷ [])) put
    (within_or_behind looking (listed ++ old) (listed ++ put ∷ []) put (within_or_behind listed old (put ∷ []) put (only old put)))

module _ (f : ReadValue) (stamp : ℕ) where
  abbrev pub entries_of : Option (List ℕ) → List CacheEntry
  entries_of o = map (λ (bytes : List ℕ). (f, (stamp, bytes))) (option_to_list o)

  pub given_within : (kept pinned steps looking listed old : List CacheEntry) (o : Option (List ℕ))
      → let all : List CacheEntry → List CacheEntry = λ last. kept ++ (pinned ++ (steps ++ (looking ++ (listed ++ last)))) in
      MatchOption o (IsWithin (all old) (all (entries_of o))) (λ bytes. IsWithinOr (all old) (all (entries_of o)) (f, (stamp, bytes)))
  given_within kept pinned steps looking listed old None = none_gathered_within kept pinned steps looking listed old
  given_within kept pinned steps looking listed old (Some bytes) = one_gathered_within kept pinned steps looking listed old (f, (stamp, bytes))

  pub given_there : (kept pinned steps looking listed : List CacheEntry) (o : Option (List ℕ))
      → IfSome o (λ bytes. Contains (kept ++ (pinned ++ (steps ++ (looking ++ (listed ++ entries_of o))))) (f, (stamp, bytes)))
  given_there kept pinned steps looking listed None = tt
  given_there kept pinned steps looking listed (Some bytes) =
      among_gathered kept pinned steps looking listed ((f, (stamp, bytes)) ∷ []) (f, (stamp, bytes)) (Contains-head (f, (stamp, bytes)) [])

  pub bound_given : (old new : List CacheEntry) (o : Option (List ℕ)) → MatchOption o (IsWithin old new) (λ bytes. IsWithinOr old new (f, (stamp, bytes))) → ForSome o (Bound f) → AreBound old → AreBound new
  bound_given old new None within bound all = bound_within old new within all
  bound_given old new (Some bytes) within bound all = bound_within_or old new (f, (stamp, bytes)) within (bound bytes refl) all

-- of what there may be
pub some_so : {A : Type 0} (P Q : A → Type 0) (o : Option A) → ((a : A) → P a → Q a) → IfSome o P → IfSome o Q
some_so P Q None f h = tt
some_so P Q (Some a) f h = f a h

pub so_if_some : {A : Type 0} (P : A → Type 0) (o : Option A) → ((a : A) → o ≡ Some a → P a) → IfSome o P
so_if_some P None f = tt
so_if_some P (Some a) f = f a refl

-- an entry that was taken out of a cache, or stands in it, and is put back
pub put_back : (old mid new : List CacheEntry) (put : CacheEntry) → IsWithin old mid → Contains old put → IsWithinOr mid new put → IsWithin old new
put_back old mid new put within there or entry is = elim (or entry is) [
  | inl stood ↦ within entry stood
  | inr same ↦ subst (Contains old) (sym same) there
]

pub within_both : (old mid new : List CacheEntry) → IsWithin old mid → IsWithin mid new → IsWithin old new
within_both old mid new a b entry there = a entry (b entry there)

pub looking_there : (kept pinned steps : List CacheEntry) (o : Option CacheEntry) (listed : List CacheEntry) → IfSome o (Contains (kept ++ (pinned ++ (steps ++ (option_to_list o ++ listed)))))
looking_there kept pinned steps None listed = tt
looking_there kept pinned steps (Some looking) listed = among_looking kept pinned steps (looking ∷ listed) looking (Contains-head looking listed)

pub listed_there : (kept pinned steps looking : List CacheEntry) (o : Option CacheEntry) (rest : List CacheEntry) → IfSome o (Contains (kept ++ (pinned ++ (steps ++ (looking ++ (option_to_list o ++ rest))))))
listed_there kept pinned steps looking None rest = tt
listed_there kept pinned steps looking (Some listed) rest =
    among_looking kept pinned steps (looking ++ (listed ∷ rest)) listed (Contains-append_right looking (listed ∷ rest) listed (Contains-head listed rest))

-- one takes the place of another
pub set_within : (old : List CacheEntry) (at : ℕ) (put : CacheEntry) → IsWithinOr old (set old at put) put
set_within [] at put entry there = absurd (Contains-nil entry there)
set_within (first ∷ old) zero put entry there = elim (Contains-cons put old entry there) [
  | inl is ↦ inr (sym is)
  | inr later ↦ inl (Contains-tail first old entry later)
]
set_within (first ∷ old) (suc at) put entry there = elim (Contains-cons first (set old at put) entry there) [
  | inl is ↦ inl (subst (Contains (first ∷ old)) is (Contains-head first old))
  | inr later ↦ elim (set_within old at put entry later) [
    | inl stood ↦ inl (Contains-tail first old entry stood)
    | inr is ↦ inr is
  ]
]

pub set_within_mapped : {A : Type 0} (f : A → CacheEntry) (old : List A) (at : ℕ) (put : A) → IsWithinOr (map f old) (map f (set old at put)) (f put)
set_within_mapped f old at put = subst (λ (new : List CacheEntry). IsWithinOr (map f old) new (f put)) (sym (map-set f old at put)) (set_within (map f old) at (f put))
