use Rattle.std.proofs.Common.{◌<◌, ◌+◌, ◌⊎◌, ◌++◌, ◌∷◌, [], ℕ, List, All, Contains, inl, inr, below_more, arith, sym, subst, ap, ◌∙◌}
use Rattle.std.proofs.lemmas.List.Elements.{All-push, Contains-append_left, Contains-push}
use Rattle.store_care.specs.Places.{IsWithout}
use Rattle.store_care.proofs.places.missing_places.Goals as goal
use Rattle.store_care.proofs.places.missing_places.Goals.{then-not-has_place+in_ok-push, else-not-has_place}

-- what was found missing is so, and each place before one was seen or found missing
AreFound : ℕ → List ℕ → List ℕ → ℕ → Type 0
AreFound servers places missing here =
    All (λ place. (place < servers) × IsWithout places place) missing
    × ((place : ℕ) → place < here → Contains places place ⊎ Contains missing place)

-- a place that was seen
kept : (servers here : ℕ) (places missing : List ℕ) → AreFound servers places missing here → Contains places here
    → AreFound servers places missing (here + 1)
unfolding AreFound
kept servers here places missing before seen = (before.0, below_more _ _ before.1 (inl seen))

-- one that wasn't
pushed : (servers here : ℕ) (places missing : List ℕ) → AreFound servers places missing here → here < servers → IsWithout places here
    → AreFound servers places (missing ++ here ∷ []) (here + 1)
unfolding AreFound
pushed servers here places missing before below without = (
  All-push (λ place. (place < servers) × IsWithout places place) missing here before.0 (below, without),
  below_more _ _
      (λ place low. elim (before.1 place low) [
        | inl seen ↦ inl seen
        | inr found ↦ inr (Contains-append_left missing (here ∷ []) place found)
      ])
      (inr (Contains-push missing here)),
)

pub loop-place-preserved : goal.loop-place-preserved
unfolding AreFound
loop-place-preserved c = elim c.if-not-has_place.branch [
  | then-not-has_place+in_ok-push w ↦
      subst (λ (items : List ℕ). AreFound c.args.servers c.args.places.now items (c.loop-place.place + 1))
      (sym (ap (λ v. v.items) w.missing-is ∙ w.in_ok-push.ensures.items))
      (pushed c.args.servers c.loop-place.place c.args.places.now c.loop-place.missing.items c.loop-place.invariant c.loop-place-test.true
      (c.has_place.ensures.no w.if-not-has_place.true))
  | else-not-has_place w ↦
      subst (λ (items : List ℕ). AreFound c.args.servers c.args.places.now items (c.loop-place.place + 1))
      (sym (ap (λ v. v.items) w.missing-is))
      (kept c.args.servers c.loop-place.place c.args.places.now c.loop-place.missing.items c.loop-place.invariant
      (c.has_place.ensures.yes w.if-not-has_place.false))
]

pub returns-clause-all : goal.returns-clause-all
returns-clause-all c place below = c.loop-place.invariant.1 place (omega (below, c.loop-place-test.false, arith))
