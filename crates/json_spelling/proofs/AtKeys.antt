-- Values, each at its key, beside the members that they are of.
use Rattle.std.proofs.Common.{◌≡◌, ℕ, List, [], ◌∷◌, String, Global, string_bytes, string_cmp, Ordering, Less, Equal, Greater, nat_cmp, refl, subst, ◌∙◌}
use Rattle.std.specs.Cmp.Lexicographic.{slice_cmp}
use Rattle.std.specs.Ordering.{match_ordering}
use Rattle.std.specs.BTreeMap.{insert_entry}
use Rattle.std.specs.FinMap.{nat_cmp-IsAntisymmetric, slice_cmp-IsAntisymmetric}
use Rattle.serde_json.specs.Data.{Data, Members, no_members, member, put}
use Rattle.json_spelling.specs.Spelled.{AreAt}

at_one_of : {V : Type 0} (Is : List ℕ → Data → V → Type 0) (o : Ordering) (xs ys zs : List (String Global × V)) (ls ms ns : Members) → AreAt Is xs ls → (o ≡ Equal → AreAt Is ys ms) → AreAt Is zs ns
    → AreAt Is (match_ordering o xs ys zs) (match_ordering o ls ms ns)
at_one_of Is Less xs ys zs ls ms ns a b c = a
at_one_of Is Equal xs ys zs ls ms ns a b c = b refl
at_one_of Is Greater xs ys zs ls ms ns a b c = c

-- a value that goes in at its key is of the member that goes in there
pub at_put : {V : Type 0} (Is : List ℕ → Data → V → Type 0) (es : List (String Global × V)) (ms : Members) (k : String Global) (v : V) (d : Data) → AreAt Is es ms → Is (string_bytes k) d v
    → AreAt Is (insert_entry string_cmp es k v) (put (string_bytes k) d ms)
at_put Is [] no_members k v d are is = (refl, is, tt)
at_put Is [] (member l f ms) k v d are is = absurd are
at_put Is (e ∷ es) no_members k v d are is = absurd are
at_put Is (e ∷ es) (member l f ms) k v d are is =
    let key = string_bytes k in
    let same = λ (equal : string_cmp k e.0 ≡ Equal). slice_cmp-IsAntisymmetric nat_cmp-IsAntisymmetric key (string_bytes e.0) equal ∙ are.0 in
    subst (λ x. AreAt Is (insert_entry string_cmp (e ∷ es) k v) (match_ordering (slice_cmp nat_cmp key x) (member key d (member l f ms)) (member l d ms) (member l f (put key d ms)))) are.0
    (at_one_of Is (string_cmp k e.0) _ _ _ _ _ _ (refl, is, are) (λ equal. (are.0, subst (λ x. Is x d v) (same equal) is, are.2)) (are.0, are.1, at_put Is es ms k v d are.2 is))
