-- Lists that may leave some elements out.
use Rattle.std.proofs.Common.{◌≡◌, inl, inr, List, [], ◌∷◌, ◌++◌, Bool, true, false, cond, filter, map, All, refl, sym, ap, subst, ◌∙◌}
use Rattle.std.proofs.lemmas.List.Elements.{All-cons, All-tail, All-head}
use Rattle.share_store.specs.NumberedShares.{AllBut}

pub more_may_miss : {A : Type 0} (P Q : A → Type 0) (all given : List A) → ((x : A) → P x → Q x) → AllBut P all given → AllBut Q all given
more_may_miss P Q [] given f h = h
more_may_miss P Q (x ∷ all) given f (inl (misses, rest)) = inl (f x misses, more_may_miss P Q all given f rest)
more_may_miss P Q (x ∷ all) given f (inr (rest, is, h)) = inr (rest, is, more_may_miss P Q all rest f h)

pub all_but_both : {A : Type 0} (P : A → Type 0) (xs ys gs hs : List A) → AllBut P xs gs → AllBut P ys hs → AllBut P (xs ++ ys) (gs ++ hs)
all_but_both P [] ys gs hs h k = subst (λ l. AllBut P ys (l ++ hs)) (sym h) k
all_but_both P (x ∷ xs) ys gs hs (inl (misses, rest)) k = inl (misses, all_but_both P xs ys gs hs rest k)
all_but_both P (x ∷ xs) ys gs hs (inr (rest, is, h)) k = inr (rest ++ hs, ap (λ l. l ++ hs) is, all_but_both P xs ys rest hs h k)

pub all_missing : {A : Type 0} (P : A → Type 0) (xs : List A) → ((x : A) → P x) → AllBut P xs []
all_missing P [] f = refl
all_missing P (x ∷ xs) f = inl (f x, all_missing P xs f)

pub none_missing : {A : Type 0} (P : A → Type 0) (all given : List A) → ((x : A) → P x → ⊥) → AllBut P all given → given ≡ all
none_missing P [] given never h = h
none_missing P (x ∷ all) given never (inl (misses, rest)) = absurd (never x misses)
none_missing P (x ∷ all) given never (inr (rest, is, h)) = is ∙ ap (λ l. x ∷ l) (none_missing P all rest never h)

-- what all have, the given ones have
pub given_too : {A : Type 0} (P Q : A → Type 0) (all given : List A) → All Q all → AllBut P all given → All Q given
given_too P Q [] given h is = subst (All Q) (sym is) h
given_too P Q (x ∷ all) given h (inl (misses, rest)) = given_too P Q all given (All-tail Q x all h) rest
given_too P Q (x ∷ all) given h (inr (rest, is, k)) = subst (All Q) (sym is) (All-cons Q x rest (All-head Q x all h) (given_too P Q all rest (All-tail Q x all h) k))

-- those that pass a test are all given where none of them may be missing
pub all_that_pass : {A : Type 0} (P : A → Type 0) (test : A → Bool) (all given : List A) → ((x : A) → test x ≡ true → P x → ⊥) → AllBut P all given → filter test given ≡ filter test all
all_that_pass P test [] given never h = ap (filter test) h
all_that_pass P test (x ∷ all) given never (inl (misses, rest)) = all_that_pass P test all given never rest ∙ skipped (test x) (λ passes. never x passes misses)
  where
    skipped : (b : Bool) → (b ≡ true → ⊥) → filter test all ≡ cond b (x ∷ filter test all) (filter test all)
    skipped true no_more = absurd (no_more refl)
    skipped false no_more = refl
all_that_pass P test (x ∷ all) given never (inr (rest, is, h)) =
    ap (filter test) is ∙ ap (λ l. cond (test x) (x ∷ l) l) (all_that_pass P test all rest never h)

-- what becomes of each may be missing where it may
pub all_but_map : {A B : Type 0} (P : A → Type 0) (Q : B → Type 0) (f : A → B) (all given : List A) → ((x : A) → P x → Q (f x)) → AllBut P all given → AllBut Q (map f all) (map f given)
all_but_map P Q f [] given more h = ap (map f) h
all_but_map P Q f (x ∷ all) given more (inl (misses, rest)) = inl (more x misses, all_but_map P Q f all given more rest)
all_but_map P Q f (x ∷ all) given more (inr (rest, is, h)) = inr (map f rest, ap (map f) is, all_but_map P Q f all rest more h)
