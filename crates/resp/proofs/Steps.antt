-- A step that did not fail, and one that did.
use Rattle.std.proofs.Common.{◌≡◌, ◌⊎◌, ℕ, List, length, Result, Ok, Err, refl, ap, inl, inr}
use Rattle.resp.specs.declared.fault.Wrong.{Wrong}
use Rattle.resp.specs.Reading.{Stop, More, At, Read, ◌>>=◌, at_place}

-- a value with the bytes after it
abbrev pub given : {A : Type 0} → A → List ℕ → Read A
given a rest = Ok (a, rest)

abbrev pub stopped : {A : Type 0} → Stop → Read A
stopped stop = Err stop

pub bind_ok : {A B : Type 0} (r : Read A) (f : A × List ℕ → Read B) (y : B × List ℕ) → (r >>= f) ≡ Ok y → (x : A × List ℕ) × (r ≡ Ok x) × (f x ≡ Ok y)
bind_ok (Ok x) f y e = (x, refl, e)
bind_ok (Err s) f y e = absurd cc

pub bind_err : {A B : Type 0} (r : Read A) (f : A × List ℕ → Read B) (s : Stop) → (r >>= f) ≡ Err s → (r ≡ Err s) ⊎ ((x : A × List ℕ) × (r ≡ Ok x) × (f x ≡ Err s))
bind_err (Ok x) f s e = inr (x, refl, e)
bind_err (Err t) f s e = inl (ap stopped (err_is t s e))
  where
    err_is : {B : Type 0} (t s : Stop) → ◌≡◌ {A = Read B} (Err t) (Err s) → t ≡ s
    err_is t s e = cc

abbrev pub done : {A : Type 0} → A × List ℕ → Read A
done x = Ok x

pair_is : {A : Type 0} (x y : A × List ℕ) → done x ≡ done y → x ≡ y
pair_is x y e = cc

pub value_is : {A : Type 0} (a b : A) (rest other : List ℕ) → given a rest ≡ given b other → a ≡ b
value_is {A} a b rest other e = ap (λ (x : A × List ℕ). x.0) (pair_is (a, rest) (b, other) e)

pub rest_is : {A : Type 0} (a b : A) (rest other : List ℕ) → given a rest ≡ given b other → rest ≡ other
rest_is {A} a b rest other e = ap (λ (x : A × List ℕ). x.1) (pair_is (a, rest) (b, other) e)

abbrev passed : {A : Type 0} → A → Result A Wrong
passed a = Ok a

pub judged_ok : {A : Type 0} (j : Result A Wrong) (bytes rest : List ℕ) (a : A) (other : List ℕ) → at_place j bytes rest ≡ Ok (a, other) → (j ≡ Ok a) × (rest ≡ other)
judged_ok (Ok b) bytes rest a other e = (ap passed (value_is b a rest other e), rest_is b a rest other e)
judged_ok (Err w) bytes rest a other e = absurd cc

pub judged_more : {A : Type 0} (j : Result A Wrong) (bytes rest : List ℕ) → at_place j bytes rest ≡ Err More → ⊥
judged_more (Ok b) bytes rest e = cc
judged_more (Err w) bytes rest e = cc

pub judged_wrong : {A : Type 0} (j : Result A Wrong) (bytes rest : List ℕ) (w : Wrong) (left : ℕ) → at_place j bytes rest ≡ Err (At w left) → (j ≡ Err w) × (left ≡ length bytes)
judged_wrong (Ok b) bytes rest w left e = absurd cc
judged_wrong (Err v) bytes rest w left e = (cc, cc)
