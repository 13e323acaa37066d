-- What a reader says of bytes.
use Rattle.std.proofs.Common.{◌≡◌, ◌≤◌, ◌+◌, ◌-◌, ℕ, suc, List, [], ◌∷◌, ◌++◌, length, take, Ok, Err, sym, ap, subst, ◌∙◌, append_assoc, arith}
use Rattle.std.proofs.lemmas.List.{append-nil, length-append, take_at}
use Rattle.resp.specs.declared.fault.Wrong.{Wrong}
use Rattle.resp.specs.Spelled.{IsBegun}
use Rattle.resp.specs.Verdict.{IsWrongAt}
use Rattle.resp.specs.Reading.{Read, Stop, At}
use Rattle.resp.proofs.Steps.{given, value_is, rest_is}
use Rattle.resp.proofs.Readers.{Reads}

no_stop : {A : Type 0} (a : A) (rest : List ℕ) (s : Stop) → given a rest ≡ Err s → ⊥
no_stop a rest s e = cc

pub rest_within : {A : Type 0} {S : A → List ℕ → Type 0} {read : List ℕ → Read A} (R : Reads S read) (bytes : List ℕ) (a : A) (rest : List ℕ) → read bytes ≡ Ok (a, rest) → length rest ≤ length bytes
rest_within R bytes a rest e =
    let f = R.found bytes a rest e in
    omega (arith, ap length f.parts, length-append f.front rest)

pub front_length : (bytes front rest : List ℕ) → bytes ≡ front ++ rest → length front ≡ length bytes - length rest
front_length bytes front rest e = omega (arith, ap length e, length-append front rest)

pub ok_sound : {A : Type 0} {S : A → List ℕ → Type 0} {read : List ℕ → Read A} (R : Reads S read) (bytes : List ℕ) (a : A) (rest : List ℕ) → read bytes ≡ Ok (a, rest)
    → (length bytes - length rest ≤ length bytes) × S a (take (length bytes - length rest) bytes)
ok_sound {S = S} R bytes a rest e =
    let f = R.found bytes a rest e in
    let taken : f.front ≡ take (length bytes - length rest) bytes =
    sym (ap (λ (b : List ℕ). take (length bytes - length rest) b) f.parts ∙ take_at f.front rest (length bytes - length rest) (front_length bytes f.front rest f.parts)) in
    (omega arith, subst (λ b. S a b) taken f.spelled)

pub ok_whole : {A : Type 0} {S : A → List ℕ → Type 0} {read : List ℕ → Read A} (R : Reads S read) (bytes : List ℕ) (a : A) (rest : List ℕ) → read bytes ≡ Ok (a, rest)
    → (b : A) (front other : List ℕ) → S b front → bytes ≡ front ++ other → (a ≡ b) × (length bytes - length rest ≡ length front)
ok_whole {read = read} R bytes a rest e b front other s parts =
    let same : given a rest ≡ given b other = sym e ∙ ap read parts ∙ R.again b front other s in
    let rest-is = rest_is a b rest other same in
    (value_is a b rest other same, ap (λ (t : List ℕ). length bytes - length t) rest-is ∙ sym (front_length bytes front other parts))

pub ok_not_begun : {A : Type 0} {S : A → List ℕ → Type 0} {read : List ℕ → Read A} (R : Reads S read) (bytes : List ℕ) (a : A) (rest : List ℕ) → read bytes ≡ Ok (a, rest) → IsBegun S bytes → ⊥
ok_not_begun {read = read} R bytes a rest e b =
    let f = R.found bytes a rest e in
    let more = b.next ∷ b.rest in
    let one = R.again b.value (bytes ++ more) [] b.spelled in
    let two = R.again a f.front (rest ++ more) f.spelled in
    let whole : (bytes ++ more) ++ [] ≡ f.front ++ (rest ++ more) =
    append-nil (bytes ++ more) ∙ ap (λ (t : List ℕ). t ++ more) f.parts ∙ append_assoc f.front rest more in
    let same : given b.value [] ≡ given a (rest ++ more) = sym one ∙ ap read whole ∙ two in
    let nil : [] ≡ rest ++ more = rest_is b.value a [] (rest ++ more) same in
    omega (arith, ap length nil, length-append rest more)

pub err_not_whole : {A : Type 0} {S : A → List ℕ → Type 0} {read : List ℕ → Read A} (R : Reads S read) (bytes : List ℕ) (s : Stop) → read bytes ≡ Err s
    → (b : A) (front other : List ℕ) → S b front → bytes ≡ front ++ other → ⊥
err_not_whole {read = read} R bytes s e b front other spelled parts =
    no_stop b other s (sym (R.again b front other spelled) ∙ ap read (sym parts) ∙ e)

pub wrong_not_begun : {A : Type 0} {S : A → List ℕ → Type 0} {read : List ℕ → Read A} (R : Reads S read) (bytes : List ℕ) (w : Wrong) (left : ℕ) → read bytes ≡ Err (At w left) → IsBegun S bytes → ⊥
wrong_not_begun {read = read} R bytes w left e b =
    let s = R.wrong bytes w left e in
    let more = b.next ∷ b.rest in
    let whole : (bytes ++ more) ++ [] ≡ s.front ++ s.byte ∷ (s.rest ++ more) =
    append-nil (bytes ++ more) ∙ ap (λ (t : List ℕ). t ++ more) s.parts ∙ append_assoc s.front (s.byte ∷ s.rest) more in
    no_stop b.value [] (At w (suc (length (s.rest ++ more)))) (sym (R.again b.value (bytes ++ more) [] b.spelled) ∙ ap read whole ∙ s.stays (s.rest ++ more))

pub left_within : {A : Type 0} {S : A → List ℕ → Type 0} {read : List ℕ → Read A} (R : Reads S read) (bytes : List ℕ) (w : Wrong) (left : ℕ) → read bytes ≡ Err (At w left) → left ≤ length bytes
left_within R bytes w left e =
    let s = R.wrong bytes w left e in
    omega (arith, s.left_is, ap length s.parts, length-append s.front (s.byte ∷ s.rest))

pub wrong_sound : {A : Type 0} {S : A → List ℕ → Type 0} {read : List ℕ → Read A} (R : Reads S read) (bytes : List ℕ) (w : Wrong) (left : ℕ) → read bytes ≡ Err (At w left) → IsWrongAt S bytes (length bytes - left)
wrong_sound {S = S} {read = read} R bytes w left e =
    let s = R.wrong bytes w left e in
    let long : length bytes ≡ length s.front + suc (length s.rest) = ap length s.parts ∙ length-append s.front (s.byte ∷ s.rest) in
    let place : length s.front ≡ length bytes - left = omega (arith, s.left_is, long) in
    let before : s.front ≡ take (length bytes - left) bytes =
    sym (ap (λ (b : List ℕ). take (length bytes - left) b) s.parts ∙ take_at s.front (s.byte ∷ s.rest) (length bytes - left) place) in
    let with_byte : s.front ++ s.byte ∷ [] ≡ take (length bytes - left + 1) bytes =
    sym (ap (λ (b : List ℕ). take (length bytes - left + 1) b) (s.parts ∙ sym (append_assoc s.front (s.byte ∷ []) s.rest))
    ∙ take_at (s.front ++ s.byte ∷ []) s.rest (length bytes - left + 1) (omega (arith, place, length-append s.front (s.byte ∷ [])))) in
    record {
      within = omega (arith, s.left_is, long);
      begun = subst (λ b. IsBegun S b) before (R.more s.front s.begun);
      not_begun = λ b. wrong_not_begun R (s.front ++ s.byte ∷ []) w 1 (s.stays []) (subst (λ t. IsBegun S t) (sym with_byte) b);
      not_whole = λ a spelled. err_not_whole R (s.front ++ s.byte ∷ []) (At w 1) (s.stays []) a (s.front ++ s.byte ∷ []) [] (subst (λ t. S a t) (sym with_byte) spelled) (sym (append-nil (s.front ++ s.byte ∷ [])));
    }
