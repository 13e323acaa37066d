-- What spells a value is read, whatever follows, and nothing else is; and what is put together of such readers is one.
use Rattle.std.proofs.Common.{◌≡◌, ◌<◌, ◌≤◌, ◌-◌, ℕ, zero, suc, Bool, true, false, cond, ltb, List, [], ◌∷◌, ◌++◌, length, take, drop, Result, Ok, Err, refl, sym, ap, subst, ◌∙◌, append_assoc, inl, inr, arith}
use Rattle.std.proofs.lemmas.Bool.{ltb-true, ltb-false, le-ltb}
use Rattle.std.proofs.lemmas.List.{append-nil, take_at, drop_at, take-append-drop, length-append, length-take}
use Rattle.resp.specs.declared.fault.Wrong.{Wrong}
use Rattle.resp.specs.Spelled.{IsBegun, SpellsAll}
use Rattle.resp.specs.Reading.{More, At, Read, ◌>>=◌, at_place, byte_at, content_at, all_at}
use Rattle.resp.proofs.Steps.{given, bind_ok, bind_err, value_is, rest_is, judged_ok, judged_more, judged_wrong}

-- a value is spelled in front
pub record Front {A : Type 0} (S : A → List ℕ → Type 0) (bytes : List ℕ) (a : A) (rest : List ℕ) : Type 0 where
  pub front : List ℕ
  pub spelled : S a front
  pub parts : bytes ≡ front ++ rest

-- reading stops at a byte: what stands before it is a beginning, and what stands after it doesn't matter
pub record StopsAt {A : Type 0} (read : List ℕ → Read A) (bytes : List ℕ) (w : Wrong) (left : ℕ) : Type 0 where
  pub front : List ℕ
  pub byte : ℕ
  pub rest : List ℕ
  pub parts : bytes ≡ front ++ byte ∷ rest
  pub left_is : left ≡ suc (length rest)
  pub begun : read front ≡ Err More
  pub stays : (other : List ℕ) → read (front ++ byte ∷ other) ≡ Err (At w (suc (length other)))

pub record Reads {A : Type 0} (S : A → List ℕ → Type 0) (read : List ℕ → Read A) : Type 0 where
  pub some : (a : A) × (bytes : List ℕ) × S a bytes
  pub found : (bytes : List ℕ) (a : A) (rest : List ℕ) → read bytes ≡ Ok (a, rest) → Front S bytes a rest
  pub again : (a : A) (front rest : List ℕ) → S a front → read (front ++ rest) ≡ Ok (a, rest)
  pub more : (bytes : List ℕ) → read bytes ≡ Err More → IsBegun S bytes
  pub wrong : (bytes : List ℕ) (w : Wrong) (left : ℕ) → read bytes ≡ Err (At w left) → StopsAt read bytes w left

-- the same by another name
pub reads-same : {A : Type 0} (S S' : A → List ℕ → Type 0) (read : List ℕ → Read A)
    → ((a : A) (bytes : List ℕ) → S a bytes → S' a bytes) → ((a : A) (bytes : List ℕ) → S' a bytes → S a bytes)
    → Reads S read → Reads S' read
reads-same S S' read to from r = record {
  some = (r.some.0, r.some.1, to r.some.0 r.some.1 r.some.2);
  found = λ bytes a rest e. let f = r.found bytes a rest e in record { front = f.front; spelled = to a f.front f.spelled; parts = f.parts };
  again = λ a front rest s. r.again a front rest (from a front s);
  more = λ bytes e. let b = r.more bytes e in record { value = b.value; next = b.next; rest = b.rest; spelled = to b.value (bytes ++ b.next ∷ b.rest) b.spelled };
  wrong = r.wrong;
}

-- nothing is read
abbrev pub IsNothing : {A : Type 0} → A → A → List ℕ → Type 0
IsNothing a b bytes = (b ≡ a) × (bytes ≡ [])

pub reads-nothing : {A : Type 0} (a : A) → Reads (IsNothing a) (given a)
reads-nothing a = record {
  some = (a, [], (refl, refl));
  found = λ bytes b rest e. record { front = []; spelled = (sym (value_is a b bytes rest e), refl); parts = rest_is a b bytes rest e };
  again = λ b front rest s. ap (λ v. given v (front ++ rest)) (sym s.0) ∙ ap (λ t. given b (t ++ rest)) s.1;
  more = λ bytes e. absurd cc;
  wrong = λ bytes w left e. absurd cc;
}

-- one thing after the other
pub record Then {A B : Type 0} (S : A → List ℕ → Type 0) (T : A → B → List ℕ → Type 0) (b : B) (bytes : List ℕ) : Type 0 where
  pub value : A
  pub front : List ℕ
  pub back : List ℕ
  pub first : S value front
  pub second : T value b back
  pub parts : bytes ≡ front ++ back

abbrev pub after : {A B : Type 0} → (A → List ℕ → Read B) → A × List ℕ → Read B
after q x = q x.0 x.1

pub reads-then : {A B : Type 0} (S : A → List ℕ → Type 0) (T : A → B → List ℕ → Type 0) (r : List ℕ → Read A) (q : A → List ℕ → Read B)
    → Reads S r → ((a : A) → Reads (T a) (q a)) → Reads (Then S T) (λ bytes. r bytes >>= after q)
reads-then S T r q R Q = record {
  some = let s = R.some in let t = (Q s.0).some in
      (t.0, s.1 ++ t.1, record { value = s.0; front = s.1; back = t.1; first = s.2; second = t.2; parts = refl });
  found = λ bytes b rest e.
      let p = bind_ok (r bytes) (after q) (b, rest) e in
      let one = R.found bytes p.0.0 p.0.1 p.1 in
      let two = (Q p.0.0).found p.0.1 b rest p.2 in
      record {
        front = one.front ++ two.front;
        spelled = record { value = p.0.0; front = one.front; back = two.front; first = one.spelled; second = two.spelled; parts = refl };
        parts = one.parts ∙ ap (λ (t : List ℕ). one.front ++ t) two.parts ∙ sym (append_assoc one.front two.front rest);
      };
  again = λ b front rest s.
      let whole : front ++ rest ≡ s.front ++ (s.back ++ rest) = ap (λ (t : List ℕ). t ++ rest) s.parts ∙ append_assoc s.front s.back rest in
      ap (λ bytes. r bytes >>= after q) whole ∙ ap (λ m. m >>= after q) (R.again s.value s.front (s.back ++ rest) s.first) ∙ (Q s.value).again b s.back rest s.second;
  more = λ bytes e. elim (bind_err (r bytes) (after q) More e) [
    | inl h ↦
        let b = R.more bytes h in
        let t = (Q b.value).some in
        record {
          value = t.0;
          next = b.next;
          rest = b.rest ++ t.1;
          spelled = record { value = b.value; front = bytes ++ b.next ∷ b.rest; back = t.1; first = b.spelled; second = t.2; parts = sym (append_assoc bytes (b.next ∷ b.rest) t.1) };
        }
    | inr h ↦
        let one = R.found bytes h.0.0 h.0.1 h.1 in
        let b = (Q h.0.0).more h.0.1 h.2 in
        record {
          value = b.value;
          next = b.next;
          rest = b.rest;
          spelled = record {
            value = h.0.0;
            front = one.front;
            back = h.0.1 ++ b.next ∷ b.rest;
            first = one.spelled;
            second = b.spelled;
            parts = ap (λ (t : List ℕ). t ++ b.next ∷ b.rest) one.parts ∙ append_assoc one.front h.0.1 (b.next ∷ b.rest);
          };
        }
  ];
  wrong = λ bytes w left e. elim (bind_err (r bytes) (after q) (At w left) e) [
    | inl h ↦
        let s = R.wrong bytes w left h in
        record {
          front = s.front;
          byte = s.byte;
          rest = s.rest;
          parts = s.parts;
          left_is = s.left_is;
          begun = ap (λ m. m >>= after q) s.begun;
          stays = λ other. ap (λ m. m >>= after q) (s.stays other);
        }
    | inr h ↦
        let one = R.found bytes h.0.0 h.0.1 h.1 in
        let s = (Q h.0.0).wrong h.0.1 w left h.2 in
        record {
          front = one.front ++ s.front;
          byte = s.byte;
          rest = s.rest;
          parts = one.parts ∙ ap (λ (t : List ℕ). one.front ++ t) s.parts ∙ sym (append_assoc one.front s.front (s.byte ∷ s.rest));
          left_is = s.left_is;
          begun = ap (λ m. m >>= after q) (R.again h.0.0 one.front s.front one.spelled) ∙ s.begun;
          stays = λ other. ap (λ bytes. r bytes >>= after q) (append_assoc one.front s.front (s.byte ∷ other))
              ∙ ap (λ m. m >>= after q) (R.again h.0.0 one.front (s.front ++ s.byte ∷ other) one.spelled) ∙ s.stays other;
        }
  ];
}

-- a function of a value
abbrev pub IsMapped : {A B : Type 0} → (A → B) → (A → List ℕ → Type 0) → B → List ℕ → Type 0
IsMapped {A} f S b bytes = (a : A) × S a bytes × (b ≡ f a)

mapped-to : {A B : Type 0} (f : A → B) (S : A → List ℕ → Type 0) (b : B) (bytes : List ℕ) → Then S (λ a. IsNothing (f a)) b bytes → IsMapped f S b bytes
mapped-to f S b bytes s =
    let same : s.front ≡ bytes = sym (append-nil s.front) ∙ ap (λ (t : List ℕ). s.front ++ t) (sym s.second.1) ∙ sym s.parts in
    (s.value, subst (λ t. S s.value t) same s.first, s.second.0)

mapped-from : {A B : Type 0} (f : A → B) (S : A → List ℕ → Type 0) (b : B) (bytes : List ℕ) → IsMapped f S b bytes → Then S (λ a. IsNothing (f a)) b bytes
mapped-from f S b bytes s = record { value = s.0; front = bytes; back = []; first = s.1; second = (s.2, refl); parts = sym (append-nil bytes) }

pub reads-map : {A B : Type 0} (f : A → B) (S : A → List ℕ → Type 0) (r : List ℕ → Read A) → Reads S r → Reads (IsMapped f S) (λ bytes. r bytes >>= after (λ a. given (f a)))
reads-map f S r R = reads-same (Then S (λ a. IsNothing (f a))) (IsMapped f S) (λ bytes. r bytes >>= after (λ a. given (f a))) (mapped-to f S) (mapped-from f S)
    (reads-then S (λ a. IsNothing (f a)) r (λ a. given (f a)) R (λ a. reads-nothing (f a)))

-- one byte
abbrev pub IsByte : {A : Type 0} → (ℕ → Result A Wrong) → A → List ℕ → Type 0
IsByte judge a bytes = (c : ℕ) × (judge c ≡ Ok a) × (bytes ≡ c ∷ [])

byte-found : {A : Type 0} (judge : ℕ → Result A Wrong) (bytes : List ℕ) (a : A) (rest : List ℕ) → byte_at judge bytes ≡ Ok (a, rest) → Front (IsByte judge) bytes a rest
byte-found judge [] a rest e = absurd cc
byte-found judge (c ∷ bs) a rest e =
    let p = judged_ok (judge c) (c ∷ bs) bs a rest e in
    record { front = c ∷ []; spelled = (c, p.0, refl); parts = ap (λ (t : List ℕ). c ∷ t) p.1 }

byte-more : {A : Type 0} (judge : ℕ → Result A Wrong) (c : ℕ) (a : A) → judge c ≡ Ok a → (bytes : List ℕ) → byte_at judge bytes ≡ Err More → IsBegun (IsByte judge) bytes
byte-more judge c a good [] e = record { value = a; next = c; rest = []; spelled = (c, good, refl) }
byte-more judge c a good (b ∷ bs) e = absurd (judged_more (judge b) (b ∷ bs) bs e)

byte-wrong : {A : Type 0} (judge : ℕ → Result A Wrong) (bytes : List ℕ) (w : Wrong) (left : ℕ) → byte_at judge bytes ≡ Err (At w left) → StopsAt (byte_at judge) bytes w left
byte-wrong judge [] w left e = absurd cc
byte-wrong judge (c ∷ bs) w left e =
    let p = judged_wrong (judge c) (c ∷ bs) bs w left e in
    record { front = []; byte = c; rest = bs; parts = refl; left_is = p.1; begun = refl; stays = λ other. ap (λ j. at_place j (c ∷ other) other) p.0 }

pub reads-byte : {A : Type 0} (judge : ℕ → Result A Wrong) (c : ℕ) (a : A) → judge c ≡ Ok a → Reads (IsByte judge) (byte_at judge)
reads-byte judge c a good = record {
  some = (a, c ∷ [], (c, good, refl));
  found = byte-found judge;
  again = λ b front rest s. ap (λ (t : List ℕ). byte_at judge (t ++ rest)) s.2 ∙ ap (λ j. at_place j (s.0 ∷ rest) rest) s.1;
  more = byte-more judge c a good;
  wrong = byte-wrong judge;
}

-- so many bytes
abbrev pub IsContent : ℕ → List ℕ → List ℕ → Type 0
IsContent n content bytes = (content ≡ bytes) × (length bytes ≡ n)

zeros : ℕ → List ℕ
zeros zero = []
zeros (suc n) = 0 ∷ zeros n

length-zeros : (n : ℕ) → length (zeros n) ≡ n
unfolding zeros
length-zeros zero = refl
length-zeros (suc n) = ap suc (length-zeros n)

content_ok : (b : Bool) (x y : List ℕ × List ℕ) → ◌≡◌ {A = Read (List ℕ)} (cond b (Err More) (Ok x)) (Ok y) → (b ≡ false) × (x ≡ y)
content_ok true x y e = absurd cc
content_ok false x y e = (refl, cc)

content_more : (b : Bool) (x : List ℕ × List ℕ) → ◌≡◌ {A = Read (List ℕ)} (cond b (Err More) (Ok x)) (Err More) → b ≡ true
content_more true x e = refl
content_more false x e = absurd cc

content_wrong : (b : Bool) (x : List ℕ × List ℕ) (w : Wrong) (left : ℕ) → ◌≡◌ {A = Read (List ℕ)} (cond b (Err More) (Ok x)) (Err (At w left)) → ⊥
content_wrong true x w left e = cc
content_wrong false x w left e = cc

pub reads-content : (n : ℕ) → Reads (IsContent n) (content_at n)
unfolding content_at
reads-content n = record {
  some = (zeros n, zeros n, (refl, length-zeros n));
  found = λ bytes content rest e.
      let p = content_ok (ltb (length bytes) n) (take n bytes, drop n bytes) (content, rest) e in
      let long : n ≤ length bytes = ltb-false _ _ p.0 in
      let content-is : take n bytes ≡ content = ap (λ (x : List ℕ × List ℕ). x.0) p.1 in
      let rest-is : drop n bytes ≡ rest = ap (λ (x : List ℕ × List ℕ). x.1) p.1 in
      record {
        front = take n bytes;
        spelled = (sym content-is, omega (arith, length-take n bytes));
        parts = sym (take-append-drop n bytes) ∙ ap (λ (t : List ℕ). take n bytes ++ t) rest-is;
      };
  again = λ content front rest s.
      let enough : ltb (length (front ++ rest)) n ≡ false = le-ltb _ _ (omega (arith, length-append front rest, s.1)) in
      rw (enough, take_at front rest n s.1, drop_at front rest n s.1, s.0) refl;
  more = λ bytes e.
      let short : length bytes < n = ltb-true _ _ (content_more (ltb (length bytes) n) (take n bytes, drop n bytes) e) in
      let rest = zeros (n - length bytes - 1) in
      record {
        value = bytes ++ 0 ∷ rest;
        next = 0;
        rest = rest;
        spelled = (refl, omega (arith, length-append bytes (0 ∷ rest), length-zeros (n - length bytes - 1)));
      };
  wrong = λ bytes w left e. absurd (content_wrong (ltb (length bytes) n) (take n bytes, drop n bytes) w left e);
}

-- so many, one after the other
abbrev pub IsAll : {A : Type 0} → (A → List ℕ → Type 0) → ℕ → List A → List ℕ → Type 0
IsAll S n all bytes = SpellsAll S all bytes × (length all ≡ n)

abbrev Consed : {A : Type 0} → (A → List ℕ → Type 0) → ℕ → List A → List ℕ → Type 0
Consed S n = Then S (λ a. Then (IsAll S n) (λ others. IsNothing (a ∷ others)))

none-to : {A : Type 0} (S : A → List ℕ → Type 0) (all : List A) (bytes : List ℕ) → IsNothing [] all bytes → IsAll S 0 all bytes
none-to S [] bytes s = (s.1, refl)
none-to S (a ∷ others) bytes s = absurd (nil_cons s.0)
  where
    nil_cons : (a ∷ others) ≡ [] → ⊥
    nil_cons e = cc

none-from : {A : Type 0} (S : A → List ℕ → Type 0) (all : List A) (bytes : List ℕ) → IsAll S 0 all bytes → IsNothing [] all bytes
none-from S [] bytes s = (refl, s.0)
none-from S (a ∷ others) bytes s = absurd (omega (arith, s.1))

cons-to : {A : Type 0} (S : A → List ℕ → Type 0) (n : ℕ) (all : List A) (bytes : List ℕ) → Consed S n all bytes → IsAll S (suc n) all bytes
cons-to S n all bytes s =
    let t = s.second in
    let back-is : s.back ≡ t.front = t.parts ∙ ap (λ (x : List ℕ). t.front ++ x) t.second.1 ∙ append-nil t.front in
    subst (λ v. IsAll S (suc n) v bytes) (sym t.second.0)
    ((s.front, t.front, s.first, t.first.0, s.parts ∙ ap (λ (x : List ℕ). s.front ++ x) back-is), ap suc t.first.1)

cons-from : {A : Type 0} (S : A → List ℕ → Type 0) (n : ℕ) (all : List A) (bytes : List ℕ) → IsAll S (suc n) all bytes → Consed S n all bytes
cons-from S n [] bytes s = absurd (omega (arith, s.1))
cons-from S n (a ∷ others) bytes s = record {
  value = a;
  front = s.0.0;
  back = s.0.1;
  first = s.0.2;
  second = record { value = others; front = s.0.1; back = []; first = (s.0.3, omega (arith, s.1)); second = (refl, refl); parts = sym (append-nil s.0.1) };
  parts = s.0.4;
}

pub reads-all : {A : Type 0} (S : A → List ℕ → Type 0) (read : List ℕ → Read A) → Reads S read → (n : ℕ) → Reads (IsAll S n) (all_at read n)
unfolding all_at
reads-all S read R zero = reads-same (IsNothing []) (IsAll S 0) (given []) (none-to S) (none-from S) (reads-nothing [])
reads-all S read R (suc n) =
    reads-same (Consed S n) (IsAll S (suc n)) (all_at read (suc n)) (cons-to S n) (cons-from S n)
    (reads-then S (λ a. Then (IsAll S n) (λ others. IsNothing (a ∷ others))) read (λ a bytes. all_at read n bytes >>= after (λ others. given (a ∷ others))) R
    (λ a. reads-then (IsAll S n) (λ others. IsNothing (a ∷ others)) (all_at read n) (λ others. given (a ∷ others)) (reads-all S read R n) (λ others. reads-nothing (a ∷ others))))
