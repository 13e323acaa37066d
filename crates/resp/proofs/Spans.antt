-- Bytes up to the end of a line.
use Rattle.std.proofs.Common.{◌≡◌, ℕ, suc, Bool, true, false, cond, eqb, List, [], ◌∷◌, ◌++◌, length, Result, Ok, Err, refl, sym, ap, ◌∙◌, inl, inr}
use Rattle.std.proofs.lemmas.Bool.{eqb-true}
use Rattle.resp.specs.declared.fault.Wrong.{Wrong}
use Rattle.resp.specs.declared.fault.Wrong.TheVariants.{Malformed}
use Rattle.resp.specs.Command.{line_end}
use Rattle.resp.specs.Spelled.{IsBegun}
use Rattle.resp.specs.Reading.{More, At, Read, ◌>>=◌, at_place, byte_at, only, onward, span}
use Rattle.resp.proofs.Steps.{given, value_is, rest_is, bind_ok, bind_err, judged_ok, judged_more, judged_wrong}
use Rattle.resp.proofs.Readers.{Front, StopsAt, Reads}

-- from one state to another by these bytes, none of which is a CR
abbrev pub Runs : {S : Type 0} → (S → ℕ → Result S Wrong) → S → List ℕ → S → Type 0
Runs step s [] t = s ≡ t
Runs {S} step s (c ∷ cs) t = (eqb c 13 ≡ false) × (mid : S) × (step s c ≡ Ok mid) × Runs step mid cs t

abbrev pub IsSpan : {S : Type 0} → (S → ℕ → Result S Wrong) → S → S → List ℕ → Type 0
IsSpan step s t bytes = (text : List ℕ) × Runs step s text t × (bytes ≡ text ++ line_end)

-- what a byte does
pub data ByteCase {S : Type 0} (step : S → ℕ → Result S Wrong) (s : S) (c : ℕ) : Type 0 where
  ends : eqb c 13 ≡ true → ByteCase step s c
  goes : eqb c 13 ≡ false → (next : S) → step s c ≡ Ok next → ByteCase step s c
  fails : eqb c 13 ≡ false → (w : Wrong) → step s c ≡ Err w → ByteCase step s c

byte_case_of : {S : Type 0} (step : S → ℕ → Result S Wrong) (s : S) (c : ℕ) (b : Bool) (j : Result S Wrong) → eqb c 13 ≡ b → step s c ≡ j → ByteCase step s c
byte_case_of step s c true j e f = ends e
byte_case_of step s c false (Ok next) e f = goes e next f
byte_case_of step s c false (Err w) e f = fails e w f

pub byte_case : {S : Type 0} (step : S → ℕ → Result S Wrong) (s : S) (c : ℕ) → ByteCase step s c
byte_case step s c = byte_case_of step s c (eqb c 13) (step s c) refl refl

-- the state, once the line feed came
abbrev pub with_feed : {S : Type 0} → S → List ℕ → Read S
with_feed s rest = byte_at (only 10) rest >>= λ lf. Ok (s, lf.1)

pub span-ends : {S : Type 0} (step : S → ℕ → Result S Wrong) (s : S) (c : ℕ) (rest : List ℕ) → eqb c 13 ≡ true → span step s (c ∷ rest) ≡ with_feed s rest
unfolding span
span-ends step s c rest e = ap (λ b. cond b (with_feed s rest) (onward (step s c) (λ next. span step next rest) (suc (length rest)))) e

pub span-goes : {S : Type 0} (step : S → ℕ → Result S Wrong) (s : S) (c : ℕ) (next : S) (rest : List ℕ) → eqb c 13 ≡ false → step s c ≡ Ok next → span step s (c ∷ rest) ≡ span step next rest
unfolding span
span-goes step s c next rest e f =
    ap (λ b. cond b (with_feed s rest) (onward (step s c) (λ n. span step n rest) (suc (length rest)))) e
    ∙ ap (λ j. onward j (λ n. span step n rest) (suc (length rest))) f

pub span-fails : {S : Type 0} (step : S → ℕ → Result S Wrong) (s : S) (c : ℕ) (w : Wrong) (rest : List ℕ) → eqb c 13 ≡ false → step s c ≡ Err w → span step s (c ∷ rest) ≡ Err (At w (suc (length rest)))
unfolding span
span-fails step s c w rest e f =
    ap (λ b. cond b (with_feed s rest) (onward (step s c) (λ n. span step n rest) (suc (length rest)))) e
    ∙ ap (λ j. onward j (λ n. span step n rest) (suc (length rest))) f

pub span-nil : {S : Type 0} (step : S → ℕ → Result S Wrong) (s : S) → span step s [] ≡ Err More
unfolding span
span-nil step s = refl

-- a line feed, and no other byte
pub only_is : (wanted c got : ℕ) → only wanted c ≡ Ok got → c ≡ wanted
only_is wanted c got e = eqb-true c wanted (passed (eqb c wanted) e)
  where
    passed : (b : Bool) → ◌≡◌ {A = Result ℕ Wrong} (cond b (Ok c) (Err Malformed)) (Ok got) → b ≡ true
    passed true h = refl
    passed false h = absurd cc

feed-ok : {S : Type 0} (s t : S) (bytes rest : List ℕ) → with_feed s bytes ≡ Ok (t, rest) → (s ≡ t) × (bytes ≡ 10 ∷ rest)
feed-ok s t [] rest e = absurd cc
feed-ok s t (c ∷ bs) rest e =
    let p = bind_ok (byte_at (only 10) (c ∷ bs)) (λ lf. given s lf.1) (t, rest) e in
    let j = judged_ok (only 10 c) (c ∷ bs) bs p.0.0 p.0.1 p.1 in
    let c-is = only_is 10 c p.0.0 j.0 in
    let rest-is : p.0.1 ≡ rest = rest_is s t p.0.1 rest p.2 in
    (value_is s t p.0.1 rest p.2, ap (λ n. n ∷ bs) c-is ∙ ap (λ (x : List ℕ). 10 ∷ x) (j.1 ∙ rest-is))

feed-more : {S : Type 0} (s : S) (bytes : List ℕ) → with_feed s bytes ≡ Err More → bytes ≡ []
feed-more s [] e = refl
feed-more s (c ∷ bs) e =
    elim (bind_err (byte_at (only 10) (c ∷ bs)) (λ lf. given s lf.1) More e) [
      | inl h ↦ absurd (judged_more (only 10 c) (c ∷ bs) bs h)
      | inr h ↦ absurd (no h.2)
    ]
  where
    no : {S : Type 0} {s : S} {x : List ℕ} → given s x ≡ Err More → ⊥
    no h = cc

feed-wrong : {S : Type 0} (s : S) (bytes : List ℕ) (w : Wrong) (left : ℕ) → with_feed s bytes ≡ Err (At w left) → StopsAt (with_feed s) bytes w left
feed-wrong s [] w left e = absurd cc
feed-wrong s (c ∷ bs) w left e =
    elim (bind_err (byte_at (only 10) (c ∷ bs)) (λ lf. given s lf.1) (At w left) e) [
      | inl h ↦
          let p = judged_wrong (only 10 c) (c ∷ bs) bs w left h in
          record { front = []; byte = c; rest = bs; parts = refl; left_is = p.1; begun = refl; stays = λ other. ap (λ j. at_place j (c ∷ other) other >>= λ lf. given s lf.1) p.0 }
      | inr h ↦ absurd (no h.2)
    ]
  where
    no : {S : Type 0} {s : S} {x : List ℕ} → given s x ≡ Err (At w left) → ⊥
    no h = cc

span-found : {S : Type 0} (step : S → ℕ → Result S Wrong) (s : S) (bytes : List ℕ) (t : S) (rest : List ℕ) → span step s bytes ≡ Ok (t, rest) → Front (IsSpan step s) bytes t rest
span-found step s [] t rest e = absurd (no (sym (span-nil step s) ∙ e))
  where
    no : {S : Type 0} {t : S} {x : List ℕ} → ◌≡◌ {A = Read S} (Err More) (Ok (t, x)) → ⊥
    no h = cc
span-found step s (c ∷ bs) t rest e =
    elim (byte_case step s c) [
      | ends cr ↦
          let f = feed-ok s t bs rest (sym (span-ends step s c bs cr) ∙ e) in
          record { front = line_end; spelled = ([], f.0, refl); parts = ap (λ n. n ∷ bs) (eqb-true c 13 cr) ∙ ap (λ (x : List ℕ). 13 ∷ x) f.1 }
      | goes no_cr next st ↦
          let f = span-found step next bs t rest (sym (span-goes step s c next bs no_cr st) ∙ e) in
          record { front = c ∷ f.front; spelled = (c ∷ f.spelled.0, (no_cr, next, st, f.spelled.1), ap (λ (x : List ℕ). c ∷ x) f.spelled.2); parts = ap (λ (x : List ℕ). c ∷ x) f.parts }
      | fails no_cr w st ↦ absurd (bad (sym (span-fails step s c w bs no_cr st) ∙ e))
    ]
  where
    bad : {S : Type 0} {t : S} {x : List ℕ} {w : Wrong} {n : ℕ} → ◌≡◌ {A = Read S} (Err (At w n)) (Ok (t, x)) → ⊥
    bad h = cc

span-again : {S : Type 0} (step : S → ℕ → Result S Wrong) (s t : S) (text rest : List ℕ) → Runs step s text t → span step s ((text ++ line_end) ++ rest) ≡ Ok (t, rest)
unfolding span
span-again step s t [] rest r = ap (λ v. given v rest) r
span-again step s t (c ∷ cs) rest r =
    span-goes step s c r.1 ((cs ++ line_end) ++ rest) r.0 r.2 ∙ span-again step r.1 t cs rest r.3

span-more : {S : Type 0} (step : S → ℕ → Result S Wrong) (s : S) (bytes : List ℕ) → span step s bytes ≡ Err More → IsBegun (IsSpan step s) bytes
span-more step s [] e = record { value = s; next = 13; rest = 10 ∷ []; spelled = ([], refl, refl) }
span-more step s (c ∷ bs) e =
    elim (byte_case step s c) [
      | ends cr ↦
          let nil = feed-more s bs (sym (span-ends step s c bs cr) ∙ e) in
          record { value = s; next = 10; rest = []; spelled = ([], refl, ap (λ n. n ∷ (bs ++ 10 ∷ [])) (eqb-true c 13 cr) ∙ ap (λ (x : List ℕ). 13 ∷ (x ++ 10 ∷ [])) nil) }
      | goes no_cr next st ↦
          let b = span-more step next bs (sym (span-goes step s c next bs no_cr st) ∙ e) in
          record { value = b.value; next = b.next; rest = b.rest; spelled = (c ∷ b.spelled.0, (no_cr, next, st, b.spelled.1), ap (λ (x : List ℕ). c ∷ x) b.spelled.2) }
      | fails no_cr w st ↦ absurd (bad (sym (span-fails step s c w bs no_cr st) ∙ e))
    ]
  where
    bad : {S : Type 0} {w : Wrong} {n : ℕ} → ◌≡◌ {A = Read S} (Err (At w n)) (Err More) → ⊥
    bad h = cc

span-wrong : {S : Type 0} (step : S → ℕ → Result S Wrong) (s : S) (bytes : List ℕ) (w : Wrong) (left : ℕ) → span step s bytes ≡ Err (At w left) → StopsAt (span step s) bytes w left
span-wrong step s [] w left e = absurd (no (sym (span-nil step s) ∙ e))
  where
    no : {S : Type 0} {w : Wrong} {n : ℕ} → ◌≡◌ {A = Read S} (Err More) (Err (At w n)) → ⊥
    no h = cc
span-wrong step s (c ∷ bs) w left e =
    elim (byte_case step s c) [
      | ends cr ↦
          let f = feed-wrong s bs w left (sym (span-ends step s c bs cr) ∙ e) in
          record {
            front = c ∷ f.front;
            byte = f.byte;
            rest = f.rest;
            parts = ap (λ (x : List ℕ). c ∷ x) f.parts;
            left_is = f.left_is;
            begun = span-ends step s c f.front cr ∙ f.begun;
            stays = λ other. span-ends step s c (f.front ++ f.byte ∷ other) cr ∙ f.stays other;
          }
      | goes no_cr next st ↦
          let f = span-wrong step next bs w left (sym (span-goes step s c next bs no_cr st) ∙ e) in
          record {
            front = c ∷ f.front;
            byte = f.byte;
            rest = f.rest;
            parts = ap (λ (x : List ℕ). c ∷ x) f.parts;
            left_is = f.left_is;
            begun = span-goes step s c next f.front no_cr st ∙ f.begun;
            stays = λ other. span-goes step s c next (f.front ++ f.byte ∷ other) no_cr st ∙ f.stays other;
          }
      | fails no_cr v st ↦
          let same = at_is v w (suc (length bs)) left (sym (span-fails step s c v bs no_cr st) ∙ e) in
          record {
            front = [];
            byte = c;
            rest = bs;
            parts = refl;
            left_is = sym same.1;
            begun = span-nil step s;
            stays = λ other. span-fails step s c w other no_cr (st ∙ ap (λ x. failed x) same.0);
          }
    ]
  where
    failed : {S : Type 0} → Wrong → Result S Wrong
    failed w = Err w

    at_is : {S : Type 0} (v w : Wrong) (m n : ℕ) → ◌≡◌ {A = Read S} (Err (At v m)) (Err (At w n)) → (v ≡ w) × (m ≡ n)
    at_is v w m n h = (cc, cc)

pub reads-span : {S : Type 0} (step : S → ℕ → Result S Wrong) (s : S) → Reads (IsSpan step s) (span step s)
reads-span step s = record {
  some = (s, line_end, ([], refl, refl));
  found = span-found step s;
  again = λ t front rest x. ap (λ (b : List ℕ). span step s (b ++ rest)) x.2 ∙ span-again step s t x.0 rest x.1;
  more = span-more step s;
  wrong = span-wrong step s;
}
