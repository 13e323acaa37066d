-- Bodies in pieces, and the codes in them.
use Rattle.std.proofs.Common.{◌≡◌, ℕ, ◌+◌, ◌-◌, ◌<◌, ◌≤◌, List, ◌++◌, true, false, codes, length, get_or, take, drop, min, refl, ap, sym, ◌∙◌, arith, append_assoc, append-nil, inl, inr, length-append, length-drop, subst}
use Rattle.std.specs.Char.{is_ascii_alphabetic}
use Rattle.std.specs.List.{AllPass}
use Rattle.std.specs.Prelude.{nat_eq, Result, Ok, Err, is_ok, if◌then◌else◌, OnOk}
use Rattle.std.specs.Cmp.Lexicographic.{other_text, pointwise, same_text}
use Rattle.std.proofs.lemmas.Bool.{cases_lt}
use Rattle.std.proofs.lemmas.List.{drop_at, take_at, take_all, take_min, take-append-le, take-append-drop, length-take, get_or-take}
use Rattle.std.proofs.lemmas.List.Prefix.{front_rest}
use Rattle.std.proofs.Math.ListN.{get_or-append}
use Rattle.std.proofs.Math.Seq.{get_or-append_right, take-append-add}
use Rattle.s3_requests.specs.ErrorCodes.{BeginsWithCode, HasNoCode, HasNoCodeBefore, IsFirstCode}

-- ---- bodies in pieces

take_more : (n : ℕ) (xs ys : List ℕ) → take n (xs ++ ys) ≡ take n xs ++ take (n - length xs) ys
take_more n xs ys = elim (cases_lt n (length xs)) [
  | inl within ↦
      let none : n - length xs ≡ 0 = omega arith in
      take-append-le n xs ys (omega arith) ∙ sym (append-nil (take n xs)) ∙ ap (λ k. take n xs ++ take k ys) (sym none)
  | inr past ↦
      let all : length xs + (n - length xs) ≡ n = omega arith in
      ap (λ k. take k (xs ++ ys)) (sym all) ∙ take-append-add xs ys (n - length xs)
      ∙ ap (λ zs. zs ++ take (n - length xs) ys) (sym (take_all n xs (omega arith)))
]

-- a piece behind what was kept
pub kept_more : (came piece kept : List ℕ) → kept ≡ take 4096 came
    → kept ++ take (4096 - length kept) piece ≡ take 4096 (came ++ piece)
kept_more came piece kept e = elim (cases_lt 4096 (length came)) [
  | inl past ↦
      let full : 4096 - length kept ≡ 0 = omega (arith, ap length e, length-take 4096 came) in
      ap (λ k. kept ++ take k piece) full ∙ append-nil kept ∙ e ∙ sym (take-append-le 4096 came piece (omega arith))
  | inr within ↦
      let all : kept ≡ came = e ∙ take_all 4096 came (omega arith) in
      ap (λ xs. xs ++ take (4096 - length xs) piece) all
      ∙ ap (λ xs. xs ++ take (4096 - length came) piece) (sym (take_all 4096 came (omega arith))) ∙ sym (take_more 4096 came piece)
]

pub kept_on_ok : {X E : Type 0} (r : Result X E) (new kept piece : List ℕ) (len room : ℕ)
    → new ≡ (if is_ok r then kept ++ take len piece else kept) → len ≡ min (length piece) room → room ≡ 4096 - length kept
    → OnOk r ((came : List ℕ) → kept ≡ take 4096 came → new ≡ take 4096 (came ++ piece))
kept_on_ok (Ok x) new kept piece len room h l m = λ came e.
    let other : len ≡ min room (length piece) = omega (arith, l) in
    h ∙ ap (λ k. kept ++ take k piece) other ∙ ap (λ xs. kept ++ xs) (take_min room piece) ∙ ap (λ k. kept ++ take k piece) m ∙ kept_more came piece kept e
kept_on_ok (Err x) new kept piece len room h l m = tt

-- ---- beginnings

pub rest_after : (text p rest : List ℕ) → pointwise nat_eq (take (length p) text) p ≡ true → rest ≡ drop (length p) text → text ≡ p ++ rest
rest_after text p rest h e =
    sym (take-append-drop (length p) text) ∙ ap (λ x. x ++ drop (length p) text) (same_text (take (length p) text) p (sym h)) ∙ ap (λ x. p ++ x) (sym e)

pub begins_not : (text p : List ℕ) → pointwise nat_eq (take (length p) text) p ≡ false → (rest : List ℕ) → text ≡ p ++ rest → ⊥
begins_not text p h rest e = other_text (take (length p) text) p (sym h) (ap (take (length p)) e ∙ take_at p rest (length p) refl)

-- ---- elements

-- what stands behind the element's name
behind_name : (text rest code : List ℕ) → text ≡ codes "<Code>" ++ rest → (b : BeginsWithCode text code) → rest ≡ code ++ (codes "</Code>" ++ b.behind)
behind_name text rest code e b =
    let regrouped : codes "<Code>" ++ code ++ codes "</Code>" ++ b.behind ≡ codes "<Code>" ++ (code ++ (codes "</Code>" ++ b.behind)) = simp append_assoc in
    sym (front_rest text (codes "<Code>") rest e)
    ∙ front_rest text (codes "<Code>") (code ++ (codes "</Code>" ++ b.behind)) (b.element ∙ regrouped)

not_both : (x : ℕ) → is_ascii_alphabetic x ≡ true → is_ascii_alphabetic x ≡ false → ⊥
not_both x h k = grind arith

-- the letters end where the code does
count_is : (rest code behind : List ℕ) (count : ℕ) → rest ≡ code ++ (codes "</Code>" ++ behind) → AllPass is_ascii_alphabetic code
    → count ≤ length rest → AllPass is_ascii_alphabetic (take count rest)
    → (count < length rest → is_ascii_alphabetic (get_or rest count 0) ≡ false) → count ≡ length code
count_is rest code behind count e letters within all other = elim (cases_lt count (length code)) [
  | inl below ↦
      let long = length-append code (codes "</Code>" ++ behind) in
      let same : get_or rest count 0 ≡ get_or code count 0 = ap (λ x. get_or x count 0) e ∙ get_or-append code (codes "</Code>" ++ behind) 0 count below in
      absurd (not_both (get_or rest count 0) (ap is_ascii_alphabetic same ∙ letters count 0 below) (other (omega (arith, ap length e, long))))
  | inr past ↦ elim (cases_lt (length code) count) [
    | inl above ↦
        let at : get_or rest (length code) 0 ≡ 60 =
        ap (λ x. get_or x (length code) 0) e ∙ get_or-append_right code (codes "</Code>" ++ behind) (length code) 0 (omega arith)
        ∙ (let zeroth : length code - length code ≡ 0 = omega arith in rw zeroth refl) in
        let long : length code < length (take count rest) = omega (arith, length-take count rest) in
        absurd (not_both 60 (ap is_ascii_alphabetic (sym (get_or-take count rest (length code) 0 above ∙ at)) ∙ all (length code) 0 long) refl)
    | inr same ↦ omega arith
  ]
]

-- what is known of a text that begins with the element's name: how many letters stand behind it
pub record Counted (text rest : List ℕ) (count : ℕ) : Type 0 where
  pub name : text ≡ codes "<Code>" ++ rest
  pub within : count ≤ length rest
  pub letters : AllPass is_ascii_alphabetic (take count rest)
  pub other : count < length rest → is_ascii_alphabetic (get_or rest count 0) ≡ false

pub length_is : (text rest code : List ℕ) (count : ℕ) → Counted text rest count → BeginsWithCode text code → count ≡ length code
length_is text rest code count k b =
    count_is rest code b.behind count (behind_name text rest code k.name b) b.code_is.letters k.within k.letters k.other

-- and its end stands behind the letters
pub end_is : (text rest code : List ℕ) (count : ℕ) → Counted text rest count → (b : BeginsWithCode text code) → drop count rest ≡ codes "</Code>" ++ b.behind
end_is text rest code count k b =
    ap (λ xs. drop count xs) (behind_name text rest code k.name b)
    ∙ drop_at code (codes "</Code>" ++ b.behind) count (sym (length_is text rest code count k b))

pub begins : (text rest code back behind : List ℕ) (count : ℕ) → Counted text rest count → (count ≡ 0 → ⊥) → count ≤ 64
    → code ≡ take count rest → length code ≡ count → rest ≡ code ++ back → back ≡ codes "</Code>" ++ behind → BeginsWithCode text code
begins text rest code back behind count k some most front long both end =
    let regrouped : codes "<Code>" ++ (code ++ (codes "</Code>" ++ behind)) ≡ codes "<Code>" ++ code ++ codes "</Code>" ++ behind = simp append_assoc in
    record {
      behind = behind;
      code_is = record { least = omega arith; most = omega arith; letters = rw front k.letters };
      element = k.name ∙ ap (λ x. codes "<Code>" ++ x) (both ∙ ap (λ x. code ++ x) end) ∙ regrouped;
    }

-- ---- bodies

-- nothing begins past the end
past_end : (text code : List ℕ) (place : ℕ) → length text ≤ place → BeginsWithCode (drop place text) code → ⊥
past_end text code place past b =
    omega (arith, ap length b.element, length-drop place text, length-append (codes "<Code>" ++ code ++ codes "</Code>") b.behind, length-append (codes "<Code>" ++ code) (codes "</Code>"))

pub nowhere : (text : List ℕ) (end : ℕ) → length text ≤ end → HasNoCodeBefore text end → HasNoCode text
nowhere text end all h place code b = elim (cases_lt place end) [
  | inl within ↦ h place within code b
  | inr past ↦ past_end text code place (omega arith) b
]

-- as much as is looked through
pub room_text : (body : List ℕ) → take (min (length body) 4096) body ≡ take 4096 body
room_text body = elim (cases_lt (length body) 4096) [
  | inl within ↦
      let all : min (length body) 4096 ≡ length body = omega arith in
      rw all (take_all (length body) body (omega arith) ∙ sym (take_all 4096 body (omega arith)))
  | inr past ↦ let all : min (length body) 4096 ≡ 4096 = omega arith in rw all refl
]

looked : (body : List ℕ) (count : ℕ) → count ≡ min (length body) 4096 → take count body ≡ take 4096 body
looked body count e = ap (λ k. take k body) e ∙ room_text body

-- what is left of a text from a place on
from_place : (text : List ℕ) (place : ℕ) → take (length text - place) (drop place text) ≡ drop place text
from_place text place = take_all (length text - place) (drop place text) (omega (arith, length-drop place text))

pub not_here : (text : List ℕ) (place : ℕ) → ((code : List ℕ) → BeginsWithCode (take (length text - place) (drop place text)) code → ⊥)
    → (code : List ℕ) → BeginsWithCode (drop place text) code → ⊥
not_here text place h code b = h code (subst (λ x. BeginsWithCode x code) (sym (from_place text place)) b)

pub first_code : (body code : List ℕ) (count place : ℕ) → count ≡ min (length body) 4096 → HasNoCodeBefore (take count body) place
    → BeginsWithCode (take (length (take count body) - place) (drop place (take count body))) code → IsFirstCode (take 4096 body) code
first_code body code count place e h b =
    let here : BeginsWithCode (drop place (take count body)) code = subst (λ x. BeginsWithCode x code) (from_place (take count body) place) b in
    let found : IsFirstCode (take count body) code = record { place = place; stands = here; first = h } in
    subst (λ text. IsFirstCode text code) (looked body count e) found

pub no_code : (body : List ℕ) (count end : ℕ) → count ≡ min (length body) 4096 → length (take count body) ≤ end
    → HasNoCodeBefore (take count body) end → HasNoCode (take 4096 body)
no_code body count end e over h = subst (λ text. HasNoCode text) (looked body count e) (nowhere (take count body) end over h)
