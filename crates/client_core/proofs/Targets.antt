-- Where a target is cut.
use Rattle.std.proofs.Common.{◌≡◌, ℕ, suc, ◌+◌, ◌-◌, Bool, true, false, cond, List, [], ◌∷◌, ◌++◌, length, take, drop, get_or, map, Result, Ok, refl, ap, ◌∙◌, arith}
use Rattle.std.specs.Prelude.{◌&&◌, ◌==◌, not, nat_lt, Err}
use Rattle.std.specs.List.{list_all, list_any, before_first, after_first, position_or_len}
use Rattle.std.specs.Str.{is_utf8}
use Rattle.std.proofs.lemmas.Bool.Decides.{nat_tests}
use Rattle.std.proofs.lemmas.List.Splits.{slice_split_none}
use Rattle.percent_encoding.specs.Percent.{percent_decode}
use Rattle.dir_codec.specs.Names.{nfc_text}
use Rattle.path_names.specs.Names.{has_bad_escape, path_segments, segment_texts, max_names, is_empty, first_or_empty, names_of}
use Rattle.path_names.specs.declared.fault.PathFault.{PathFault}
use Rattle.path_names.specs.declared.fault.PathFault.TheVariants.{BadEscape, NotUtf8, TooMany, EmptyName}
use Rattle.web_request.specs.Targets.{is_question}
use Rattle.client_core.proofs.CapBytes.{is_cap_byte, passes_at}

tail_of : (b : ℕ) (xs : List ℕ) → list_all is_cap_byte (b ∷ xs) ≡ true → list_all is_cap_byte xs ≡ true
tail_of b xs e = second_true (is_cap_byte b) (list_all is_cap_byte xs) e
  where
    second_true : (a b : Bool) → (a && b) ≡ true → b ≡ true
    second_true true b h = h
    second_true false b h = absurd (cc)

head_of : (b : ℕ) (xs : List ℕ) → list_all is_cap_byte (b ∷ xs) ≡ true → is_cap_byte b ≡ true
head_of b xs e = passes_at is_cap_byte (b ∷ xs) e 0 0 (omega arith)

no_question : (b : ℕ) → is_cap_byte b ≡ true → is_question b ≡ false
no_question b e = grind (arith, nat_tests)

no_slash : (b : ℕ) → is_cap_byte b ≡ true → (b == 47) ≡ false
no_slash b e = grind (arith, nat_tests)

no_percent : (b : ℕ) → is_cap_byte b ≡ true → (b == 37) ≡ false
no_percent b e = grind (arith, nat_tests)

-- none is `?`
abbrev pub is_plain : ℕ → Bool
is_plain b = not (is_question b)

plain_first : (b : ℕ) (xs : List ℕ) → list_all is_plain (b ∷ xs) ≡ true → is_question b ≡ false
plain_first b xs e = by_test (is_question b) (list_all is_plain xs) e
  where
    by_test : (t r : Bool) → (not t && r) ≡ true → t ≡ false
    by_test true r h = absurd (cc)
    by_test false r h = refl

plain_rest : (b : ℕ) (xs : List ℕ) → list_all is_plain (b ∷ xs) ≡ true → list_all is_plain xs ≡ true
plain_rest b xs e = by_test (is_plain b) (list_all is_plain xs) e
  where
    by_test : (t r : Bool) → (t && r) ≡ true → r ≡ true
    by_test true r h = h
    by_test false r h = absurd (cc)

pub caps_are_plain : (xs : List ℕ) → list_all is_cap_byte xs ≡ true → list_all is_plain xs ≡ true
caps_are_plain [] e = refl
caps_are_plain (b ∷ xs) e =
    let none = no_question b (head_of b xs e) in
    let more = caps_are_plain xs (tail_of b xs e) in
    rw (none, more) refl

take_next : (n b : ℕ) (ys : List ℕ) → take (1 + n) (b ∷ ys) ≡ b ∷ take n ys
take_next n b ys = let e : 1 + n ≡ suc n = omega arith in ap (λ m. take m (b ∷ ys)) e

drop_next : (n b : ℕ) (ys : List ℕ) → drop (1 + n + 1) (b ∷ ys) ≡ drop (n + 1) ys
drop_next n b ys = let e : 1 + n + 1 ≡ suc (n + 1) = omega arith in ap (λ m. drop m (b ∷ ys)) e

-- a front without `?`, and what may stand behind it
pub before_question : (xs rest : List ℕ) → list_all is_plain xs ≡ true → before_first is_question (xs ++ 63 ∷ rest) ≡ xs
before_question [] rest e = refl
before_question (b ∷ xs) rest e =
    let none = plain_first b xs e in
    let more = before_question xs rest (plain_rest b xs e) in
    rw none (take_next (position_or_len is_question (xs ++ 63 ∷ rest)) b (xs ++ 63 ∷ rest) ∙ ap (λ ys. b ∷ ys) more)

pub after_question : (xs rest : List ℕ) → list_all is_plain xs ≡ true → after_first is_question (xs ++ 63 ∷ rest) ≡ rest
after_question [] rest e = refl
after_question (b ∷ xs) rest e =
    let none = plain_first b xs e in
    let more = after_question xs rest (plain_rest b xs e) in
    rw none (drop_next (position_or_len is_question (xs ++ 63 ∷ rest)) b (xs ++ 63 ∷ rest) ∙ more)

pub before_none : (xs : List ℕ) → list_all is_plain xs ≡ true → before_first is_question (xs ++ []) ≡ xs
before_none [] e = refl
before_none (b ∷ xs) e =
    let none = plain_first b xs e in
    let more = before_none xs (plain_rest b xs e) in
    rw none (take_next (position_or_len is_question (xs ++ [])) b (xs ++ []) ∙ ap (λ ys. b ∷ ys) more)

pub after_none : (xs : List ℕ) → list_all is_plain xs ≡ true → after_first is_question (xs ++ []) ≡ []
after_none [] e = refl
after_none (b ∷ xs) e =
    let none = plain_first b xs e in
    let more = after_none xs (plain_rest b xs e) in
    rw none (drop_next (position_or_len is_question (xs ++ [])) b (xs ++ []) ∙ more)

no_bad_escape : (xs : List ℕ) → list_all is_cap_byte xs ≡ true → has_bad_escape xs ≡ false
unfolding has_bad_escape
no_bad_escape [] e = refl
no_bad_escape (b ∷ xs) e =
    let none = no_percent b (head_of b xs e) in
    let more = no_bad_escape xs (tail_of b xs e) in
    rw (none, more) refl

decoded : (xs : List ℕ) → list_all is_cap_byte xs ≡ true → percent_decode xs ≡ xs
unfolding percent_decode
decoded [] e = refl
decoded (b ∷ []) e = refl
decoded (b ∷ c ∷ []) e = refl
decoded (b ∷ high ∷ low ∷ rest) e =
    let none = no_percent b (head_of b (high ∷ low ∷ rest) e) in
    let more = decoded (high ∷ low ∷ rest) (tail_of b (high ∷ low ∷ rest) e) in
    rw none (ap (λ ys. b ∷ ys) more)

last_is : (xs : List ℕ) → list_all is_cap_byte xs ≡ true → (get_or xs (length xs - 1) 0 == 47) ≡ false
last_is [] e = refl
last_is (b ∷ xs) e = no_slash (get_or (b ∷ xs) (length (b ∷ xs) - 1) 0) (passes_at is_cap_byte (b ∷ xs) e (length (b ∷ xs) - 1) 0 (omega arith))

one_segment : (xs : List ℕ) → list_all is_cap_byte xs ≡ true → path_segments xs ≡ xs ∷ []
one_segment xs e =
    rw (last_is xs e) (slice_split_none (λ b. b == 47) xs (λ k d below. no_slash (get_or xs k d) (passes_at is_cap_byte xs e k d below)))

one_text : (xs : List ℕ) → list_all is_cap_byte xs ≡ true → segment_texts xs ≡ xs ∷ []
one_text xs e = ap (map percent_decode) (one_segment xs e) ∙ ap (λ ys. ys ∷ []) (decoded xs e)

-- a path that is a cap's text names no more
pub names_are : (xs : List ℕ) → list_all is_cap_byte xs ≡ true → is_utf8 xs ≡ true → names_of xs ≡ Ok (xs, [])
names_are xs e utf8 = by_parts (has_bad_escape xs) (segment_texts xs) (no_bad_escape xs e) (one_text xs e)
  where
    by_parts : (bad : Bool) (ts : List (List ℕ)) → bad ≡ false → ts ≡ xs ∷ []
        → cond {A = Result (List ℕ × List (List ℕ)) PathFault} bad (Err BadEscape) (cond (not (list_all is_utf8 ts)) (Err NotUtf8) (cond (nat_lt (1 + max_names) (length ts)) (Err TooMany)
        (cond (list_any is_empty (drop 1 ts)) (Err EmptyName) (Ok (first_or_empty ts, map nfc_text (drop 1 ts)))))) ≡ Ok (xs, [])
    by_parts bad ts fine one = rw (fine, one, utf8) refl
