-- The object from numbers to servers, place by place.
use Rattle.std.proofs.Common.{◌≡◌, ℕ, suc, ◌+◌, ◌%◌, ◌==◌, ◌<◌, ◌≤◌, ◌^◌, nat_le, Bool, true, false, not, ◌&&◌, cond, List, [], ◌∷◌, ◌++◌, map, drop, length, get_or, decimal, Option, Some, None, refl, sym, ap, ◌∙◌, append_assoc, append-nil, arith}
use Rattle.std.proofs.Math.Seq.{drop-cons}
use Rattle.std.specs.List.{join_with_byte, flat_map, list_all}
use Rattle.std.proofs.lemmas.Bool.{le-leb, eqb-true, ne_eqb}
use Rattle.std.proofs.lemmas.Fmt.{decimal_by_steps}
use Rattle.std.proofs.lemmas.List.Folds.{list_all-append}
use Rattle.serde_json.specs.Written.{comma_if}
use Rattle.json_view.specs.Strings.{quoted, needs_no_escape}
use Rattle.health_json.specs.Checks.{with_place, sharemap, servers_places, servers_text, sharemap_text, place_text, end_text}
use Rattle.json_view.specs.Listings.{with_commas}
use Rattle.json_view.proofs.Commas.{parted_joined}
use Rattle.json_view.proofs.Plain.{plain_text_quoted}

-- ---- a number as a key

both : (one other : Bool) → one ≡ true → other ≡ true → (one && other) ≡ true
both true other first second = second
both false other first second = first

digit_plain : (digit : ℕ) → 48 ≤ digit → digit ≤ 57 → needs_no_escape digit ≡ true
digit_plain digit low high =
    both (nat_le 32 digit && not (digit == 34)) (not (digit == 92))
    (both (nat_le 32 digit) (not (digit == 34)) (le-leb 32 digit (omega (arith, low))) (ap not (ne_eqb digit 34 (λ e. omega (arith, low, e)))))
    (ap not (ne_eqb digit 92 (λ e. omega (arith, high, e))))

one_digit : (n : ℕ) → n < 10 → list_all needs_no_escape ((48 + n) ∷ []) ≡ true
one_digit n below = both (needs_no_escape (48 + n)) true (digit_plain (48 + n) (omega arith) (omega (arith, below))) refl

more_digits : (n : ℕ) (digits : List ℕ) → 10 ≤ n → list_all needs_no_escape digits ≡ true → list_all needs_no_escape (digits ++ ((48 + n % 10) ∷ [])) ≡ true
more_digits n digits many plain =
    list_all-append needs_no_escape digits ((48 + n % 10) ∷ [])
    ∙ both (list_all needs_no_escape digits) (list_all needs_no_escape ((48 + n % 10) ∷ [])) plain (one_digit (n % 10) (omega arith))

pub number_plain : (n : ℕ) → n < 2 ^ 64 → list_all needs_no_escape (decimal n) ≡ true
number_plain n below = decimal_by_steps (λ m digits. list_all needs_no_escape digits ≡ true) one_digit more_digits n below

-- before what stands behind it
pub key_put : (n : ℕ) (more : List ℕ) → n < 2 ^ 64 → 34 ∷ (decimal n ++ 34 ∷ more) ≡ quoted (decimal n) ++ more
key_put n more below =
    ap (λ t. 34 ∷ t) (sym (append_assoc (decimal n) (34 ∷ []) more))
    ∙ ap (λ t. t ++ more) (sym (plain_text_quoted (decimal n) (number_plain n below)))

-- the first server of a number, behind an end
pub first_put : (end key digits : List ℕ) (server number : ℕ) (old new : List ℕ) → number < 2 ^ 64 → key ≡ decimal number → digits ≡ decimal server
    → new ≡ old ++ (end ++ 34 ∷ (key ++ 34 ∷ 58 ∷ 91 ∷ (digits ++ []))) → new ≡ old ++ (end ++ place_text None server number)
first_put end key digits server number old new below is spelled put =
    put
    ∙ ap (λ t. old ++ (end ++ 34 ∷ (key ++ 34 ∷ 58 ∷ 91 ∷ t))) (append-nil digits)
    ∙ (λ i. old ++ (end ++ 34 ∷ (is i ++ 34 ∷ 58 ∷ 91 ∷ spelled i)))
    ∙ ap (λ t. old ++ (end ++ t)) (key_put number (58 ∷ 91 ∷ decimal server) below)

-- ---- what a sharemap has

told_with : (place : ℕ × ℕ) (groups : List (ℕ × List ℕ)) → flat_map servers_places (with_place place groups) ≡ place ∷ flat_map servers_places groups
told_with place [] = refl
told_with place (group ∷ more) = by_case (place.1 == group.0) refl
  where
    by_case : (same : Bool) → (place.1 == group.0) ≡ same
        → flat_map servers_places (cond same ((place.1, place.0 ∷ group.1) ∷ more) ((place.1, place.0 ∷ []) ∷ group ∷ more)) ≡ place ∷ flat_map servers_places (group ∷ more)
    by_case true is = ap (λ (number : ℕ). place ∷ (map (λ (server : ℕ). (server, number)) group.1 ++ flat_map servers_places more)) (eqb-true place.1 group.0 is)
    by_case false is = refl

pub places_back : (places : List (ℕ × ℕ)) → flat_map servers_places (sharemap places) ≡ places
places_back [] = refl
places_back (place ∷ more) = told_with place (sharemap more) ∙ ap (λ ps. place ∷ ps) (places_back more)

-- ---- what is left to be put

-- of places, after one of this number
abbrev pub left_text : Option ℕ → List (ℕ × ℕ) → List ℕ
left_text before [] = end_text before
left_text before (place ∷ more) = place_text before place.0 place.1 ++ left_text (Some place.1) more

-- numbers with their servers, to the end of the object
abbrev all_text : Bool → List (ℕ × List ℕ) → List ℕ
all_text later [] = 125 ∷ []
all_text later (group ∷ more) =
    comma_if later ++ (quoted (decimal group.0) ++ 58 ∷ 91 ∷ with_commas false (map decimal group.1) (93 ∷ all_text true more))

-- the same in the list of a number, which the first of them may be
abbrev in_list : ℕ → List (ℕ × List ℕ) → List ℕ
in_list number [] = 93 ∷ 125 ∷ []
in_list number (group ∷ more) = cond (number == group.0) (with_commas true (map decimal group.1) (93 ∷ all_text true more)) (93 ∷ all_text true (group ∷ more))

module _ (server number : ℕ) (servers : List ℕ) (more : List (ℕ × List ℕ)) where
  abbrev after : List ℕ
  after = with_commas true (map decimal servers) (93 ∷ all_text true more)

  put_first : place_text None server number ++ after ≡ all_text false ((number, server ∷ servers) ∷ more)
  put_first = append_assoc (quoted (decimal number)) (58 ∷ 91 ∷ decimal server) after

  put_later : (before : ℕ) → place_text (Some before) server number ++ after ≡ in_list before ((number, server ∷ servers) ∷ more)
  put_later before = by_case (before == number)
    where
      by_case : (same : Bool) → cond same (44 ∷ decimal server) (93 ∷ 44 ∷ (quoted (decimal number) ++ 58 ∷ 91 ∷ decimal server)) ++ after
          ≡ cond same (44 ∷ (decimal server ++ after)) (93 ∷ 44 ∷ (quoted (decimal number) ++ 58 ∷ 91 ∷ (decimal server ++ after)))
      by_case true = refl
      by_case false = ap (λ t. 93 ∷ 44 ∷ t) put_first

with_first : (place : ℕ × ℕ) (groups : List (ℕ × List ℕ)) → place_text None place.0 place.1 ++ in_list place.1 groups ≡ all_text false (with_place place groups)
with_first place [] = put_first place.0 place.1 [] []
with_first place (group ∷ more) = by_case (place.1 == group.0)
  where
    by_case : (same : Bool) → place_text None place.0 place.1 ++ cond same (with_commas true (map decimal group.1) (93 ∷ all_text true more)) (93 ∷ all_text true (group ∷ more))
        ≡ all_text false (cond same ((place.1, place.0 ∷ group.1) ∷ more) ((place.1, place.0 ∷ []) ∷ group ∷ more))
    by_case true = put_first place.0 place.1 group.1 more
    by_case false = put_first place.0 place.1 [] (group ∷ more)

with_later : (before : ℕ) (place : ℕ × ℕ) (groups : List (ℕ × List ℕ)) → place_text (Some before) place.0 place.1 ++ in_list place.1 groups ≡ in_list before (with_place place groups)
with_later before place [] = put_later place.0 place.1 [] [] before
with_later before place (group ∷ more) = by_case (place.1 == group.0)
  where
    by_case : (same : Bool) → place_text (Some before) place.0 place.1 ++ cond same (with_commas true (map decimal group.1) (93 ∷ all_text true more)) (93 ∷ all_text true (group ∷ more))
        ≡ in_list before (cond same ((place.1, place.0 ∷ group.1) ∷ more) ((place.1, place.0 ∷ []) ∷ group ∷ more))
    by_case true = put_later place.0 place.1 group.1 more before
    by_case false = put_later place.0 place.1 [] (group ∷ more) before

left_later : (before : ℕ) (places : List (ℕ × ℕ)) → left_text (Some before) places ≡ in_list before (sharemap places)
left_later before [] = refl
left_later before (place ∷ more) = ap (λ t. place_text (Some before) place.0 place.1 ++ t) (left_later place.1 more) ∙ with_later before place (sharemap more)

left_all : (places : List (ℕ × ℕ)) → left_text None places ≡ all_text false (sharemap places)
left_all [] = refl
left_all (place ∷ more) = ap (λ t. place_text None place.0 place.1 ++ t) (left_later place.1 more) ∙ with_first place (sharemap more)

-- ---- the whole object

group_closed : (key servers more : List ℕ) → (key ++ 58 ∷ 91 ∷ (servers ++ 93 ∷ [])) ++ more ≡ key ++ 58 ∷ 91 ∷ (servers ++ 93 ∷ more)
group_closed key servers more = simp append_assoc

pub group_put : (group : ℕ × List ℕ) (more : List ℕ) → servers_text group ++ more ≡ quoted (decimal group.0) ++ 58 ∷ 91 ∷ with_commas false (map decimal group.1) (93 ∷ more)
unfolding servers_text
group_put group more =
    group_closed (quoted (decimal group.0)) (join_with_byte 44 (map decimal group.1)) more
    ∙ ap (λ t. quoted (decimal group.0) ++ 58 ∷ 91 ∷ t) (sym (parted_joined (map decimal group.1) (93 ∷ more)))

all_parted : (later : Bool) (groups : List (ℕ × List ℕ)) → all_text later groups ≡ with_commas later (map servers_text groups) (125 ∷ [])
all_parted later [] = refl
all_parted later (group ∷ more) =
    ap (λ t. comma_if later ++ t) (sym (group_put group (all_text true more)) ∙ ap (λ t. servers_text group ++ t) (all_parted true more))

pub map_put : (places : List (ℕ × ℕ)) → 123 ∷ left_text None places ≡ sharemap_text places
unfolding sharemap_text
map_put places =
    ap (λ t. 123 ∷ t) (left_all places ∙ all_parted false (sharemap places) ∙ parted_joined (map servers_text (sharemap places)) (125 ∷ []))

-- one more place was put
pub one_put : (before : Option ℕ) (places : List (ℕ × ℕ)) (at : ℕ) (d place : ℕ × ℕ) (out new whole : List ℕ) → at < length places → place ≡ get_or places at d
    → out ++ left_text before (drop at places) ≡ whole → new ≡ out ++ place_text before place.0 place.1 → new ++ left_text (Some place.1) (drop (at + 1) places) ≡ whole
one_put before places at d place out new whole within is was put =
    let later : suc at ≡ at + 1 = omega arith in
    let next : drop at places ≡ place ∷ drop (at + 1) places = drop-cons places at d within ∙ (λ i. sym is i ∷ drop (later i) places) in
    ap (λ t. t ++ left_text (Some place.1) (drop (at + 1) places)) put
    ∙ append_assoc out (place_text before place.0 place.1) (left_text (Some place.1) (drop (at + 1) places))
    ∙ ap (λ ps. out ++ left_text before ps) (sym next)
    ∙ was
