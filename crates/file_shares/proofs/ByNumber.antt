-- What is gathered, number by number, is what stands in the row.
use Rattle.std.proofs.Common.{◌≡◌, ◌≢◌, ℕ, ◌<◌, ◌≤◌, List, [], ◌∷◌, ◌++◌, length, map, get_or, Bool, true, false, cond, refl, sym, ap, ◌∙◌, arith}
use Rattle.std.proofs.Math.ListN.{set, length-set}
use Rattle.std.specs.Prelude.{◌==◌, not, filter, flat_map}
use Rattle.std.specs.List.{range_with_len, filter_map}
use Rattle.std.proofs.lemmas.Bool.{eqb-true, eq-eqb, ne_eqb}
use Rattle.std.proofs.lemmas.List.{append-nil, map-append, ext_get_or, get_or-set_same, get_or-set_other}
use Rattle.std.proofs.lemmas.List.Elements.{filter-append}
use Rattle.std.proofs.lemmas.Simd.{map-map}
use Rattle.std.proofs.lemmas.List.FromFn.{length-map-range_with_len, get_or-map-range_with_len}
use Rattle.share_codec.specs.Params.{ParamsValue}
use Rattle.share_codec.specs.GoodShare.{GoodShare}
use Rattle.file_shares.specs.Row.{ShareTable, ServerShare, places, first_good, good_at}
use Rattle.file_shares.specs.Check.{is_some_place, standing_numbers, standing_places, standing_in, bad_places, good_places}
use Rattle.file_shares.specs.Gathered.{Found, of_number, by_number, good_below, bad_below, places_below, servers_of, servers_by_number, places_at, some_below, standing_below}
use Rattle.file_shares.proofs.Tools.{true_or_false, mapped_alike, kept_alike, flat_alike, filter_alike, begun}

-- ---- one thing more, in the row of its number

module _ {A B : Type 0} (key : A → ℕ) (value : A → B) where
  abbrev pub values_of : ℕ → List A → List B
  values_of number xs = map value (filter (λ x. key x == number) xs)

  abbrev pub values_by : ℕ → List A → List (List B)
  values_by n xs = map (λ number. values_of number xs) (range_with_len 0 n)

  of_append : (number : ℕ) (xs ys : List A) → values_of number (xs ++ ys) ≡ values_of number xs ++ values_of number ys
  of_append number xs ys =
      ap (map value) (filter-append (λ x. key x == number) xs ys)
      ∙ map-append value (filter (λ x. key x == number) xs) (filter (λ x. key x == number) ys)

  of_one : (number : ℕ) (x : A) → values_of number (x ∷ []) ≡ cond (key x == number) (value x ∷ []) []
  of_one number x = by_case (key x == number)
    where
      by_case : (b : Bool) → map value (cond b (x ∷ []) []) ≡ cond b (value x ∷ []) []
      by_case true = refl
      by_case false = refl

  of_more : (number : ℕ) (xs : List A) (x : A) → values_of number (xs ++ x ∷ []) ≡ values_of number xs ++ cond (key x == number) (value x ∷ []) []
  of_more number xs x = of_append number xs (x ∷ []) ∙ ap (λ ys. values_of number xs ++ ys) (of_one number x)

  of_other : (number : ℕ) (xs : List A) (x : A) → (key x ≡ number → ⊥) → values_of number (xs ++ x ∷ []) ≡ values_of number xs
  of_other number xs x other =
      of_more number xs x ∙ ap (λ b. values_of number xs ++ cond b (value x ∷ []) []) (ne_eqb (key x) number other) ∙ append-nil (values_of number xs)

  of_same : (number : ℕ) (xs : List A) (x : A) → key x ≡ number → values_of number (xs ++ x ∷ []) ≡ values_of number xs ++ value x ∷ []
  of_same number xs x same =
      of_more number xs x ∙ ap (λ b. values_of number xs ++ cond b (value x ∷ []) []) (eq-eqb (key x) number same)

  pub value_at : (n number : ℕ) (xs : List A) → number < n → get_or (values_by n xs) number [] ≡ values_of number xs
  value_at n number xs below = get_or-map-range_with_len (λ m. values_of m xs) 0 n number number [] below (omega arith)

  pub length-values : (n : ℕ) (xs : List A) → length (values_by n xs) ≡ n
  length-values n xs = length-map-range_with_len (λ m. values_of m xs) 0 n

  -- one past the last number is in no row
  pub values_past : (n : ℕ) (xs : List A) (x : A) → n ≤ key x → values_by n (xs ++ x ∷ []) ≡ values_by n xs
  values_past n xs x past =
      mapped_alike (λ m. values_of m (xs ++ x ∷ [])) (λ m. values_of m xs) n 0 n (omega arith) (λ number below. of_other number xs x (λ e. omega arith))

  -- and any other in its number's
  pub values_more : (n : ℕ) (xs : List A) (x : A) → key x < n → set (values_by n xs) (key x) (values_of (key x) xs ++ value x ∷ []) ≡ values_by n (xs ++ x ∷ [])
  values_more n xs x below =
      let at : ℕ = key x in
      let row : List B = values_of at xs ++ value x ∷ [] in
      let long : length (set (values_by n xs) at row) ≡ n = length-set (values_by n xs) at row ∙ length-values n xs in
      ext_get_or [] (set (values_by n xs) at row) (values_by n (xs ++ x ∷ [])) (long ∙ sym (length-values n (xs ++ x ∷ [])))
      (λ number within.
      let inside : number < n = omega arith in
      let at_first : at < length (values_by n xs) = (let h = length-values n xs in omega arith) in
      true_or_false (at == number) _
      (λ yes.
      let same : at ≡ number = eqb-true at number yes in
      ap (λ m. get_or (set (values_by n xs) at row) m []) (sym same) ∙ get_or-set_same (values_by n xs) at row [] at_first
      ∙ sym (of_same at xs x refl) ∙ ap (λ m. values_of m (xs ++ x ∷ [])) same
      ∙ sym (value_at n number (xs ++ x ∷ []) inside))
      (λ no.
      let other : at ≢ number = λ e. (let h : true ≡ false = sym (eq-eqb at number e) ∙ no in cc) in
      get_or-set_other (values_by n xs) at number row [] (λ e. other (sym e))
      ∙ value_at n number xs inside ∙ sym (of_other number xs x other) ∙ sym (value_at n number (xs ++ x ∷ []) inside)))

-- ---- shares

abbrev number_in : Found → ℕ
number_in f = f.1

abbrev place_in : Found → ServerShare
place_in f = (f.0, f.2)

pub row_at : (n number : ℕ) (fs : List Found) → number < n → get_or (by_number n fs) number [] ≡ of_number number fs
row_at = value_at number_in place_in

pub length-rows : (n : ℕ) (fs : List Found) → length (by_number n fs) ≡ n
length-rows = length-values number_in place_in

pub rows_past : (n : ℕ) (fs : List Found) (f : Found) → n ≤ f.1 → by_number n (fs ++ f ∷ []) ≡ by_number n fs
rows_past = values_past number_in place_in

pub rows_more : (n : ℕ) (fs : List Found) (f : Found) → f.1 < n → set (by_number n fs) f.1 (of_number f.1 fs ++ (f.0, f.2) ∷ []) ≡ by_number n (fs ++ f ∷ [])
rows_more = values_more number_in place_in

-- ---- servers

abbrev Place : Type 0
Place = ℕ × ℕ

abbrev number_at : Place → ℕ
number_at p = p.1

abbrev server_at : Place → ℕ
server_at p = p.0

pub servers_at : (n number : ℕ) (ps : List Place) → number < n → get_or (servers_by_number n ps) number [] ≡ servers_of number ps
servers_at = value_at number_at server_at

pub length-servers : (n : ℕ) (ps : List Place) → length (servers_by_number n ps) ≡ n
length-servers = length-values number_at server_at

pub servers_past : (n : ℕ) (ps : List Place) (p : Place) → n ≤ p.1 → servers_by_number n (ps ++ p ∷ []) ≡ servers_by_number n ps
servers_past = values_past number_at server_at

pub servers_more : (n : ℕ) (ps : List Place) (p : Place) → p.1 < n → set (servers_by_number n ps) p.1 (servers_of p.1 ps ++ p.0 ∷ []) ≡ servers_by_number n (ps ++ p ∷ [])
servers_more = values_more number_at server_at

abbrev server_in : ServerShare → ℕ
server_in share = share.0

-- where a share stands
abbrev place_at : Found → Place
place_at f = (f.0, f.1)

-- the servers of the places of shares are those of the shares
servers_there : (number : ℕ) (fs : List Found) → servers_of number (map place_at fs) ≡ map server_in (of_number number fs)
servers_there number [] = refl
servers_there number (f ∷ fs) = by_case (f.1 == number) (servers_there number fs)
  where
    by_case : (b : Bool) → servers_of number (map place_at fs) ≡ map server_in (of_number number fs)
        → map server_at (cond b (place_at f ∷ filter (λ (p : Place). p.1 == number) (map place_at fs)) (filter (λ (p : Place). p.1 == number) (map place_at fs)))
        ≡ map server_in (map place_in (cond b (f ∷ filter (λ (g : Found). g.1 == number) fs) (filter (λ (g : Found). g.1 == number) fs)))
    by_case true more = ap (λ l. f.0 ∷ l) more
    by_case false more = more

-- a number has a server where it has a place
some_server : (shares : List ServerShare) → not (length (map server_in shares) == 0) ≡ is_some_place shares
some_server [] = refl
some_server (share ∷ shares) = ap not (ne_eqb (length (map server_in (share ∷ shares))) 0 (λ none. omega arith))

-- ---- what is made of the rows is made of the row of which they are

module _ (found : List Found) (row : ShareTable) (same : (number : ℕ) → of_number number found ≡ places row number) (n : ℕ) where
  abbrev rows : List (List ServerShare)
  rows = by_number n found

  same_places : (number : ℕ) → number < n → get_or rows number [] ≡ places row number
  same_places number below = row_at n number found below ∙ same number

  pub rows_are_good : (p : ParamsValue) (ueb : List ℕ) → good_below p ueb rows n ≡ filter_map (good_at p ueb row) (range_with_len 0 n)
  rows_are_good p ueb =
      kept_alike (λ number. first_good p ueb number (get_or rows number [])) (good_at p ueb row) n 0 n (omega arith)
      (λ number below. ap (first_good p ueb number) (same_places number below))

  pub rows_are_bad : (p : ParamsValue) (ueb : List ℕ) → bad_below p ueb rows n ≡ flat_map (λ number. bad_places p ueb number (places row number)) (range_with_len 0 n)
  rows_are_bad p ueb =
      flat_alike (λ number. bad_places p ueb number (get_or rows number [])) (λ number. bad_places p ueb number (places row number)) n 0 n (omega arith)
      (λ number below. ap (bad_places p ueb number) (same_places number below))

  pub rows_are_placed : (p : ParamsValue) (ueb : List ℕ) → places_below p ueb rows n ≡ flat_map (λ number. good_places p ueb number (places row number)) (range_with_len 0 n)
  rows_are_placed p ueb =
      flat_alike (λ number. good_places p ueb number (get_or rows number [])) (λ number. good_places p ueb number (places row number)) n 0 n (omega arith)
      (λ number below. ap (good_places p ueb number) (same_places number below))

  abbrev servers : List (List ℕ)
  servers = servers_by_number n (map place_at found)

  same_servers : (number : ℕ) → number < n → get_or servers number [] ≡ map server_in (places row number)
  same_servers number below = servers_at n number (map place_at found) below ∙ servers_there number found ∙ ap (map server_in) (same number)

  pub standing_alike : standing_below servers n ≡ standing_in n row
  standing_alike =
      flat_alike (λ number. places_at number (get_or servers number [])) (λ number. standing_places number (places row number)) n 0 n (omega arith)
      (λ number below. ap (places_at number) (same_servers number below) ∙ map-map (λ (server : ℕ). (server, number)) server_in (places row number))

  pub rows_stand : some_below servers n ≡ standing_numbers n row
  rows_stand =
      filter_alike (λ number. not (length (get_or servers number []) == 0)) (λ number. is_some_place (places row number)) n 0 n (omega arith)
      (λ number below. ap (λ (l : List ℕ). not (length l == 0)) (same_servers number below) ∙ some_server (places row number))

-- ---- what was gathered of low numbers alone

-- where it is what stands there, its good shares are the first of those of the row
pub low_are_first : (found : List Found) (row : ShareTable) (limit : ℕ) → ((number : ℕ) → number < limit → of_number number found ≡ places row number)
    → ((number : ℕ) → limit ≤ number → of_number number found ≡ []) → (n : ℕ) (p : ParamsValue) (ueb : List ℕ)
    → (more : List GoodShare) × (filter_map (good_at p ueb row) (range_with_len 0 n) ≡ good_below p ueb (by_number n found) n ++ more)
low_are_first found row limit same past n p ueb =
    begun (λ number. first_good p ueb number (get_or (by_number n found) number [])) (good_at p ueb row) limit n
    (λ number below low. ap (first_good p ueb number) (row_at n number found below ∙ same number low))
    (λ number below high. ap (first_good p ueb number) (row_at n number found below ∙ past number high)) 0 n (omega arith)
