-- A netstring is read back, whatever follows it, and nothing else is read as one.
use Rattle.std.proofs.Common.{◌≡◌, ℕ, zero, suc, ◌+◌, ◌-◌, ◌^◌, ◌<◌, ◌≤◌, List, [], ◌∷◌, ◌++◌, length, take, drop, get_or, Bool, true, false, refl, sym, ap, subst, ◌∙◌, arith, length-append, length-drop, length-take}
use Rattle.std.specs.Prelude.{◌==◌, ◌≢◌, ◌&&◌, nat_lt, if◌then◌else◌, Result, Ok, Err, IfOk, IsOkAnd}
use Rattle.std.specs.Str.Parse.{digits_value}
use Rattle.std.proofs.lemmas.List.{append_assoc, take-append-drop, drop-drop, get_or-drop, get_or-take}
use Rattle.std.proofs.Math.Seq.{take-append_seam, drop-append_seam, drop-cons}
use Rattle.tag_hash.specs.Decimal.{decimal_text}
use Rattle.tag_hash.specs.Netstring.{netstring}
use Rattle.tag_hash.specs.NetstringAt.{netstring_at, announced, closed, digit_count, first_value, span_bytes}
use Rattle.tag_hash.specs.declared.netstrings.NetFault.{NetFault}
use Rattle.tag_hash.specs.declared.netstrings.NetFault.TheVariants.{NoComma, Short}
use Rattle.tag_hash.specs.declared.netstrings.Span.{Span}
use Rattle.tag_hash.proofs.Comparisons.{equal, equal_is, below, below_is, both}
use Rattle.tag_hash.proofs.DecimalLemmas.{decimal_text_digits, digits_value-decimal_text, first-decimal_text, decimal_text_digit, decimal_text-digits_value}
use Rattle.tag_hash.proofs.NetstringLemmas.{netstring-append, length-netstring}
use Rattle.tag_hash.proofs.Announced.{IsAnnounced, announced_value, announced_parts, in_64_bits, in_64_bits-below, digit_count-colon, digits_within, first_digits}

-- ---- the announcement of a decimal text

some_digits : (n : ℕ) → 0 < length (decimal_text n)
some_digits zero = subst (λ t. 0 < length t) (sym (decimal_text_digit 0 (omega arith))) (omega arith)
some_digits (suc n) = long (decimal_text (suc n)) (first-decimal_text (suc n) (omega arith)) where
  long : (ds : List ℕ) → 48 < get_or ds 0 0 → 0 < length ds
  long [] above = absurd (omega arith)
  long (d ∷ ds) above = omega arith

front_at : (ds t : List ℕ) → 0 < length ds → get_or (ds ++ t) 0 0 ≡ get_or ds 0 0
front_at [] t some = absurd (omega arith)
front_at (d ∷ ds) t some = refl

lone_zero : (n : ℕ) → get_or (decimal_text n) 0 0 ≡ 48 → length (decimal_text n) ≤ 1
lone_zero zero led = subst (λ t. length t ≤ 1) (sym (decimal_text_digit 0 (omega arith))) (omega arith)
lone_zero (suc n) led = let large = first-decimal_text (suc n) (omega arith) in absurd (omega arith)

announced_decimal : (n : ℕ) (t : List ℕ) → n < 2 ^ 64 → announced (decimal_text n ++ 58 ∷ t) ≡ Ok n
announced_decimal n t small =
    let ds = decimal_text n in
    let text = ds ++ 58 ∷ t in
    let some = some_digits n in
    let count : digit_count text ≡ length ds = digit_count-colon ds t (decimal_text_digits n) in
    let value : first_value text ≡ n = ap (λ k. digits_value 10 (take k text)) count ∙ ap (digits_value 10) (take-append_seam ds (58 ∷ t)) ∙ digits_value-decimal_text n in
    let long : length text ≢ 0 = λ none. absurd (omega (arith, length-append ds (58 ∷ t))) in
    let counted : digit_count text ≢ 0 = λ none. absurd (omega arith) in
    announced_value text long counted (λ led. subst (λ k. k ≤ 1) (sym count) (lone_zero n (sym (front_at ds (58 ∷ t) some) ∙ led)))
    ∙ ap in_64_bits value ∙ in_64_bits-below n small

-- ---- a place behind which some bytes stand

at_seam : (xs ys : List ℕ) (y : ℕ) → get_or (xs ++ y ∷ ys) (length xs) 0 ≡ y
at_seam [] ys y = refl
at_seam (x ∷ xs) ys y = at_seam xs ys y

at_place : (bytes xs ys : List ℕ) (y place : ℕ) → drop place bytes ≡ xs ++ y ∷ ys → get_or bytes (place + length xs) 0 ≡ y
at_place bytes xs ys y place stands = sym (get_or-drop place bytes (length xs) 0) ∙ ap (λ t. get_or t (length xs) 0) stands ∙ at_seam xs ys y

behind : (bytes xs ys : List ℕ) (place : ℕ) → drop place bytes ≡ xs ++ ys → drop (place + length xs) bytes ≡ ys
behind bytes xs ys place stands = sym (drop-drop (length xs) place bytes) ∙ ap (drop (length xs)) stands ∙ drop-append_seam xs ys

-- ---- reading back

closed_ok : (bytes : List ℕ) (start size : ℕ) → get_or bytes (start - 1) 0 ≡ 58 → start + size < length bytes → get_or bytes (start + size) 0 ≡ 44 → closed bytes start (Ok size) ≡ Ok (record { start = start; len = size }, start + size + 1)
closed_ok bytes start size colon room comma =
    let first : (get_or bytes (start - 1) 0 == 58 && nat_lt (start + size) (length bytes)) ≡ true = both _ _ (equal _ _ colon) (below _ _ room) in
    let second : (get_or bytes (start + size) 0 == 44) ≡ true = equal _ _ comma in
    rw (first, second)

pub netstring_at_by : (bytes : List ℕ) (at count : ℕ) (said : Result ℕ NetFault) → digit_count (drop at bytes) ≡ count → announced (drop at bytes) ≡ said → netstring_at bytes at ≡ closed bytes (at + count + 1) said
unfolding netstring_at
netstring_at_by bytes at count said counted says i = closed bytes (at + counted i + 1) (says i)

-- where a netstring's bytes stand
abbrev start_of : ℕ → List ℕ → ℕ
start_of at b = at + length (decimal_text (length b)) + 1

-- the text at a place where a netstring stands
stands_at : (bytes b rest : List ℕ) (at : ℕ) → drop at bytes ≡ netstring b ++ rest → drop at bytes ≡ decimal_text (length b) ++ 58 ∷ (b ++ 44 ∷ rest)
stands_at bytes b rest at stands = stands ∙ netstring-append b rest

body_at : (bytes b rest : List ℕ) (at : ℕ) → drop at bytes ≡ netstring b ++ rest → drop (start_of at b) bytes ≡ b ++ 44 ∷ rest
body_at bytes b rest at stands =
    let ds = decimal_text (length b) in
    let front : drop at bytes ≡ (ds ++ 58 ∷ []) ++ (b ++ 44 ∷ rest) = stands_at bytes b rest at stands ∙ sym (append_assoc ds (58 ∷ []) (b ++ 44 ∷ rest)) in
    let place : at + length (ds ++ 58 ∷ []) ≡ start_of at b = omega (arith, length-append ds (58 ∷ [])) in
    ap (λ n. drop n bytes) (sym place) ∙ behind bytes (ds ++ 58 ∷ []) (b ++ 44 ∷ rest) at front

read_back : (bytes b rest : List ℕ) (at : ℕ) → length b < 2 ^ 64 → drop at bytes ≡ netstring b ++ rest
    → netstring_at bytes at ≡ Ok (record { start = start_of at b; len = length b }, start_of at b + length b + 1)
read_back bytes b rest at small stands =
    let ds = decimal_text (length b) in
    let text = stands_at bytes b rest at stands in
    let body = body_at bytes b rest at stands in
    let count : digit_count (drop at bytes) ≡ length ds = ap digit_count text ∙ digit_count-colon ds (b ++ 44 ∷ rest) (decimal_text_digits (length b)) in
    let said : announced (drop at bytes) ≡ Ok (length b) = ap announced text ∙ announced_decimal (length b) (b ++ 44 ∷ rest) small in
    let colon_place : start_of at b - 1 ≡ at + length ds = omega arith in
    let colon : get_or bytes (start_of at b - 1) 0 ≡ 58 = ap (λ n. get_or bytes n 0) colon_place ∙ at_place bytes ds (b ++ 44 ∷ rest) 58 at text in
    let room : start_of at b + length b < length bytes = omega (arith, ap length body, length-drop (start_of at b) bytes, length-append b (44 ∷ rest)) in
    netstring_at_by bytes at (length ds) (Ok (length b)) count said
    ∙ closed_ok bytes (start_of at b) (length b) colon room (at_place bytes b rest 44 (start_of at b) body)

abbrev pub ReadsBack : List ℕ → List ℕ → List ℕ → ℕ → (Span × ℕ) → Type 0
ReadsBack bytes b rest at read = (span_bytes read.0 bytes ≡ b) × (read.1 ≡ at + length (netstring b)) × (drop read.1 bytes ≡ rest)

pub netstring_read_back : (bytes b rest : List ℕ) (at : ℕ) → length b < 2 ^ 64 → drop at bytes ≡ netstring b ++ rest → IsOkAnd (netstring_at bytes at) (ReadsBack bytes b rest at)
netstring_read_back bytes b rest at small stands =
    let body = body_at bytes b rest at stands in
    let place : start_of at b + length b + 1 ≡ at + length (netstring b) = omega (arith, length-netstring b) in
    let end : start_of at b + length b + 1 ≡ start_of at b + length (b ++ 44 ∷ []) = omega (arith, length-append b (44 ∷ [])) in
    subst (λ r. IsOkAnd r (ReadsBack bytes b rest at)) (sym (read_back bytes b rest at small stands)) (
      ap (take (length b)) body ∙ take-append_seam b (44 ∷ rest),
      place,
      ap (λ n. drop n bytes) end ∙ behind bytes (b ++ 44 ∷ []) rest (start_of at b) (body ∙ sym (append_assoc b (44 ∷ []) rest)),
    )

-- ---- what is read is a netstring

record IsClosed (bytes : List ℕ) (start size : ℕ) (span : Span) (place : ℕ) : Type 0 where
  colon : get_or bytes (start - 1) 0 ≡ 58
  room : start + size < length bytes
  comma : get_or bytes (start + size) 0 ≡ 44
  begins : span.start ≡ start
  has : span.len ≡ size
  ends : place ≡ start + size + 1

pub first_of_both : (a b : Bool) → (a && b) ≡ true → a ≡ true
first_of_both true b e = refl
first_of_both false b e = e

pub second_of_both : (a b : Bool) → (a && b) ≡ true → b ≡ true
second_of_both true b e = e
second_of_both false b e = cc

abbrev outcome : Bool → Bool → ℕ → ℕ → Result (Span × ℕ) NetFault
outcome a b start size = if a then (if b then Ok (record { start = start; len = size }, start + size + 1) else Err NoComma) else Err Short

closed_by : (bytes : List ℕ) (start size : ℕ) (span : Span) (place : ℕ) (a b : Bool)
    → (get_or bytes (start - 1) 0 == 58 && nat_lt (start + size) (length bytes)) ≡ a → (get_or bytes (start + size) 0 == 44) ≡ b
    → outcome a b start size ≡ Ok (span, place)
    → IsClosed bytes start size span place
closed_by bytes start size span place false b first second e = absurd (cc)
closed_by bytes start size span place true false first second e = absurd (cc)
closed_by bytes start size span place true true first second e =
    let found : Span × ℕ = (span, place) in
    let made : Span × ℕ = (record { start = start; len = size }, start + size + 1) in
    let same : made ≡ found = cc in
    record {
      colon = equal_is _ _ (first_of_both _ _ first);
      room = below_is _ _ (second_of_both (get_or bytes (start - 1) 0 == 58) _ first);
      comma = equal_is _ _ second;
      begins = λ i. (sym same i).0.start;
      has = λ i. (sym same i).0.len;
      ends = λ i. (sym same i).1;
    }

closed_parts : (bytes : List ℕ) (start size : ℕ) (span : Span) (place : ℕ) → closed bytes start (Ok size) ≡ Ok (span, place) → IsClosed bytes start size span place
closed_parts bytes start size span place e =
    closed_by bytes start size span place (get_or bytes (start - 1) 0 == 58 && nat_lt (start + size) (length bytes)) (get_or bytes (start + size) 0 == 44) refl refl e

-- the text from a place on, cut where a number ends
pub cut_at : (xs : List ℕ) (n : ℕ) → n < length xs → xs ≡ take n xs ++ get_or xs n 0 ∷ drop (n + 1) xs
cut_at xs n inside =
    let next : suc n ≡ n + 1 = omega arith in
    sym (take-append-drop n xs) ∙ ap (λ t. take n xs ++ t) (drop-cons xs n 0 inside ∙ ap (λ m. get_or xs n 0 ∷ drop m xs) next)

pub digits_of_size : (text : List ℕ) (size : ℕ) → IsAnnounced text size → decimal_text size ≡ take (digit_count text) text
digits_of_size text size said =
    let k = digit_count text in
    let ds = take k text in
    let within : k ≤ length text = digits_within text in
    let long : length ds ≡ k = omega (arith, length-take k text) in
    let small : digits_value 10 ds < 2 ^ 64 = subst (λ n. n < 2 ^ 64) (sym said.value) said.small in
    let lone : get_or ds 0 0 ≡ 48 → length ds ≡ 1 = λ led. let few = said.alone (sym (get_or-take k text 0 0 said.digits) ∙ led) in let many = said.digits in omega arith in
    ap decimal_text (sym said.value) ∙ decimal_text-digits_value ds (first_digits text) (subst (λ n. 0 < n) (sym long) said.digits) lone small

abbrev pub IsRead : List ℕ → ℕ → (Span × ℕ) → Type 0
IsRead bytes at read = (read.0.start + read.0.len + 1 ≡ read.1) × (read.1 ≤ length bytes) × (drop at bytes ≡ netstring (span_bytes read.0 bytes) ++ drop read.1 bytes)

only_netstring : (bytes : List ℕ) (at start size : ℕ) → start ≡ at + digit_count (drop at bytes) + 1 → IsAnnounced (drop at bytes) size → get_or bytes (start - 1) 0 ≡ 58 → start + size < length bytes → get_or bytes (start + size) 0 ≡ 44
    → drop at bytes ≡ netstring (take size (drop start bytes)) ++ drop (start + size + 1) bytes
only_netstring bytes at start size is said colon room comma =
    let text = drop at bytes in
    let k = digit_count text in
    let body = drop start bytes in
    let inside : k < length text = omega (arith, length-drop at bytes) in
    let fits : size < length body = omega (arith, length-drop start bytes) in
    let before : start - 1 ≡ at + k = omega arith in
    let colon_here : get_or text k 0 ≡ 58 = get_or-drop at bytes k 0 ∙ ap (λ n. get_or bytes n 0) (sym before) ∙ colon in
    let place : at + (k + 1) ≡ start = omega arith in
    let body_here : drop (k + 1) text ≡ body = drop-drop (k + 1) at bytes ∙ ap (λ n. drop n bytes) place in
    let comma_here : get_or body size 0 ≡ 44 = get_or-drop start bytes size 0 ∙ comma in
    let further : start + (size + 1) ≡ start + size + 1 = omega arith in
    let rest_here : drop (size + 1) body ≡ drop (start + size + 1) bytes = drop-drop (size + 1) start bytes ∙ ap (λ n. drop n bytes) further in
    let taken : length (take size body) ≡ size = omega (arith, length-take size body) in
    let digits : take k text ≡ decimal_text (length (take size body)) = sym (digits_of_size text size said) ∙ ap decimal_text (sym taken) in
    cut_at text k inside
    ∙ (λ i. digits i ++ colon_here i ∷ body_here i)
    ∙ ap (λ t. decimal_text (length (take size body)) ++ 58 ∷ t) (cut_at body size fits ∙ (λ i. take size body ++ comma_here i ∷ rest_here i))
    ∙ sym (netstring-append (take size body) (drop (start + size + 1) bytes))

read_parts : (bytes : List ℕ) (at : ℕ) (span : Span) (place : ℕ) (said : Result ℕ NetFault) → announced (drop at bytes) ≡ said → closed bytes (at + digit_count (drop at bytes) + 1) said ≡ Ok (span, place) → IsRead bytes at (span, place)
read_parts bytes at span place (Err fault) says e = absurd (cc)
read_parts bytes at span place (Ok size) says e =
    let start = at + digit_count (drop at bytes) + 1 in
    let parts = closed_parts bytes start size span place e in
    let whole = only_netstring bytes at start size refl (announced_parts (drop at bytes) size says) parts.colon parts.room parts.comma in (
      (λ i. parts.begins i + parts.has i + 1) ∙ sym parts.ends,
      subst (λ n. n ≤ length bytes) (sym parts.ends) (let far = parts.room in omega arith),
      whole ∙ (λ i. netstring (take (sym parts.has i) (drop (sym parts.begins i) bytes)) ++ drop (sym parts.ends i) bytes),
    )

read_cases : (bytes : List ℕ) (at : ℕ) (r : Result (Span × ℕ) NetFault) → netstring_at bytes at ≡ r → IfOk r (IsRead bytes at)
read_cases bytes at (Err fault) e = tt
read_cases bytes at (Ok (span, place)) e =
    read_parts bytes at span place (announced (drop at bytes)) refl (sym (netstring_at_by bytes at (digit_count (drop at bytes)) (announced (drop at bytes)) refl refl) ∙ e)

pub netstring_read_only : (bytes : List ℕ) (at : ℕ) → IfOk (netstring_at bytes at) (IsRead bytes at)
netstring_read_only bytes at = read_cases bytes at (netstring_at bytes at) refl
