-- How a request is framed.
use Rattle.std.proofs.Common.{◌≡◌, ℕ, ◌+◌, ◌%◌, ◌^◌, ◌<◌, ◌≤◌, Bool, true, false, List, [], ◌∷◌, ◌++◌, length, cond, reverse, Some, Ok, refl, sym, ap, ◌∙◌, arith}
use Rattle.std.specs.Prelude.{codes, decimal, All, IsTrue, nat_le, nat_lt, ◌&&◌}
use Rattle.std.specs.List.{list_all}
use Rattle.std.specs.Char.{is_ascii_digit}
use Rattle.std.specs.Str.Parse.{digits_value}
use Rattle.std.proofs.lemmas.Bool.{lt-ltb, le-leb}
use Rattle.std.proofs.lemmas.Bool.Decides.{nat_tests}
use Rattle.std.proofs.lemmas.Fmt.{decimal_by_steps, decimal_nonempty}
use Rattle.std.proofs.lemmas.List.{reverse-append}
use Rattle.std.proofs.lemmas.List.Folds.{list_all-append}
use Rattle.std.proofs.lemmas.List.Elements.{All-nil, All-cons}
use Rattle.std.proofs.lemmas.Str.{IsUtf8-from_ascii}
use Rattle.std.proofs.lemmas.Str.Ascii.{IsAscii-from_all}
use Rattle.tag_hash.specs.Decimal.{decimal_text}
use Rattle.httparse.specs.Ascii.{space}
use Rattle.httparse.specs.Grammar.{RequestHead, IsRequestHead, print_request, AllPass, IsToken, IsField, is_token_byte, is_uri_byte, is_value_byte, is_ows, skip_ows, trim_ows}
use Rattle.httparse.proofs.TrimLemmas.{trim_ows_space}
use Rattle.http_edge.specs.Judge.{head_parts, head_verdict, within_limit, verdict_of, block_verdict, count_named, body_framing, body_length, length_of, asks_close, asks_continue, most_body_bytes, request}
use Rattle.http_edge.specs.Frame.{frame, most_head_bytes}
use Rattle.http_edge.specs.FramingState.{body_of, frame_from, frame_after}
use Rattle.http_edge.specs.declared.item.Head.{Head}
use Rattle.http_edge.specs.declared.item.Item.TheVariants.{Request as RequestItem}
use Rattle.http_edge.specs.declared.verdict.Awaited.{Awaited}
use Rattle.http_edge.specs.declared.verdict.Verdict.{Verdict}
use Rattle.http_edge.specs.declared.verdict.Verdict.TheVariants.{Taken}
use Rattle.caps.specs.CapTexts.{cap_text}
use Rattle.caps.specs.Weakening.{cap_of}
use Rattle.caps.specs.declared.cap.Cap.TheVariants.{Chk}
use Rattle.client_core.specs.declared.ask.Ask.{Ask}
use Rattle.client_core.specs.declared.ask.Ask.TheVariants.{Put, Mkdir, Read, Check}
use Rattle.client_core.specs.Asks.{asked_head, asked_field, method_of, target_of, query_of_check, IsAsk, IsAsked}
use Rattle.client_core.proofs.CapBytes.{is_cap_byte, read_text_is, verify_text_is}
use Rattle.client_core.proofs.RequestsMeant.{OneText}

-- ---- tests of lists

first_true : (a b : Bool) → (a && b) ≡ true → a ≡ true
first_true true b h = refl
first_true false b h = absurd (cc)

second_true : (a b : Bool) → (a && b) ≡ true → b ≡ true
second_true true b h = h
second_true false b h = absurd (cc)

is_true : (b : Bool) → b ≡ true → IsTrue b
is_true true e = refl
is_true false e = absurd (cc)

-- what passes a test, as the grammar says it
passes : (t : ℕ → Bool) (xs : List ℕ) → list_all t xs ≡ true → AllPass t xs
passes t [] e = All-nil (λ b. IsTrue (t b))
passes t (x ∷ xs) e = All-cons (λ b. IsTrue (t b)) x xs (is_true (t x) (first_true (t x) (list_all t xs) e)) (passes t xs (second_true (t x) (list_all t xs) e))

-- ---- numbers

not_blank : (d : ℕ) → is_ascii_digit d ≡ true → is_ows d ≡ false
not_blank d e = grind (arith, nat_tests)

digit_is : (n : ℕ) → n < 10 → is_ascii_digit (48 + n) ≡ true
digit_is n h = grind (arith, nat_tests)

-- digits, at whose end stands one
record AreDigits (ds : List ℕ) : Type 0 where
  digits : list_all is_ascii_digit ds ≡ true
  back : skip_ows (reverse ds) ≡ reverse ds

one_digit : (n : ℕ) → n < 10 → AreDigits ((48 + n) ∷ [])
one_digit n h = record {
  digits = rw (digit_is n h) refl;
  back = rw (not_blank (48 + n) (digit_is n h)) refl;
}

more_digits : (n : ℕ) (ds : List ℕ) → 10 ≤ n → AreDigits ds → AreDigits (ds ++ ((48 + n % 10) ∷ []))
more_digits n ds above are =
    let d : ℕ = 48 + n % 10 in
    let is : is_ascii_digit d ≡ true = digit_is (n % 10) (omega arith) in
    let turned : reverse (ds ++ d ∷ []) ≡ d ∷ reverse ds = reverse-append ds (d ∷ []) in
    record {
      digits = list_all-append is_ascii_digit ds (d ∷ []) ∙ rw (are.digits, is) refl;
      back = ap skip_ows turned ∙ rw (not_blank d is) (sym turned);
    }

decimal_digits : (n : ℕ) → n < 2 ^ 64 → AreDigits (decimal n)
decimal_digits n h = decimal_by_steps (λ (m : ℕ) (ds : List ℕ). AreDigits ds) one_digit more_digits n h

front_stays : (ds : List ℕ) → list_all is_ascii_digit ds ≡ true → skip_ows ds ≡ ds
front_stays [] e = refl
front_stays (d ∷ ds) e = rw (not_blank d (first_true (is_ascii_digit d) (list_all is_ascii_digit ds) e)) refl

trimmed : (n : ℕ) → n < 2 ^ 64 → trim_ows (space ∷ decimal n) ≡ decimal n
trimmed n h = let are = decimal_digits n h in trim_ows_space (decimal n) (front_stays (decimal n) are.digits) are.back

-- what the law of decimal texts says
abbrev pub DecimalValue : Type 0
DecimalValue = (n : ℕ) → digits_value 10 (decimal_text n) ≡ n

abbrev pub DecimalPrinted : Type 0
DecimalPrinted = (n : ℕ) → n < 2 ^ 64 → decimal_text n ≡ decimal n

length_is : DecimalValue → DecimalPrinted → (n : ℕ) → n ≤ most_body_bytes → length_of (trim_ows (space ∷ decimal n)) ≡ Ok n
unfolding length_of
length_is value printed n within =
    let small : n < 2 ^ 64 = omega arith in
    let are = decimal_digits n small in
    let some : nat_lt 0 (length (decimal n)) ≡ true = lt-ltb 0 (length (decimal n)) (decimal_nonempty n small) in
    let is : digits_value 10 (decimal n) ≡ n = ap (digits_value 10) (sym (printed n small)) ∙ value n in
    let fits : nat_le n most_body_bytes ≡ true = le-leb n most_body_bytes within in
    rw (trimmed n small, some, are.digits, is, fits) refl

-- ---- the verdict on a head

abbrev head_of : List ℕ → List ℕ → List ℕ → List ℕ → Head
head_of method target host digits = record {
  method = method;
  target = target;
  fields = record { name = codes "Host"; value = host } ∷ (record { name = codes "Content-Length"; value = digits } ∷ []);
}

verdict_is : (method target host digits : List ℕ) (n : ℕ) → length_of digits ≡ Ok n
    → head_verdict (head_of method target host digits) 1 ≡ Taken (record { head = head_of method target host digits; close = false; expects = false; length = n })
unfolding head_verdict count_named body_framing body_length asks_close asks_continue
verdict_is method target host digits n e = rw e refl

-- ---- the head is of the grammar

abbrev is_target_byte : ℕ → Bool
is_target_byte b = nat_lt 32 b && nat_lt b 127

of_cap : (b : ℕ) → is_cap_byte b ≡ true → is_target_byte b ≡ true
of_cap b e = grind (arith, nat_tests)

caps_are : (xs : List ℕ) → list_all is_cap_byte xs ≡ true → list_all is_target_byte xs ≡ true
caps_are [] e = refl
caps_are (b ∷ xs) e =
    let first : is_target_byte b ≡ true = of_cap b (first_true (is_cap_byte b) (list_all is_cap_byte xs) e) in
    let rest : list_all is_target_byte xs ≡ true = caps_are xs (second_true (is_cap_byte b) (list_all is_cap_byte xs) e) in
    rw (first, rest) refl

three : (a b c : List ℕ) → list_all is_target_byte a ≡ true → list_all is_target_byte b ≡ true → list_all is_target_byte c ≡ true → list_all is_target_byte (a ++ (b ++ c)) ≡ true
three a b c one two last =
    list_all-append is_target_byte a (b ++ c) ∙ rw one (list_all-append is_target_byte b c ∙ rw (two, last) refl)

query_is : (verify : Bool) → list_all is_target_byte (query_of_check verify) ≡ true
query_is true = refl
query_is false = refl

module _ (one : OneText) where
  target_is : (ask : Ask) → IsAsk ask → list_all is_target_byte (target_of ask) ≡ true
  target_is Put is = refl
  target_is Mkdir is = refl
  target_is (Read f) is = three (codes "/uri/") (cap_text (Chk f)) [] refl (caps_are (cap_text (Chk f)) (read_text_is f (cap_text (Chk f)) (one (Chk f) is))) refl
  target_is (Check v verify) is =
      three (codes "/uri/") (cap_text (cap_of v)) (query_of_check verify) refl (caps_are (cap_text (cap_of v)) (verify_text_is v (cap_text (cap_of v)) (one (cap_of v) is))) (query_is verify)

some_target : (ask : Ask) → 0 < length (target_of ask)
some_target Put = omega arith
some_target Mkdir = omega arith
some_target (Read f) = omega arith
some_target (Check v verify) = omega arith

uri_byte : (b : ℕ) → is_target_byte b ≡ true → is_uri_byte b ≡ true
uri_byte b e = grind (arith, nat_tests)

uri_bytes : (xs : List ℕ) → list_all is_target_byte xs ≡ true → list_all is_uri_byte xs ≡ true
uri_bytes [] e = refl
uri_bytes (b ∷ xs) e =
    let first : is_uri_byte b ≡ true = uri_byte b (first_true (is_target_byte b) (list_all is_target_byte xs) e) in
    let rest : list_all is_uri_byte xs ≡ true = uri_bytes xs (second_true (is_target_byte b) (list_all is_target_byte xs) e) in
    rw (first, rest) refl

below_128 : (b : ℕ) → is_target_byte b ≡ true → b < 128
below_128 b e = grind (arith, nat_tests)

ascii : (xs : List ℕ) → list_all is_target_byte xs ≡ true → All (λ b. b < 128) xs
ascii [] e = All-nil (λ b. b < 128)
ascii (b ∷ xs) e = All-cons (λ b. b < 128) b xs (below_128 b (first_true (is_target_byte b) (list_all is_target_byte xs) e)) (ascii xs (second_true (is_target_byte b) (list_all is_target_byte xs) e))

value_byte : (d : ℕ) → is_ascii_digit d ≡ true → is_value_byte d ≡ true
value_byte d e = grind (arith, nat_tests)

value_bytes : (ds : List ℕ) → list_all is_ascii_digit ds ≡ true → list_all is_value_byte ds ≡ true
value_bytes [] e = refl
value_bytes (d ∷ ds) e =
    let first : is_value_byte d ≡ true = value_byte d (first_true (is_ascii_digit d) (list_all is_ascii_digit ds) e) in
    let rest : list_all is_value_byte ds ≡ true = value_bytes ds (second_true (is_ascii_digit d) (list_all is_ascii_digit ds) e) in
    rw (first, rest) refl

method_is : (ask : Ask) → IsToken (method_of ask)
unfolding is_token_byte
method_is Put = (omega arith, passes is_token_byte (codes "PUT") refl)
method_is Mkdir = (omega arith, passes is_token_byte (codes "POST") refl)
method_is (Read f) = (omega arith, passes is_token_byte (codes "GET") refl)
method_is (Check v verify) = (omega arith, passes is_token_byte (codes "POST") refl)

host_name : IsToken (codes "Host")
unfolding is_token_byte
host_name = (omega arith, passes is_token_byte (codes "Host") refl)

length_name : IsToken (codes "Content-Length")
unfolding is_token_byte
length_name = (omega arith, passes is_token_byte (codes "Content-Length") refl)

module _ (one : OneText) where
  head_is : (host : List ℕ) (ask : Ask) (n : ℕ) → n < 2 ^ 64 → AllPass is_value_byte host → IsAsk ask → IsRequestHead (asked_head host ask n)
  unfolding asked_head
  head_is host ask n small good is =
      let first : IsField (asked_field (codes "Host") host) = record { name = host_name; raw = All-cons (λ b. IsTrue (is_value_byte b)) space host refl good } in
      let digits : AllPass is_value_byte (decimal n) = passes is_value_byte (decimal n) (value_bytes (decimal n) (decimal_digits n small).digits) in
      let second : IsField (asked_field (codes "Content-Length") (decimal n)) = record { name = length_name; raw = All-cons (λ b. IsTrue (is_value_byte b)) space (decimal n) refl digits } in
      record {
        method = method_is ask;
        target = (some_target ask, passes is_uri_byte (target_of ask) (uri_bytes (target_of ask) (target_is one ask is)));
        target_text = IsUtf8-from_ascii (target_of ask) (IsAscii-from_all (target_of ask) (ascii (target_of ask) (target_is one ask is)));
        minor = omega arith;
        fields = All-cons IsField (asked_field (codes "Host") host) (asked_field (codes "Content-Length") (decimal n) ∷ []) first
            (All-cons IsField (asked_field (codes "Content-Length") (decimal n)) [] second (All-nil IsField));
      }

-- what the laws of framing say
pub record EdgeLaws : Type 0 where
  pub head : (h : RequestHead) (more : List ℕ) → IsRequestHead h → h.blank ≡ [] → length (print_request h) ≤ most_head_bytes
      → frame (print_request h ++ more) ≡ frame_after (block_verdict (print_request h)) more
  pub verdict : (h : RequestHead) → IsRequestHead h → block_verdict (print_request h) ≡ verdict_of (within_limit (Some h))
  pub items : (a : Awaited) (body more : List ℕ) → length body ≡ a.length → frame_from (body_of a []) (body ++ more) ≡ request a body ∷ (cond a.close [] (frame more))

module _ (edge : EdgeLaws) (one : OneText) (value : DecimalValue) (printed : DecimalPrinted) where
  awaited_is : (host : List ℕ) (ask : Ask) (n : ℕ) → n ≤ most_body_bytes
      → verdict_of (within_limit (Some (asked_head host ask n))) ≡ Taken (record { head = head_parts (asked_head host ask n); close = false; expects = false; length = n })
  unfolding asked_head
  awaited_is host ask n within = verdict_is (method_of ask) (target_of ask) (trim_ows (space ∷ host)) (trim_ows (space ∷ decimal n)) n (length_is value printed n within)

  no_blank : (host : List ℕ) (ask : Ask) (n : ℕ) → (asked_head host ask n).blank ≡ []
  unfolding asked_head
  no_blank host ask n = refl

  pub ask_framed : (host : List ℕ) (ask : Ask) (body more : List ℕ) → IsAsked host ask body
      → frame (print_request (asked_head host ask (length body)) ++ (body ++ more)) ≡ RequestItem (head_parts (asked_head host ask (length body))) body false ∷ frame more
  ask_framed host ask body more is =
      let n : ℕ = length body in
      let within = is.fits in
      let h : RequestHead = asked_head host ask n in
      let good : IsRequestHead h = head_is one host ask n (omega arith) is.host_is is.ask_is in
      let a : Awaited = record { head = head_parts h; close = false; expects = false; length = n } in
      edge.head h (body ++ more) good (no_blank host ask n) is.short
      ∙ ap (λ (v : Verdict). frame_after v (body ++ more)) (edge.verdict h good ∙ awaited_is host ask n is.fits)
      ∙ edge.items a body more refl
