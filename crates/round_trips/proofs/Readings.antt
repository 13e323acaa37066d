-- Replies, as bytes, are read in one way.
use Rattle.std.proofs.Common.{◌≡◌, ℕ, zero, suc, ◌+◌, ◌*◌, ◌%◌, ◌^◌, ◌<◌, Bool, true, false, cond, List, [], ◌∷◌, ◌++◌, length, Option, Some, None, Ok, refl, sym, ap, subst, ◌∙◌, append_assoc, arith, le-leb}
use Rattle.std.specs.Prelude.{codes, decimal, flat_map, ◌==◌, ◌&&◌, nat_le}
use Rattle.std.specs.List.{AllByRecursion}
use Rattle.std.proofs.lemmas.List.{append_cancel_left}
use Rattle.std.proofs.lemmas.Nat.{mod_below}
use Rattle.std.proofs.lemmas.Fmt.{decimal_by_steps, decimal_injective}
use Rattle.http_edge.specs.declared.field.Field.{Field as Line}
use Rattle.http_edge.specs.Reply.{status_text, crlf, field_line, has_length, lines_with_length, lines_for, rendered_head, rendered}
use Rattle.web_replies.specs.declared.reply.Status.{Status}
use Rattle.web_replies.specs.declared.reply.Status.TheVariants as status
use Rattle.web_replies.specs.declared.reply.MediaType.{MediaType}
use Rattle.web_replies.specs.declared.reply.MediaType.TheVariants.{OctetStream, PlainText, Json, Html, Css, JavaScript, Svg, Png}
use Rattle.web_replies.specs.declared.reply.Field.{Field}
use Rattle.web_replies.specs.declared.reply.Field.TheVariants.{ContentRange, UnsatisfiedRange, Allow, Page}
use Rattle.web_replies.specs.declared.reply.Reply.{Reply}
use Rattle.caps.specs.Fields.{VerifyValue}
use Rattle.caps.specs.Weakening.{verify_fields, cap_of}
use Rattle.caps.specs.declared.cap.VerifyCap.{VerifyCap}
use Rattle.children_reader.specs.Children.{made}
use Rattle.dir_codec.specs.declared.entry.Entry.{Entry as Child}
use Rattle.chk_file.specs.Look.{Look}
use Rattle.web_request.specs.declared.request.Request.TheVariants as request
use Rattle.web_ops.specs.Encoding.{Encoding}
use Rattle.web_replies.specs.Replies.{bytes_reply}
use Rattle.web_ops.specs.Answers.{with_bytes, made_reply, checked_reply, request_reply}
use Rattle.gate_core.specs.Settings.{GatewaySettings, encoding_in}
use Rattle.gate_base.specs.Wire.{status_line, media_type, further_lines, wire_reply}
use Rattle.client_core.specs.Asks.{meant}
use Rattle.client_core.specs.declared.ask.Ask.{Ask}
use Rattle.client_core.specs.declared.ask.Ask.TheVariants.{Put, Mkdir, Read, Check}
use Rattle.round_trips.specs.Honest.{code_of, as_answer, IsWrittenAnswer}
use Rattle.round_trips.specs.Said.{sent_for}
use Rattle.round_trips.proofs.Lists.{both_true}

-- ---- lists

nth : ℕ → List ℕ → ℕ
nth k [] = 0
nth zero (x ∷ xs) = x
nth (suc k) (x ∷ xs) = nth k xs

rest_of : List ℕ → List ℕ
rest_of [] = []
rest_of (x ∷ xs) = xs

-- fronts of one length are apart from what follows
split : (a b x y : List ℕ) → length a ≡ length b → a ++ x ≡ b ++ y → (a ≡ b) × (x ≡ y)
unfolding nth rest_of
split [] [] x y long e = (refl, e)
split [] (b ∷ bs) x y long e = absurd (omega arith)
split (a ∷ more) [] x y long e = absurd (omega arith)
split (a ∷ more) (b ∷ bs) x y long e =
    let first : a ≡ b = ap (nth 0) e in
    let others = split more bs x y (omega arith) (ap rest_of e) in
    (λ i. first i ∷ others.0 i, others.1)

-- ---- the digits that bytes begin with

is_digit : ℕ → Bool
is_digit b = nat_le 48 b && nat_le b 57

abbrev AreDigits : List ℕ → Type 0
AreDigits ds = AllByRecursion (λ d. is_digit d ≡ true) ds

digits_of_front : List ℕ → List ℕ
digits_of_front [] = []
digits_of_front (b ∷ bs) = cond (is_digit b) (b ∷ digits_of_front bs) []

front_is : (ds rest : List ℕ) → AreDigits ds → digits_of_front (ds ++ 13 ∷ rest) ≡ ds
unfolding digits_of_front is_digit
front_is [] rest h = refl
front_is (d ∷ ds) rest h = ap (λ b. cond b (d ∷ digits_of_front (ds ++ 13 ∷ rest)) []) h.0 ∙ ap (λ xs. d ∷ xs) (front_is ds rest h.1)

one_digit : (n : ℕ) → n < 10 → is_digit (48 + n) ≡ true
unfolding is_digit
one_digit n below = both_true (nat_le 48 (48 + n)) (nat_le (48 + n) 57) (le-leb 48 (48 + n) (omega arith)) (le-leb (48 + n) 57 (omega arith))

more_digits : (ds : List ℕ) (d : ℕ) → AreDigits ds → is_digit d ≡ true → AreDigits (ds ++ d ∷ [])
more_digits [] d all is = (is, tt)
more_digits (x ∷ ds) d all is = (all.0, more_digits ds d all.1 is)

decimal_digits : (n : ℕ) → n < 2 ^ 64 → AreDigits (decimal n)
decimal_digits n h =
    decimal_by_steps (λ (m : ℕ) (ds : List ℕ). AreDigits ds) (λ m below. (one_digit m below, tt))
    (λ m ds low all. more_digits ds (48 + m % 10) all (one_digit (m % 10) (mod_below m 10 (omega arith)))) n h

-- ---- the parts of a reply

abbrev after_length : List ℕ → List ℕ → List ℕ
after_length further rest = crlf ++ (further ++ (crlf ++ rest))

abbrev after_type : ℕ → List ℕ → List ℕ → List ℕ
after_type n further rest = crlf ++ (codes "Content-Length" ++ (codes ": " ++ (decimal n ++ after_length further rest)))

abbrev after_status : MediaType → ℕ → List ℕ → List ℕ → List ℕ
after_status m n further rest = crlf ++ (codes "Content-Type" ++ (codes ": " ++ (media_type m ++ after_type n further rest)))

abbrev in_parts : Status → MediaType → ℕ → List ℕ → List ℕ → List ℕ
in_parts s m n further rest = codes "HTTP/1.1 " ++ (status_text (status_line s) ++ after_status m n further rest)

in_order : (a s l t c m u d f b more : List ℕ)
    → (a ++ s ++ l ++ (((t ++ c ++ m ++ l) ++ (u ++ c ++ d ++ l)) ++ f) ++ [] ++ l ++ b) ++ more
    ≡ a ++ (s ++ (l ++ (t ++ (c ++ (m ++ (l ++ (u ++ (c ++ (d ++ (l ++ (f ++ (l ++ (b ++ more)))))))))))))
in_order a s l t c m u d f b more = simp append_assoc refl

abbrev further_of : Option Field → List ℕ
further_of o = flat_map field_line (further_lines o)

-- the lines of a reply, with the length of its body
long_lines : (b : Bool) (x y : List ℕ) → b ≡ true → cond b x y ≡ x
long_lines true x y is = refl
long_lines false x y is = cc

abbrev lines_in : Reply → List Line
lines_in r = record { name = codes "Content-Type"; value = media_type r.fields.content_type } ∷ further_lines r.fields.more

parts_are : (r : Reply) (more : List ℕ) → has_length (status_line r.status) ≡ true
    → rendered (wire_reply r) false false ++ more ≡ in_parts r.status r.fields.content_type (length r.body) (further_of r.fields.more) (r.body ++ more)
unfolding rendered rendered_head
parts_are r more long =
    ap (λ (lines : List ℕ). (codes "HTTP/1.1 " ++ status_text (status_line r.status) ++ crlf ++ lines ++ [] ++ crlf ++ r.body) ++ more)
    (long_lines (has_length (status_line r.status)) (lines_with_length (length r.body) (lines_in r)) (flat_map field_line (lines_in r)) long)
    ∙ in_order (codes "HTTP/1.1 ") (status_text (status_line r.status)) crlf (codes "Content-Type") (codes ": ") (media_type r.fields.content_type)
    (codes "Content-Length") (decimal (length r.body)) (further_of r.fields.more) r.body more

-- what stands behind the status, whatever it is
behind_status : Reply → List ℕ → List ℕ
behind_status r more = crlf ++ (lines_for (status_line r.status) (length r.body) (lines_in r) ++ (crlf ++ (r.body ++ more)))

in_front : (a s l f b more : List ℕ) → (a ++ s ++ l ++ f ++ [] ++ l ++ b) ++ more ≡ a ++ (s ++ (l ++ (f ++ (l ++ (b ++ more)))))
in_front a s l f b more = simp append_assoc refl

front_of : (r : Reply) (more : List ℕ) → rendered (wire_reply r) false false ++ more ≡ codes "HTTP/1.1 " ++ (status_text (status_line r.status) ++ behind_status r more)
unfolding rendered rendered_head behind_status
front_of r more =
    in_front (codes "HTTP/1.1 ") (status_text (status_line r.status)) crlf (lines_for (status_line r.status) (length r.body) (lines_in r)) r.body more

-- ---- what they say

-- the status, by a sum of the bytes of its three digits
status_by : ℕ → Status
status_by n =
    cond (n == 5528) status.Ok (cond (n == 5534) status.PartialContent (cond (n == 5632) status.NotModified (cond (n == 5728) status.BadRequest
    (cond (n == 5732) status.NotFound (cond (n == 5733) status.MethodNotAllowed (cond (n == 5738) status.Gone
    (cond (n == 5744) status.RangeNotSatisfiable status.ServiceUnavailable)))))))

status_at : List ℕ → Status
status_at text = status_by (nth 9 text * 100 + (nth 10 text * 10 + nth 11 text))

status_read : (s : Status) (rest : List ℕ) → status_at (codes "HTTP/1.1 " ++ (status_text (status_line s) ++ rest)) ≡ s
unfolding status_at status_by nth
status_read status.Ok rest = refl
status_read status.PartialContent rest = refl
status_read status.NotModified rest = refl
status_read status.BadRequest rest = refl
status_read status.NotFound rest = refl
status_read status.MethodNotAllowed rest = refl
status_read status.Gone rest = refl
status_read status.RangeNotSatisfiable rest = refl
status_read status.ServiceUnavailable rest = refl

media_at : List ℕ → MediaType
media_at text =
    cond (nth 0 text == 105) (cond (nth 6 text == 115) Svg Png)
    (cond (nth 0 text == 116) (cond (nth 5 text == 104) Html (cond (nth 5 text == 99) Css (cond (nth 5 text == 106) JavaScript PlainText)))
    (cond (nth 12 text == 111) OctetStream Json))

media_read : (m : MediaType) (rest : List ℕ) → media_at (media_type m ++ rest) ≡ m
unfolding media_at nth
media_read OctetStream rest = refl
media_read PlainText rest = refl
media_read Json rest = refl
media_read Html rest = refl
media_read Css rest = refl
media_read JavaScript rest = refl
media_read Svg rest = refl
media_read Png rest = refl

-- a field doesn't begin as the end of a head does
no_further : (o : Option Field) (one other : List ℕ) → further_of o ++ (crlf ++ one) ≡ crlf ++ other → one ≡ other
unfolding nth
no_further None one other e = append_cancel_left crlf one other e
no_further (Some (ContentRange from to size)) one other e = absurd (let h : 67 ≡ 13 = ap (nth 0) e in omega arith)
no_further (Some (UnsatisfiedRange size)) one other e = absurd (let h : 67 ≡ 13 = ap (nth 0) e in omega arith)
no_further (Some (Allow resource)) one other e = absurd (let h : 65 ≡ 13 = ap (nth 0) e in omega arith)
no_further (Some Page) one other e = absurd (let h : 67 ≡ 13 = ap (nth 0) e in omega arith)

-- ---- two replies

module _ (one other : Reply) (x y : List ℕ) (fits : length one.body < 2 ^ 64) (other_fits : length other.body < 2 ^ 64) (bare : other.fields.more ≡ None) (long : has_length (status_line other.status) ≡ true)
    (same : rendered (wire_reply one) false false ++ x ≡ rendered (wire_reply other) false false ++ y) where
  abbrev m : MediaType
  m = one.fields.content_type

  abbrev n : ℕ
  n = length one.body

  abbrev further : List ℕ
  further = further_of one.fields.more

  abbrev om : MediaType
  om = other.fields.content_type

  abbrev on : ℕ
  on = length other.body

  abbrev other_further : List ℕ
  other_further = further_of other.fields.more

  same_status : one.status ≡ other.status
  same_status =
      sym (status_read one.status (behind_status one x)) ∙ ap status_at (sym (front_of one x) ∙ same ∙ front_of other y) ∙ status_read other.status (behind_status other y)

  same_parts : in_parts one.status m n further (one.body ++ x) ≡ in_parts other.status om on other_further (other.body ++ y)
  same_parts = sym (parts_are one x (ap (λ (s : Status). has_length (status_line s)) same_status ∙ long)) ∙ same ∙ parts_are other y long

  past_status : after_status m n further (one.body ++ x) ≡ after_status om on other_further (other.body ++ y)
  past_status =
      let from : List ℕ = after_status m n further (one.body ++ x) in
      let to : List ℕ = after_status om on other_further (other.body ++ y) in
      append_cancel_left (status_text (status_line other.status)) from to
      (subst (λ (s : Status). status_text (status_line s) ++ from ≡ status_text (status_line other.status) ++ to) same_status
      (append_cancel_left (codes "HTTP/1.1 ") (status_text (status_line one.status) ++ from) (status_text (status_line other.status) ++ to) same_parts))

  at_type : media_type m ++ after_type n further (one.body ++ x) ≡ media_type om ++ after_type on other_further (other.body ++ y)
  at_type =
      let from : List ℕ = media_type m ++ after_type n further (one.body ++ x) in
      let to : List ℕ = media_type om ++ after_type on other_further (other.body ++ y) in
      append_cancel_left (codes ": ") from to
      (append_cancel_left (codes "Content-Type") (codes ": " ++ from) (codes ": " ++ to)
      (append_cancel_left crlf (codes "Content-Type" ++ (codes ": " ++ from)) (codes "Content-Type" ++ (codes ": " ++ to)) past_status))

  same_type : m ≡ om
  same_type = sym (media_read m (after_type n further (one.body ++ x))) ∙ ap media_at at_type ∙ media_read om (after_type on other_further (other.body ++ y))

  past_type : after_type n further (one.body ++ x) ≡ after_type on other_further (other.body ++ y)
  past_type =
      let from : List ℕ = after_type n further (one.body ++ x) in
      let to : List ℕ = after_type on other_further (other.body ++ y) in
      append_cancel_left (media_type om) from to (subst (λ (t : MediaType). media_type t ++ from ≡ media_type om ++ to) same_type at_type)

  at_length : decimal n ++ after_length further (one.body ++ x) ≡ decimal on ++ after_length other_further (other.body ++ y)
  at_length =
      let from : List ℕ = decimal n ++ after_length further (one.body ++ x) in
      let to : List ℕ = decimal on ++ after_length other_further (other.body ++ y) in
      append_cancel_left (codes ": ") from to
      (append_cancel_left (codes "Content-Length") (codes ": " ++ from) (codes ": " ++ to)
      (append_cancel_left crlf (codes "Content-Length" ++ (codes ": " ++ from)) (codes "Content-Length" ++ (codes ": " ++ to)) past_type))

  same_digits : decimal n ≡ decimal on
  same_digits =
      sym (front_is (decimal n) (10 ∷ (further ++ (crlf ++ (one.body ++ x)))) (decimal_digits n fits)) ∙ ap digits_of_front at_length
      ∙ front_is (decimal on) (10 ∷ (other_further ++ (crlf ++ (other.body ++ y)))) (decimal_digits on other_fits)

  past_length : after_length further (one.body ++ x) ≡ after_length other_further (other.body ++ y)
  past_length =
      let from : List ℕ = after_length further (one.body ++ x) in
      let to : List ℕ = after_length other_further (other.body ++ y) in
      append_cancel_left (decimal on) from to (subst (λ (t : List ℕ). t ++ from ≡ decimal on ++ to) same_digits at_length)

  past_head : one.body ++ x ≡ other.body ++ y
  past_head =
      no_further one.fields.more (one.body ++ x) (other.body ++ y)
      (subst (λ (o : Option Field). further ++ (crlf ++ (one.body ++ x)) ≡ further_of o ++ (crlf ++ (other.body ++ y))) bare
      (append_cancel_left crlf (further ++ (crlf ++ (one.body ++ x))) (other_further ++ (crlf ++ (other.body ++ y))) past_length))

  -- they are one answer, and the same follows
  pub one_answer : (as_answer one ≡ as_answer other) × (x ≡ y)
  one_answer =
      let bodies = split one.body other.body x y (decimal_injective n on fits other_fits same_digits) past_head in
      (λ i. record { status = code_of (same_status i); body = bodies.0 i }, bodies.1)

-- ---- the reply to an ask

bare_made : (e : Encoding) (o : Option (List Child)) → (made_reply e o).fields.more ≡ None
bare_made e None = refl
bare_made e (Some entries) = refl

bare_bytes : (file : Option VerifyValue) (o : Option (List ℕ)) → (with_bytes (bytes_reply file None) o).fields.more ≡ None
bare_bytes file None = refl
bare_bytes file (Some bytes) = refl

abbrev pub CheckLaw : Type 0
CheckLaw = (e : Encoding) (look : Look) (cap : VerifyCap) (verify : Bool) → request_reply e look (request.Check (cap_of cap) [] verify) ≡ checked_reply e.mapped look verify (Some cap)

-- it has no further field
bare_reply : CheckLaw → (e : Encoding) (look : Look) (ask : Ask) (body : List ℕ) → (request_reply e look (meant ask body)).fields.more ≡ None
bare_reply law e look Put body = refl
bare_reply law e look Mkdir body = bare_made e (made body)
bare_reply law e look (Read f) body = bare_bytes (Some (verify_fields f)) (look.gives f)
bare_reply law e look (Check cap verify) body = ap (λ (r : Reply). r.fields.more) (law e look cap verify)

-- and a length
long_made : (e : Encoding) (o : Option (List Child)) → has_length (status_line (made_reply e o).status) ≡ true
long_made e None = refl
long_made e (Some entries) = refl

long_bytes : (file : Option VerifyValue) (o : Option (List ℕ)) → has_length (status_line (with_bytes (bytes_reply file None) o).status) ≡ true
long_bytes file None = refl
long_bytes file (Some bytes) = refl

long_reply : CheckLaw → (e : Encoding) (look : Look) (ask : Ask) (body : List ℕ) → has_length (status_line (request_reply e look (meant ask body)).status) ≡ true
long_reply law e look Put body = refl
long_reply law e look Mkdir body = long_made e (made body)
long_reply law e look (Read f) body = long_bytes (Some (verify_fields f)) (look.gives f)
long_reply law e look (Check cap verify) body = ap (λ (r : Reply). has_length (status_line r.status)) (law e look cap verify)

pub read_off : CheckLaw → (settings : GatewaySettings) (look : Look) (ask : Ask) (body more after : List ℕ) (reply : Reply) → length reply.body < 2 ^ 64
    → length (request_reply (encoding_in settings) look (meant ask body)).body < 2 ^ 64 → sent_for settings look ask body ++ more ≡ rendered (wire_reply reply) false false ++ after
    → IsWrittenAnswer settings look ask body (Ok (as_answer reply)) × (more ≡ after)
read_off law settings look ask body more after reply fits written_fits same =
    let both = one_answer reply (request_reply (encoding_in settings) look (meant ask body)) after more fits written_fits (bare_reply law (encoding_in settings) look ask body) (long_reply law (encoding_in settings) look ask body) (sym same) in
    (both.0, sym both.1)
