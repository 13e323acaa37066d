-- `head_of` says of a block what httparse's grammar says of it.
use Rattle.std.proofs.Common.{◌≡◌, ℕ, ◌+◌, ◌-◌, ◌<◌, ◌≤◌, Bool, true, false, ◌&&◌, List, [], ◌∷◌, ◌++◌, length, drop, Some, refl, sym, ap, ◌∙◌, subst, arith, append_assoc, append-nil, length-append}
use Rattle.std.specs.Prelude.{bytes_eq, slice_index, nat_lt, nat_le, not, codes}
use Rattle.std.proofs.lemmas.Option.{option_and_then_some, cond_some}
use Rattle.std.specs.List.{All, list_all, slice_split, flat_map}
use Rattle.std.specs.Str.{is_utf8}
use Rattle.std.proofs.Math.Dec.{eqb}
use Rattle.std.proofs.lemmas.Bool.Decides.{nat_tests, Decides-eqb}
use Rattle.std.proofs.lemmas.List.Elements.{All-nil, All-cons, All-append, All-weaker, All-head, All-tail}
use Rattle.std.proofs.lemmas.List.Splits.{slice_split_at, slice_split_none}
use Rattle.std.proofs.lemmas.List.Sums.{AllPass-from_list_all, list_all-from_AllPass}
use Rattle.std.proofs.lemmas.Slice.Eq.{bytes_eq-Decides}
use Rattle.std.proofs.lemmas.Str.{IsUtf8-from_is_utf8, is_utf8-from_IsUtf8}
use Rattle.std.proofs.Math.Seq.{drop-append-add}
use Rattle.httparse.specs.Grammar.{LineEnd, crlf, lf, print_end, print_blank, print_version, Field, IsField, print_field, print_section, is_token_byte, is_uri_byte, is_value_byte, is_token, IsToken, RequestHead, IsRequestHead, print_request, ReadsRequest}
use Rattle.httparse.proofs.GrammarLemmas.{print_request-append, cons-append}
use Rattle.http_edge.specs.Block.{is_line_feed, is_carriage_return, is_space, is_colon, text_and_end, line_of, first_part, field_of, section_of, parts_from, parts_of, is_field, is_request_head, printed_as, head_of}

-- ---- tests

and_true : (a b : Bool) → (a && b) ≡ true → (a ≡ true) × (b ≡ true)
and_true true b e = (refl, e)
and_true false b e = (e, absurd (cc))

both_true : (a b : Bool) → a ≡ true → b ≡ true → (a && b) ≡ true
both_true a b p q = cc

abbrev pub IsNot : ℕ → ℕ → Type 0
IsNot c b = eqb b c ≡ false

-- what passes the test is not the byte c, which fails it
differs : (test : ℕ → Bool) (c b : ℕ) → test c ≡ false → test b ≡ true → eqb b c ≡ false
differs test c b none pass = elim (eqb b c) as (λ v. eqb b c ≡ v → v ≡ false) [
  | true ↦ λ e. absurd (let same : b ≡ c = (Decides-eqb b c).0 e in cc)
  | false ↦ λ _. refl
] refl

-- no byte that passes the test is c
none_is : (test : ℕ → Bool) (c : ℕ) (bytes : List ℕ) → test c ≡ false → All (λ b. test b ≡ true) bytes
    → All (IsNot c) bytes
none_is test c bytes none = All-weaker _ _ (λ b h. differs test c b none h) bytes

token_no : (c : ℕ) → is_token_byte c ≡ false → (bytes : List ℕ) → IsToken bytes → All (IsNot c) bytes
token_no c none bytes h = none_is is_token_byte c bytes none h.1

space_no_token : is_token_byte 32 ≡ false
unfolding is_token_byte
space_no_token = refl

colon_no_token : is_token_byte 58 ≡ false
unfolding is_token_byte
colon_no_token = refl

pub lf_no_token : is_token_byte 10 ≡ false
unfolding is_token_byte
lf_no_token = refl

pub cr_no_token : is_token_byte 13 ≡ false
unfolding is_token_byte
cr_no_token = refl

-- ---- lines

-- the CR of a line's end, which stands before the LF
abbrev cr_of : LineEnd → List ℕ
cr_of crlf = 13 ∷ []
cr_of lf = []

line_split : (text : List ℕ) (end : LineEnd) (s : List ℕ) → All (IsNot 10) text
    → slice_split is_line_feed (text ++ (print_end end ++ s)) ≡ (text ++ cr_of end) ∷ slice_split is_line_feed s
line_split text crlf s none =
    ap (slice_split is_line_feed) (sym (append_assoc text (13 ∷ []) (10 ∷ s)))
    ∙ slice_split_at is_line_feed (text ++ 13 ∷ []) 10 s
    (All-append (IsNot 10) text (13 ∷ []) none (All-cons (IsNot 10) 13 [] refl (All-nil (IsNot 10)))) refl
line_split text lf s none =
    slice_split_at is_line_feed text 10 s none refl ∙ ap (λ t. t ∷ slice_split is_line_feed s) (sym (append-nil text))

line_of_is : (text : List ℕ) (end : LineEnd) → All (IsNot 13) text
    → line_of (text ++ cr_of end) ≡ (text, end)
line_of_is text crlf none = ap text_and_end (slice_split_at is_carriage_return text 13 [] none refl)
line_of_is text lf none =
    ap text_and_end (ap (slice_split is_carriage_return) (append-nil text) ∙ slice_split_none is_carriage_return text none)

-- ---- fields

unfoldable pub field_text : Field → List ℕ
field_text f = f.name ++ 58 ∷ f.raw

pub field_line : (f : Field) (s : List ℕ) → print_field f ++ s ≡ field_text f ++ (print_end f.end ++ s)
unfolding field_text
field_line f s = append_assoc (f.name ++ 58 ∷ f.raw) (print_end f.end) s

pub text_no : (c : ℕ) → is_token_byte c ≡ false → is_value_byte c ≡ false → eqb 58 c ≡ false → (f : Field) → IsField f
    → All (IsNot c) (field_text f)
unfolding field_text
text_no c token value colon f h =
    All-append (IsNot c) f.name (58 ∷ f.raw) (token_no c token f.name h.name)
    (All-cons (IsNot c) 58 f.raw colon (none_is is_value_byte c f.raw value h.raw))

field_again : (f : Field) → IsField f → field_of (field_text f, f.end) ≡ f
unfolding field_text
field_again f h =
    let split : first_part (slice_split is_colon (f.name ++ 58 ∷ f.raw)) ≡ f.name
    = ap first_part (slice_split_at is_colon f.name 58 f.raw (token_no 58 colon_no_token f.name h.name) refl) in
    rw split (let raw : drop (length f.name + 1) (f.name ++ 58 ∷ f.raw) ≡ f.raw = drop-append-add f.name (58 ∷ f.raw) 1 in rw raw refl)

-- an item with a byte has a length
some_length : (f : Field) → IsField f → eqb (length (field_text f)) 0 ≡ false
unfolding field_text
some_length f h = let positive : 0 < length f.name = h.name.0 in grind (arith, nat_tests, length-append {A = ℕ} f.name (58 ∷ f.raw))

section_again : (fields : List Field) (last : LineEnd) → All IsField fields
    → section_of (slice_split is_line_feed (print_section fields last)) ≡ (fields, last)
section_again [] last h =
    let split : slice_split is_line_feed (print_end last) ≡ cr_of last ∷ ([] ∷ [])
    = ap (slice_split is_line_feed) (sym (append-nil (print_end last))) ∙ line_split [] last [] (All-nil (IsNot 10)) in
    let line : line_of (cr_of last) ≡ ([], last) = line_of_is [] last (All-nil (IsNot 13)) in
    ap section_of split ∙ rw line refl
section_again (f ∷ fields) last h =
    let valid : IsField f = All-head IsField f fields h in
    let more = section_again fields last (All-tail IsField f fields h) in
    let text : print_section (f ∷ fields) last ≡ field_text f ++ (print_end f.end ++ print_section fields last)
    = append_assoc (print_field f) (flat_map print_field fields) (print_end last) ∙ field_line f (print_section fields last) in
    let split : slice_split is_line_feed (print_section (f ∷ fields) last)
    ≡ (field_text f ++ cr_of f.end) ∷ slice_split is_line_feed (print_section fields last)
    = ap (slice_split is_line_feed) text
    ∙ line_split (field_text f) f.end (print_section fields last) (text_no 10 lf_no_token refl refl f valid) in
    let line : line_of (field_text f ++ cr_of f.end) ≡ (field_text f, f.end)
    = line_of_is (field_text f) f.end (text_no 13 cr_no_token refl refl f valid) in
    ap section_of split ∙ rw (line, some_length f valid, field_again f valid, more) refl

-- ---- heads

positive : (n : ℕ) → 0 < n → nat_lt 0 n ≡ true
positive n h = grind (arith, nat_tests)

from_positive : (n : ℕ) → nat_lt 0 n ≡ true → 0 < n
from_positive n h = grind (arith, nat_tests)

test_field : (f : Field) → IsField f → is_field f ≡ true
test_field f v = both_true _ _
    (both_true _ _ (positive (length f.name) v.name.0) (list_all-from_AllPass is_token_byte f.name v.name.1))
    (list_all-from_AllPass is_value_byte f.raw v.raw)

from_test_field : (f : Field) → is_field f ≡ true → IsField f
from_test_field f e =
    let parts = and_true (is_token f.name) (list_all is_value_byte f.raw) e in
    let name = and_true (nat_lt 0 (length f.name)) (list_all is_token_byte f.name) parts.0 in
    record {
      name = (from_positive (length f.name) name.0, AllPass-from_list_all is_token_byte f.name name.1);
      raw = AllPass-from_list_all is_value_byte f.raw parts.1;
    }

test_head : (h : RequestHead) → IsRequestHead h → is_request_head h ≡ true
unfolding is_request_head
test_head h v = both_true _ _
    (both_true _ _ (positive (length h.method) v.method.0) (list_all-from_AllPass is_token_byte h.method v.method.1))
    (both_true _ _
    (both_true _ _ (positive (length h.target) v.target.0) (list_all-from_AllPass is_uri_byte h.target v.target.1))
    (both_true _ _ (is_utf8-from_IsUtf8 h.target v.target_text)
    (both_true _ _ (let bound : h.minor ≤ 1 = v.minor in grind (arith, nat_tests))
    (list_all-from_AllPass is_field h.fields (All-weaker IsField (λ f. is_field f ≡ true) test_field h.fields v.fields)))))

from_test : (h : RequestHead) → is_request_head h ≡ true → IsRequestHead h
unfolding is_request_head
from_test h e =
    let a = and_true (is_token h.method) _ e in
    let method = and_true (nat_lt 0 (length h.method)) (list_all is_token_byte h.method) a.0 in
    let b = and_true (nat_lt 0 (length h.target) && list_all is_uri_byte h.target) _ a.1 in
    let target = and_true (nat_lt 0 (length h.target)) (list_all is_uri_byte h.target) b.0 in
    let c = and_true (is_utf8 h.target) (nat_le h.minor 1 && list_all is_field h.fields) b.1 in
    let d = and_true (nat_le h.minor 1) (list_all is_field h.fields) c.1 in
    record {
      method = (from_positive (length h.method) method.0, AllPass-from_list_all is_token_byte h.method method.1);
      target = (from_positive (length h.target) target.0, AllPass-from_list_all is_uri_byte h.target target.1);
      target_text = IsUtf8-from_is_utf8 h.target c.0;
      minor = (let bound : nat_le h.minor 1 ≡ true = d.0 in grind (arith, nat_tests));
      fields = All-weaker (λ f. is_field f ≡ true) IsField from_test_field h.fields (AllPass-from_list_all is_field h.fields d.1);
    }

-- the first line of a head
unfoldable pub start_text : RequestHead → List ℕ
start_text h = h.method ++ 32 ∷ (h.target ++ 32 ∷ print_version h.minor)

abbrev pub is_not : ℕ → ℕ → Bool
is_not c b = not (eqb b c)

from_is_not : (c b : ℕ) → is_not c b ≡ true → IsNot c b
from_is_not c b e = elim (eqb b c) as (λ v. not v ≡ true → v ≡ false) [ true ↦ λ f. absurd (cc) | false ↦ λ _. refl ] e

version_no : (c minor : ℕ) → list_all (is_not c) (codes "HTTP/1.") ≡ true → eqb (48 + minor) c ≡ false
    → All (IsNot c) (print_version minor)
version_no c minor word digit =
    All-append (IsNot c) (codes "HTTP/1.") ((48 + minor) ∷ [])
    (All-weaker (λ b. is_not c b ≡ true) (IsNot c) (from_is_not c) (codes "HTTP/1.") (AllPass-from_list_all (is_not c) (codes "HTTP/1.") word))
    (All-cons (IsNot c) (48 + minor) [] digit (All-nil (IsNot c)))

pub start_no : (c : ℕ) → is_token_byte c ≡ false → is_uri_byte c ≡ false → eqb 32 c ≡ false
    → list_all (is_not c) (codes "HTTP/1.") ≡ true → (h : RequestHead) → IsRequestHead h → eqb (48 + h.minor) c ≡ false
    → All (IsNot c) (start_text h)
unfolding start_text
start_no c token uri space word h v digit =
    All-append (IsNot c) h.method (32 ∷ (h.target ++ 32 ∷ print_version h.minor)) (token_no c token h.method v.method)
    (All-cons (IsNot c) 32 (h.target ++ 32 ∷ print_version h.minor) space
    (All-append (IsNot c) h.target (32 ∷ print_version h.minor) (none_is is_uri_byte c h.target uri v.target.1)
    (All-cons (IsNot c) 32 (print_version h.minor) space (version_no c h.minor word digit))))

words_again : (h : RequestHead) → IsRequestHead h
    → slice_split is_space (start_text h) ≡ h.method ∷ (h.target ∷ (print_version h.minor ∷ []))
unfolding start_text
words_again h v =
    let bound : h.minor ≤ 1 = v.minor in
    let digit : eqb (48 + h.minor) 32 ≡ false = grind (arith, nat_tests) in
    slice_split_at is_space h.method 32 (h.target ++ 32 ∷ print_version h.minor) (token_no 32 space_no_token h.method v.method) refl
    ∙ ap (λ (parts : List (List ℕ)). h.method ∷ parts)
    (slice_split_at is_space h.target 32 (print_version h.minor) (none_is is_uri_byte 32 h.target refl v.target.1) refl
    ∙ ap (λ (parts : List (List ℕ)). h.target ∷ parts) (slice_split_none is_space (print_version h.minor) (version_no 32 h.minor refl digit)))

start_length : (h : RequestHead) → IsRequestHead h → eqb (length (start_text h)) 0 ≡ false
unfolding start_text
start_length h v =
    let some : 0 < length h.method = v.method.0 in
    grind (arith, nat_tests, length-append {A = ℕ} h.method (32 ∷ (h.target ++ 32 ∷ print_version h.minor)))

abbrev no_blank : RequestHead → RequestHead
no_blank h = record h { blank = [] }

start_again : (h : RequestHead) → IsRequestHead h
    → parts_from (slice_split is_line_feed (start_text h ++ (print_end h.line_end ++ print_section h.fields h.last)))
    ≡ Some (no_blank h)
start_again h v =
    let bound : h.minor ≤ 1 = v.minor in
    let digit10 : eqb (48 + h.minor) 10 ≡ false = grind (arith, nat_tests) in
    let digit13 : eqb (48 + h.minor) 13 ≡ false = grind (arith, nat_tests) in
    let split : slice_split is_line_feed (start_text h ++ (print_end h.line_end ++ print_section h.fields h.last))
    ≡ (start_text h ++ cr_of h.line_end) ∷ slice_split is_line_feed (print_section h.fields h.last)
    = line_split (start_text h) h.line_end (print_section h.fields h.last) (start_no 10 lf_no_token refl refl refl h v digit10) in
    let line : line_of (start_text h ++ cr_of h.line_end) ≡ (start_text h, h.line_end)
    = line_of_is (start_text h) h.line_end (start_no 13 cr_no_token refl refl refl h v digit13) in
    let minor : slice_index (print_version h.minor) 7 - 48 ≡ h.minor = omega arith in
    ap parts_from split ∙ rw (line, start_length h v, words_again h v, section_again h.fields h.last v.fields, minor) refl

blanks_again : (h : RequestHead) (ends : List LineEnd) (s : List ℕ) → parts_from (slice_split is_line_feed s) ≡ Some (no_blank h)
    → parts_from (slice_split is_line_feed (print_blank ends ++ s)) ≡ Some (record h { blank = ends })
blanks_again h [] s e = e
blanks_again h (end ∷ ends) s e =
    let text : print_blank (end ∷ ends) ++ s ≡ print_end end ++ (print_blank ends ++ s)
    = append_assoc (print_end end) (print_blank ends) s in
    let split : slice_split is_line_feed (print_blank (end ∷ ends) ++ s) ≡ cr_of end ∷ slice_split is_line_feed (print_blank ends ++ s)
    = ap (slice_split is_line_feed) text ∙ line_split [] end (print_blank ends ++ s) (All-nil (IsNot 10)) in
    let line : line_of (cr_of end) ≡ ([], end) = line_of_is [] end (All-nil (IsNot 13)) in
    ap parts_from split ∙ rw (line, blanks_again h ends s e) refl

pub regrouped : (h : RequestHead) → print_request h
    ≡ print_blank h.blank ++ (start_text h ++ (print_end h.line_end ++ print_section h.fields h.last))
unfolding start_text
regrouped h =
    sym (append-nil (print_request h)) ∙ print_request-append h []
    ∙ simp (append-nil, append_assoc, cons-append)

parts_again : (h : RequestHead) → IsRequestHead h → parts_of (print_request h) ≡ Some h
parts_again h v =
    ap parts_of (regrouped h)
    ∙ blanks_again h h.blank (start_text h ++ (print_end h.line_end ++ print_section h.fields h.last)) (start_again h v)

-- what `head_of` gives is a head of the grammar
pub head_of_reads : (block : List ℕ) (h : RequestHead) → head_of block ≡ Some h → ReadsRequest block h []
unfolding head_of
head_of_reads block h e =
    option_and_then_some (printed_as block) (parts_of block) h e (λ x found printed.
    let test = cond_some (is_request_head x && bytes_eq (print_request x) block) x h printed in
    let both = and_true (is_request_head x) (bytes_eq (print_request x) block) test.0 in
    let same : x ≡ h = test.1 in
    let text : print_request x ≡ block = (bytes_eq-Decides (print_request x) block).0 both.1 in
    subst (λ (y : RequestHead). ReadsRequest block y []) same
    (from_test x both.0, sym text ∙ sym (append-nil (print_request x))))

-- it gives the head of the grammar that there is
pub head_of_finds : (block : List ℕ) (h : RequestHead) → ReadsRequest block h [] → head_of block ≡ Some h
unfolding head_of
head_of_finds block h r =
    let text : block ≡ print_request h = r.1 ∙ append-nil (print_request h) in
    let test : (is_request_head h && bytes_eq (print_request h) block) ≡ true
    = both_true _ _ (test_head h r.0) ((bytes_eq-Decides (print_request h) block).1 (sym text)) in
    let parts : parts_of block ≡ Some h = ap parts_of text ∙ parts_again h r.0 in
    rw (parts, test) refl
