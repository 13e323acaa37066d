-- Lines of a state: fields with a space between them.
use Rattle.std.proofs.Common.{◌≡◌, ◌≢◌, ℕ, ◌+◌, ◌<◌, ◌≤◌, ◌^◌, true, false, List, [], ◌∷◌, ◌++◌, length, decimal, All, Option, Some, None, refl, sym, ap, ap₂, ◌∙◌, subst, append_assoc, arith, ne_eqb}
use Rattle.std.specs.Prelude.{◌==◌, ◌↔◌, count_by, MatchOption}
use Rattle.std.specs.List.{slice_split}
use Rattle.std.specs.Str.Parse.{digits_value, AllDigits}
use Rattle.std.proofs.lemmas.Bool.{both_ways}
use Rattle.std.proofs.lemmas.Fmt.{digits_decimal, decimal_injective}
use Rattle.std.proofs.lemmas.List.{get_or_default}
use Rattle.std.proofs.lemmas.List.Elements.{All-weaker}
use Rattle.std.proofs.lemmas.List.Splits.{slice_split_at, slice_split_none, join_with_byte-slice_split, length-slice_split}
use Rattle.std.specs.List.{join_with_byte}
use Rattle.std.proofs.lemmas.Str.Parse.{IsNumeralModel, numerals_by_value, tells_digits, not_in_digits}
use Rattle.percent_encoding.specs.AsciiSet.{should_percent_encode}
use Rattle.percent_encoding.specs.Percent.{percent_encode, percent_decode}
use Rattle.percent_encoding.proofs.AsciiSetLemmas.{escaped_from_inside}
use Rattle.percent_encoding.proofs.PercentLemmas.{IsEscapeByte, All-percent_encode, round_trip}
use Rattle.octets.specs.Cut.{IsCutAt}
use Rattle.octets.specs.Decimal.{number_to}
use Rattle.caps.specs.CapTexts.{IsCap, IsCapText, cap_text}
use Rattle.caps.specs.Kinds.{is_verify_cap}
use Rattle.caps.specs.declared.cap.Cap.{Cap}
use Rattle.client_tasks.specs.State.{escaped_bytes, spaced, state_line, IsRecordable, AreFields}
use Rattle.client_tasks.specs.declared.state.Stamp.{Stamp}

-- the parts between spaces
abbrev pub words : List ℕ → List (List ℕ)
words text = slice_split (λ b. b == 32) text

-- no space stands in it
abbrev pub NoSpace : List ℕ → Type 0
NoSpace text = All (λ b. b ≢ 32) text

no_space : (text : List ℕ) → NoSpace text → All (λ b. (b == 32) ≡ false) text
no_space text none = All-weaker (λ b. b ≢ 32) (λ b. (b == 32) ≡ false) (λ b other. ne_eqb b 32 other) text none

pub words_cut : (text front back : List ℕ) → IsCutAt 32 text front back → words text ≡ front ∷ words back
words_cut text front back cut = ap words cut.parts ∙ slice_split_at (λ b. b == 32) front 32 back (no_space front cut.before) refl

pub words_one : (text : List ℕ) → NoSpace text → words text ≡ text ∷ []
words_one text none = slice_split_none (λ b. b == 32) text (no_space text none)

words_spaced : (one two three four : List ℕ) → NoSpace one → NoSpace two → NoSpace three → words (spaced one two three four) ≡ one ∷ two ∷ three ∷ words four
words_spaced one two three four a b c =
    slice_split_at (λ x. x == 32) one 32 (two ++ (32 ∷ (three ++ (32 ∷ four)))) (no_space one a) refl
    ∙ ap (λ t. one ∷ t) (slice_split_at (λ x. x == 32) two 32 (three ++ (32 ∷ four)) (no_space two b) refl
    ∙ ap (λ t. two ∷ t) (slice_split_at (λ x. x == 32) three 32 four (no_space three c) refl))

-- a text is told by its parts
one_of_words : (text other : List ℕ) → words text ≡ words other → text ≡ other
one_of_words text other same = sym (join_with_byte-slice_split 32 text) ∙ ap (join_with_byte 32) same ∙ join_with_byte-slice_split 32 other

digits : IsNumeralModel (AllDigits 10) (digits_value 10)
digits = numerals_by_value (AllDigits 10) tells_digits

decimal_no_space : (number : ℕ) → number < 2 ^ 64 → NoSpace (decimal number)
decimal_no_space number small = λ k d l e.
    not_in_digits digits (decimal number) 32 (digits_decimal digits number small) (λ r. absurd (omega arith)) k l (get_or_default (decimal number) k 0 d l ∙ e)

-- an escaped path has none
pub path_no_space : (path : List ℕ) → NoSpace (percent_encode escaped_bytes path)
path_no_space path = All-percent_encode (λ b. b ≢ 32) escaped_bytes path kept escape
  where
    space_escaped : should_percent_encode escaped_bytes 32 ≡ true
    space_escaped = escaped_from_inside escaped_bytes 32 refl

    kept : (b : ℕ) → should_percent_encode escaped_bytes b ≡ false → b ≢ 32
    kept b is e = both_ways (should_percent_encode escaped_bytes 32) (subst (λ (n : ℕ). should_percent_encode escaped_bytes n ≡ false) e is) space_escaped

    escape : (b : ℕ) → IsEscapeByte b → b ≢ 32
    escape b is e = grind (arith)

-- it is read back
pub path_again : (path : List ℕ) → All (λ b. b < 256) path → percent_decode (percent_encode escaped_bytes path) ≡ path
path_again path bytes = round_trip escaped_bytes path refl bytes

pub words_of_fields : (line : List ℕ) (size time : ℕ) (path cap : List ℕ) → AreFields line size time path cap → words line ≡ decimal size ∷ decimal time ∷ path ∷ words cap
words_of_fields line size time path cap are =
    ap words are.parted ∙ words_spaced (decimal size) (decimal time) path cap (decimal_no_space size are.size_fits) (decimal_no_space time are.time_fits) are.plain

-- a recordable file's line has its fields
pub recorded : (line path : List ℕ) (stamp : Stamp) (cap : Cap) → IsRecordable path stamp cap → line ≡ state_line path stamp cap
    → AreFields line stamp.size stamp.time (percent_encode escaped_bytes path) (cap_text cap)
unfolding state_line
recorded line path stamp cap is e = record { parted = e; plain = path_no_space path; size_fits = is.size_fits; time_fits = is.time_fits }

head_same : {A : Type 0} (x y : A) (xs ys : List A) → x ∷ xs ≡ y ∷ ys → x ≡ y
head_same x y xs ys e = cc

tail_same : {A : Type 0} (x y : A) (xs ys : List A) → x ∷ xs ≡ y ∷ ys → xs ≡ ys
tail_same x y xs ys e = cc

-- the fields of a line are those of one row
pub record AreSameFields (size time : ℕ) (path cap : List ℕ) (other_size other_time : ℕ) (other_path other_cap : List ℕ) : Type 0 where
  pub size_is : size ≡ other_size
  pub time_is : time ≡ other_time
  pub path_is : path ≡ other_path
  pub cap_is : cap ≡ other_cap

pub one_row : (line : List ℕ) (size time : ℕ) (path cap : List ℕ) (size' time' : ℕ) (path' cap' : List ℕ) → AreFields line size time path cap → AreFields line size' time' path' cap'
    → AreSameFields size time path cap size' time' path' cap'
one_row line size time path cap size' time' path' cap' one other =
    let same : decimal size ∷ decimal time ∷ path ∷ words cap ≡ decimal size' ∷ decimal time' ∷ path' ∷ words cap' =
    sym (words_of_fields line size time path cap one) ∙ words_of_fields line size' time' path' cap' other in
    let more = tail_same _ _ _ _ same in
    let rest = tail_same _ _ _ _ more in
    record {
      size_is = decimal_injective size size' one.size_fits other.size_fits (head_same _ _ _ _ same);
      time_is = decimal_injective time time' one.time_fits other.time_fits (head_same _ _ _ _ more);
      path_is = head_same _ _ _ _ rest;
      cap_is = one_of_words cap cap' (tail_same _ _ _ _ rest);
    }

-- what the law says of a cap and its text
abbrev pub HaveText : Type 0
HaveText = (cap : Cap) → IsCap cap → IsCapText cap (cap_text cap)

abbrev pub HaveOneCap : Type 0
HaveOneCap = (text : List ℕ) (cap other : Cap) → IsCapText cap text → IsCapText other text → cap ≡ other

-- a line without fields is no file's
pub not_without_fields : (line path : List ℕ) (stamp : Stamp) (cap : Cap) → ((size time : ℕ) (place text : List ℕ) → ¬ (AreFields line size time place text))
    → IsRecordable path stamp cap → ¬ (line ≡ state_line path stamp cap)
not_without_fields line path stamp cap none is e = none stamp.size stamp.time (percent_encode escaped_bytes path) (cap_text cap) (recorded line path stamp cap is e)

row_of : (line place text path : List ℕ) (size time : ℕ) (stamp : Stamp) (cap : Cap) → AreFields line size time place text → IsRecordable path stamp cap → line ≡ state_line path stamp cap
    → AreSameFields size time place text stamp.size stamp.time (percent_encode escaped_bytes path) (cap_text cap)
row_of line place text path size time stamp cap are is e =
    one_row line size time place text stamp.size stamp.time (percent_encode escaped_bytes path) (cap_text cap) are (recorded line path stamp cap is e)

-- nor is one whose last field is no cap that reads
pub not_without_cap : (line place text path : List ℕ) (size time : ℕ) (stamp : Stamp) (cap : Cap) → HaveText → AreFields line size time place text
    → ((other : Cap) → IsCapText other text → is_verify_cap other ≢ false) → IsRecordable path stamp cap → ¬ (line ≡ state_line path stamp cap)
not_without_cap line place text path size time stamp cap have are none is e =
    let row = row_of line place text path size time stamp cap are is e in
    none cap (subst (λ (t : List ℕ). IsCapText cap t) (sym row.cap_is) (have cap is.cap_is)) is.reads

-- the fields of a file's line are that file's
pub record IsThatFile (place : List ℕ) (own : Stamp) (read : Cap) (path : List ℕ) (stamp : Stamp) (cap : Cap) : Type 0 where
  pub path_is : percent_decode place ≡ path
  pub stamp_is : own ≡ stamp
  pub cap_is : read ≡ cap

pub that_file : (line place text path : List ℕ) (size time : ℕ) (stamp : Stamp) (read cap : Cap) → HaveText → HaveOneCap → AreFields line size time place text
    → IsCapText read text → IsRecordable path stamp cap → line ≡ state_line path stamp cap → IsThatFile place (record { size = size; time = time }) read path stamp cap
that_file line place text path size time stamp read cap have one are of_text is e =
    let row = row_of line place text path size time stamp cap are is e in
    record {
      path_is = ap percent_decode row.path_is ∙ path_again path is.path_bytes;
      stamp_is = ap₂ (λ (s t : ℕ). record { size = s; time = t }) row.size_is row.time_is;
      cap_is = one (cap_text cap) read cap (subst (λ (t : List ℕ). IsCapText read t) row.cap_is of_text) (have cap is.cap_is);
    }

-- the fields of a file's line make that line
pub same_line : (line place text path : List ℕ) (size time : ℕ) (stamp : Stamp) (read cap : Cap) → HaveText → HaveOneCap → AreFields line size time place text
    → IsCapText read text → IsRecordable path stamp cap → line ≡ state_line path stamp cap
    → state_line (percent_decode place) (record { size = size; time = time }) read ≡ line
same_line line place text path size time stamp read cap have one are of_text is e =
    let own : Stamp = record { size = size; time = time } in
    let that : IsThatFile place own read path stamp cap = that_file line place text path size time stamp read cap have one are of_text is e in
    ap (λ (p : List ℕ). state_line p own read) that.path_is ∙ ap (λ (s : Stamp). state_line path s read) that.stamp_is ∙ ap (λ (c : Cap). state_line path stamp c) that.cap_is ∙ sym e

-- seven texts, one after the other
pub seven : (a b c d e f g : List ℕ) (t u v w x y z : List ℕ) → t ≡ a → u ≡ t ++ b → v ≡ u ++ c → w ≡ v ++ d → x ≡ w ++ e → y ≡ x ++ f → z ≡ y ++ g
    → z ≡ a ++ (b ++ (c ++ (d ++ (e ++ (f ++ g)))))
seven a b c d e f g t u v w x y z p q r s l m n =
    n ∙ ap (λ (k : List ℕ). k ++ g) (m ∙ ap (λ (k : List ℕ). k ++ f) (l ∙ ap (λ (k : List ℕ). k ++ e) (s ∙ ap (λ (k : List ℕ). k ++ d) (r ∙ ap (λ (k : List ℕ). k ++ c) (q ∙ ap (λ (k : List ℕ). k ++ b) p)))))
    ∙ simp append_assoc

no_part : {A : Type 0} (x : A) (xs : List A) → [] ≡ x ∷ xs → ⊥
no_part x xs e = cc

-- what the law says of numbers and their texts
abbrev pub AreNumbers : Type 0
AreNumbers = (most number : ℕ) (text : List ℕ) → most < 2 ^ 64 → ((number_to most text ≡ Some number) ↔ ((number ≤ most) × (text ≡ decimal number)))

-- too few spaces
pub one_part : (line : List ℕ) (size time : ℕ) (path cap : List ℕ) → NoSpace line → ¬ (AreFields line size time path cap)
one_part line size time path cap none are =
    let e : line ∷ [] ≡ decimal size ∷ decimal time ∷ path ∷ words cap = sym (words_one line none) ∙ words_of_fields line size time path cap are in
    no_part (decimal time) (path ∷ words cap) (tail_same _ _ _ _ e)

pub two_parts : (line one two : List ℕ) (size time : ℕ) (path cap : List ℕ) → IsCutAt 32 line one two → NoSpace two → ¬ (AreFields line size time path cap)
two_parts line one two size time path cap cut none are =
    let e : one ∷ two ∷ [] ≡ decimal size ∷ decimal time ∷ path ∷ words cap =
    sym (words_cut line one two cut ∙ ap (λ (t : List (List ℕ)). one ∷ t) (words_one two none)) ∙ words_of_fields line size time path cap are in
    no_part path (words cap) (tail_same _ _ _ _ (tail_same _ _ _ _ e))

pub three_parts : (line one rest two three : List ℕ) (size time : ℕ) (path cap : List ℕ) → IsCutAt 32 line one rest → IsCutAt 32 rest two three → NoSpace three
    → ¬ (AreFields line size time path cap)
three_parts line one rest two three size time path cap cut more none are =
    let e : one ∷ two ∷ three ∷ [] ≡ decimal size ∷ decimal time ∷ path ∷ words cap =
    sym (words_cut line one rest cut ∙ ap (λ (t : List (List ℕ)). one ∷ t) (words_cut rest two three more ∙ ap (λ (t : List (List ℕ)). two ∷ t) (words_one three none)))
    ∙ words_of_fields line size time path cap are in
    let ends : [] ≡ words cap = tail_same _ _ _ _ (tail_same _ _ _ _ (tail_same _ _ _ _ e)) in
    let none_left : 0 ≡ length (words cap) = ap length ends in
    let some : length (words cap) ≡ count_by (λ b. b == 32) cap + 1 = length-slice_split (λ b. b == 32) cap in
    omega arith

not_read : AreNumbers → (word : List ℕ) (number : ℕ) → number < 2 ^ 64 → word ≡ decimal number → None ≡ number_to 18446744073709551615 word → ⊥
not_read are word number small is none =
    let read : number_to 18446744073709551615 word ≡ Some number = (are 18446744073709551615 number word (omega arith)).1 (omega arith, is) in
    let e : None ≡ Some number = none ∙ read in
    cc

-- a first or a second field that is no number
pub no_size : AreNumbers → (line one rest : List ℕ) (size time : ℕ) (path cap : List ℕ) → IsCutAt 32 line one rest → None ≡ number_to 18446744073709551615 one
    → ¬ (AreFields line size time path cap)
no_size are line one rest size time path cap cut none fields =
    let e : one ∷ words rest ≡ decimal size ∷ decimal time ∷ path ∷ words cap = sym (words_cut line one rest cut) ∙ words_of_fields line size time path cap fields in
    not_read are one size fields.size_fits (head_same _ _ _ _ e) none

pub no_time : AreNumbers → (line one rest two more : List ℕ) (size time : ℕ) (path cap : List ℕ) → IsCutAt 32 line one rest → IsCutAt 32 rest two more
    → None ≡ number_to 18446744073709551615 two → ¬ (AreFields line size time path cap)
no_time are line one rest two more size time path cap cut next none fields =
    let e : one ∷ two ∷ words more ≡ decimal size ∷ decimal time ∷ path ∷ words cap =
    sym (words_cut line one rest cut ∙ ap (λ (t : List (List ℕ)). one ∷ t) (words_cut rest two more next)) ∙ words_of_fields line size time path cap fields in
    not_read are two time fields.time_fits (head_same _ _ _ _ (tail_same _ _ _ _ e)) none

-- what is known of an option that is none, or some
pub none_of : {T : Type 0} (o : Option T) (P : Type 0) (Q : T → Type 0) → o ≡ None → MatchOption o P Q → P
none_of None P Q e known = known
none_of (Some x) P Q e known = absurd cc

pub some_of : {T : Type 0} (o : Option T) (P : Type 0) (Q : T → Type 0) (x : T) → o ≡ Some x → MatchOption o P Q → Q x
some_of {T = T} o P Q x e known = subst (λ (p : Option T). MatchOption p P Q) e known
