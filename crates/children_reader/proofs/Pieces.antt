-- Members of children JSON of which pieces were read.
use Rattle.std.proofs.Common.{◌≡◌, ◌≢◌, ℕ, ◌+◌, ◌-◌, ◌<◌, ◌≤◌, nat_lt, Bool, true, false, List, [], ◌∷◌, ◌++◌, length, take, drop, get_or, Option, Some, None, IsUtf8, refl, sym, ap, ap₂, ◌∙◌, subst, arith, append_assoc, append-nil, length-append}
use Rattle.std.proofs.lemmas.Bool.{ltb-true, lt-ltb}
use Rattle.std.proofs.lemmas.List.{take_at, take-append-drop, drop-drop, get_or_at}
use Rattle.std.proofs.Math.Seq.{drop-append-add, drop-append_seam, take-append_seam}
use Rattle.std.proofs.lemmas.Str.{IsUtf8-append, IsUtf8-take, IsUtf8-drop, IsCharBoundary-from_take, IsCharBoundary-before_ascii}
use Rattle.json.specs.Token.{Token, begin_object}
use Rattle.json.specs.Lex.{between, lex, punctuate, tokens}
use Rattle.json_seams.specs.Cuts.{IsCutComma}
use Rattle.json_seams.specs.Modes.{mode_after, is_outside}
use Rattle.json_seams.specs.Seams.{behind_comma, seam}
use Rattle.json_members.specs.MemberCuts.{first_token}
use Rattle.children_reader.specs.Collected.{object_behind, IsPartUpTo}
use Rattle.children_reader.specs.Kept.{IsNoObject}
use Rattle.children_reader.specs.Piecewise.{read_to, IsLooked, IsToComma, IsPieceTo, is_inner_comma, IsReadSoFar, IsPartTaken, HasNoObjectBehind}
use Rattle.json_spelling.specs.Spelled.{data_of}
use Rattle.json_spelling.specs.TokenPieces.{tokens_behind, IsPiecePushed, IsPieceRefused}
use Rattle.children_reader.specs.declared.cutting.Behind.{Behind}
use Rattle.children_reader.specs.declared.cutting.Looked.{Looked}
use Rattle.dir_codec.specs.declared.fault.DirFault.{DirFault}
use Rattle.dir_codec.specs.declared.fault.DirFault.TheVariants.{Torn, NotSorted, BadName, BadCap, NotImmutable, WriteCap, BadMetadata, NotJson, BadShape, SameName, FractionalNumber, NoMemory}
use Rattle.children_reader.specs.declared.part_reader.PartReader.{PartReader}
use Rattle.children_reader.proofs.PartTexts.{begins, byte_text, part_text}
use Rattle.children_reader.proofs.PartsRead.{CutLaws, nothing_behind}
use Rattle.children_reader.proofs.Windows.{read_more}

-- ---- nothing was read

brace_first : (rest : List ℕ) → tokens (123 ∷ rest) ≡ begin_object ∷ tokens rest
unfolding lex punctuate
brace_first rest = refl

not_below : (n : ℕ) → nat_lt n n ≡ false
not_below n = go (nat_lt n n) refl
  where
    go : (b : Bool) → nat_lt n n ≡ b → b ≡ false
    go false is = refl
    go true is = let less = ltb-true n n is in let never : ⊥ = omega arith in absurd never

nothing_between : (at : ℕ) (json : List ℕ) → read_to at at json ≡ 123 ∷ []
nothing_between at json = let none : at - at ≡ 0 = omega arith in ap (λ n. 123 ∷ take n (drop at json)) none

pub nothing_read : {T : Type 0} (took : List Token → T → Type 0) (json : List ℕ) (at : ℕ) (reading : PartReader T) → reading.looked.at ≡ at → reading.looked.end ≡ at → IsLooked json reading.looked → IsUtf8 (take at json)
    → took (begin_object ∷ []) reading.taker → IsReadSoFar took json at reading
nothing_read took json at reading begun ends looked utf8 taken = record {
  read = begin_object ∷ [];
  begun = begun;
  looked = looked;
  before = utf8;
  utf8 = subst IsUtf8 (sym same) (byte_text 123 (omega arith));
  taken = taken;
  joined = λ rest. ap (λ t. tokens (t ++ rest)) same ∙ brace_first rest ∙ ap (λ b. begin_object ∷ tokens_behind b (tokens rest)) (sym (ap (nat_lt at) ends ∙ not_below at));
}
  where
    same : read_to at reading.looked.end json ≡ 123 ∷ []
    same = ap (λ n. read_to at n json) ends ∙ nothing_between at json

-- the pieces end in the text
ends_within : (json : List ℕ) (looked : Looked) → IsLooked json looked → looked.end ≤ length json
ends_within json looked is = let first = is.searched.ahead in let last = is.searched.within in omega (arith, first, last)

-- ---- a comma behind a piece

abbrev pub SeamLaw : Type 0
SeamLaw = (text : List ℕ) (at : ℕ) → IsCutComma text at → tokens text ≡ seam (tokens (take at text)) (tokens (drop (at + 1) text))

comma_joined : SeamLaw → (text rest : List ℕ) → is_outside (mode_after between text) ≡ true → tokens (text ++ 44 ∷ rest) ≡ seam (tokens text) (tokens rest)
comma_joined law text rest outside =
    let n = length text in
    let front : take n (text ++ 44 ∷ rest) ≡ text = take_at text (44 ∷ rest) n refl in
    let cut : IsCutComma (text ++ 44 ∷ rest) n = record {
      within = omega (arith, length-append text (44 ∷ rest));
      comma = get_or_at text 44 rest 0 n refl;
      outside = ap (λ t. is_outside (mode_after between t)) front ∙ outside;
    } in
    law (text ++ 44 ∷ rest) n cut ∙ ap₂ (λ a b. seam (tokens a) (tokens b)) front (drop-append-add text (44 ∷ rest) 1)

module _ {T : Type 0} (took : List Token → T → Type 0) (law : SeamLaw) (json text : List ℕ) (at : ℕ) (old : PartReader T) (next : Looked) (before : IsReadSoFar took json at old) (to : IsToComma json old.looked text next) where
  ahead_of : at ≤ old.looked.end
  ahead_of = let first = before.looked.begun in let same = before.begun in omega (arith, first, same)

  front_and : read_to at next.end json ≡ read_to at old.looked.end json ++ (text ++ 44 ∷ [])
  front_and = let on = to.ahead in sym (read_more at old.looked.end next.end json ahead_of (omega (arith, on))) ∙ ap (λ t. read_to at old.looked.end json ++ t) to.bytes

  comma_tokens : (rest : List ℕ) → tokens (read_to at next.end json ++ rest) ≡ before.read ++ tokens_behind (nat_lt at old.looked.end) (seam (tokens text) (tokens rest))
  comma_tokens rest =
      let front = read_to at old.looked.end json in
      ap (λ t. tokens (t ++ rest)) front_and ∙ ap tokens (append_assoc front (text ++ 44 ∷ []) rest ∙ ap (λ t. front ++ t) (append_assoc text (44 ∷ []) rest)) ∙ before.joined (text ++ 44 ∷ rest)
      ∙ ap (λ ts. before.read ++ tokens_behind (nat_lt at old.looked.end) ts) (comma_joined law text rest to.outside)

  pub piece_read : (taker : T) → IsUtf8 text → IsPiecePushed took (nat_lt old.looked.at old.looked.end) true text old.taker taker → IsReadSoFar took json at (record { looked = next; taker = taker })
  piece_read taker utf8 pushed = record {
    read = before.read ++ tokens text;
    begun = to.same ∙ before.begun;
    looked = to.looked_on;
    before = before.before;
    utf8 = subst IsUtf8 (sym front_and) (IsUtf8-append (read_to at old.looked.end json) (text ++ 44 ∷ []) before.utf8 (IsUtf8-append text (44 ∷ []) utf8 (byte_text 44 (omega arith))));
    taken = (pushed before.read [] before.taken).0;
    joined = λ rest.
        let on = to.ahead in
        let first = ahead_of in
        let behind = subst (λ n. tokens_behind (nat_lt n old.looked.end) (seam (tokens text) (tokens rest)) ≡ tokens text ++ behind_comma (tokens rest)) before.begun (pushed before.read (tokens rest) before.taken).1 in
        comma_tokens rest ∙ ap (λ ts. before.read ++ ts) behind ∙ sym (append_assoc before.read (tokens text) (behind_comma (tokens rest)))
        ∙ ap (λ b. (before.read ++ tokens text) ++ tokens_behind b (tokens rest)) (sym (lt-ltb at next.end (omega (arith, on, first))));
  }

  all_behind : object_behind at json ≡ read_to at next.end json ++ drop next.end json
  all_behind =
      let on = to.ahead in
      let first = ahead_of in
      let place : at + (next.end - at) ≡ next.end = omega (arith, on, first) in
      ap (λ t. 123 ∷ t) (sym (take-append-drop (next.end - at) (drop at json)) ∙ ap (λ t. take (next.end - at) (drop at json) ++ t) (drop-drop (next.end - at) at json ∙ ap (λ n. drop n json) place))

  -- a piece that is refused
  pub comma_refused : IsPieceRefused took (nat_lt old.looked.at old.looked.end) true text old.taker → data_of (tokens (object_behind at json)) ≡ None
  comma_refused none =
      let rest = drop next.end json in
      ap (λ t. data_of (tokens t)) all_behind ∙ ap data_of (comma_tokens rest)
      ∙ subst (λ n. data_of (before.read ++ tokens_behind (nat_lt n old.looked.end) (seam (tokens text) (tokens rest))) ≡ None) before.begun (none before.read (tokens rest) before.taken)

-- ---- the end of a part

module _ {T : Type 0} (took : List Token → T → Type 0) (json text : List ℕ) (at : ℕ) (old : PartReader T) (before : IsReadSoFar took json at old) where
  end_tokens : tokens (read_to at old.looked.end json ++ text) ≡ before.read ++ tokens_behind (nat_lt old.looked.at old.looked.end) (tokens text)
  end_tokens = before.joined text ∙ ap (λ n. before.read ++ tokens_behind (nat_lt n old.looked.end) (tokens text)) (sym before.begun)

  pub part_read : (taker : T) → IsPiecePushed took (nat_lt old.looked.at old.looked.end) false text old.taker taker → took (tokens (read_to at old.looked.end json ++ text)) taker
  part_read taker pushed =
      let both = pushed before.read [] before.taken in
      subst (λ ts. took ts taker) (sym (end_tokens ∙ ap (λ ts. before.read ++ ts) (both.1 ∙ append-nil (tokens text)))) both.0

  end_refused : IsPieceRefused took (nat_lt old.looked.at old.looked.end) false text old.taker → data_of (tokens (read_to at old.looked.end json ++ text)) ≡ None
  end_refused none = ap data_of end_tokens ∙ none before.read [] before.taken

  pub end_text : IsUtf8 text → IsUtf8 (read_to at old.looked.end json ++ text)
  end_text utf8 = IsUtf8-append (read_to at old.looked.end json) text before.utf8 utf8

  -- what stands behind text is text
  text_behind : (front back : List ℕ) → IsUtf8 front → IsUtf8 (front ++ back) → IsUtf8 back
  text_behind front back first whole =
      subst IsUtf8 (drop-append_seam front back)
      (IsUtf8-drop (front ++ back) (length front) whole
      (IsCharBoundary-from_take (front ++ back) (length front) whole (omega (arith, length-append front back)) (subst IsUtf8 (sym (take-append_seam front back)) first)))

  pub end_no_text : (next : Option ℕ) → IsPartUpTo json at (read_to at old.looked.end json ++ text) next → (IsUtf8 text → ⊥) → IsUtf8 json → ⊥
  end_no_text next part none whole =
      let first = before.looked.begun in
      let last = ends_within json old.looked before.looked in
      let same = before.begun in
      none (text_behind (read_to at old.looked.end json) text before.utf8 (part_text json (read_to at old.looked.end json ++ text) at next (omega (arith, first, last, same)) before.before part whole))

-- what stands before a comma is text where the rest is
comma_text : {T : Type 0} (took : List Token → T → Type 0) (law : SeamLaw) (json text : List ℕ) (at : ℕ) (old : PartReader T) (next : Looked) (before : IsReadSoFar took json at old) → IsToComma json old.looked text next → IsUtf8 json → IsUtf8 text
comma_text took law json text at old next before to whole =
    let first = before.looked.begun in
    let last = ends_within json old.looked before.looked in
    let same = before.begun in
    let rest = drop next.end json in
    let front = read_to at old.looked.end json in
    let all = part_text json (object_behind at json) at None (omega (arith, first, last, same)) before.before refl whole in
    let joined : object_behind at json ≡ front ++ (text ++ 44 ∷ rest) =
    all_behind took law json text at old next before to ∙ ap (λ t. t ++ rest) (front_and took law json text at old next before to) ∙ append_assoc front (text ++ 44 ∷ []) rest ∙ ap (λ t. front ++ t) (append_assoc text (44 ∷ []) rest) in
    let behind = text_behind took json text at old before front (text ++ 44 ∷ rest) before.utf8 (subst IsUtf8 joined all) in
    let small : get_or (text ++ 44 ∷ rest) (length text) 0 < 128 = omega (arith, get_or_at text 44 rest 0 (length text) refl) in
    subst IsUtf8 (take-append_seam text (44 ∷ rest))
    (IsUtf8-take (text ++ 44 ∷ rest) (length text) behind (IsCharBoundary-before_ascii (text ++ 44 ∷ rest) (length text) (omega (arith, length-append text (44 ∷ rest))) small))

-- ---- refusals

pub refused_behind : CutLaws → (json text : List ℕ) (at : ℕ) (next : Option ℕ) → IsPartUpTo json at text next → data_of (tokens text) ≡ None → data_of (tokens (object_behind at json)) ≡ None
refused_behind laws json text at next part none = nothing_behind laws json text at next part none

module _ {T : Type 0} (took : List Token → T → Type 0) (seams : SeamLaw) (laws : CutLaws) (json text : List ℕ) (at : ℕ) (old : PartReader T) (before : IsReadSoFar took json at old) where
  -- a piece that is no text
  pub piece_no_text : (behind : Behind) → IsPieceTo json old.looked text behind → (IsUtf8 text → ⊥) → HasNoObjectBehind json at
  piece_no_text (Behind.Comma next) to none = λ whole. absurd (none (comma_text took seams json text at old next before to whole))
  piece_no_text (Behind.End next) to none =
      λ whole. absurd (end_no_text took json text at old before next (subst (λ n. IsPartUpTo json n (read_to n old.looked.end json ++ text) next) before.begun to.0) none whole)

  -- or that no JSON has
  pub piece_refused : (behind : Behind) → IsPieceTo json old.looked text behind → IsPieceRefused took (nat_lt old.looked.at old.looked.end) (is_inner_comma behind) text old.taker → HasNoObjectBehind json at
  piece_refused (Behind.Comma next) to none = λ _. comma_refused took seams json text at old next before to none
  piece_refused (Behind.End next) to none =
      λ _. refused_behind laws json (read_to at old.looked.end json ++ text) at next (subst (λ n. IsPartUpTo json n (read_to n old.looked.end json ++ text) next) before.begun to.0) (end_refused took json text at old before none)

-- ---- all tokens were taken

pub all_taken : {T : Type 0} (took : List Token → T → Type 0) (json text : List ℕ) (at : ℕ) (old : PartReader T) (before : IsReadSoFar took json at old) (next : Option ℕ) → IsPieceTo json old.looked text (Behind.End next)
    → (taker : T) → IsPiecePushed took (nat_lt old.looked.at old.looked.end) false text old.taker taker → IsUtf8 text → IsPartTaken took json at taker next
all_taken took json text at old before next to taker pushed utf8 = record {
  text = read_to at old.looked.end json ++ text;
  part = subst (λ n. IsPartUpTo json n (read_to n old.looked.end json ++ text) next) before.begun to.0;
  utf8 = end_text took json text at old before utf8;
  taken = part_read took json text at old before taker pushed;
}

-- the same by what is made of what took them
pub made_of_part : {T U : Type 0} (took : List Token → T → Type 0) (other : List Token → U → Type 0) (json : List ℕ) (at : ℕ) (next : Option ℕ) (taker : T) (made : U)
    → CutLaws → ((ts : List Token) → first_token ts ≡ Some begin_object → took ts taker → other ts made) → IsPartTaken took json at taker next → IsPartTaken other json at made next
made_of_part took other json at next taker made laws goes part = record {
  text = part.text;
  part = part.part;
  utf8 = part.utf8;
  taken = goes (tokens part.text) (begins laws.first json part.text at next part.part) part.taken;
}

-- or nothing is
pub none_of_part : {T : Type 0} (took : List Token → T → Type 0) → CutLaws → (json : List ℕ) (at : ℕ) (next : Option ℕ) (taker : T) → ((ts : List Token) → first_token ts ≡ Some begin_object → took ts taker → data_of ts ≡ None)
    → IsPartTaken took json at taker next → HasNoObjectBehind json at
none_of_part took laws json at next taker none part = λ _. refused_behind laws json part.text at next part.part (none (tokens part.text) (begins laws.first json part.text at next part.part) part.taken)

-- ---- all at once

no_object : (fault : DirFault) (ts : List Token) → fault ≢ BadShape → IsNoObject fault ts → data_of ts ≡ None
no_object NotJson ts shape none = none
no_object BadShape ts shape none = absurd (shape refl)
no_object Torn ts shape none = absurd none
no_object NotSorted ts shape none = absurd none
no_object BadName ts shape none = absurd none
no_object BadCap ts shape none = absurd none
no_object NotImmutable ts shape none = absurd none
no_object WriteCap ts shape none = absurd none
no_object BadMetadata ts shape none = absurd none
no_object SameName ts shape none = absurd none
no_object FractionalNumber ts shape none = absurd none
no_object NoMemory ts shape none = absurd none

pub fault_behind : CutLaws → (json text : List ℕ) (at : ℕ) (next : Option ℕ) (fault : DirFault) → IsPartUpTo json at text next → IsNoObject fault (tokens text) → fault ≢ BadShape → HasNoObjectBehind json at
fault_behind laws json text at next fault part none shape = λ _. refused_behind laws json text at next part (no_object fault (tokens text) shape none)

pub no_text_behind : (json text : List ℕ) (at : ℕ) (next : Option ℕ) → at ≤ length json → IsUtf8 (take at json) → IsPartUpTo json at text next → (IsUtf8 text → ⊥) → HasNoObjectBehind json at
no_text_behind json text at next within before part none = λ whole. absurd (none (part_text json text at next within before part whole))

-- ---- a part that was read

-- the place that the reading began at
pub read_from : {T : Type 0} (took : List Token → T → Type 0) (json : List ℕ) (at : ℕ) (reading : PartReader T) → IsReadSoFar took json at reading → at ≤ length json
read_from took json at reading before =
    let first = before.looked.begun in
    let last = ends_within json reading.looked before.looked in
    let same = before.begun in
    omega (arith, first, last, same)

-- a piece before which nothing was read
pub first_piece : (json text : List ℕ) (looked : Looked) (next : Option ℕ) → looked.at ≤ looked.end → looked.end ≤ looked.at → IsPieceTo json looked text (Behind.End next) → IsPartUpTo json looked.at (123 ∷ text) next
first_piece json text looked next ahead none to =
    let ends : looked.end ≡ looked.at = omega arith in
    let front : read_to looked.at looked.end json ≡ 123 ∷ [] = ap (λ n. read_to looked.at n json) ends ∙ nothing_between looked.at json in
    subst (λ t. IsPartUpTo json looked.at t next) (ap (λ t. t ++ text) front) to.0
