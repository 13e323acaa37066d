-- JSON that is read a piece of its text at a time, by what takes its tokens.
use Rattle.std.proofs.Common.{◌≡◌, ℕ, zero, suc, ◌+◌, ◌-◌, ◌<◌, ◌≤◌, nat_lt, List, [], ◌∷◌, ◌++◌, length, take, drop, get_or, true, false, Option, Some, None, is_some, unwrap_or, IfSome, IsUtf8, IsAscii, refl, sym, ap, ap₂, ◌∙◌, subst, arith, append_assoc, append-nil, length-drop}
use Rattle.std.proofs.lemmas.Bool.{lt-ltb}
use Rattle.std.proofs.lemmas.List.{take-append-drop, drop-drop, take_all, take_more}
use Rattle.std.proofs.lemmas.Str.{IsUtf8-append, IsUtf8-take, IsUtf8-drop, IsUtf8-from_ascii, IsCharBoundary-from_take, IsCharBoundary-before_ascii}
use Rattle.std.proofs.Math.Seq.{take-add}
use Rattle.json.specs.Token.{Token}
use Rattle.json.specs.Lex.{tokens}
use Rattle.json_seams.specs.Cuts.{IsCutComma}
use Rattle.json_seams.specs.Seams.{behind_comma, seam}
use Rattle.json_spelling.specs.CommaSearch.{IsSearched, IsCommaCut}
use Rattle.json_spelling.specs.Metadata.{json_of}
use Rattle.json_spelling.specs.PieceReaders.{IsPieceReader}
use Rattle.json_spelling.specs.Spelled.{data_of}
use Rattle.json_spelling.specs.TokenPieces.{tokens_behind, tokens_before, IsPiecePushed, IsPieceRefused}
use Rattle.json_spelling.specs.declared.comma_search.CommaSearch.{CommaSearch}
use Rattle.json_spelling.specs.declared.piece_reader.PieceReader.{PieceReader}
use Rattle.json_spelling.proofs.Json.{json_refused}

-- ---- a piece of a text

-- one byte that is ASCII more
pub ascii_byte : (k : ℕ) → k < 128 → IsAscii (k ∷ [])
ascii_byte k small zero = small
ascii_byte k small (suc n) = omega arith

abbrev SeamLaw : Type 0
SeamLaw = (text : List ℕ) (at : ℕ) → IsCutComma text at → tokens text ≡ seam (tokens (take at text)) (tokens (drop (at + 1) text))

-- the piece stands at a place and ends at that comma, or else with the text
abbrev pub EndsAt : List ℕ → ℕ → Option ℕ → List ℕ → Type 0
EndsAt text at None piece = piece ≡ drop at text
EndsAt text at (Some cut) piece = IsCommaCut text at cut × (piece ≡ take (cut - at) (drop at text))

-- the tokens of what stands behind that comma, where there is one
abbrev rest_tokens : Option ℕ → List ℕ → List Token
rest_tokens None text = []
rest_tokens (Some cut) text = tokens (drop (cut + 1) text)

abbrev pub IsCutOrNone : List ℕ → ℕ → Option ℕ → Type 0
IsCutOrNone text at cut = IfSome cut (IsCommaCut text at)

piece_ends : (text piece : List ℕ) (at : ℕ) (cut : Option ℕ) (end : ℕ) → IsCutOrNone text at cut → end ≡ unwrap_or cut (length text) → piece ≡ take (end - at) (drop at text) → EndsAt text at cut piece
piece_ends text piece at None end found is same = same ∙ ap (λ n. take (n - at) (drop at text)) is ∙ take_all (length text - at) (drop at text) (omega (arith, length-drop at text))
piece_ends text piece at (Some cut) end found is same = (found, same ∙ ap (λ n. take (n - at) (drop at text)) is)

-- the comma that a search found
found_cut : (text : List ℕ) (at reached : ℕ) (old : CommaSearch) (cut : Option ℕ) → IsSearched text at old
    → IfSome cut (λ c. (old.reached ≤ c) × (c < reached) × ((at : ℕ) → IsSearched text at old → IsCommaCut text at c)) → IsCutOrNone text at cut
found_cut text at reached old None searched found = tt
found_cut text at reached old (Some c) searched found = found.2 at searched

behind_comma_place : (text : List ℕ) (at cut : ℕ) → at ≤ cut → drop (cut - at + 1) (drop at text) ≡ drop (cut + 1) text
behind_comma_place text at cut ahead =
    let place : at + (cut - at + 1) ≡ cut + 1 = omega arith in
    drop-drop (cut - at + 1) at text ∙ ap (λ n. drop n text) place

piece_tokens : SeamLaw → (text piece : List ℕ) (at : ℕ) (cut : Option ℕ) → EndsAt text at cut piece → tokens (drop at text) ≡ tokens_before (is_some cut) (tokens piece) (rest_tokens cut text)
piece_tokens law text piece at None ends = ap tokens (sym ends)
piece_tokens law text piece at (Some cut) ends =
    law (drop at text) (cut - at) ends.0.comma ∙ ap₂ (λ a b. seam (tokens a) (tokens b)) (sym ends.1) (behind_comma_place text at cut ends.0.ahead)

byte_text : (k : ℕ) → k < 128 → IsUtf8 (k ∷ [])
byte_text k small = IsUtf8-from_ascii (k ∷ []) (ascii_byte k small)

-- a piece of text is text
piece_text : (text piece : List ℕ) (at : ℕ) (cut : Option ℕ) → EndsAt text at cut piece → IsUtf8 (drop at text) → IsUtf8 piece
piece_text text piece at None ends rest = subst IsUtf8 (sym ends) rest
piece_text text piece at (Some cut) ends rest =
    let comma = ends.0.comma in
    let small : get_or (drop at text) (cut - at) 0 < 128 = omega (arith, comma.comma) in
    subst IsUtf8 (sym ends.1) (IsUtf8-take (drop at text) (cut - at) rest (IsCharBoundary-before_ascii (drop at text) (cut - at) comma.within small))

-- no JSON has those tokens
no_json : (text : List ℕ) → data_of (tokens text) ≡ None → json_of text ≡ None
no_json text none = json_refused text (λ _. none)

-- ---- one piece more

module _ {T : Type 0} (took : List Token → T → Type 0) (text : List ℕ) (self : PieceReader T) where
  -- the piece that a step finds ends at its comma, or with the text
  pub step_ends : (piece : List ℕ) (reached : ℕ) (cut : Option ℕ) (end : ℕ) → IsPieceReader took text self
      → IfSome cut (λ c. (self.search.reached ≤ c) × (c < reached) × ((at : ℕ) → IsSearched text at self.search → IsCommaCut text at c)) → end ≡ unwrap_or cut (length text)
      → piece ≡ take (end - self.at) (drop self.at text) → EndsAt text self.at cut piece
  step_ends piece reached cut end before found is same = piece_ends text piece self.at cut end (found_cut text self.at reached self.search cut before.searched found) is same

  module _ (law : SeamLaw) (piece : List ℕ) (cut : Option ℕ) (before : IsPieceReader took text self) (ends : EndsAt text self.at cut piece) where
    all_tokens : tokens text ≡ before.read ++ tokens_behind (nat_lt 0 self.at) (tokens_before (is_some cut) (tokens piece) (rest_tokens cut text))
    all_tokens = before.joined ∙ ap (λ ts. before.read ++ tokens_behind (nat_lt 0 self.at) ts) (piece_tokens law text piece self.at cut ends)

    -- a piece that is refused
    pub piece_refused : IsPieceRefused took (nat_lt 0 self.at) (is_some cut) piece self.taker → json_of text ≡ None
    piece_refused none = no_json text (ap data_of all_tokens ∙ none before.read (rest_tokens cut text) before.taken)

    -- or that is no text
    pub no_piece_text : (IsUtf8 piece → ⊥) → json_of text ≡ None
    no_piece_text none =
        let first = before.searched.ahead in
        let last = before.searched.within in
        let within : self.at ≤ length text = omega (arith, first, last) in
        json_refused text (λ whole. absurd (none (piece_text text piece self.at cut ends (IsUtf8-drop text self.at whole (IsCharBoundary-from_take text self.at whole within before.utf8)))))

  module _ (law : SeamLaw) (piece : List ℕ) (before : IsPieceReader took text self) where
    pub more_taken : (next : PieceReader T) (cut : ℕ) → EndsAt text self.at (Some cut) piece → IsUtf8 piece → next.at ≡ cut + 1 → (cut + 1 ≤ length text → IsSearched text (cut + 1) next.search)
        → IsPiecePushed took (nat_lt 0 self.at) true piece self.taker next.taker → IsPieceReader took text next
    more_taken next cut ends utf8 place searched pushed =
        let at = self.at in
        let ahead = ends.0.ahead in
        let comma = ends.0.comma in
        let found = comma.within in
        let rest = tokens (drop (cut + 1) text) in
        let there = pushed before.read rest before.taken in
        let size : at + (cut - at + 1) ≡ next.at = omega (arith, place) in
        let piece_and : take (cut - at + 1) (drop at text) ≡ piece ++ 44 ∷ [] = take_more (drop at text) (cut - at) 0 found ∙ ap₂ (λ a x. a ++ x ∷ []) (sym ends.1) comma.comma in
        let some : nat_lt 0 next.at ≡ true = lt-ltb 0 next.at (omega (arith, place)) in
        record {
          read = before.read ++ tokens piece;
          searched = subst (λ n. IsSearched text n next.search) (sym place) (searched (omega (arith, length-drop at text)));
          utf8 =
              subst (λ n. IsUtf8 (take n text)) size
              (subst IsUtf8 (sym (take-add at (cut - at + 1) text ∙ ap (λ t. take at text ++ t) piece_and))
              (IsUtf8-append (take at text) (piece ++ 44 ∷ []) before.utf8 (IsUtf8-append piece (44 ∷ []) utf8 (byte_text 44 (omega arith)))));
          taken = there.0;
          joined =
              all_tokens law piece (Some cut) before ends ∙ ap (λ ts. before.read ++ ts) there.1 ∙ sym (append_assoc before.read (tokens piece) (behind_comma rest))
              ∙ ap₂ (λ b n. (before.read ++ tokens piece) ++ tokens_behind b (tokens (drop n text))) (sym some) (sym place);
        }

    -- the last piece
    pub all_taken : (new : T) → EndsAt text self.at None piece → IsUtf8 piece → IsPiecePushed took (nat_lt 0 self.at) false piece self.taker new → took (tokens text) new × IsUtf8 text
    all_taken new ends utf8 pushed =
        let there = pushed before.read [] before.taken in
        let same : before.read ++ tokens piece ≡ tokens text = sym (all_tokens law piece None before ends ∙ ap (λ ts. before.read ++ ts) (there.1 ∙ append-nil (tokens piece))) in
        (subst (λ ts. took ts new) same there.0, subst IsUtf8 (take-append-drop self.at text) (IsUtf8-append (take self.at text) (drop self.at text) before.utf8 (subst IsUtf8 ends utf8)))

  -- nothing was read
  pub none_taken : self.at ≡ 0 → IsSearched text self.at self.search → took [] self.taker → IsPieceReader took text self
  none_taken at searched taken = record {
    read = [];
    searched = searched;
    utf8 = rw at (IsUtf8-from_ascii [] (λ i. omega arith));
    taken = taken;
    joined = rw at refl;
  }
