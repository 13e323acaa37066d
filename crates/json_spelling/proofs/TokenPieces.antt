-- The tokens of a piece of a JSON text, pushed one after another into what takes tokens.
use Rattle.std.proofs.Common.{◌≡◌, ℕ, List, [], ◌∷◌, ◌++◌, Bool, true, false, not, Some, None, option_and_then, refl, sym, ap, ◌∙◌, subst, append_assoc, append-nil}
use Rattle.std.proofs.lemmas.Bool.{false≢true}
use Rattle.std.proofs.lemmas.List.Sums.{fold-append}
use Rattle.json.specs.Token.{Token, begin_object, end_object, begin_array, end_array, key, string, number, boolean, null, bad}
use Rattle.json.specs.Lex.{tokens}
use Rattle.json.specs.Print.{begins}
use Rattle.json_seams.specs.Seams.{last_token, behind_comma, from_comma, seam}
use Rattle.json_stack.specs.Machine.{StackState, reading, done, failed, next_state, state_after, start_state, result_of}
use Rattle.json_stack.proofs.Reading.{machine_reads}
use Rattle.json_stack.proofs.Runs.{state_after-append, failed_stays}
use Rattle.serde_json.specs.Read.{of_json, max_depth}
use Rattle.json_spelling.specs.Spelled.{data_of}
use Rattle.json_spelling.specs.TokenPieces.{ends_value, tokens_behind, tokens_before, tokens_next, IsPiecePushed, IsPieceRefused}

-- ---- no value has a fault among its tokens

bad_next : (s : StackState) → next_state s bad ≡ failed
bad_next (reading room frames) = refl
bad_next (done j) = refl
bad_next failed = refl

bad_after : (s : StackState) (more : List Token) → state_after s (bad ∷ more) ≡ failed
unfolding state_after
bad_after s more = ap (λ next. state_after next more) (bad_next s) ∙ failed_stays more

bad_read : (ts more : List Token) → data_of (ts ++ bad ∷ more) ≡ None
bad_read ts more =
    let start = start_state max_depth in
    ap (option_and_then of_json)
    (machine_reads max_depth (ts ++ bad ∷ more) ∙ ap result_of (state_after-append start ts (bad ∷ more) ∙ bad_after (state_after start ts) more))

-- ---- the first token, and the last

begins_well : (t : Token) (more : List Token) → begins t ≡ true → behind_comma (t ∷ more) ≡ t ∷ more
begins_well begin_object more is = refl
begins_well end_object more is = absurd cc
begins_well begin_array more is = refl
begins_well end_array more is = absurd cc
begins_well (key s) more is = refl
begins_well (string s) more is = refl
begins_well (number s) more is = refl
begins_well (boolean b) more is = refl
begins_well null more is = refl
begins_well bad more is = refl

begins_none : (t : Token) (more : List Token) → begins t ≡ false → behind_comma (t ∷ more) ≡ bad ∷ []
begins_none begin_object more is = absurd cc
begins_none end_object more is = refl
begins_none begin_array more is = absurd cc
begins_none end_array more is = refl
begins_none (key s) more is = absurd cc
begins_none (string s) more is = absurd cc
begins_none (number s) more is = absurd cc
begins_none (boolean b) more is = absurd cc
begins_none null more is = absurd cc
begins_none bad more is = absurd cc

ends_well : (t : Token) (rest : List Token) → ends_value t ≡ true → from_comma (Some t) rest ≡ behind_comma rest
ends_well begin_object rest is = absurd cc
ends_well end_object rest is = refl
ends_well begin_array rest is = absurd cc
ends_well end_array rest is = refl
ends_well (key s) rest is = absurd cc
ends_well (string s) rest is = refl
ends_well (number s) rest is = refl
ends_well (boolean b) rest is = refl
ends_well null rest is = refl
ends_well bad rest is = absurd cc

ends_none : (t : Token) (front rest : List Token) → ends_value t ≡ false → data_of (front ++ t ∷ from_comma (Some t) rest) ≡ None
ends_none begin_object front rest is = ap data_of (sym (append_assoc front (begin_object ∷ []) (bad ∷ []))) ∙ bad_read (front ++ begin_object ∷ []) []
ends_none end_object front rest is = absurd cc
ends_none begin_array front rest is = ap data_of (sym (append_assoc front (begin_array ∷ []) (bad ∷ []))) ∙ bad_read (front ++ begin_array ∷ []) []
ends_none end_array front rest is = absurd cc
ends_none (key s) front rest is = ap data_of (sym (append_assoc front (key s ∷ []) (bad ∷ []))) ∙ bad_read (front ++ key s ∷ []) []
ends_none (string s) front rest is = absurd cc
ends_none (number s) front rest is = absurd cc
ends_none (boolean b) front rest is = absurd cc
ends_none null front rest is = absurd cc
ends_none bad front rest is = bad_read front []

last_of : (pushed : List Token) (t : Token) → last_token (pushed ++ t ∷ []) ≡ Some t
last_of pushed t = fold-append (λ _ token. Some token) None pushed (t ∷ [])

-- ---- tokens that were pushed

module _ {T : Type 0} (took : List Token → T → Type 0) (behind : Bool) (text : List ℕ) (old : T) where
  -- so far these tokens of a piece were pushed
  pub record IsPushedTo (left : List Token) (now : T) (begun ended : Bool) : Type 0 where
    pub pushed : List Token
    pub same : tokens text ≡ pushed ++ left
    pub taken : (read : List Token) → took read old → took (read ++ pushed) now
    pub none : begun ≡ false → (pushed ≡ []) × (behind ≡ true)
    pub first : begun ≡ true → (more : List Token) → tokens_behind behind (pushed ++ more) ≡ pushed ++ more
    pub ends : ended ≡ true → (rest : List Token) → seam pushed rest ≡ pushed ++ behind_comma rest
    pub breaks : ended ≡ false → (read rest : List Token) → data_of (read ++ seam pushed rest) ≡ None

  pub none_pushed : (left : List Token) → left ≡ tokens text → IsPushedTo left old (not behind) false
  none_pushed left same = record {
    pushed = [];
    same = sym same;
    taken = λ read is. subst (λ ts. took ts old) (sym (append-nil read)) is;
    none = λ none. (refl, only_behind behind none);
    first = λ begun more. at_first behind more begun;
    ends = λ ended. absurd (false≢true ended);
    breaks = λ ended read rest. bad_read read [];
  }
    where
      only_behind : (behind : Bool) → not behind ≡ false → behind ≡ true
      only_behind true none = refl
      only_behind false none = absurd cc

      at_first : (behind : Bool) (more : List Token) → not behind ≡ true → tokens_behind behind more ≡ more
      at_first true more begun = absurd cc
      at_first false more begun = refl

  module _ (now : T) (left : List Token) (begun ended : Bool) (t : Token) (next : List Token) (before : IsPushedTo left now begun ended) (is : left ≡ t ∷ next) where
    more_same : tokens text ≡ (before.pushed ++ t ∷ []) ++ next
    more_same = before.same ∙ ap (λ ts. before.pushed ++ ts) is ∙ sym (append_assoc before.pushed (t ∷ []) next)

    -- the tokens with this one begin as they have to
    begun_with : (b : Bool) → begun ≡ b → (b ≡ false → begins t ≡ true) → (more : List Token) → tokens_behind behind (before.pushed ++ t ∷ more) ≡ before.pushed ++ t ∷ more
    begun_with true so well more = before.first so (t ∷ more)
    begun_with false so well more =
        let none = before.none so in
        rw (none.0, none.1) (begins_well t more (well refl))

    with_more : (more : List Token) → (before.pushed ++ t ∷ []) ++ more ≡ before.pushed ++ t ∷ more
    with_more more = append_assoc before.pushed (t ∷ []) more

    pub one_pushed : (after : T) → (begun ≡ false → begins t ≡ true) → ((ts : List Token) → took ts now → took (ts ++ t ∷ []) after) → IsPushedTo next after true (ends_value t)
    one_pushed after well goes = record {
      pushed = before.pushed ++ t ∷ [];
      same = more_same;
      taken = λ read so. subst (λ ts. took ts after) (append_assoc read before.pushed (t ∷ [])) (goes (read ++ before.pushed) (before.taken read so));
      none = λ none. absurd (false≢true (sym none));
      first = λ _ more. ap (tokens_behind behind) (with_more more) ∙ begun_with begun refl well more ∙ sym (with_more more);
      ends = λ so rest. ap (λ o. (before.pushed ++ t ∷ []) ++ from_comma o rest) (last_of before.pushed t) ∙ ap (λ ts. (before.pushed ++ t ∷ []) ++ ts) (ends_well t rest so);
      breaks = λ so read rest.
          ap (λ o. data_of (read ++ ((before.pushed ++ t ∷ []) ++ from_comma o rest))) (last_of before.pushed t)
          ∙ ap (λ ts. data_of (read ++ ts)) (with_more (from_comma (Some t) rest))
          ∙ ap data_of (sym (append_assoc read before.pushed (t ∷ from_comma (Some t) rest)))
          ∙ ends_none t (read ++ before.pushed) rest so;
    }

    -- what stands behind the tokens up to this one
    behind_this : (before_comma : Bool) (rest : List Token) → (more : List Token) × (tokens_before before_comma (tokens text) rest ≡ before.pushed ++ t ∷ more)
    behind_this false rest = (next, more_same ∙ with_more next)
    behind_this true rest =
        let tail = from_comma (last_token (tokens text)) rest in
        (next ++ tail, ap (λ ts. ts ++ tail) (more_same ∙ with_more next) ∙ append_assoc before.pushed (t ∷ next) tail)

    -- it is refused
    pub one_refused : (before_comma : Bool) → (begun ≡ false → begins t ≡ true) → ((ts more : List Token) → took ts now → data_of (ts ++ t ∷ more) ≡ None) → IsPieceRefused took behind before_comma text old
    one_refused before_comma well none read rest so =
        let there = behind_this before_comma rest in
        ap (λ ts. data_of (read ++ tokens_behind behind ts)) there.1
        ∙ ap (λ ts. data_of (read ++ ts)) (begun_with begun refl well there.0)
        ∙ ap data_of (sym (append_assoc read before.pushed (t ∷ there.0)))
        ∙ none (read ++ before.pushed) there.0 (before.taken read so)

    -- no value or key begins with it
    pub none_begins : (before_comma : Bool) → begun ≡ false → begins t ≡ false → IsPieceRefused took behind before_comma text old
    none_begins before_comma none other read rest so =
        let there = behind_this before_comma rest in
        let first = before.none none in
        ap (λ ts. data_of (read ++ tokens_behind behind ts)) there.1
        ∙ ap (λ ts. data_of (read ++ tokens_behind behind (ts ++ t ∷ there.0))) first.0
        ∙ ap (λ b. data_of (read ++ tokens_behind b (t ∷ there.0))) first.1
        ∙ ap (λ ts. data_of (read ++ ts)) (begins_none t there.0 other)
        ∙ bad_read read []

  module _ (now : T) (left : List Token) (begun ended : Bool) (before : IsPushedTo left now begun ended) (all : left ≡ []) where
    whole : tokens text ≡ before.pushed
    whole = before.same ∙ ap (λ ts. before.pushed ++ ts) all ∙ append-nil before.pushed

    -- nothing stands in the piece
    pub none_there : (before_comma : Bool) → begun ≡ false → IsPieceRefused took behind before_comma text old
    none_there before_comma none read rest so =
        let first = before.none none in
        let empty : tokens text ≡ [] = whole ∙ first.0 in
        ap (λ ts. data_of (read ++ tokens_behind behind (tokens_before before_comma ts rest))) empty
        ∙ ap (λ b. data_of (read ++ tokens_behind b (tokens_before before_comma [] rest))) first.1
        ∙ nothing before_comma
      where
        nothing : (b : Bool) → data_of (read ++ tokens_behind true (tokens_before b [] rest)) ≡ None
        nothing true = bad_read read []
        nothing false = bad_read read []

    -- no value ends before the comma
    pub none_ends : (before_comma : Bool) → before_comma ≡ true → begun ≡ true → ended ≡ false → IsPieceRefused took behind before_comma text old
    none_ends false is begun ended read rest so = absurd cc
    none_ends true is begun ended read rest so =
        ap (λ ts. data_of (read ++ tokens_behind behind (seam ts rest))) whole
        ∙ ap (λ ts. data_of (read ++ ts)) (before.first begun (from_comma (last_token before.pushed) rest))
        ∙ before.breaks ended read rest

    pub all_pushed : (before_comma : Bool) → begun ≡ true → (before_comma ≡ true → ended ≡ true) → IsPiecePushed took behind before_comma text old now
    all_pushed before_comma begun ends read rest so = (
      subst (λ ts. took (read ++ ts) now) (sym whole) (before.taken read so),
      ap (λ ts. tokens_behind behind (tokens_before before_comma ts rest)) whole ∙ goes before_comma ends ∙ ap (λ ts. ts ++ tokens_next before_comma rest) (sym whole),
    )
      where
        goes : (b : Bool) → (b ≡ true → ended ≡ true) → tokens_behind behind (tokens_before b before.pushed rest) ≡ before.pushed ++ tokens_next b rest
        goes true ends = before.first begun (from_comma (last_token before.pushed) rest) ∙ before.ends (ends refl) rest
        goes false ends = ap (tokens_behind behind) (sym (append-nil before.pushed)) ∙ before.first begun []
