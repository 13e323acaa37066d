-- What is seen of a store that tells an engine's states.
use Rattle.std.proofs.Common.{◌≡◌, ◌<◌, ◌≤◌, ◌+◌, ℕ, suc, Bool, true, false, cond, List, [], ◌∷◌, ◌++◌, map, length, Option, Some, None, is_some, IsSome, Contains, refl, sym, ap, subst, ◌∙◌, arith}
use Rattle.std.proofs.lemmas.List.{map-append}
use Rattle.std.proofs.lemmas.List.FromFn.{length-range_with_len}
use Rattle.std.proofs.lemmas.Map.Views.{tells_apart}
use Rattle.std.specs.List.{range_with_len, AllZip}
use Rattle.std.specs.Ordering.{eq_by_cmp}
use Rattle.std.specs.FinMap.{get, entries, contains_key}
use Rattle.folder_shelf.specs.Names.{IsKeyInRange}
use Rattle.share_store.specs.Shares.{Shares, ShareKey, ShareEntry, key_cmp}
use Rattle.share_store.specs.MapLaws.{key_cmp_exact}
use Rattle.share_store.specs.History.{History}
use Rattle.share_store.specs.Shared.{StoodAmid, IsSeenAmid, SeesAmid}
use Rattle.share_store.specs.Numbers.{of_index, numbers_for}
use Rattle.share_store.specs.NumberedShares.{below_limit, shares_for}
use Rattle.redis_store.specs.Keys.{key}
use Rattle.redis_store.specs.Commands.{asked_below}
use Rattle.redis_store.specs.Answers.{numbered_share}
use Rattle.redis_store.specs.Engine.{EngineValue, EngineState, is_something, StoodUnder}
use Rattle.redis_store.specs.EngineShares.{value_share, AreSeenUnder, shares_seen, number_if, numbers_seen, AreToldAmid, HaveSharesAlone}
use Rattle.redis_store.proofs.Listed.{collected, collected_same, listed, with_share, get-with_share, get-at_share, get-past_share}

-- shares, with those that values are under the numbers from one on
abbrev overlaid : Shares → List ℕ → ℕ → List EngineValue → Shares
overlaid shares index number [] = shares
overlaid shares index number (value ∷ values) = with_share (overlaid shares index (suc number) values) (index, number) (value_share value)

collected_overlaid : (shares : Shares) (index : List ℕ) (number : ℕ) (values : List EngineValue) → collected (λ n. get (overlaid shares index number values) (index, n)) number (length values) ≡ shares_seen number values
collected_overlaid shares index number [] = refl
collected_overlaid shares index number (value ∷ values) =
    ap (λ o. numbered_share number o ++ collected (λ n. get (overlaid shares index number (value ∷ values)) (index, n)) (suc number) (length values))
    (get-at_share (overlaid shares index (suc number) values) index number (value_share value))
    ∙ ap (λ (l : List (ℕ × List ℕ)). numbered_share number (value_share value) ++ l) (
    collected_same (λ n. get (overlaid shares index number (value ∷ values)) (index, n)) (λ n. get (overlaid shares index (suc number) values) (index, n)) (suc number) (length values)
    (λ k le. get-past_share (overlaid shares index (suc number) values) index number k (value_share value) (omega (arith, le)))
    ∙ collected_overlaid shares index (suc number) values
    )

-- the number of a share
number_of : (number : ℕ) (share : Option (List ℕ)) → number_if number (is_some share) ≡ map (λ (s : ℕ × List ℕ). s.0) (numbered_share number share)
number_of number None = refl
number_of number (Some bytes) = refl

numbers_listed : (index : List ℕ) (es : List ShareEntry) → map (λ (s : ℕ × List ℕ). s.0) (map (λ (e : ShareEntry). (e.0.1, e.1)) es) ≡ map (λ (e : ShareEntry). e.0.1) es
numbers_listed index [] = refl
numbers_listed index (e ∷ es) = ap (λ (l : List ℕ). e.0.1 ∷ l) (numbers_listed index es)

get-past_overlay : (shares : Shares) (index : List ℕ) (number : ℕ) (values : List EngineValue) (n : ℕ) → number + length values ≤ n → get (overlaid shares index number values) (index, n) ≡ get shares (index, n)
get-past_overlay shares index number [] n le = refl
get-past_overlay shares index number (value ∷ values) n le =
    get-past_share (overlaid shares index (suc number) values) index number n (value_share value) (omega (arith, le))
    ∙ get-past_overlay shares index (suc number) values n (omega (arith, le))

none_from : {made : ℕ} (share : Option (List ℕ)) (n : ℕ) → (IsSome share → n < made) → made ≤ n → share ≡ None
none_from None n bound le = refl
none_from (Some bytes) n bound le = absurd (let lt = bound refl in omega (arith, lt, le))

as_long : {A B : Type 0} (R : A → B → Type 0) (xs : List A) (ys : List B) → AllZip R xs ys → length ys ≡ length xs
as_long R [] [] all = refl
as_long R [] (y ∷ ys) all = absurd all
as_long R (x ∷ xs) [] all = absurd all
as_long R (x ∷ xs) (y ∷ ys) all = let more = as_long R xs ys all.1 in omega (arith, more)

asked_few : (limit : Option ℕ) (made : ℕ) → asked_below limit made ≤ made
asked_few None made = omega arith
asked_few (Some limit) made = omega arith

module _ (past now : History) (grid : List ℕ) (made : ℕ) (states : List EngineState) (told : AreToldAmid past now grid made states) (index : List ℕ) (in_range : (number : ℕ) → number < made → IsKeyInRange index number) where
  -- what stood under a number stood there at some moment of the call
  pub stood_amid : (number : ℕ) (value : EngineValue) → number < made → StoodUnder states (key grid index number) value → (c : Shares) × StoodAmid past now c × (value_share value ≡ get c (index, number))
  stood_amid number value lt stood =
      let at = told stood.0 stood.1 in
      (at.0, at.1, ap value_share (sym stood.2) ∙ sym (at.2.each index number (in_range number lt) lt))

  overlay_seen : (shares : Shares) (number : ℕ) (values : List EngineValue) → IsSeenAmid past now shares → number + length values ≤ made
      → AllZip (λ n value. StoodUnder states (key grid index n) value) (range_with_len number (length values)) values → IsSeenAmid past now (overlaid shares index number values)
  overlay_seen shares number [] seen le each = seen
  overlay_seen shares number (value ∷ values) seen le each = λ q. by_case q (eq_by_cmp key_cmp q (index, number)) refl
      (overlay_seen shares (suc number) values seen (omega (arith, le)) (let step : number + 1 ≡ suc number = omega arith in subst (λ k. AllZip (λ n value. StoodUnder states (key grid index n) value) (range_with_len k (length values)) values) step each.1) q)
    where
      by_case : (q : ShareKey) (b : Bool) → eq_by_cmp key_cmp q (index, number) ≡ b → ((c : Shares) × StoodAmid past now c × (get (overlaid shares index (suc number) values) q ≡ get c q))
          → (c : Shares) × StoodAmid past now c × (get (overlaid shares index number (value ∷ values)) q ≡ get c q)
      by_case q true tied more =
          let here = stood_amid number value (omega (arith, le)) each.0 in (
            here.0,
            here.1,
            get-with_share (overlaid shares index (suc number) values) (index, number) (value_share value) q
                ∙ ap (λ b. cond b (value_share value) (get (overlaid shares index (suc number) values) q)) tied
                ∙ here.2 ∙ ap (get here.0) (sym (tells_apart key_cmp_exact q (index, number) tied)),
          )
      by_case q false other more = (
        more.0,
        more.1,
        get-with_share (overlaid shares index (suc number) values) (index, number) (value_share value) q
            ∙ ap (λ b. cond b (value_share value) (get (overlaid shares index (suc number) values) q)) other
            ∙ more.2,
      )

  -- what stands there is a share
  stands_alone : HaveSharesAlone grid states → (number : ℕ) (value : EngineValue) → number < made → StoodUnder states (key grid index number) value → is_something value ≡ is_some (value_share value)
  stands_alone alone number value lt stood =
      ap is_something (sym stood.2) ∙ alone stood.0 stood.1 index number (in_range number lt) ∙ ap (λ v. is_some (value_share v)) stood.2

  numbers_are : HaveSharesAlone grid states → (number : ℕ) (values : List EngineValue) → number + length values ≤ made
      → AllZip (λ n value. StoodUnder states (key grid index n) value) (range_with_len number (length values)) values → numbers_seen number values ≡ map (λ (s : ℕ × List ℕ). s.0) (shares_seen number values)
  numbers_are alone number [] le each = refl
  numbers_are alone number (value ∷ values) le each =
      let step : number + 1 ≡ suc number = omega arith in
      let more = numbers_are alone (suc number) values (omega (arith, le)) (subst (λ k. AllZip (λ n value. StoodUnder states (key grid index n) value) (range_with_len k (length values)) values) step each.1) in
      ap (λ b. number_if number b ++ numbers_seen (suc number) values) (stands_alone alone number value (omega (arith, le)) each.0)
      ∙ ap (λ (l : List ℕ). l ++ numbers_seen (suc number) values) (number_of number (value_share value))
      ∙ ap (λ (l : List ℕ). map (λ (s : ℕ × List ℕ). s.0) (numbered_share number (value_share value)) ++ l) more
      ∙ sym (map-append (λ (s : ℕ × List ℕ). s.0) (numbered_share number (value_share value)) (shares_seen (suc number) values))

  module _ (state : EngineState) (among : Contains states state) where
    -- the shares that are seen are those of a view
    pub shares_amid : (limit : Option ℕ) (values : List EngineValue) → AreSeenUnder states grid index (asked_below limit made) values
        → SeesAmid past now (λ view. shares_seen 0 values ≡ below_limit (λ (s : ℕ × List ℕ). s.0) limit (shares_for view index))
    shares_amid limit values each =
        let at = told state among in
        let many : length values ≡ asked_below limit made = as_long (λ n value. StoodUnder states (key grid index n) value) (range_with_len 0 (asked_below limit made)) values each ∙ length-range_with_len 0 (asked_below limit made) in
        let few : asked_below limit made ≤ made = asked_few limit made in
        let all : AllZip (λ n value. StoodUnder states (key grid index n) value) (range_with_len 0 (length values)) values = subst (λ n. AllZip (λ k value. StoodUnder states (key grid index k) value) (range_with_len 0 n) values) (sym many) each in
        let none = λ (n : ℕ) (le : made ≤ n). get-past_overlay at.0 index 0 values n (omega (arith, many, few, le)) ∙ none_from (get at.0 (index, n)) n (λ some. (at.2.none_else index n some).1) le in (
          overlaid at.0 index 0 values,
          overlay_seen at.0 0 values (λ q. (at.0, at.1, refl)) (omega (arith, many, few)) all,
          sym (listed (overlaid at.0 index 0 values) index made limit none
              ∙ ap (collected (λ n. get (overlaid at.0 index 0 values) (index, n)) 0) (sym many)
              ∙ collected_overlaid at.0 index 0 values),
        )

    pub numbers_amid : HaveSharesAlone grid states → (values : List EngineValue) → AreSeenUnder states grid index made values → SeesAmid past now (λ view. numbers_seen 0 values ≡ numbers_for view index)
    numbers_amid alone values each =
        let seen = shares_amid None values each in
        let many : length values ≡ made = as_long (λ n value. StoodUnder states (key grid index n) value) (range_with_len 0 made) values each ∙ length-range_with_len 0 made in
        let all : AllZip (λ n value. StoodUnder states (key grid index n) value) (range_with_len 0 (length values)) values = subst (λ n. AllZip (λ k value. StoodUnder states (key grid index k) value) (range_with_len 0 n) values) (sym many) each in (
          seen.0,
          seen.1,
          numbers_are alone 0 values (omega (arith, many)) all
              ∙ ap (map (λ (s : ℕ × List ℕ). s.0)) seen.2
              ∙ numbers_listed index (of_index index (entries seen.0)),
        )

  -- one share that was seen
  pub share_amid : (number : ℕ) (value : EngineValue) → number < made → StoodUnder states (key grid index number) value → SeesAmid past now (λ view. value_share value ≡ get view (index, number))
  share_amid number value lt stood =
      let at = stood_amid number value lt stood in
      (at.0, λ q. (at.0, at.1, refl), at.2)

  pub presence_amid : HaveSharesAlone grid states → (number : ℕ) (value : EngineValue) → number < made → StoodUnder states (key grid index number) value → SeesAmid past now (λ view. is_something value ≡ contains_key view (index, number))
  presence_amid alone number value lt stood =
      let at = share_amid number value lt stood in
      (at.0, at.1, stands_alone alone number value lt stood ∙ ap is_some at.2)
