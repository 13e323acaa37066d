-- Which items and members are unfit, as they come one after another.
use Rattle.std.proofs.Common.{◌≡◌, ℕ, suc, ◌-◌, max, List, [], ◌∷◌, length, map, Bool, true, false, cond, if◌then◌else◌, not, ◌&&◌, ◌||◌, nat_le, nat_lt, ◌↔◌, IsTrue, Ordering, Less, Equal, Greater, nat_cmp, String, Global, string_bytes, refl, sym, ap, ◌∙◌, subst, arith}
use Rattle.std.specs.BTreeMap.{is_at}
use Rattle.std.specs.BTreeSet.{insert_key}
use Rattle.std.specs.Cmp.Lexicographic.{slice_cmp}
use Rattle.std.specs.Ordering.{is_eq, match_ordering}
use Rattle.std.specs.Set.{remove_key}
use Rattle.std.specs.String.{string_cmp}
use Rattle.std.proofs.lemmas.Bool.{and_parts, and_from, and_right, false_from_ne_true, le-leb, lt-leb, lt-ltb, leb-true, leb-false, ltb-true}
use Rattle.std.proofs.lemmas.Map.Text.{is_eq-slice_cmp}
use Rattle.std.proofs.lemmas.Slice.Eq.{bytes_eq-Decides}
use Rattle.serde_json.specs.Data.{Data, array, object, Items, no_items, item, Members, no_members, member, put, depth, items_depth, members_depth}
use Rattle.serde_json.specs.Written.{has_float, items_have_float, members_have_float}
use Rattle.json_spelling.specs.Judge.{has_unfit, unfit_keys}
use Rattle.json_spelling.specs.Metadata.{is_whole}
use Rattle.json_spelling.specs.Sound.{IsBelowAll, MembersAreSound}
use Rattle.json_spelling.specs.Speller.{items_with}
use Rattle.json_spelling.proofs.DataFrames.{or_assoc, or_false}
use Rattle.json_spelling.proofs.SoundLemmas.{below_trans}

-- ---- a set of texts, as the list of their bytes

abbrev pub with_key : List (List ℕ) → List ℕ → List (List ℕ)
with_key = insert_key (slice_cmp nat_cmp)

abbrev pub without_key : List (List ℕ) → List ℕ → List (List ℕ)
without_key keys k = remove_key (is_at (slice_cmp nat_cmp k)) keys

pub text_inserted : (key : String Global) (keys : List (String Global)) → map string_bytes (insert_key string_cmp keys key) ≡ with_key (map string_bytes keys) (string_bytes key)
text_inserted key [] = refl
text_inserted key (x ∷ xs) = at (slice_cmp nat_cmp (string_bytes key) (string_bytes x)) (text_inserted key xs)
  where
    at : (o : Ordering) → map string_bytes (insert_key string_cmp xs key) ≡ with_key (map string_bytes xs) (string_bytes key) → map string_bytes (match_ordering o (key ∷ x ∷ xs) (x ∷ xs) (x ∷ insert_key string_cmp xs key))
        ≡ match_ordering o (string_bytes key ∷ string_bytes x ∷ map string_bytes xs) (string_bytes x ∷ map string_bytes xs) (string_bytes x ∷ with_key (map string_bytes xs) (string_bytes key))
    at Less rest = refl
    at Equal rest = refl
    at Greater rest = ap (λ ks. string_bytes x ∷ ks) rest

pub text_removed : (k : List ℕ) (keys : List (String Global)) → map string_bytes (remove_key (is_at (λ key. slice_cmp nat_cmp k (string_bytes key))) keys) ≡ without_key (map string_bytes keys) k
text_removed k [] = refl
text_removed k (x ∷ xs) = at (is_eq (slice_cmp nat_cmp k (string_bytes x))) (text_removed k xs)
  where
    at : (b : Bool) → map string_bytes (remove_key (is_at (λ key. slice_cmp nat_cmp k (string_bytes key))) xs) ≡ without_key (map string_bytes xs) k → map string_bytes (cond b xs (x ∷ remove_key (is_at (λ key. slice_cmp nat_cmp k (string_bytes key))) xs)) ≡ cond b (map string_bytes xs) (string_bytes x ∷ without_key (map string_bytes xs) k)
    at true rest = refl
    at false rest = ap (λ ks. string_bytes x ∷ ks) rest

-- ---- the keys of unfit values, with a member more

same_key : (k l : List ℕ) → slice_cmp nat_cmp k l ≡ Equal → k ≡ l
same_key k l is = (bytes_eq-Decides k l).0 (sym (is_eq-slice_cmp k l) ∙ ap is_eq is)

module _ (levels : ℕ) where
  -- a key below all of them
  goes_first : (k : List ℕ) (ms : Members) → IsBelowAll k ms → with_key (unfit_keys levels ms) k ≡ k ∷ unfit_keys levels ms
  goes_first k no_members below = refl
  goes_first k (member l e ms) below = at (is_whole e levels) (goes_first k ms below.1)
    where
      at : (whole : Bool) → with_key (unfit_keys levels ms) k ≡ k ∷ unfit_keys levels ms → with_key (if whole then unfit_keys levels ms else l ∷ unfit_keys levels ms) k ≡ k ∷ (if whole then unfit_keys levels ms else l ∷ unfit_keys levels ms)
      at true rest = rest
      at false rest = rw below.0 refl

  is_absent : (k : List ℕ) (ms : Members) → IsBelowAll k ms → without_key (unfit_keys levels ms) k ≡ unfit_keys levels ms
  is_absent k no_members below = refl
  is_absent k (member l e ms) below = at (is_whole e levels) (is_absent k ms below.1)
    where
      at : (whole : Bool) → without_key (unfit_keys levels ms) k ≡ unfit_keys levels ms → without_key (if whole then unfit_keys levels ms else l ∷ unfit_keys levels ms) k ≡ (if whole then unfit_keys levels ms else l ∷ unfit_keys levels ms)
      at true rest = rest
      at false rest = rw below.0 (ap (λ ks. l ∷ ks) rest)

  pub unfit_put : (k : List ℕ) (d : Data) (ms : Members) → MembersAreSound ms → is_whole d levels ≡ false → unfit_keys levels (put k d ms) ≡ with_key (unfit_keys levels ms) k
  unfit_put k d no_members sound unfit = rw unfit refl
  unfit_put k d (member l e ms) sound unfit = at (slice_cmp nat_cmp k l) refl (unfit_put k d ms sound.2 unfit)
    where
      alike : slice_cmp nat_cmp k l ≡ Equal → (whole : Bool) → l ∷ unfit_keys levels ms ≡ with_key (if whole then unfit_keys levels ms else l ∷ unfit_keys levels ms) k
      alike is true = let same = same_key k l is in sym (goes_first k ms (subst (λ m. IsBelowAll m ms) (sym same) sound.1) ∙ ap (λ m. m ∷ unfit_keys levels ms) same)
      alike is false = rw is refl

      later : (whole : Bool) → unfit_keys levels (put k d ms) ≡ with_key (unfit_keys levels ms) k → slice_cmp nat_cmp k l ≡ Greater
          → (if whole then unfit_keys levels (put k d ms) else l ∷ unfit_keys levels (put k d ms)) ≡ with_key (if whole then unfit_keys levels ms else l ∷ unfit_keys levels ms) k
      later true rest is = rest
      later false rest is = rw is (ap (λ ks. l ∷ ks) rest)

      at : (o : Ordering) → slice_cmp nat_cmp k l ≡ o → unfit_keys levels (put k d ms) ≡ with_key (unfit_keys levels ms) k
          → unfit_keys levels (match_ordering o (member k d (member l e ms)) (member l d ms) (member l e (put k d ms))) ≡ with_key (unfit_keys levels (member l e ms)) k
      at Less is rest = rw unfit (sym (goes_first k (member l e ms) (is, below_trans k l ms is sound.1)))
      at Equal is rest = rw unfit (alike is (is_whole e levels))
      at Greater is rest = later (is_whole e levels) rest is

  pub fit_put : (k : List ℕ) (d : Data) (ms : Members) → MembersAreSound ms → is_whole d levels ≡ true → unfit_keys levels (put k d ms) ≡ without_key (unfit_keys levels ms) k
  fit_put k d no_members sound fit = rw fit refl
  fit_put k d (member l e ms) sound fit = at (slice_cmp nat_cmp k l) refl (fit_put k d ms sound.2 fit)
    where
      alike : slice_cmp nat_cmp k l ≡ Equal → (whole : Bool) → unfit_keys levels ms ≡ without_key (if whole then unfit_keys levels ms else l ∷ unfit_keys levels ms) k
      alike is true = sym (is_absent k ms (subst (λ m. IsBelowAll m ms) (sym (same_key k l is)) sound.1))
      alike is false = rw is refl

      later : (whole : Bool) → unfit_keys levels (put k d ms) ≡ without_key (unfit_keys levels ms) k → slice_cmp nat_cmp k l ≡ Greater
          → (if whole then unfit_keys levels (put k d ms) else l ∷ unfit_keys levels (put k d ms)) ≡ without_key (if whole then unfit_keys levels ms else l ∷ unfit_keys levels ms) k
      later true rest is = rest
      later false rest is = rw is (ap (λ ks. l ∷ ks) rest)

      at : (o : Ordering) → slice_cmp nat_cmp k l ≡ o → unfit_keys levels (put k d ms) ≡ without_key (unfit_keys levels ms) k
          → unfit_keys levels (match_ordering o (member k d (member l e ms)) (member l d ms) (member l e (put k d ms))) ≡ without_key (unfit_keys levels (member l e ms)) k
      at Less is rest = rw fit (sym (is_absent k (member l e ms) (is, below_trans k l ms is sound.1)))
      at Equal is rest = rw fit (alike is (is_whole e levels))
      at Greater is rest = later (is_whole e levels) rest is

-- ---- all of them are fit

same_bool : (a b : Bool) → (a ≡ true → b ≡ true) → (b ≡ true → a ≡ true) → a ≡ b
same_bool true b there back = sym (there refl)
same_bool false b there back = sym (false_from_ne_true b (λ is. let never : false ≡ true = back is in cc))

both_within : (x y n : ℕ) → (nat_le x n && nat_le y n) ≡ nat_le (max x y) n
both_within x y n = at (nat_le x n) refl (nat_le y n) refl
  where
    at : (a : Bool) → nat_le x n ≡ a → (b : Bool) → nat_le y n ≡ b → (a && b) ≡ nat_le (max x y) n
    at true first true other = sym (le-leb (max x y) n (omega (arith, leb-true x n first, leb-true y n other)))
    at true first false other = sym (lt-leb (max x y) n (omega (arith, leb-false y n other)))
    at false first b other = sym (lt-leb (max x y) n (omega (arith, leb-false x n first)))

beside_fit : (a b : Bool) (x y n : ℕ) → ((not a && nat_le x n) && (not b && nat_le y n)) ≡ (not (a || b) && nat_le (max x y) n)
beside_fit true b x y n = refl
beside_fit false true x y n = and_right (nat_le x n) false refl
beside_fit false false x y n = both_within x y n

abbrev none : List (List ℕ) → Bool
none [] = true
none (k ∷ ks) = false

none_unfit : (levels : ℕ) (ms : Members) → none (unfit_keys levels ms) ≡ (not (members_have_float ms) && nat_le (members_depth ms) levels)
none_unfit levels no_members = sym (le-leb 0 levels (omega arith))
none_unfit levels (member k d ms) = at (is_whole d levels) ∙ ap (λ b. is_whole d levels && b) (none_unfit levels ms) ∙ beside_fit (has_float d) (members_have_float ms) (depth d) (members_depth ms) levels
  where
    at : (whole : Bool) → none (if whole then unfit_keys levels ms else k ∷ unfit_keys levels ms) ≡ (whole && none (unfit_keys levels ms))
    at true = refl
    at false = refl

not_or : (a b : Bool) → not (not a || b) ≡ (a && not b)
not_or true b = refl
not_or false b = refl

none_has_unfit : (levels : ℕ) (ds : Items) → not (has_unfit levels ds) ≡ (not (items_have_float ds) && nat_le (items_depth ds) levels)
none_has_unfit levels no_items = sym (le-leb 0 levels (omega arith))
none_has_unfit levels (item d ds) =
    not_or (is_whole d levels) (has_unfit levels ds) ∙ ap (λ b. is_whole d levels && b) (none_has_unfit levels ds) ∙ beside_fit (has_float d) (items_have_float ds) (depth d) (items_depth ds) levels

pub unfit_item : (levels : ℕ) (ds : Items) (d : Data) → has_unfit levels (items_with ds d) ≡ (has_unfit levels ds || not (is_whole d levels))
unfit_item levels no_items d = sym (or_false (not (is_whole d levels)))
unfit_item levels (item e ds) d = ap (λ b. not (is_whole e levels) || b) (unfit_item levels ds d) ∙ or_assoc (not (is_whole e levels)) _ _

-- ---- what closes around them

level_more : (f : Bool) (deep around : ℕ) → ((not f && nat_le deep (100 - suc around)) && nat_lt around 100) ≡ (not f && nat_le (suc deep) (100 - around))
level_more true deep around = refl
level_more false deep around = same_bool _ _ there back
  where
    there : (nat_le deep (100 - suc around) && nat_lt around 100) ≡ true → nat_le (suc deep) (100 - around) ≡ true
    there is = let both = and_parts (nat_le deep (100 - suc around)) (nat_lt around 100) is in le-leb (suc deep) (100 - around) (omega (arith, leb-true deep (100 - suc around) both.0, ltb-true around 100 both.1))

    back : nat_le (suc deep) (100 - around) ≡ true → (nat_le deep (100 - suc around) && nat_lt around 100) ≡ true
    back is =
        let within = leb-true (suc deep) (100 - around) is in
        and_from (nat_le deep (100 - suc around)) (nat_lt around 100) (le-leb deep (100 - suc around) (omega (arith, within))) (lt-ltb around 100 (omega (arith, within)))

pub array_fit : (ds : Items) (around : ℕ) (unfit fit : Bool) → unfit ≡ has_unfit (100 - suc around) ds → fit ≡ (not unfit && nat_lt around 100) → fit ≡ is_whole (array ds) (100 - around)
array_fit ds around unfit fit is same =
    same ∙ ap (λ b. not b && nat_lt around 100) is ∙ ap (λ b. b && nat_lt around 100) (none_has_unfit (100 - suc around) ds) ∙ level_more (items_have_float ds) (items_depth ds) around

no_texts : (keys : List (String Global)) (empty : Bool) → (IsTrue empty ↔ (length keys ≡ 0)) → empty ≡ none (map string_bytes keys)
no_texts [] empty is = is.1 refl
no_texts (k ∷ ks) empty is = false_from_ne_true empty (λ none. let never : ⊥ = omega (arith, is.0 none) in never)

pub object_fit : (ms : Members) (around : ℕ) (keys : List (String Global)) (empty fit : Bool) → map string_bytes keys ≡ unfit_keys (100 - suc around) ms → (IsTrue empty ↔ (length keys ≡ 0)) → fit ≡ (empty && nat_lt around 100)
    → fit ≡ is_whole (object ms) (100 - around)
object_fit ms around keys empty fit are is same =
    same ∙ ap (λ b. b && nat_lt around 100) (no_texts keys empty is ∙ ap none are ∙ none_unfit (100 - suc around) ms) ∙ level_more (members_have_float ms) (members_depth ms) around
