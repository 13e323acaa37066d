-- What is added, step by step.
use Rattle.std.proofs.Common.{◌≡◌, ℕ, ◌+◌, ◌<◌, Bool, false, ◌||◌, List, [], ◌∷◌, ◌++◌, length, get_or, drop, map, refl, sym, ap, subst, ◌∙◌, append_assoc, Option, Some, None, option_map, Result, Ok, Err, String, Global, string_bytes}
use Rattle.std.specs.List.{list_any}
use Rattle.std.proofs.lemmas.List.{drop_more}
use Rattle.toml.specs.View.{view, items_view}
use Rattle.toml.specs.declared.value.Value.{Value}
use Rattle.toml.proofs.Views.{items_view-drop}
use Rattle.option_file.specs.Words.{items_words, word_before, value_text, valued_word, words_before}

-- a word that isn't looked for leaves the question to those behind it
pub one_on : (p : List ℕ → Bool) (xs : List (String Global)) (i : ℕ) (x : String Global) → i < length xs → p (string_bytes (get_or xs i x)) ≡ false
    → list_any p (map string_bytes (drop i xs)) ≡ list_any p (map string_bytes (drop (i + 1) xs))
one_on p xs i x below unlike =
    ap (λ ys. list_any p (map string_bytes ys)) (drop_more xs i x below) ∙ ap (λ b. b || list_any p (map string_bytes (drop (i + 1) xs))) unlike

-- one value of several
pub value_added : (key : List ℕ) (old new : List (List ℕ)) (text : Option (List ℕ)) (rest : Option (List (List ℕ)))
    → option_map (λ t. old ++ valued_word key t ∷ []) text ≡ Some new
    → option_map (λ more. old ++ more) (word_before (option_map (valued_word key) text) rest) ≡ option_map (λ more. new ++ more) rest
value_added key old new None rest e = cc
value_added key old new (Some t) None e = refl
value_added key old new (Some t) (Some more) e =
    let same : new ≡ old ++ valued_word key t ∷ [] = cc in
    ap Some (sym (append_assoc old (valued_word key t ∷ []) more) ∙ ap (λ words. words ++ more) (sym same))

pub value_refused : (key : List ℕ) (old : List (List ℕ)) (text : Option (List ℕ)) (rest : Option (List (List ℕ)))
    → option_map (λ t. old ++ valued_word key t ∷ []) text ≡ None
    → option_map (λ more. old ++ more) (word_before (option_map (valued_word key) text) rest) ≡ None
value_refused key old None rest e = refl
value_refused key old (Some t) rest e = cc

-- one option of several
pub option_added : (key : List ℕ) (old new : List (List ℕ)) (words : Option (List (List ℕ))) (rest : Result (List (List ℕ)) (List ℕ))
    → option_map (λ more. old ++ more) words ≡ Some new
    → words_before [] (Some old) (words_before key words rest) ≡ words_before [] (Some new) rest
option_added key old new None rest e = cc
option_added key old new (Some words) (Err other) e = refl
option_added key old new (Some words) (Ok more) e =
    let same : new ≡ old ++ words = cc in
    ap Ok (sym (append_assoc old words more) ∙ ap (λ all. all ++ more) (sym same))

pub option_refused : (key : List ℕ) (old : List (List ℕ)) (words : Option (List (List ℕ))) (rest : Result (List (List ℕ)) (List ℕ))
    → option_map (λ more. old ++ more) words ≡ None → words_before [] (Some old) (words_before key words rest) ≡ Err key
option_refused key old None rest e = refl
option_refused key old (Some words) rest e = cc

-- a value at its place among several
pub values_on : (key : List ℕ) (old new : List (List ℕ)) (vs : List Value) (i : ℕ) (v : Value) → i < length vs → v ≡ get_or vs i v
    → option_map (λ t. old ++ valued_word key t ∷ []) (value_text (view v)) ≡ Some new
    → option_map (λ more. old ++ more) (items_words key (items_view (drop i vs))) ≡ option_map (λ more. new ++ more) (items_words key (items_view (drop (i + 1) vs)))
values_on key old new vs i v below is added =
    ap (λ ds. option_map (λ more. old ++ more) (items_words key ds)) (items_view-drop vs i v below)
    ∙ value_added key old new (value_text (view (get_or vs i v))) (items_words key (items_view (drop (i + 1) vs)))
    (subst (λ w. option_map (λ t. old ++ valued_word key t ∷ []) (value_text (view w)) ≡ Some new) is added)

pub values_stop : (key : List ℕ) (old : List (List ℕ)) (vs : List Value) (i : ℕ) (v : Value) → i < length vs → v ≡ get_or vs i v
    → option_map (λ t. old ++ valued_word key t ∷ []) (value_text (view v)) ≡ None
    → option_map (λ more. old ++ more) (items_words key (items_view (drop i vs))) ≡ None
values_stop key old vs i v below is refused =
    ap (λ ds. option_map (λ more. old ++ more) (items_words key ds)) (items_view-drop vs i v below)
    ∙ value_refused key old (value_text (view (get_or vs i v))) (items_words key (items_view (drop (i + 1) vs)))
    (subst (λ w. option_map (λ t. old ++ valued_word key t ∷ []) (value_text (view w)) ≡ None) is refused)
