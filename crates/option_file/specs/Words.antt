-- The words of a command line that a file of options stands for.
use Rattle.std.specs.Prelude.{ℕ, ◌+◌, ◌==◌, nat_eq, Bool, true, false, ◌&&◌, ◌||◌, if◌then◌else◌, List, [], ◌∷◌, ◌++◌, length, take, slice_index, count_by, codes, Option, Some, None, option_map, Result, Ok, Err}
use Rattle.std.specs.List.{starts_with, list_any}
use Rattle.std.specs.Fmt.{signed_decimal}
use Rattle.toml.specs.Data.{Data, string, integer, boolean, array, Items, no_items, item, Members, no_members, member}

-- an option as a word: two hyphens and its name
abbrev pub option_name : List ℕ → List ℕ
option_name key = codes "--" ++ key

-- an option with a value, as one word, in which any value is one: it may begin with a hyphen
abbrev pub valued_word : List ℕ → List ℕ → List ℕ
valued_word key text = option_name key ++ codes "=" ++ text

-- a text is a value, and so is a whole number by its decimal digits; nothing else is
abbrev pub value_text : Data → Option (List ℕ)
value_text (string text) = Some text
value_text (integer number) = Some (signed_decimal number)
value_text _ = None

-- a word before others, if there are both
abbrev pub word_before : Option (List ℕ) → Option (List (List ℕ)) → Option (List (List ℕ))
word_before None rest = None
word_before (Some word) rest = option_map (λ words. word ∷ words) rest

-- the option once for each of these values
abbrev pub items_words : List ℕ → Items → Option (List (List ℕ))
items_words key no_items = Some []
items_words key (item d ds) = word_before (option_map (valued_word key) (value_text d)) (items_words key ds)

-- the words of one option, if its value is of a kind that options have
abbrev pub option_words : List ℕ → Data → Option (List (List ℕ))
option_words key (boolean true) = Some (option_name key ∷ [])
option_words key (boolean false) = Some []
option_words key (array ds) = items_words key ds
option_words key d = word_before (option_map (valued_word key) (value_text d)) (Some [])

-- a word of a command line is this option: its name alone, or with `=` behind it
abbrev pub is_option : List ℕ → List ℕ → Bool
is_option name word = starts_with nat_eq word name && (length word == length name || slice_index word (length name) == 61)

-- a command line has this option
abbrev pub is_given : List (List ℕ) → List ℕ → Bool
is_given given key = list_any (is_option (option_name key)) given

-- the words of one option beside a command line, which counts: none of an option that it has
abbrev pub words_beside : List (List ℕ) → List ℕ → Data → Option (List (List ℕ))
words_beside given key d = if is_given given key then Some [] else option_words key d

-- the words of an option before those of later ones, or the first key with a value of another kind
abbrev pub words_before : List ℕ → Option (List (List ℕ)) → Result (List (List ℕ)) (List ℕ) → Result (List (List ℕ)) (List ℕ)
words_before key None rest = Err key
words_before key (Some words) (Ok more) = Ok (words ++ more)
words_before key (Some words) (Err other) = Err other

-- the words of a table beside a command line: those of each key, in the order of the keys' bytes
abbrev pub table_words : List (List ℕ) → Members → Result (List (List ℕ)) (List ℕ)
table_words given no_members = Ok []
table_words given (member key d ms) =
    words_before key (words_beside given key d) (table_words given ms)

-- the line, from 1, in which a place of a text is
abbrev pub line_at : List ℕ → ℕ → ℕ
line_at text place = 1 + count_by (λ b. b == 10) (take place text)
