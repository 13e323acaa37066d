-- Names of files, taken apart.
use Rattle.std.proofs.Common.{◌≡◌, ◌≢◌, ℕ, ◌<◌, List, length, get_or, Bor, lit<, ◌∙◌, sym, ap}
use Rattle.std.specs.Prelude.{true, false, Option, decimal}
use Rattle.std.specs.Option.{MatchOption}
use Rattle.std.proofs.lemmas.List.Elements.{All-get_or}
use Rattle.std.proofs.lemmas.Str.Pattern.{split_after, IsSplitOnceResult}
use Rattle.base32_text.specs.Alphabet.{is_letter}
use Rattle.base32_text.specs.Base32.{Spells, spelling}
use Rattle.folder_shelf.specs.Names.{file_name}

stop_is_none : (c : ℕ) → is_letter c ≡ true → c ≢ 46
stop_is_none c letter e =
    let no : true ≡ false = sym letter ∙ ap is_letter e in cc no

-- no letter is a full stop
pub no_stop : (text bytes : List ℕ) → Spells text bytes → (i : ℕ) → i < length text
    → get_or text i 0 ≢ 46
no_stop text bytes spelled i within =
    stop_is_none (get_or text i 0)
    (All-get_or (λ c. is_letter c ≡ true) text i 0 within spelled.letters)

-- where the name of a share's file is cut at its first full stop
pub parted : (name index : List ℕ) (number : ℕ) (r : Option (Bor (List ℕ) × Bor (List ℕ)))
    → Spells (spelling index) index → name ≡ file_name index number
    → IsSplitOnceResult 46 name r
    → MatchOption r ⊥ (λ x. (x.0.now ≡ spelling index) × (x.1.now ≡ decimal number))
unfolding file_name
parted name index number r spelled e split =
    split_after 46 name (spelling index) (decimal number) r split (lit< tt) e
    (no_stop (spelling index) index spelled)
