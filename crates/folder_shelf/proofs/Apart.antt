-- Names and texts, told apart.
use Rattle.std.proofs.Common.{◌≡◌, ℕ, ◌<◌, ◌^◌, List, ◌∷◌, length, take, drop, refl, ap, sym, subst, ◌∙◌, arith}
use Rattle.std.specs.Prelude.{decimal}
use Rattle.std.specs.Str.Parse.{digits_value}
use Rattle.std.proofs.lemmas.List.{take_at, drop_at}
use Rattle.std.proofs.lemmas.Fmt.{decimal_is_IsNumeral}
use Rattle.base32_text.specs.Base32.{Spells, spelling}
use Rattle.base32_text.proofs.SpellingLemmas.{counts, one_meaning, spells_spelling}
use Rattle.folder_shelf.specs.Names.{file_name, IsKeyInRange}
use Rattle.folder_shelf.specs.Sealed.{sealed}
use Rattle.folder_shelf.specs.SettingsText.{settings_text_as, AreSettings}
use Rattle.folder_shelf.specs.declared.settings.StoreSettings.{StoreSettings}
use Rattle.folder_shelf.proofs.Seals.{length-sealed, cut_sealed}
use Rattle.folder_shelf.proofs.Fields.{place_at, servers_at, needed_at, made_at, secret_at, same_settings}

length-spelling : (index : List ℕ) (number : ℕ) → IsKeyInRange index number
    → length (spelling index) ≡ 26
length-spelling index number place =
    let spelled = spells_spelling index place.octets in
    omega (arith, counts (spelling index) index spelled, place.long, spelled.fewest)

letters_of : (index : List ℕ) (number : ℕ) → IsKeyInRange index number
    → take 26 (file_name index number) ≡ spelling index
unfolding file_name
letters_of index number place =
    take_at (spelling index) (46 ∷ decimal number) 26 (length-spelling index number place)

digits_of : (index : List ℕ) (number : ℕ) → IsKeyInRange index number
    → drop 26 (file_name index number) ≡ 46 ∷ decimal number
unfolding file_name
digits_of index number place =
    drop_at (spelling index) (46 ∷ decimal number) 26 (length-spelling index number place)

one_number : (m n : ℕ) → m < 2 ^ 16 → n < 2 ^ 16 → 46 ∷ decimal m ≡ 46 ∷ decimal n → m ≡ n
one_number m n small little e =
    let value : List ℕ → ℕ = λ text. digits_value 10 (drop 1 text) in
    sym ((decimal_is_IsNumeral m (omega (arith, small))).1) ∙ ap value e
    ∙ (decimal_is_IsNumeral n (omega (arith, little))).1

pub one_place : (index other : List ℕ) (number another : ℕ)
    → IsKeyInRange index number → IsKeyInRange other another
    → file_name index number ≡ file_name other another → (index ≡ other) × (number ≡ another)
one_place index other number another here there e =
    let letters = sym (letters_of index number here) ∙ ap (λ t. take 26 t) e
    ∙ letters_of other another there in
    let digits = sym (digits_of index number here) ∙ ap (λ t. drop 26 t) e
    ∙ digits_of other another there in
    let P : List ℕ → Type 0 = λ text. Spells text other in (
      one_meaning (spelling index) index other (spells_spelling index here.octets)
          (subst P (sym letters) (spells_spelling other there.octets)),
      one_number number another here.small there.small digits,
    )

pub one_content : (bytes other : List ℕ) → sealed bytes ≡ sealed other → bytes ≡ other
one_content bytes other e =
    let long = sym (length-sealed bytes) in
    sym ((cut_sealed (sealed bytes) bytes (length bytes) refl long).0)
    ∙ (cut_sealed (sealed bytes) other (length bytes) e long).0

pub one_grid : (format : List ℕ) → length format ≡ 16 → (s t : StoreSettings) → AreSettings s → AreSettings t
    → settings_text_as format s ≡ settings_text_as format t → s ≡ t
one_grid format long s t are there e =
    let text = settings_text_as format s in
    same_settings t s.place s.servers s.needed s.made s.secret
    (sym (place_at format long text s are refl) ∙ place_at format long text t there e)
    (sym (servers_at format long text s are refl) ∙ servers_at format long text t there e)
    (sym (needed_at format long text s are refl) ∙ needed_at format long text t there e)
    (sym (made_at format long text s are refl) ∙ made_at format long text t there e)
    (sym (secret_at format long text s are refl) ∙ secret_at format long text t there e)
