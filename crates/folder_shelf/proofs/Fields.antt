-- The fields of settings as a text, whatever the format's name is.
use Rattle.std.proofs.Common.{◌≡◌, ℕ, ◌+◌, ◌*◌, ◌/◌, ◌%◌, ◌<◌, ◌^◌, List, ◌++◌, length, get_or, take, drop, refl, ap, sym, ◌∙◌, arith, append_assoc, length-append}
use Rattle.std.specs.Int.{w16, to_be_bytes}
use Rattle.std.proofs.lemmas.List.{take_at, get_or-append-add}
use Rattle.std.proofs.Math.Seq.{drop-append-add}
use Rattle.folder_shelf.specs.Sealed.{seal, sealed}
use Rattle.folder_shelf.specs.SettingsText.{settings_bytes, settings_text_as, AreSettings}
use Rattle.folder_shelf.specs.declared.settings.StoreSettings.{StoreSettings}
use Rattle.folder_shelf.proofs.Seals.{length-sealed}

two_bytes : (n : ℕ) → n < 2 ^ 16 → n / 256 % 256 * 256 + n % 256 ≡ n
two_bytes n small = omega arith

-- what stands between the format's name and the seal
abbrev fields : StoreSettings → List ℕ
fields s = to_be_bytes w16 s.place ++ to_be_bytes w16 s.servers ++ to_be_bytes w16 s.needed ++ to_be_bytes w16 s.made ++ s.secret

regrouped : (a b c d e f : List ℕ) → a ++ b ++ c ++ d ++ e ++ f ≡ a ++ (b ++ c ++ d ++ e ++ f)
regrouped a b c d e f = simp (append_assoc) refl

parted : (format : List ℕ) (s : StoreSettings) → settings_bytes format s ≡ format ++ fields s
unfolding settings_bytes
parted format s = regrouped format (to_be_bytes w16 s.place) (to_be_bytes w16 s.servers) (to_be_bytes w16 s.needed) (to_be_bytes w16 s.made) s.secret

module _ (format : List ℕ) (long : length format ≡ 16) where
  length-settings_bytes : (s : StoreSettings) → length (settings_bytes format s) ≡ 24 + length s.secret
  length-settings_bytes s =
      let whole = ap length (parted format s) ∙ length-append format (fields s) in
      let back : length (fields s) ≡ 8 + length s.secret = omega arith in
      omega (arith, long, whole, back)

  pub length-settings_text_as : (text : List ℕ) (s : StoreSettings) → AreSettings s
      → text ≡ settings_text_as format s → length text ≡ 64
  length-settings_text_as text s are e =
      omega (arith, ap length e, length-sealed (settings_bytes format s), length-settings_bytes s, are.long)

  -- what stands behind the format's name
  abbrev rest : StoreSettings → List ℕ
  rest s = fields s ++ seal (settings_bytes format s)

  behind : (text : List ℕ) (s : StoreSettings) → text ≡ settings_text_as format s → text ≡ format ++ rest s
  unfolding sealed
  behind text s e =
      e ∙ ap (λ (l : List ℕ). l ++ seal (settings_bytes format s)) (parted format s)
      ∙ append_assoc format (fields s) (seal (settings_bytes format s))

  byte_at : (text : List ℕ) (s : StoreSettings) (i : ℕ) → text ≡ settings_text_as format s → get_or text (16 + i) 0 ≡ get_or (rest s) i 0
  byte_at text s i e =
      ap (λ (l : List ℕ). get_or l (16 + i) 0) (behind text s e)
      ∙ ap (λ (n : ℕ). get_or (format ++ rest s) (n + i) 0) (sym long)
      ∙ get_or-append-add format (rest s) i 0

  pub place_at : (text : List ℕ) (s : StoreSettings) → AreSettings s → text ≡ settings_text_as format s
      → get_or text 16 0 * 256 + get_or text 17 0 ≡ s.place
  place_at text s are e = rw (byte_at text s 0 e, byte_at text s 1 e) (two_bytes s.place are.place)

  pub servers_at : (text : List ℕ) (s : StoreSettings) → AreSettings s → text ≡ settings_text_as format s
      → get_or text 18 0 * 256 + get_or text 19 0 ≡ s.servers
  servers_at text s are e = rw (byte_at text s 2 e, byte_at text s 3 e) (two_bytes s.servers are.servers)

  pub needed_at : (text : List ℕ) (s : StoreSettings) → AreSettings s → text ≡ settings_text_as format s
      → get_or text 20 0 * 256 + get_or text 21 0 ≡ s.needed
  needed_at text s are e = rw (byte_at text s 4 e, byte_at text s 5 e) (two_bytes s.needed are.needed)

  pub made_at : (text : List ℕ) (s : StoreSettings) → AreSettings s → text ≡ settings_text_as format s
      → get_or text 22 0 * 256 + get_or text 23 0 ≡ s.made
  made_at text s are e = rw (byte_at text s 6 e, byte_at text s 7 e) (two_bytes s.made are.made)

  pub secret_at : (text : List ℕ) (s : StoreSettings) → AreSettings s → text ≡ settings_text_as format s
      → take 32 (drop 24 text) ≡ s.secret
  secret_at text s are e =
      ap (λ (l : List ℕ). take 32 (drop 24 l)) (behind text s e)
      ∙ ap (λ (n : ℕ). take 32 (drop (n + 8) (format ++ rest s))) (sym long)
      ∙ ap (take 32) (drop-append-add format (rest s) 8)
      ∙ take_at s.secret (seal (settings_bytes format s)) 32 are.long

pub same_settings : (s : StoreSettings) (place servers needed made : ℕ) (secret : List ℕ)
    → place ≡ s.place → servers ≡ s.servers → needed ≡ s.needed → made ≡ s.made → secret ≡ s.secret
    → ◌≡◌ {A = StoreSettings} (record {
      place = place;
      servers = servers;
      needed = needed;
      made = made;
      secret = secret;
    }) s
same_settings s place servers needed made secret p v n m x = rw (p, v, n, m, x) refl
