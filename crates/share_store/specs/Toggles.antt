-- Bits of a share that were changed, as a finite set of places.
use Rattle.std.specs.Prelude.{◌≡◌, ◌<◌, ◌≤◌, ℕ, suc, List, [], ◌∷◌, length, filter, Bool, true, not, ◌==◌, if◌then◌else◌, bit_xor, slice_index}
use Rattle.std.specs.List.{list_any}
use Rattle.share_store.specs.Toggle.{toggled}

-- whether a place is among these
abbrev pub is_toggled : List ℕ → ℕ → Bool
is_toggled toggles place = list_any (λ p. p == place) toggles

-- with the lowest bit changed at each of the places, where the first byte is at this place
abbrev pub toggled_from : List ℕ → ℕ → List ℕ → List ℕ
toggled_from toggles at [] = []
toggled_from toggles at (b ∷ bytes) = (if is_toggled toggles at then bit_xor b 1 else b) ∷ toggled_from toggles (suc at) bytes

-- a place is added, or taken out where it was there
abbrev pub switched : ℕ → List ℕ → List ℕ
switched place toggles = if is_toggled toggles place then filter (λ p. not (p == place)) toggles else place ∷ toggles

-- No place is no change, and no byte comes or goes. The bit of a byte is changed exactly when its place is in the set.
-- One more bit changed is its place switched; past the end there is none. A place inside the bytes makes other bytes.
pub record TogglesLaws : Type 0 where
  pub none : (bytes : List ℕ) → toggled_from [] 0 bytes ≡ bytes
  pub keeps_length : (toggles bytes : List ℕ) → length (toggled_from toggles 0 bytes) ≡ length bytes
  pub each : (toggles bytes : List ℕ) (place : ℕ) → place < length bytes → slice_index (toggled_from toggles 0 bytes) place ≡ (if is_toggled toggles place then bit_xor (slice_index bytes place) 1 else slice_index bytes place)
  pub switches : (toggles bytes : List ℕ) (place : ℕ) → place < length bytes → toggled (toggled_from toggles 0 bytes) place ≡ toggled_from (switched place toggles) 0 bytes
  pub beyond : (bytes : List ℕ) (place : ℕ) → length bytes ≤ place → toggled bytes place ≡ bytes
  pub differs : (toggles bytes : List ℕ) (place : ℕ) → is_toggled toggles place ≡ true → place < length bytes → toggled_from toggles 0 bytes ≡ bytes → ⊥
