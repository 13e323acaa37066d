-- Which store a text names on a Redis server.
use Rattle.std.proofs.Common.{◌≡◌, ◌≢◌, ◌⊎◌, ◌∙◌, ◌++◌, ◌==◌, ℕ, List, [], Bor, IfSome, None, Option, Some, ap, append_assoc, codes, false, inl, inr, refl, subst, sym}
use Rattle.std.specs.List.{list_any}
use Rattle.server_options.specs.Named.{IsNameOf, IsPlace, IsServerAddress, IsSized}
use Rattle.server_options.specs.declared.store_names.StoreWanted.{StoreWanted}
use Rattle.server_options.specs.declared.store_names.StoreWanted.TheVariants.{Redis}
use Rattle.server_options.proofs.TextLemmas.{not_empty}

-- the store at this address, under this name
abbrev pub IsOnServer : Bor (List ℕ) → Bor (List ℕ) → ℕ → StoreWanted → Type 0
IsOnServer address name room store = (store ≡ Redis (record { address = address; name = name }) room)
    × IsServerAddress address.now
    × (list_any (λ b. b == 58) name.now ≡ false)

by_place : (otherwise room : ℕ) (address name : Bor (List ℕ)) (text : List ℕ) (found : Option StoreWanted) → IfSome found (IsOnServer address name room)
    → ((list_any (λ b. b == 58) name.now ≡ false) → (place : List ℕ) × IsPlace place address.now name.now × (((text ≡ place) × (room ≡ otherwise)) ⊎ IsSized text place room))
    → IfSome found (IsNameOf otherwise (codes "redis:" ++ text))
by_place otherwise room address name text None is parts = tt
by_place otherwise room address name text (Some store) is parts =
    let place = parts is.2 in
    subst (IsNameOf otherwise (codes "redis:" ++ text)) (sym is.0)
    (text, refl, record { place = place.0; is_place = place.1; is_address = is.1; sized = place.2 })

pub named : (room : ℕ) (address name : Bor (List ℕ)) (found : Option StoreWanted) → IfSome found (IsOnServer address name room) → name.now ≢ []
    → IfSome found (IsNameOf room (codes "redis:" ++ (address.now ++ (codes "/" ++ name.now))))
named room address name found is some =
    by_place room room address name (address.now ++ (codes "/" ++ name.now)) found is
    (λ plain. (address.now ++ (codes "/" ++ name.now), inr (refl, record { some = some; no_colon = plain }), inl (refl, refl)))

pub named_sized : (otherwise room : ℕ) (address name : Bor (List ℕ)) (behind : List ℕ) (found : Option StoreWanted) → IfSome found (IsOnServer address name room)
    → IsSized behind name.now room → IfSome found (IsNameOf otherwise (codes "redis:" ++ (address.now ++ (codes "/" ++ behind))))
named_sized otherwise room address name behind found is sized =
    by_place otherwise room address name (address.now ++ (codes "/" ++ behind)) found is
    (λ plain. (
      address.now ++ (codes "/" ++ name.now),
      inr (refl, record { some = sized.some; no_colon = plain }),
      inr (record {
        size = sized.size;
        parts = ap (λ t. address.now ++ (codes "/" ++ t)) sized.parts ∙ sym (append_assoc address.now (codes "/" ++ name.now) (codes ":" ++ sized.size));
        says = sized.says;
        some = not_empty address.now 47 name.now;
      }),
    ))

pub unnamed : (room : ℕ) (address name : Bor (List ℕ)) (found : Option StoreWanted) → IfSome found (IsOnServer address name room) → name.now ≡ []
    → IfSome found (IsNameOf room (codes "redis:" ++ address.now))
unnamed room address name found is none =
    by_place room room address name address.now found is (λ _. (address.now, inl (refl, none), inl (refl, refl)))

pub unnamed_sized : (otherwise room : ℕ) (address name : Bor (List ℕ)) (text : List ℕ) (found : Option StoreWanted) → IfSome found (IsOnServer address name room) → name.now ≡ []
    → IsSized text address.now room → IfSome found (IsNameOf otherwise (codes "redis:" ++ text))
unnamed_sized otherwise room address name text found is none sized =
    by_place otherwise room address name text found is (λ _. (address.now, inl (refl, none), inr sized))
