-- Three parts are joined in either order.
use Rattle.std.proofs.Common.{◌≡◌, List, [], ◌∷◌, ◌++◌, Option, Some, None, refl, ap, ◌∙◌, fold, append_assoc}
use Rattle.std.proofs.lemmas.List.Sums.{fold-append}
use Rattle.json.specs.Token.{Token, begin_object, end_object, begin_array, end_array, key, string, number, boolean, null, bad}
use Rattle.json_seams.specs.Seams.{last_token, behind_comma, from_comma, seam}

abbrev last_from : Option Token → List Token → Option Token
last_from last ts = fold (λ _ t. Some t) last ts

behind_value : (value : Token) (second third : List Token) → behind_comma second ++ from_comma (last_from (Some value) (behind_comma second)) third ≡ behind_comma (second ++ from_comma (last_token second) third)
behind_value value [] third = refl
behind_value value (begin_object ∷ ts) third = refl
behind_value value (end_object ∷ ts) third = refl
behind_value value (begin_array ∷ ts) third = refl
behind_value value (end_array ∷ ts) third = refl
behind_value value ((key s) ∷ ts) third = refl
behind_value value ((string s) ∷ ts) third = refl
behind_value value ((number s) ∷ ts) third = refl
behind_value value ((boolean v) ∷ ts) third = refl
behind_value value (null ∷ ts) third = refl
behind_value value (bad ∷ ts) third = refl

behind : (last : Option Token) (second third : List Token) → from_comma last second ++ from_comma (last_from last (from_comma last second)) third ≡ from_comma last (second ++ from_comma (last_token second) third)
behind None second third = refl
behind (Some begin_object) second third = refl
behind (Some end_object) second third = behind_value end_object second third
behind (Some begin_array) second third = refl
behind (Some end_array) second third = behind_value end_array second third
behind (Some (key s)) second third = refl
behind (Some (string s)) second third = behind_value (string s) second third
behind (Some (number s)) second third = behind_value (number s) second third
behind (Some (boolean v)) second third = behind_value (boolean v) second third
behind (Some null) second third = behind_value null second third
behind (Some bad) second third = refl

pub in_turn : (first second third : List Token) → seam (seam first second) third ≡ seam first (seam second third)
in_turn first second third =
    let last = last_token first in
    let more = from_comma last second in
    append_assoc first more _
    ∙ ap (λ o. first ++ (more ++ from_comma o third)) (fold-append (λ _ t. Some t) None first more)
    ∙ ap (λ ts. first ++ ts) (behind last second third)
