-- How the two numbers of `--shares` stand in its text.
use Rattle.std.proofs.Common.{◌≡◌, ℕ, ◌<◌, ◌^◌, ◌==◌, List, length, sym, subst, length-drop, arith}
use Rattle.std.specs.List.{position_or_len, before_first, after_first}
use Rattle.std.specs.Str.Parse.{without_leading_plus}
use Rattle.octets.specs.Sharing.{IsSharing}
use Rattle.server_options.specs.Shares.{IsCountOf, IsPairOf}

-- without a comma there is no second number
pub no_comma : (text : List ℕ) → position_or_len (λ b. b == 44) text ≡ length text → (k n : ℕ) → IsPairOf text k n
    → ⊥
no_comma text none k n pair =
    let some : 0 < length (without_leading_plus (after_first (λ b. b == 44) text)) = pair.back.digits.0 in
    let more = simp length-drop at some in
    omega (arith, none)

-- where the front is no number of 16 bits, the text is no sharing
pub no_front : (text front : List ℕ) → front ≡ before_first (λ b. b == 44) text
    → ((n : ℕ) → n < 2 ^ 16 → IsCountOf front n → ⊥) → (k n : ℕ) → IsPairOf text k n → IsSharing k n → ⊥
no_front text front is none k n pair sharing = none k (omega arith) (subst (λ t. IsCountOf t k) (sym is) pair.front)

-- nor where the back is none
pub no_back : (text back : List ℕ) → back ≡ after_first (λ b. b == 44) text
    → ((n : ℕ) → n < 2 ^ 16 → IsCountOf back n → ⊥) → (k n : ℕ) → IsPairOf text k n → IsSharing k n → ⊥
no_back text back is none k n pair sharing = none n (omega arith) (subst (λ t. IsCountOf t n) (sym is) pair.back)

-- two numbers that stand round the comma are the text's
pub pair_of : (text front back : List ℕ) (k n : ℕ) → front ≡ before_first (λ b. b == 44) text
    → back ≡ after_first (λ b. b == 44) text → IsCountOf front k → IsCountOf back n → IsPairOf text k n
pair_of text front back k n before behind first second = record {
  front = subst (λ t. IsCountOf t k) before first;
  back = subst (λ t. IsCountOf t n) behind second;
}
