-- Numbers that are none, or out of their range.
use Rattle.std.proofs.Common.{◌≡◌, ℕ, ◌<◌, ◌≤◌, ◌^◌, List, decimal, Option, Some, None, sym, ◌∙◌, subst, arith}
use Rattle.std.proofs.lemmas.Fmt.{decimal_injective}
use Rattle.octets.specs.Decimal.{number_to}
use Rattle.octets.specs.Sharing.{IsSharing}
use Rattle.octets.proofs.NumberLaws.{one_text}
use Rattle.caps.specs.Refusals.{AreNumberTexts}
use Rattle.caps.proofs.FieldLemmas.{small_share}

-- a text that is read as a number is its decimal text
pub read_as : (most number : ℕ) (text : List ℕ) → most < 2 ^ 64 → Some number ≡ number_to most text → text ≡ decimal number
read_as most number text fits e = ((one_text most number text fits).0 (sym e)).1

-- a text that is read as no number is no number's up to the limit
pub none_read : (most number : ℕ) (text : List ℕ) → most < 2 ^ 64 → None ≡ number_to most text → number ≤ most → text ≡ decimal number → ⊥
none_read most number text fits e within same =
    let some : number_to most text ≡ Some number = (one_text most number text fits).1 (within, same) in
    let wrong : ◌≡◌ {A = Option ℕ} None (Some number) = e ∙ some in
    cc

-- numbers that are out of their range
pub not_sharing : (kt nt st : List ℕ) (k n : ℕ) → kt ≡ decimal k → nt ≡ decimal n → k < 2 ^ 64 → n < 2 ^ 64
    → (IsSharing k n → ⊥) → AreNumberTexts kt nt st → ⊥
not_sharing kt nt st k n ke ne kf nf bad a =
    let small : (a.k < 2 ^ 64) × (a.n < 2 ^ 64) = small_share a.k a.n a.sharing in
    let same_k : a.k ≡ k = decimal_injective a.k k small.0 kf (sym a.k_decimal ∙ ke) in
    let same_n : a.n ≡ n = decimal_injective a.n n small.1 nf (sym a.n_decimal ∙ ne) in
    bad (subst (λ (m : ℕ). IsSharing k m) same_n (subst (λ (m : ℕ). IsSharing m a.n) same_k a.sharing))

-- what is read as no number is none of a cap's numbers
pub no_k : (kt nt st : List ℕ) (most : ℕ) → 256 ≤ most → most < 2 ^ 64 → None ≡ number_to most kt → AreNumberTexts kt nt st → ⊥
no_k kt nt st most enough fits e a =
    let k_n : a.k ≤ a.n = a.sharing.enough in
    let n_limit : a.n ≤ 256 = a.sharing.limit in
    none_read most a.k kt fits e (omega arith) a.k_decimal

pub no_n : (kt nt st : List ℕ) (most : ℕ) → 256 ≤ most → most < 2 ^ 64 → None ≡ number_to most nt → AreNumberTexts kt nt st → ⊥
no_n kt nt st most enough fits e a =
    let n_limit : a.n ≤ 256 = a.sharing.limit in
    none_read most a.n nt fits e (omega arith) a.n_decimal

pub no_size : (kt nt st : List ℕ) → None ≡ number_to 18446744073709551615 st → AreNumberTexts kt nt st → ⊥
no_size kt nt st e a =
    let size_fits : a.size < 2 ^ 64 = a.size_fits in
    none_read 18446744073709551615 a.size st (omega arith) e (omega arith) a.size_decimal
