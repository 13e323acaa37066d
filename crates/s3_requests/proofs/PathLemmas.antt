-- What is spelled without escapes.
use Rattle.std.proofs.Common.{◌≡◌, ℕ, zero, suc, ◌/◌, ◌%◌, ◌<◌, List, [], ◌∷◌, ◌++◌, true, Option, Some, None, codes, refl, arith, slice_index, get_or}
use Rattle.std.specs.List.{AllPass}
use Rattle.std.specs.Option.{ForSome}
use Rattle.std.proofs.lemmas.Bool.Decides.{nat_tests}
use Rattle.std.proofs.lemmas.List.Elements.{All-append, All-nil}
use Rattle.hex.specs.Hex.{IsBytes, encode_with, lower_digits}
use Rattle.s3_sign.specs.Spelling.{is_path_byte}
use Rattle.s3_requests.specs.ObjectSites.{IsBucket, IsPrefix, is_bucket_byte, is_prefix_byte}
use Rattle.s3_requests.specs.ObjectNames.{name_beginning}

pub plain_both : (xs ys : List ℕ) → AllPass is_path_byte xs → AllPass is_path_byte ys → AllPass is_path_byte (xs ++ ys)
plain_both xs ys = All-append (λ byte. is_path_byte byte ≡ true) xs ys

bucket_byte : (byte : ℕ) → is_bucket_byte byte ≡ true → is_path_byte byte ≡ true
bucket_byte byte h = grind (arith, nat_tests)

prefix_byte : (byte : ℕ) → is_prefix_byte byte ≡ true → is_path_byte byte ≡ true
prefix_byte byte h = grind (arith, nat_tests)

slash : AllPass is_path_byte (codes "/")
slash zero d h = refl
slash (suc k) d h = absurd (omega arith)

pub path_plain : (bucket name : List ℕ) → IsBucket bucket → AllPass is_path_byte name
    → AllPass is_path_byte (codes "/" ++ bucket ++ codes "/" ++ name)
path_plain bucket name is h =
    plain_both (codes "/" ++ bucket ++ codes "/") name
    (plain_both (codes "/" ++ bucket) (codes "/") (plain_both (codes "/") bucket slash (λ k d l. bucket_byte (get_or bucket k d) (is.bytes k d l))) slash) h

pub beginning_plain : (prefix : Option (List ℕ)) → ForSome prefix IsPrefix → AllPass is_path_byte (name_beginning prefix)
beginning_plain None h = All-nil (λ byte. is_path_byte byte ≡ true)
beginning_plain (Some prefix) h = plain_both prefix (codes "/") (λ k d l. prefix_byte (get_or prefix k d) ((h prefix refl).bytes k d l)) slash

digit_plain : (n : ℕ) → n < 16 → is_path_byte (slice_index lower_digits n) ≡ true
digit_plain zero h = refl
digit_plain (suc zero) h = refl
digit_plain (suc (suc zero)) h = refl
digit_plain (suc (suc (suc zero))) h = refl
digit_plain (suc (suc (suc (suc zero)))) h = refl
digit_plain (suc (suc (suc (suc (suc zero))))) h = refl
digit_plain (suc (suc (suc (suc (suc (suc zero)))))) h = refl
digit_plain (suc (suc (suc (suc (suc (suc (suc zero))))))) h = refl
digit_plain (suc (suc (suc (suc (suc (suc (suc (suc zero)))))))) h = refl
digit_plain (suc (suc (suc (suc (suc (suc (suc (suc (suc zero))))))))) h = refl
digit_plain (suc (suc (suc (suc (suc (suc (suc (suc (suc (suc zero)))))))))) h = refl
digit_plain (suc (suc (suc (suc (suc (suc (suc (suc (suc (suc (suc zero))))))))))) h = refl
digit_plain (suc (suc (suc (suc (suc (suc (suc (suc (suc (suc (suc (suc zero)))))))))))) h = refl
digit_plain (suc (suc (suc (suc (suc (suc (suc (suc (suc (suc (suc (suc (suc zero))))))))))))) h = refl
digit_plain (suc (suc (suc (suc (suc (suc (suc (suc (suc (suc (suc (suc (suc (suc zero)))))))))))))) h = refl
digit_plain (suc (suc (suc (suc (suc (suc (suc (suc (suc (suc (suc (suc (suc (suc (suc zero))))))))))))))) h = refl
digit_plain (suc (suc (suc (suc (suc (suc (suc (suc (suc (suc (suc (suc (suc (suc (suc (suc n)))))))))))))))) h = absurd (omega arith)

two : (a b : ℕ) → is_path_byte a ≡ true → is_path_byte b ≡ true → AllPass is_path_byte (a ∷ b ∷ [])
two a b ha hb zero d h = ha
two a b ha hb (suc zero) d h = hb
two a b ha hb (suc (suc k)) d h = absurd (omega arith)

pub hex_plain : (bytes : List ℕ) → IsBytes bytes → AllPass is_path_byte (encode_with lower_digits bytes)
unfolding encode_with
hex_plain [] h = All-nil (λ byte. is_path_byte byte ≡ true)
hex_plain (b ∷ rest) h =
    let small : b < 256 = h 0 in
    plain_both (slice_index lower_digits (b / 16) ∷ slice_index lower_digits (b % 16) ∷ []) (encode_with lower_digits rest)
    (two (slice_index lower_digits (b / 16)) (slice_index lower_digits (b % 16)) (digit_plain (b / 16) (omega arith)) (digit_plain (b % 16) (omega arith)))
    (hex_plain rest (λ i. h (suc i)))
