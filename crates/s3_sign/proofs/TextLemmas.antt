-- Texts that are put together piece by piece.
use Rattle.std.proofs.Common.{◌≡◌, ℕ, List, [], ◌∷◌, ◌++◌, codes, ap, sym, ◌∙◌, append_assoc, append-nil}
use Rattle.std.specs.List.{join_with_byte}
use Rattle.std.proofs.lemmas.Grind.{flat_map-append}
use Rattle.s3_sign.specs.CanonicalRequest.{SignedField, signed_field, signed_lines}
use Rattle.hmac_sha256.specs.Hmac.{hmac_sha256}
use Rattle.s3_sign.specs.SigningKey.{signing_key}
use Rattle.s3_sign.specs.SignedHead.{head_fields}

regroup : (between end : List ℕ) (length condition : List SignedField) (host body time : SignedField) (old : List ℕ)
    → ((((old ++ signed_lines between end length) ++ signed_lines between end (host ∷ [])) ++ signed_lines between end condition)
    ++ signed_lines between end (body ∷ [])) ++ signed_lines between end (time ∷ [])
    ≡ old ++ signed_lines between end (length ++ (host ∷ []) ++ condition ++ (body ∷ time ∷ []))
regroup between end length condition host body time old = simp (flat_map-append, append_assoc, append-nil)

-- the fields, one group after another
pub all_fields : (between end : List ℕ) (length condition : List SignedField) (host body time : SignedField) (old a b c d e : List ℕ)
    → a ≡ old ++ signed_lines between end length → b ≡ a ++ signed_lines between end (host ∷ [])
    → c ≡ b ++ signed_lines between end condition → d ≡ c ++ signed_lines between end (body ∷ [])
    → e ≡ d ++ signed_lines between end (time ∷ [])
    → e ≡ old ++ signed_lines between end (length ++ (host ∷ []) ++ condition ++ (body ∷ time ∷ []))
all_fields between end length condition host body time old a b c d e p q r s t =
    let l = λ (f : SignedField) (x : List ℕ). x ++ signed_lines between end (f ∷ []) in
    t ∙ ap (l time) (s ∙ ap (l body) (r ∙ ap (λ x. x ++ signed_lines between end condition) (q ∙ ap (l host) p)))
    ∙ regroup between end length condition host body time old

abbrev then : List ℕ → List ℕ → List ℕ
then piece text = text ++ piece

-- what a signature is good for
pub scope_text : (day region o p q r : List ℕ) → o ≡ day → p ≡ o ++ codes "/" → q ≡ p ++ region → r ≡ q ++ codes "/s3/aws4_request"
    → r ≡ join_with_byte 47 (day ∷ region ∷ codes "s3" ∷ codes "aws4_request" ∷ [])
scope_text day region o p q r a b c d =
    d ∙ ap (then (codes "/s3/aws4_request")) (c ∙ ap (then region) (b ∙ ap (then (codes "/")) a)) ∙ simp append_assoc

-- the lines of the canonical request
pub request_text : (m p f n m' n' o₁ o₂ o₃ o₄ o₅ o₆ o₇ o₈ : List ℕ) → m' ≡ m → n' ≡ n → o₁ ≡ m' → o₂ ≡ o₁ ++ codes "\n" → o₃ ≡ o₂ ++ p
    → o₄ ≡ o₃ ++ codes "\n\n" → o₅ ≡ o₄ ++ f → o₆ ≡ o₅ ++ codes "\n" → o₇ ≡ o₆ ++ n' → o₈ ≡ o₇ ++ codes "\nUNSIGNED-PAYLOAD"
    → o₈ ≡ join_with_byte 10 (m ∷ p ∷ [] ∷ f ∷ n ∷ codes "UNSIGNED-PAYLOAD" ∷ [])
request_text m p f n m' n' o₁ o₂ o₃ o₄ o₅ o₆ o₇ o₈ em en e₁ e₂ e₃ e₄ e₅ e₆ e₇ e₈ =
    e₈ ∙ ap (then (codes "\nUNSIGNED-PAYLOAD")) (e₇ ∙ ap (λ x. o₆ ++ x) en ∙ ap (then n)
    (e₆ ∙ ap (then (codes "\n")) (e₅ ∙ ap (then f) (e₄ ∙ ap (then (codes "\n\n")) (e₃ ∙ ap (then p) (e₂ ∙ ap (then (codes "\n")) (e₁ ∙ em)))))))
    ∙ simp append_assoc

-- the lines of the string to sign
pub string_text : (t s d t' s' d' o₁ o₂ o₃ o₄ o₅ o₆ : List ℕ) → t' ≡ t → s' ≡ s → d' ≡ d → o₁ ≡ codes "AWS4-HMAC-SHA256\n"
    → o₂ ≡ o₁ ++ t' → o₃ ≡ o₂ ++ codes "\n" → o₄ ≡ o₃ ++ s' → o₅ ≡ o₄ ++ codes "\n" → o₆ ≡ o₅ ++ d'
    → o₆ ≡ join_with_byte 10 (codes "AWS4-HMAC-SHA256" ∷ t ∷ s ∷ d ∷ [])
string_text t s d t' s' d' o₁ o₂ o₃ o₄ o₅ o₆ et es ed e₁ e₂ e₃ e₄ e₅ e₆ =
    e₆ ∙ ap (λ x. o₅ ++ x) ed ∙ ap (then d) (e₅ ∙ ap (then (codes "\n")) (e₄ ∙ ap (λ x. o₃ ++ x) es ∙ ap (then s)
    (e₃ ∙ ap (then (codes "\n")) (e₂ ∙ ap (λ x. o₁ ++ x) et ∙ ap (then t) e₁))))
    ∙ simp append_assoc

-- the key of a day, step by step
pub key_of_day : (secret day region first first' k₁ k₂ k₃ k₄ : List ℕ) → first ≡ codes "AWS4" ++ secret → first' ≡ first
    → k₁ ≡ hmac_sha256 first' day → k₂ ≡ hmac_sha256 k₁ region → k₃ ≡ hmac_sha256 k₂ (codes "s3")
    → k₄ ≡ hmac_sha256 k₃ (codes "aws4_request") → k₄ ≡ signing_key secret day region
unfolding signing_key
key_of_day secret day region first first' k₁ k₂ k₃ k₄ e e' e₁ e₂ e₃ e₄ =
    e₄ ∙ ap (λ k. hmac_sha256 k (codes "aws4_request")) (e₃ ∙ ap (λ k. hmac_sha256 k (codes "s3"))
    (e₂ ∙ ap (λ k. hmac_sha256 k region) (e₁ ∙ ap (λ k. hmac_sha256 k day) (e' ∙ e))))

-- the parts of the field
pub field_text : (id scope names signature id' scope' names' signature' o₁ o₂ o₃ o₄ o₅ o₆ o₇ o₈ : List ℕ) → id' ≡ id → scope' ≡ scope → names' ≡ names
    → signature' ≡ signature → o₁ ≡ codes "AWS4-HMAC-SHA256 Credential=" → o₂ ≡ o₁ ++ id' → o₃ ≡ o₂ ++ codes "/" → o₄ ≡ o₃ ++ scope'
    → o₅ ≡ o₄ ++ codes ", SignedHeaders=" → o₆ ≡ o₅ ++ names' → o₇ ≡ o₆ ++ codes ", Signature=" → o₈ ≡ o₇ ++ signature'
    → o₈ ≡ codes "AWS4-HMAC-SHA256 Credential=" ++ id ++ codes "/" ++ scope ++ codes ", SignedHeaders=" ++ names ++ codes ", Signature=" ++ signature
field_text id scope names signature id' scope' names' signature' o₁ o₂ o₃ o₄ o₅ o₆ o₇ o₈ ed es en ei e₁ e₂ e₃ e₄ e₅ e₆ e₇ e₈ =
    e₈ ∙ ap (λ x. o₇ ++ x) ei ∙ ap (then signature) (e₇ ∙ ap (then (codes ", Signature=")) (e₆ ∙ ap (λ x. o₅ ++ x) en ∙ ap (then names)
    (e₅ ∙ ap (then (codes ", SignedHeaders=")) (e₄ ∙ ap (λ x. o₃ ++ x) es ∙ ap (then scope) (e₃ ∙ ap (then (codes "/")) (e₂ ∙ ap (λ x. o₁ ++ x) ed ∙ ap (then id) e₁))))))

-- the lines of the head
pub head_text : (m p a m' a' : List ℕ) (fields : List SignedField) (o₁ o₂ o₃ o₄ o₅ o₆ o₇ : List ℕ) → m' ≡ m → a' ≡ a → o₁ ≡ m'
    → o₂ ≡ o₁ ++ codes " " → o₃ ≡ o₂ ++ p → o₄ ≡ o₃ ++ codes " HTTP/1.1\r\n" → o₅ ≡ o₄ ++ head_fields fields
    → o₆ ≡ o₅ ++ head_fields (signed_field (codes "authorization") a' ∷ []) → o₇ ≡ o₆ ++ codes "\r\n"
    → o₇ ≡ m ++ codes " " ++ p ++ codes " HTTP/1.1\r\n" ++ head_fields (fields ++ signed_field (codes "authorization") a ∷ []) ++ codes "\r\n"
head_text m p a m' a' fields o₁ o₂ o₃ o₄ o₅ o₆ o₇ em ea e₁ e₂ e₃ e₄ e₅ e₆ e₇ =
    e₇ ∙ ap (then (codes "\r\n")) (e₆ ∙ ap (λ x. o₅ ++ head_fields (signed_field (codes "authorization") x ∷ [])) ea
    ∙ ap (then (head_fields (signed_field (codes "authorization") a ∷ [])))
    (e₅ ∙ ap (then (head_fields fields)) (e₄ ∙ ap (then (codes " HTTP/1.1\r\n")) (e₃ ∙ ap (then p) (e₂ ∙ ap (then (codes " ")) (e₁ ∙ em))))))
    ∙ ap (λ x. x ++ codes "\r\n") (append_assoc (m ++ codes " " ++ p ++ codes " HTTP/1.1\r\n") (head_fields fields) (head_fields (signed_field (codes "authorization") a ∷ []))
    ∙ ap (λ x. (m ++ codes " " ++ p ++ codes " HTTP/1.1\r\n") ++ x) (sym (flat_map-append (λ (f : SignedField). f.name ++ codes ": " ++ f.value ++ codes "\r\n") fields (signed_field (codes "authorization") a ∷ []))))
