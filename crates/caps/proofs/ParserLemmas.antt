-- The steps of the parser.
use Rattle.std.proofs.Common.{◌≡◌, ◌≢◌, ℕ, suc, ◌<◌, ◌^◌, decimal, append_assoc, false, ◌==◌, List, [], ◌∷◌, ◌++◌, length, get_or, refl, ap, sym, ◌∙◌, subst, arith, inl, inr, ◌⊎◌, Result, Ok, Err, MatchResult, IfOk, IfErr, Option, Some, None, MatchOption, Bor}
use Rattle.std.proofs.lemmas.Bool.Decides.{nat_tests}
use Rattle.std.specs.List.{All, join_with_byte}
use Rattle.std.proofs.lemmas.List.Splits.{slice_split_none, slice_split_at, length-slice_split}
use Rattle.base32_text.specs.Base32.{Spells, spelling}
use Rattle.base32_text.proofs.SpellingLemmas.{spells_spelling}
use Rattle.octets.specs.Sharing.{IsSharing}
use Rattle.octets.specs.Cut.{IsCutAt}
use Rattle.caps.proofs.FieldLemmas.{fields_text_of}
use Rattle.base32_text.specs.Refusals.{Refuses as B32Refuses}
use Rattle.base32_text.specs.declared.fault.B32Fault.{B32Fault}
use Rattle.base32_text.specs.declared.fault.B32Fault.TheVariants.{BadCharacter, BadLength, LooseBits}
use Rattle.base32_text.specs.declared.fault.B32Fault.TheVariants as b32
use Rattle.base32_text.proofs.ReadingLemmas.{spelled_or_refused}
use Rattle.caps.specs.CapTexts.{IsFieldsText, IsCapText}
use Rattle.caps.specs.Refusals.{parts, RefusesCap}
use Rattle.caps.specs.Reading.{cap_reading}
use Rattle.caps.specs.Steps.{field_fault, RefusesCount, RefusesBytes, RefusesRest}
use Rattle.caps.specs.Beginnings.{beginning}
use Rattle.caps.specs.declared.kind.Kind.{Kind}
use Rattle.caps.specs.declared.cap.Cap.{Cap}
use Rattle.caps.specs.declared.fault.CapFault.{CapFault}
use Rattle.caps.specs.declared.fault.CapFault.TheVariants.{UnknownKind, Mutable, BadField, BadNumber, NoMemory}
use Rattle.caps.proofs.ReadingLemmas.{text_reads, refused_reads}

-- the refusal of base32 is that of the field
pub bytes_refused : (fault : B32Fault) (text : List ℕ) → B32Refuses fault text → RefusesBytes (field_fault fault) text
bytes_refused (BadCharacter place) text r = λ bytes s. spelled_or_refused text bytes (BadCharacter place) (λ e. cc) s r
bytes_refused BadLength text r = λ bytes s. spelled_or_refused text bytes BadLength (λ e. cc) s r
bytes_refused LooseBits text r = λ bytes s. spelled_or_refused text bytes LooseBits (λ e. cc) s r
bytes_refused b32.NoMemory text r = tt

pub count_refused : (fault : B32Fault) (count : ℕ) (text : List ℕ) → B32Refuses fault text → RefusesCount (field_fault fault) count text
count_refused (BadCharacter place) count text r = λ bytes s long. spelled_or_refused text bytes (BadCharacter place) (λ e. cc) s r
count_refused BadLength count text r = λ bytes s long. spelled_or_refused text bytes BadLength (λ e. cc) s r
count_refused LooseBits count text r = λ bytes s long. spelled_or_refused text bytes LooseBits (λ e. cc) s r
count_refused b32.NoMemory count text r = tt

not_colon : (byte : ℕ) → (byte ≡ 58 → ⊥) → (byte == 58) ≡ false
not_colon byte h = grind (arith, nat_tests)

-- cut at the first `:`
no_colon : (text : List ℕ) → All (λ b. b ≢ 58) text → All (λ byte. (byte == 58) ≡ false) text
no_colon text h = λ k d l. not_colon (get_or text k d) (h k d l)

pub parts_cut : (text front back : List ℕ) → IsCutAt 58 text front back → parts text ≡ front ∷ parts back
parts_cut text front back c = ap parts c.parts ∙ slice_split_at (λ byte. byte == 58) front 58 back (no_colon front c.before) refl

pub parts_whole : (text : List ℕ) → All (λ b. b ≢ 58) text → parts text ≡ text ∷ []
parts_whole text h = slice_split_none (λ byte. byte == 58) text (no_colon text h)

-- the first part and what is after its `:`
pub cut_parts : (text : List ℕ) (o : Option (Bor (List ℕ) × Bor (List ℕ))) → MatchOption o (All (λ b. b ≢ 58) text) (λ p. IsCutAt 58 text p.0.now p.1.now)
    → MatchOption o (parts text ≡ text ∷ []) (λ p. parts text ≡ p.0.now ∷ parts p.1.now)
cut_parts text None h = parts_whole text h
cut_parts text (Some p) h = parts_cut text p.0.now p.1.now h

some_part : (text : List ℕ) → 0 < length (parts text)
some_part text = omega (arith, length-slice_split (λ byte. byte == 58) text)

pub six_parts : (text a b c d e rest1 rest2 rest3 size last : List ℕ) → parts text ≡ a ∷ parts rest1 → parts rest1 ≡ b ∷ parts rest2
    → parts rest2 ≡ c ∷ parts rest3 → parts rest3 ≡ d ∷ parts size → parts size ≡ e ∷ parts last → length (parts text) ≡ 5 → ⊥
six_parts text a b c d e rest1 rest2 rest3 size last h1 h2 h3 h4 h5 five =
    let l1 : length (parts text) ≡ suc (length (parts rest1)) = ap length h1 in
    let l2 : length (parts rest1) ≡ suc (length (parts rest2)) = ap length h2 in
    let l3 : length (parts rest2) ≡ suc (length (parts rest3)) = ap length h3 in
    let l4 : length (parts rest3) ≡ suc (length (parts size)) = ap length h4 in
    let l5 : length (parts size) ≡ suc (length (parts last)) = ap length h5 in
    let some : 0 < length (parts last) = some_part last in
    omega arith

-- an answer that is right is the reading
pub read_answer : (text : List ℕ) (cap : Cap) → IsCapText cap text → Ok cap ≡ cap_reading text
read_answer text cap t = sym (text_reads cap text t)

abbrev pub Answered : List ℕ → Result Cap CapFault → Type 0
Answered text result = (result ≡ cap_reading text) ⊎ (result ≡ Err NoMemory)

pub refused_answer : (text : List ℕ) (fault : CapFault) → RefusesCap fault text → Answered text (Err fault)
refused_answer text UnknownKind r = inl (sym (refused_reads text UnknownKind (λ e. cc) r))
refused_answer text Mutable r = inl (sym (refused_reads text Mutable (λ e. cc) r))
refused_answer text BadField r = inl (sym (refused_reads text BadField (λ e. cc) r))
refused_answer text BadNumber r = inl (sym (refused_reads text BadNumber (λ e. cc) r))
refused_answer text NoMemory r = inr refl

-- what a step says of the rest, as said of the text
pub rest_read : (text rest : List ℕ) (kind : Kind) (r : Result Cap CapFault) → text ≡ beginning kind ++ rest
    → MatchResult r (λ cap. IsCapText cap (beginning kind ++ rest)) (λ fault. RefusesRest fault kind rest)
    → IfOk r (λ cap. IsCapText cap text)
rest_read text rest kind (Ok cap) e m = subst (IsCapText cap) (sym e) m
rest_read text rest kind (Err fault) e m = tt

refused_of_rest : (text rest : List ℕ) (kind : Kind) (fault : CapFault) → text ≡ beginning kind ++ rest → RefusesRest fault kind rest → RefusesCap fault text
refused_of_rest text rest kind UnknownKind e m = absurd m
refused_of_rest text rest kind Mutable e m = absurd m
refused_of_rest text rest kind BadField e m = (kind, rest, e, m)
refused_of_rest text rest kind BadNumber e m = (kind, rest, e, m)
refused_of_rest text rest kind NoMemory e m = tt

pub rest_refused : (text rest : List ℕ) (kind : Kind) (r : Result Cap CapFault) → text ≡ beginning kind ++ rest
    → MatchResult r (λ cap. IsCapText cap (beginning kind ++ rest)) (λ fault. RefusesRest fault kind rest)
    → IfErr r (λ fault. RefusesCap fault text)
rest_refused text rest kind (Ok cap) e m = tt
rest_refused text rest kind (Err fault) e m = refused_of_rest text rest kind fault e m

pub rest_answer : (text rest : List ℕ) (kind : Kind) (r : Result Cap CapFault) → text ≡ beginning kind ++ rest
    → MatchResult r (λ cap. IsCapText cap (beginning kind ++ rest)) (λ fault. RefusesRest fault kind rest) → Answered text r
rest_answer text rest kind (Ok cap) e m = inl (read_answer text cap (subst (IsCapText cap) (sym e) m))
rest_answer text rest kind (Err fault) e m = refused_answer text fault (refused_of_rest text rest kind fault e m)

-- five fields that were read are the text's
pub fields_read : (text a b kt nt st name ueb : List ℕ) (k n size : ℕ) → parts text ≡ a ∷ b ∷ kt ∷ nt ∷ st ∷ []
    → Spells a name → length name ≡ 16 → Spells b ueb → length ueb ≡ 32
    → kt ≡ decimal k → nt ≡ decimal n → st ≡ decimal size → IsSharing k n → size < 2 ^ 64 → IsFieldsText name ueb k n size text
fields_read text a b kt nt st name ueb k n size p s16 l16 s32 l32 ke ne se sharing fits =
    fields_text_of text kt nt st
    (record { name_text = a; ueb_text = b; parted = p; name = name; name_spelled = s16; name_long = l16; ueb = ueb; ueb_spelled = s32; ueb_long = l32 })
    k n size ke ne se sharing fits

-- what was written is the text of the fields
pub fields_written : (name ueb rest : List ℕ) (k n size : ℕ) → All (λ byte. byte < 256) name → length name ≡ 16
    → All (λ byte. byte < 256) ueb → length ueb ≡ 32 → IsSharing k n → size < 2 ^ 64
    → rest ≡ join_with_byte 58 (spelling name ∷ spelling ueb ∷ decimal k ∷ decimal n ∷ decimal size ∷ []) → IsFieldsText name ueb k n size rest
fields_written name ueb rest k n size b16 l16 b32 l32 sharing fits e = record {
  name_text = spelling name;
  ueb_text = spelling ueb;
  parted = e;
  name_spelled = spells_spelling name b16;
  name_long = l16;
  ueb_spelled = spells_spelling ueb b32;
  ueb_long = l32;
  sharing = sharing;
  size_fits = fits;
}

-- the pieces of a text, joined to one rest
pub joined_rest : (start a b c d e : List ℕ)
    → (((((start ++ a) ++ 58 ∷ []) ++ b) ++ 58 ∷ c) ++ 58 ∷ d) ++ 58 ∷ e ≡ start ++ join_with_byte 58 (a ∷ b ∷ c ∷ d ∷ e ∷ [])
joined_rest start a b c d e = simp append_assoc
