-- What a text is read as.
use Rattle.std.proofs.Common.{◌≡◌, ◌≢◌, ◌↔◌, ℕ, Bool, true, false, cond, List, [], ◌∷◌, ◌++◌, length, drop, codes, decimal, Option, Some, None, Result, Ok, Err, MatchBool, refl, ap, sym, ◌∙◌, subst}
use Rattle.std.specs.List.{join_with_byte}
use Rattle.base32_text.specs.Base32.{Spells, spelling}
use Rattle.base32_text.specs.Reading.{reading}
use Rattle.base32_text.specs.declared.fault.B32Fault.{B32Fault}
use Rattle.base32_text.proofs.SpellingLemmas.{is_spelling, spells_spelling}
use Rattle.base32_text.proofs.ReadingLemmas.{reads, reading_is_spelled, spelled_or_refused, Reads}
use Rattle.caps.specs.CapTexts.{IsFieldsText, IsCapText, IsStoredCap, IsCap, fields_text, cap_text}
use Rattle.caps.specs.Beginnings.{begins_with, beginning, kinds, is_mutable}
use Rattle.caps.specs.Refusals.{is_literal, LacksBytes, LacksFields, HasBadField, HasBadNumber, RefusesCap}
use Rattle.caps.specs.Reading.{literal, rest_reading, reading_of_kind, cap_reading}
use Rattle.caps.specs.declared.cap.Cap.{Cap}
use Rattle.caps.specs.declared.cap.Cap.TheVariants.{Chk, Lit, DirChk, DirLit, ChkVerify, DirChkVerify}
use Rattle.caps.specs.declared.kind.Kind.{Kind}
use Rattle.caps.specs.declared.kind.Kind.TheVariants.{ReadFile, LiteralFile, ReadDirectory, LiteralDirectory, VerifyFile, VerifyDirectory}
use Rattle.caps.specs.declared.fault.CapFault.{CapFault}
use Rattle.caps.specs.declared.fault.CapFault.TheVariants.{UnknownKind, Mutable, BadField, BadNumber, NoMemory}
use Rattle.caps.proofs.BeginningLemmas.{kind_of, kind_of-beginning, drop-beginning, is_mutable-beginning, begins, Found, found, each_kind}
use Rattle.caps.proofs.StoredLemmas.{Maker, StoredSays, stored_says, stored_reads, stored_lacks, stored_lacks_numbers}

-- ---- one cap, one text

stored_text : (name ueb text : List ℕ) (k n size : ℕ) → IsFieldsText name ueb k n size text → text ≡ fields_text name ueb k n size
stored_text name ueb text k n size f =
    f.parted
    ∙ ap (λ t. join_with_byte 58 (t ∷ f.ueb_text ∷ decimal k ∷ decimal n ∷ decimal size ∷ [])) (is_spelling f.name_text name f.name_spelled)
    ∙ ap (λ t. join_with_byte 58 (spelling name ∷ t ∷ decimal k ∷ decimal n ∷ decimal size ∷ [])) (is_spelling f.ueb_text ueb f.ueb_spelled)

pub text_is : (cap : Cap) (text : List ℕ) → IsCapText cap text → text ≡ cap_text cap
unfolding cap_text
text_is (Chk f) text t = t.1 ∙ ap (λ rest. codes "URI:CHK:" ++ rest) (stored_text f.key f.ueb t.0 f.k f.n f.size t.2)
text_is (Lit bytes) text t = t.1 ∙ ap (λ rest. codes "URI:LIT:" ++ rest) (is_spelling t.0 bytes t.2)
text_is (DirChk f) text t = t.1 ∙ ap (λ rest. codes "URI:DIR2-CHK:" ++ rest) (stored_text f.key f.ueb t.0 f.k f.n f.size t.2)
text_is (DirLit bytes) text t = t.1 ∙ ap (λ rest. codes "URI:DIR2-LIT:" ++ rest) (is_spelling t.0 bytes t.2)
text_is (ChkVerify f) text t = t.1 ∙ ap (λ rest. codes "URI:CHK-Verifier:" ++ rest) (stored_text f.si f.ueb t.0 f.k f.n f.size t.2)
text_is (DirChkVerify f) text t = t.1 ∙ ap (λ rest. codes "URI:DIR2-CHK-Verifier:" ++ rest) (stored_text f.si f.ueb t.0 f.k f.n f.size t.2)

stored_has_text : (name ueb : List ℕ) (k n size : ℕ) → IsStoredCap name ueb k n size → IsFieldsText name ueb k n size (fields_text name ueb k n size)
stored_has_text name ueb k n size s = record {
  name_text = spelling name;
  ueb_text = spelling ueb;
  parted = refl;
  name_spelled = spells_spelling name s.name_bytes;
  name_long = s.name_long;
  ueb_spelled = spells_spelling ueb s.ueb_bytes;
  ueb_long = s.ueb_long;
  sharing = s.sharing;
  size_fits = s.size_fits;
}

pub has_text : (cap : Cap) → IsCap cap → IsCapText cap (cap_text cap)
unfolding cap_text
has_text (Chk f) s = (fields_text f.key f.ueb f.k f.n f.size, refl, stored_has_text f.key f.ueb f.k f.n f.size s)
has_text (Lit bytes) s = (spelling bytes, refl, spells_spelling bytes s)
has_text (DirChk f) s = (fields_text f.key f.ueb f.k f.n f.size, refl, stored_has_text f.key f.ueb f.k f.n f.size s)
has_text (DirLit bytes) s = (spelling bytes, refl, spells_spelling bytes s)
has_text (ChkVerify f) s = (fields_text f.si f.ueb f.k f.n f.size, refl, stored_has_text f.si f.ueb f.k f.n f.size s)
has_text (DirChkVerify f) s = (fields_text f.si f.ueb f.k f.n f.size, refl, stored_has_text f.si f.ueb f.k f.n f.size s)

-- ---- a cap's text is read as the cap

pub reading_after : (kind : Kind) (rest : List ℕ) → cap_reading (beginning kind ++ rest) ≡ rest_reading kind rest
unfolding cap_reading
reading_after kind rest =
    ap (λ o. reading_of_kind o (beginning kind ++ rest)) (kind_of-beginning kind rest)
    ∙ ap (rest_reading kind) (drop-beginning kind rest)

literal_reads : (make : List ℕ → Cap) (rest bytes : List ℕ) → Spells rest bytes → literal make (reading rest) ≡ Ok (make bytes)
literal_reads make rest bytes s = ap (literal make) ((reading_is_spelled rest bytes).0 s)

pub text_reads : (cap : Cap) (text : List ℕ) → IsCapText cap text → cap_reading text ≡ Ok cap
text_reads (Chk f) text t = ap cap_reading t.1 ∙ reading_after ReadFile t.0 ∙ stored_reads _ f.key f.ueb t.0 f.k f.n f.size t.2
text_reads (Lit bytes) text t = ap cap_reading t.1 ∙ reading_after LiteralFile t.0 ∙ literal_reads Lit t.0 bytes t.2
text_reads (DirChk f) text t = ap cap_reading t.1 ∙ reading_after ReadDirectory t.0 ∙ stored_reads _ f.key f.ueb t.0 f.k f.n f.size t.2
text_reads (DirLit bytes) text t = ap cap_reading t.1 ∙ reading_after LiteralDirectory t.0 ∙ literal_reads DirLit t.0 bytes t.2
text_reads (ChkVerify f) text t = ap cap_reading t.1 ∙ reading_after VerifyFile t.0 ∙ stored_reads _ f.si f.ueb t.0 f.k f.n f.size t.2
text_reads (DirChkVerify f) text t = ap cap_reading t.1 ∙ reading_after VerifyDirectory t.0 ∙ stored_reads _ f.si f.ueb t.0 f.k f.n f.size t.2

pub one_cap : (text : List ℕ) (cap other : Cap) → IsCapText cap text → IsCapText other text → cap ≡ other
one_cap text cap other s t = let e : Ok cap ≡ Ok other = sym (text_reads cap text s) ∙ text_reads other text t in cc

-- ---- what is read is so

-- what the reading says of that which follows the beginning of a kind
abbrev RestSays : Kind → List ℕ → Result Cap CapFault → Type 0
RestSays kind rest (Ok cap) = IsCapText cap (beginning kind ++ rest)
RestSays kind rest (Err UnknownKind) = ⊥
RestSays kind rest (Err Mutable) = ⊥
RestSays kind rest (Err BadField) = HasBadField kind rest
RestSays kind rest (Err BadNumber) = HasBadNumber kind rest
RestSays kind rest (Err NoMemory) = ⊥

lacks_fields : (b : Bool) (rest : List ℕ) → b ≡ false → LacksFields rest → MatchBool b (LacksBytes rest) (LacksFields rest)
lacks_fields true rest e l = cc
lacks_fields false rest e l = l

lacks_bytes : (b : Bool) (rest : List ℕ) → b ≡ true → LacksBytes rest → MatchBool b (LacksBytes rest) (LacksFields rest)
lacks_bytes true rest e l = l
lacks_bytes false rest e l = cc

by_fields : (kind : Kind) (rest : List ℕ) (make : Maker) → is_literal kind ≡ false
    → ((name ueb : List ℕ) (k n size : ℕ) → IsFieldsText name ueb k n size rest → IsCapText (make name ueb k n size) (beginning kind ++ rest))
    → (r : Result Cap CapFault) → StoredSays make rest r → RestSays kind rest r
by_fields kind rest make e ok (Ok cap) s =
    subst (λ (c : Cap). IsCapText c (beginning kind ++ rest)) (sym s.made) (ok s.name s.ueb s.k s.n s.size s.fields)
by_fields kind rest make e ok (Err UnknownKind) s = s
by_fields kind rest make e ok (Err Mutable) s = s
by_fields kind rest make e ok (Err BadField) s = lacks_fields (is_literal kind) rest e s
by_fields kind rest make e ok (Err BadNumber) s = (e, s)
by_fields kind rest make e ok (Err NoMemory) s = s

by_bytes : (kind : Kind) (rest : List ℕ) (make : List ℕ → Cap) → is_literal kind ≡ true
    → ((bytes : List ℕ) → Spells rest bytes → IsCapText (make bytes) (beginning kind ++ rest))
    → (r : Result (List ℕ) B32Fault) → Reads rest r → RestSays kind rest (literal make r)
by_bytes kind rest make e ok (Ok bytes) s = ok bytes s
by_bytes kind rest make e ok (Err fault) s =
    lacks_bytes (is_literal kind) rest e (λ bytes t. spelled_or_refused rest bytes fault s.0 t s.1)

rest_says : (kind : Kind) (rest : List ℕ) → RestSays kind rest (rest_reading kind rest)
rest_says ReadFile rest = by_fields ReadFile rest _ refl (λ name ueb k n size f. (rest, refl, f)) _ (stored_says _ rest)
rest_says LiteralFile rest = by_bytes LiteralFile rest Lit refl (λ bytes s. (rest, refl, s)) (reading rest) (reads rest)
rest_says ReadDirectory rest = by_fields ReadDirectory rest _ refl (λ name ueb k n size f. (rest, refl, f)) _ (stored_says _ rest)
rest_says LiteralDirectory rest = by_bytes LiteralDirectory rest DirLit refl (λ bytes s. (rest, refl, s)) (reading rest) (reads rest)
rest_says VerifyFile rest = by_fields VerifyFile rest _ refl (λ name ueb k n size f. (rest, refl, f)) _ (stored_says _ rest)
rest_says VerifyDirectory rest = by_fields VerifyDirectory rest _ refl (λ name ueb k n size f. (rest, refl, f)) _ (stored_says _ rest)

-- what the reading says of a text
abbrev pub CapSays : List ℕ → Result Cap CapFault → Type 0
CapSays text (Ok cap) = IsCapText cap text
CapSays text (Err fault) = (fault ≢ NoMemory) × RefusesCap fault text

by_rest : (kind : Kind) (text rest : List ℕ) → text ≡ beginning kind ++ rest → (r : Result Cap CapFault) → RestSays kind rest r → CapSays text r
by_rest kind text rest e (Ok cap) s = subst (IsCapText cap) (sym e) s
by_rest kind text rest e (Err UnknownKind) s = absurd s
by_rest kind text rest e (Err Mutable) s = absurd s
by_rest kind text rest e (Err BadField) s = ((λ h. cc), (kind, rest, e, s))
by_rest kind text rest e (Err BadNumber) s = ((λ h. cc), (kind, rest, e, s))
by_rest kind text rest e (Err NoMemory) s = absurd s

by_mutable : (text : List ℕ) (b : Bool) → is_mutable text ≡ b → ((kind : Kind) → begins_with text (beginning kind) ≡ false)
    → CapSays text (cond b (Err Mutable) (Err UnknownKind))
by_mutable text true e none = ((λ h. cc), e)
by_mutable text false e none = ((λ h. cc), (none, e))

by_kind : (text : List ℕ) (o : Option Kind) → Found (λ kind. begins_with text (beginning kind)) kinds o → CapSays text (reading_of_kind o text)
by_kind text (Some kind) f =
    by_rest kind text (drop (length (beginning kind)) text) (begins text (beginning kind) f) _ (rest_says kind (drop (length (beginning kind)) text))
by_kind text None f = by_mutable text (is_mutable text) refl (each_kind (λ kind. begins_with text (beginning kind)) f)

pub cap_says : (text : List ℕ) → CapSays text (cap_reading text)
unfolding cap_reading
cap_says text = by_kind text (kind_of text) (found (λ kind. begins_with text (beginning kind)) kinds)

-- ---- what is refused is read so

literal_lacks : (make : List ℕ → Cap) (rest : List ℕ) (r : Result (List ℕ) B32Fault) → Reads rest r → LacksBytes rest → literal make r ≡ Err BadField
literal_lacks make rest (Ok bytes) s lacks = absurd (lacks bytes s)
literal_lacks make rest (Err fault) s lacks = refl

bad_field : (kind : Kind) (rest : List ℕ) → HasBadField kind rest → rest_reading kind rest ≡ Err BadField
bad_field ReadFile rest h = stored_lacks _ rest h
bad_field LiteralFile rest h = literal_lacks Lit rest (reading rest) (reads rest) h
bad_field ReadDirectory rest h = stored_lacks _ rest h
bad_field LiteralDirectory rest h = literal_lacks DirLit rest (reading rest) (reads rest) h
bad_field VerifyFile rest h = stored_lacks _ rest h
bad_field VerifyDirectory rest h = stored_lacks _ rest h

bad_number : (kind : Kind) (rest : List ℕ) → HasBadNumber kind rest → rest_reading kind rest ≡ Err BadNumber
bad_number ReadFile rest h = stored_lacks_numbers _ rest h.1
bad_number LiteralFile rest h = (let e : true ≡ false = h.0 in cc)
bad_number ReadDirectory rest h = stored_lacks_numbers _ rest h.1
bad_number LiteralDirectory rest h = (let e : true ≡ false = h.0 in cc)
bad_number VerifyFile rest h = stored_lacks_numbers _ rest h.1
bad_number VerifyDirectory rest h = stored_lacks_numbers _ rest h.1

unknown_as : (text : List ℕ) (o : Option Kind) → Found (λ kind. begins_with text (beginning kind)) kinds o
    → ((kind : Kind) → begins_with text (beginning kind) ≡ false) → is_mutable text ≡ false → reading_of_kind o text ≡ Err UnknownKind
unknown_as text (Some kind) f none e = (let h : begins_with text (beginning kind) ≡ false = none kind in cc)
unknown_as text None f none e = ap (λ b. cond b (Err Mutable) (Err UnknownKind)) e

mutable_as : (text : List ℕ) (o : Option Kind) → Found (λ kind. begins_with text (beginning kind)) kinds o
    → is_mutable text ≡ true → reading_of_kind o text ≡ Err Mutable
mutable_as text (Some kind) f e =
    (let h : is_mutable text ≡ false = ap is_mutable (begins text (beginning kind) f) ∙ is_mutable-beginning kind (drop (length (beginning kind)) text) in cc)
mutable_as text None f e = ap (λ b. cond b (Err Mutable) (Err UnknownKind)) e

pub refused_reads : (text : List ℕ) (fault : CapFault) → fault ≢ NoMemory → RefusesCap fault text → cap_reading text ≡ Err fault
unfolding cap_reading
refused_reads text UnknownKind some r = unknown_as text (kind_of text) (found (λ kind. begins_with text (beginning kind)) kinds) r.0 r.1
refused_reads text Mutable some r = mutable_as text (kind_of text) (found (λ kind. begins_with text (beginning kind)) kinds) r
refused_reads text BadField some r = ap cap_reading r.2 ∙ reading_after r.0 r.1 ∙ bad_field r.0 r.1 r.3
refused_reads text BadNumber some r = ap cap_reading r.2 ∙ reading_after r.0 r.1 ∙ bad_number r.0 r.1 r.3
refused_reads text NoMemory some r = absurd (some refl)

pub reading_is_read : (text : List ℕ) (cap : Cap) → IsCapText cap text ↔ (cap_reading text ≡ Ok cap)
reading_is_read text cap = (text_reads cap text, λ e. subst (CapSays text) e (cap_says text))

pub reading_is_refused : (text : List ℕ) (fault : CapFault) → fault ≢ NoMemory → (RefusesCap fault text ↔ (cap_reading text ≡ Err fault))
reading_is_refused text fault some = (refused_reads text fault some, λ e. (subst (CapSays text) e (cap_says text)).1)

pub reading_is_total : (text : List ℕ) → cap_reading text ≢ Err NoMemory
reading_is_total text is = (subst (CapSays text) is (cap_says text)).0 refl
