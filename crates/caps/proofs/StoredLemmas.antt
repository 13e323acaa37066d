-- Caps of stored bytes, from the fields of their texts.
use Rattle.std.proofs.Common.{◌≡◌, ℕ, ◌<◌, ◌^◌, Bool, true, false, cond, List, [], ◌∷◌, decimal, Option, Some, None, Result, Ok, Err, refl, ap, sym, ◌∙◌, subst}
use Rattle.std.proofs.lemmas.Fmt.{decimal_injective}
use Rattle.base32_text.specs.Base32.{Spells}
use Rattle.caps.specs.CapTexts.{IsFieldsText}
use Rattle.caps.specs.Refusals.{parts, HasFields, AreNumberTexts, LacksFields, LacksNumbers}
use Rattle.caps.specs.Reading.{numeral, bytes_spelled, numbered, named, stored}
use Rattle.octets.specs.Sharing.{is_sharing}
use Rattle.caps.specs.declared.cap.Cap.{Cap}
use Rattle.caps.specs.declared.fault.CapFault.{CapFault}
use Rattle.caps.specs.declared.fault.CapFault.TheVariants.{UnknownKind, Mutable, BadField, BadNumber, NoMemory}
use Rattle.caps.proofs.FieldLemmas.{NumeralSays, numeral_says, numeral-decimal, BytesSay, bytes_say, bytes_spelled-spells, sharing_test, test_sharing, small_share, parts_of, has_fields, fields_text_of, same_texts}

abbrev pub Maker : Type 0
Maker = List ℕ → List ℕ → ℕ → ℕ → ℕ → Cap

-- a cap that was made of the fields of a text
pub record MadeOf (make : Maker) (text : List ℕ) (cap : Cap) : Type 0 where
  pub name : List ℕ
  pub ueb : List ℕ
  pub k : ℕ
  pub n : ℕ
  pub size : ℕ
  pub made : cap ≡ make name ueb k n size
  pub fields : IsFieldsText name ueb k n size text

abbrev pub SaysFault : List ℕ → CapFault → Type 0
SaysFault text UnknownKind = ⊥
SaysFault text Mutable = ⊥
SaysFault text BadField = LacksFields text
SaysFault text BadNumber = LacksNumbers text
SaysFault text NoMemory = ⊥

abbrev pub StoredSays : Maker → List ℕ → Result Cap CapFault → Type 0
StoredSays make text (Ok cap) = MadeOf make text cap
StoredSays make text (Err fault) = SaysFault text fault

lacking : (text kt nt st : List ℕ) → HasFields text kt nt st → (AreNumberTexts kt nt st → ⊥) → LacksNumbers text
lacking text kt nt st h bad = record { k_text = kt; n_text = nt; size_text = st; fields = h; bad = bad }

by_sharing : (make : Maker) (text kt nt st : List ℕ) (h : HasFields text kt nt st) (k n size : ℕ) (b : Bool) → is_sharing k n ≡ b
    → kt ≡ decimal k → nt ≡ decimal n → st ≡ decimal size → k < 2 ^ 64 → n < 2 ^ 64 → size < 2 ^ 64
    → StoredSays make text (cond b (Ok (make h.name h.ueb k n size)) (Err BadNumber))
by_sharing make text kt nt st h k n size true e ke ne se kf nf sf = record {
  name = h.name;
  ueb = h.ueb;
  k = k;
  n = n;
  size = size;
  made = refl;
  fields = fields_text_of text kt nt st h k n size ke ne se (test_sharing k n e) sf;
}
by_sharing make text kt nt st h k n size false e ke ne se kf nf sf = lacking text kt nt st h (λ a.
    let small : (a.k < 2 ^ 64) × (a.n < 2 ^ 64) = small_share a.k a.n a.sharing in
    let same_k : a.k ≡ k = decimal_injective a.k k small.0 kf (sym a.k_decimal ∙ ke) in
    let same_n : a.n ≡ n = decimal_injective a.n n small.1 nf (sym a.n_decimal ∙ ne) in
    let yes : is_sharing a.k a.n ≡ true = sharing_test a.k a.n a.sharing in
    let turned : is_sharing k n ≡ true = ap (λ x. is_sharing x n) (sym same_k) ∙ ap (is_sharing a.k) (sym same_n) ∙ yes in
    cc)

by_numbers : (make : Maker) (text kt nt st : List ℕ) (h : HasFields text kt nt st) (k n size : Option ℕ)
    → NumeralSays kt k → NumeralSays nt n → NumeralSays st size → StoredSays make text (numbered (make h.name h.ueb) k n size)
by_numbers make text kt nt st h (Some k) (Some n) (Some size) sk sn ss =
    by_sharing make text kt nt st h k n size (is_sharing k n) refl sk.0 sn.0 ss.0 sk.1 sn.1 ss.1
by_numbers make text kt nt st h None n size sk sn ss =
    lacking text kt nt st h (λ a. sk a.k (small_share a.k a.n a.sharing).0 a.k_decimal)
by_numbers make text kt nt st h (Some k) None size sk sn ss =
    lacking text kt nt st h (λ a. sn a.n (small_share a.k a.n a.sharing).1 a.n_decimal)
by_numbers make text kt nt st h (Some k) (Some n) None sk sn ss =
    lacking text kt nt st h (λ a. ss a.size a.size_fits a.size_decimal)

-- five fields are these five
same_fields : (text a b c d e : List ℕ) → parts text ≡ a ∷ b ∷ c ∷ d ∷ e ∷ [] → (k n size : List ℕ) (h : HasFields text k n size)
    → (a ≡ h.name_text) × (b ≡ h.ueb_text)
same_fields text a b c d e p k n size h =
    let q : a ∷ b ∷ c ∷ d ∷ e ∷ [] ≡ h.name_text ∷ h.ueb_text ∷ k ∷ n ∷ size ∷ [] = sym p ∙ h.parted in
    (cc, cc)

no_name : (text a b c d e : List ℕ) → parts text ≡ a ∷ b ∷ c ∷ d ∷ e ∷ [] → BytesSay 16 a None → LacksFields text
no_name text a b c d e p none k n size h =
    let same : (a ≡ h.name_text) × (b ≡ h.ueb_text) = same_fields text a b c d e p k n size h in
    none h.name (subst (λ (t : List ℕ). Spells t h.name) (sym same.0) h.name_spelled) h.name_long

no_ueb : (text a b c d e : List ℕ) → parts text ≡ a ∷ b ∷ c ∷ d ∷ e ∷ [] → BytesSay 32 b None → LacksFields text
no_ueb text a b c d e p none k n size h =
    let same : (a ≡ h.name_text) × (b ≡ h.ueb_text) = same_fields text a b c d e p k n size h in
    none h.ueb (subst (λ (t : List ℕ). Spells t h.ueb) (sym same.1) h.ueb_spelled) h.ueb_long

abbrev fields_are : (text a b c d e name ueb : List ℕ) → parts text ≡ a ∷ b ∷ c ∷ d ∷ e ∷ [] → BytesSay 16 a (Some name) → BytesSay 32 b (Some ueb)
    → HasFields text c d e
fields_are text a b c d e name ueb p s t = record {
  name_text = a;
  ueb_text = b;
  parted = p;
  name = name;
  name_spelled = s.0;
  name_long = s.1;
  ueb = ueb;
  ueb_spelled = t.0;
  ueb_long = t.1;
}

by_names : (make : Maker) (text a b c d e : List ℕ) → parts text ≡ a ∷ b ∷ c ∷ d ∷ e ∷ [] → (name ueb : Option (List ℕ))
    → BytesSay 16 a name → BytesSay 32 b ueb → StoredSays make text (named make name ueb (numeral c) (numeral d) (numeral e))
by_names make text a b c d e p (Some name) (Some ueb) s t =
    by_numbers make text c d e (fields_are text a b c d e name ueb p s t) (numeral c) (numeral d) (numeral e) (numeral_says c) (numeral_says d) (numeral_says e)
by_names make text a b c d e p None ueb s t = no_name text a b c d e p s
by_names make text a b c d e p (Some name) None s t = no_ueb text a b c d e p t

abbrev Five : (text : List ℕ) (k n size : List ℕ) → HasFields text k n size → List (List ℕ)
Five text k n size h = h.name_text ∷ h.ueb_text ∷ k ∷ n ∷ size ∷ []

by_parts : (make : Maker) (text : List ℕ) (p : List (List ℕ)) → parts text ≡ p → StoredSays make text (stored make p)
by_parts make text (a ∷ b ∷ c ∷ d ∷ e ∷ []) p =
    by_names make text a b c d e p (bytes_spelled 16 a) (bytes_spelled 32 b) (bytes_say 16 a) (bytes_say 32 b)
by_parts make text [] p = λ k n size h. let e : [] ≡ Five text k n size h = sym p ∙ h.parted in cc
by_parts make text (a ∷ []) p = λ k n size h. let e : a ∷ [] ≡ Five text k n size h = sym p ∙ h.parted in cc
by_parts make text (a ∷ b ∷ []) p = λ k n size h. let e : a ∷ b ∷ [] ≡ Five text k n size h = sym p ∙ h.parted in cc
by_parts make text (a ∷ b ∷ c ∷ []) p = λ k n size h. let e : a ∷ b ∷ c ∷ [] ≡ Five text k n size h = sym p ∙ h.parted in cc
by_parts make text (a ∷ b ∷ c ∷ d ∷ []) p = λ k n size h. let e : a ∷ b ∷ c ∷ d ∷ [] ≡ Five text k n size h = sym p ∙ h.parted in cc
by_parts make text (a ∷ b ∷ c ∷ d ∷ e ∷ f ∷ others) p = λ k n size h.
    let same : a ∷ b ∷ c ∷ d ∷ e ∷ f ∷ others ≡ Five text k n size h = sym p ∙ h.parted in cc

-- what the reading of five fields says
pub stored_says : (make : Maker) (text : List ℕ) → StoredSays make text (stored make (parts text))
stored_says make text = by_parts make text (parts text) refl

-- the text of five fields is read as them
pub stored_reads : (make : Maker) (name ueb text : List ℕ) (k n size : ℕ) → IsFieldsText name ueb k n size text
    → stored make (parts text) ≡ Ok (make name ueb k n size)
stored_reads make name ueb text k n size f =
    ap (stored make) (parts_of name ueb text k n size f)
    ∙ ap (λ b. named make b (bytes_spelled 32 f.ueb_text) (numeral (decimal k)) (numeral (decimal n)) (numeral (decimal size)))
    (bytes_spelled-spells 16 f.name_text name f.name_spelled f.name_long)
    ∙ ap (λ b. named make (Some name) b (numeral (decimal k)) (numeral (decimal n)) (numeral (decimal size)))
    (bytes_spelled-spells 32 f.ueb_text ueb f.ueb_spelled f.ueb_long)
    ∙ ap (λ o. numbered (make name ueb) o (numeral (decimal n)) (numeral (decimal size))) (numeral-decimal k (small_share k n f.sharing).0)
    ∙ ap (λ o. numbered (make name ueb) (Some k) o (numeral (decimal size))) (numeral-decimal n (small_share k n f.sharing).1)
    ∙ ap (λ o. numbered (make name ueb) (Some k) (Some n) o) (numeral-decimal size f.size_fits)
    ∙ ap (λ b. cond b (Ok (make name ueb k n size)) (Err BadNumber)) (sharing_test k n f.sharing)

numbers_of : (name ueb text : List ℕ) (k n size : ℕ) → IsFieldsText name ueb k n size text → (kt nt st : List ℕ) → HasFields text kt nt st
    → AreNumberTexts kt nt st
numbers_of name ueb text k n size f kt nt st h =
    let same : (kt ≡ decimal k) × (nt ≡ decimal n) × (st ≡ decimal size) =
    same_texts text kt nt st (decimal k) (decimal n) (decimal size) h (has_fields name ueb text k n size f) in
    record {
      k = k;
      n = n;
      size = size;
      k_decimal = same.0;
      n_decimal = same.1;
      size_decimal = same.2;
      sharing = f.sharing;
      size_fits = f.size_fits;
    }

-- a text that lacks fields is refused so
lacks_as : (make : Maker) (text : List ℕ) (r : Result Cap CapFault) → StoredSays make text r → LacksFields text → r ≡ Err BadField
lacks_as make text (Ok cap) s lacks = absurd (lacks _ _ _ (has_fields s.name s.ueb text s.k s.n s.size s.fields))
lacks_as make text (Err UnknownKind) s lacks = absurd s
lacks_as make text (Err Mutable) s lacks = absurd s
lacks_as make text (Err BadField) s lacks = refl
lacks_as make text (Err BadNumber) s lacks = absurd (lacks _ _ _ s.fields)
lacks_as make text (Err NoMemory) s lacks = absurd s

pub stored_lacks : (make : Maker) (text : List ℕ) → LacksFields text → stored make (parts text) ≡ Err BadField
stored_lacks make text lacks = lacks_as make text (stored make (parts text)) (stored_says make text) lacks

-- a text whose numbers are none is refused so
numbers_as : (make : Maker) (text : List ℕ) (r : Result Cap CapFault) → StoredSays make text r → LacksNumbers text → r ≡ Err BadNumber
numbers_as make text (Ok cap) s lacks = absurd (lacks.bad (numbers_of s.name s.ueb text s.k s.n s.size s.fields _ _ _ lacks.fields))
numbers_as make text (Err UnknownKind) s lacks = absurd s
numbers_as make text (Err Mutable) s lacks = absurd s
numbers_as make text (Err BadField) s lacks = absurd (s _ _ _ lacks.fields)
numbers_as make text (Err BadNumber) s lacks = refl
numbers_as make text (Err NoMemory) s lacks = absurd s

pub stored_lacks_numbers : (make : Maker) (text : List ℕ) → LacksNumbers text → stored make (parts text) ≡ Err BadNumber
stored_lacks_numbers make text lacks = numbers_as make text (stored make (parts text)) (stored_says make text) lacks
