-- What is made of one member: its entry, or what is said against it.
use Rattle.std.proofs.Common.{◌≡◌, ◌≢◌, inl, inr, ◌==◌, not, nat_le, ℕ, Bool, true, false, cond, List, [], ◌∷◌, length, codes, Option, Some, None, is_some, option_and_then, Result, Ok, Err, refl, sym, ap, subst, ◌∙◌, arith}
use Rattle.std.proofs.lemmas.Bool.{leb-false, lt-leb, true≢false, not-true, eqb-false, and_parts, false_from_ne_true, true_from_ne_false}
use Rattle.serde_json.specs.Data.{Data, null, string, array, object, no_items, item, Members, depth}
use Rattle.serde_json.specs.Find.{get_member, as_str, as_object}
use Rattle.serde_json.specs.Written.{has_float, compact_text}
use Rattle.caps.specs.Reading.{cap_reading}
use Rattle.caps.specs.declared.cap.Cap.{Cap}
use Rattle.json_spelling.specs.Metadata.{is_metadata}
use Rattle.dir_codec.specs.Faults.{IsNoChild}
use Rattle.dir_codec.specs.Reading.{child_of, child_reading}
use Rattle.dir_codec.specs.Names.{nfc_text}
use Rattle.children_reader.specs.Children.{then_make, fields_of, has_write, metadata_made, with_fields, entry_of_fields, entry_made}
use Rattle.children_reader.specs.MadeOf.{HasUri, HasCap, IsNoWrite, IsMetadataText, IsEntryOf, HasMetadata, IsMemberFault}
use Rattle.dir_codec.specs.declared.entry.Entry.{Entry}
use Rattle.dir_codec.specs.declared.fault.DirFault.{DirFault}
use Rattle.dir_codec.specs.declared.fault.DirFault.TheVariants.{BadName, BadCap, NotImmutable, WriteCap, BadMetadata, BadShape, FractionalNumber}
use Rattle.dir_codec.proofs.Belong.{child_read, no_length, not_zero}
use Rattle.children_reader.proofs.Making.{uri_in, fields_none, fields_some, with_known, cap_fault, cap_known, write_known, metadata_known, made_none, made_some}
use Rattle.dir_codec.proofs.Refused.{CapsAreDecided, child_refused, no_child}

-- ---- the parts of a member

shape_of : (node d : Data) → fields_of node ≡ Some d → (kind : List ℕ) × (fields : Members) × (node ≡ array (item (string kind) (item (object fields) no_items))) × (d ≡ object fields)
shape_of (array (item (string kind) (item (object fields) no_items))) d is = (kind, fields, refl, (let same : d ≡ object fields = cc in same))
shape_of other d is = absurd cc

text_of : (d : Data) (text : List ℕ) → as_str d ≡ Some text → d ≡ string text
text_of (string s) text is = let same : s ≡ text = cc in ap string same
text_of other text is = absurd cc

text_in : (o : Option Data) (text : List ℕ) → option_and_then as_str o ≡ Some text → o ≡ Some (string text)
text_in (Some d) text is = ap Some (text_of d text is)
text_in None text is = absurd cc

pub object_of : (d : Data) (members : Members) → as_object d ≡ Some members → d ≡ object members
object_of (object ms) members is = let same : ms ≡ members = cc in ap object same
object_of other members is = absurd cc

no_write : (w : Option Data) → has_write w ≡ false → IsNoWrite w
no_write None is = inl refl
no_write (Some null) is = inr (inl refl)
no_write (Some (string [])) is = inr (inr refl)
no_write (Some (string (b ∷ bs))) is = absurd (true≢false (sym (ap not (not_zero (length (b ∷ bs)) (omega arith))) ∙ is))
no_write (Some other) is = absurd cc

no_write_has : (w : Option Data) → IsNoWrite w → has_write w ≡ false
no_write_has w (inl is) = ap has_write is
no_write_has w (inr (inl is)) = ap has_write is
no_write_has w (inr (inr is)) = ap has_write is

none_of : {A : Type 0} (o : Option A) → is_some o ≡ false → o ≡ None
none_of (Some x) is = absurd cc
none_of None is = refl

-- ---- what the definition makes is as it is said

abbrev pub Told : List ℕ → Data → Result Entry DirFault → Type 0
Told key node (Ok entry) = IsEntryOf key node entry
Told key node (Err fault) = IsMemberFault fault key node

-- the entry, once its metadata are known
abbrev in_entry : List ℕ → Cap → List ℕ → Result Entry DirFault
in_entry key cap metadata = Ok (record { name = nfc_text key; cap = cap; metadata = metadata })

module _ (key : List ℕ) (node : Data) where
  told_depth : (d : Data) (m : HasMetadata key node d) → is_some (as_object d) ≡ true → has_float d ≡ false → (b : Bool) → nat_le (depth d) 100 ≡ b
      → Told key node (then_make (in_entry key m.cap) (cond b (Ok (compact_text d)) (Err BadMetadata)))
  told_depth d m made whole true within =
      let is : is_metadata d ≡ true = rw (made, whole, within) refl in
      record { fields = m.fields; name = refl; cap = m.has; no_write = m.no_write; metadata = subst (λ o. IsMetadataText o (compact_text d)) (sym m.is) (is, refl) }
  told_depth d m made whole false beyond = (d, m, made, whole, leb-false (depth d) 100 beyond)

  told_float : (d : Data) (m : HasMetadata key node d) → is_some (as_object d) ≡ true → (b : Bool) → has_float d ≡ b
      → Told key node (then_make (in_entry key m.cap) (cond b (Err FractionalNumber) (cond (nat_le (depth d) 100) (Ok (compact_text d)) (Err BadMetadata))))
  told_float d m made true is = (d, m, made, is)
  told_float d m made false is = told_depth d m made is (nat_le (depth d) 100) refl

  told_object : (d : Data) (m : HasMetadata key node d) → (b : Bool) → is_some (as_object d) ≡ b
      → Told key node (then_make (in_entry key m.cap) (cond b (cond (has_float d) (Err FractionalNumber) (cond (nat_le (depth d) 100) (Ok (compact_text d)) (Err BadMetadata))) (Err BadShape)))
  told_object d m true is = told_float d m is (has_float d) refl
  told_object d m false is = inr (d, m, none_of (as_object d) is)

  told_metadata : (fields : Members) (cap : Cap) → HasCap key node fields cap → IsNoWrite (get_member (codes "rw_uri") fields) → (o : Option Data) → get_member (codes "metadata") fields ≡ o
      → Told key node (then_make (in_entry key cap) (metadata_made o))
  told_metadata fields cap has none None is =
      record { fields = fields; name = refl; cap = has; no_write = none; metadata = subst (λ o. IsMetadataText o (codes "{}")) (sym is) refl }
  told_metadata fields cap has none (Some d) is =
      told_object d (record { fields = fields; cap = cap; has = has; no_write = none; is = is }) (is_some (as_object d)) refl

  told_write : (fields : Members) (cap : Cap) → HasCap key node fields cap → (b : Bool) → has_write (get_member (codes "rw_uri") fields) ≡ b
      → Told key node (cond b (Err WriteCap) (then_make (in_entry key cap) (metadata_made (get_member (codes "metadata") fields))))
  told_write fields cap has true is = (fields, cap, has, λ none. true≢false (sym is ∙ no_write_has _ none))
  told_write fields cap has false is = told_metadata fields cap has (no_write _ is) (get_member (codes "metadata") fields) refl

  told_cap : CapsAreDecided → (fields : Members) (uri : List ℕ) → HasUri node fields uri → nfc_text key ≢ [] → (r : Result Cap DirFault) → child_reading uri ≡ r
      → Told key node (then_make (with_known (nfc_text key) (object fields)) r)
  told_cap caps fields uri has named (Ok cap) is =
      let both = child_read (cap_reading uri) cap is in
      told_write fields cap (record { uri = uri; has = has; named = named; is = (caps.0 uri cap).1 both.0; child = both.1 }) (has_write (get_member (codes "rw_uri") fields)) refl
  told_cap caps fields uri has named (Err fault) is = by_child fault (child_refused caps uri fault is)
    where
      by_child : (f : DirFault) → IsNoChild f uri → IsMemberFault f key node
      by_child BadCap why = (fields, uri, has, named, why)
      by_child NotImmutable why = (fields, uri, has, named, why)
      by_child f why = absurd why

  told_name : CapsAreDecided → (fields : Members) (uri : List ℕ) → HasUri node fields uri → (b : Bool) → (length (nfc_text key) == 0) ≡ b
      → Told key node (cond b (Err BadName) (with_fields (nfc_text key) (object fields) uri))
  told_name caps fields uri has true is = (fields, uri, has, no_length (nfc_text key) is)
  told_name caps fields uri has false is = told_cap caps fields uri has (λ none. eqb-false (length (nfc_text key)) 0 is (ap length none)) (child_reading uri) refl

  -- no other fields have a `ro_uri`
  no_uri : (kind : List ℕ) (fields other : Members) (uri : List ℕ) → node ≡ array (item (string kind) (item (object fields) no_items)) → uri_in (object fields) ≡ None → ¬ (HasUri node other uri)
  no_uri kind fields other uri node_is none has =
      let both = sym node_is ∙ has.node_is in
      let same : fields ≡ other = cc in
      let some : uri_in (object fields) ≡ Some uri = ap (λ ms. uri_in (object ms)) same ∙ ap (option_and_then as_str) has.uri_is in
      let both_is : None ≡ Some uri = sym none ∙ some in
      cc

  told_uri : CapsAreDecided → (kind : List ℕ) (fields : Members) → node ≡ array (item (string kind) (item (object fields) no_items)) → (o : Option (List ℕ)) → uri_in (object fields) ≡ o
      → Told key node (entry_of_fields (nfc_text key) (object fields))
  told_uri caps kind fields node_is None is =
      subst (Told key node) (sym (fields_none (nfc_text key) (object fields) is)) (inl (λ other uri. no_uri kind fields other uri node_is is))
  told_uri caps kind fields node_is (Some uri) is =
      let has : HasUri node fields uri = record { kind = kind; node_is = node_is; uri_is = text_in _ uri is } in
      subst (Told key node) (sym (fields_some (nfc_text key) (object fields) uri (length (nfc_text key) == 0) is refl)) (told_name caps fields uri has (length (nfc_text key) == 0) refl)

  told_shape : CapsAreDecided → (o : Option Data) → fields_of node ≡ o → Told key node (entry_made key node)
  told_shape caps None is =
      subst (Told key node) (sym (made_none key node is)) (inl (λ fields uri has. let both : None ≡ Some (object fields) = sym is ∙ ap fields_of has.node_is in cc))
  told_shape caps (Some d) is =
      let shape = shape_of node d is in
      let made : entry_made key node ≡ entry_of_fields (nfc_text key) (object shape.1) = made_some key node d (nfc_text key) is refl ∙ ap (entry_of_fields (nfc_text key)) shape.3 in
      subst (Told key node) (sym made) (told_uri caps shape.0 shape.1 shape.2 (uri_in (object shape.1)) refl)

  pub told : CapsAreDecided → Told key node (entry_made key node)
  told caps = told_shape caps (fields_of node) refl

-- ---- what is said is what the definition makes

metadata_is : (o : Option Data) (text : List ℕ) → IsMetadataText o text → metadata_made o ≡ Ok text
metadata_is None text is = ap Ok (sym is)
metadata_is (Some d) text is =
    let parts = and_parts (is_some (as_object d)) _ is.0 in
    let more = and_parts (not (has_float d)) _ parts.1 in
    let whole = not-true (has_float d) more.0 in
    rw (parts.0, whole, more.1) (ap Ok (sym is.1))

module _ (key : List ℕ) (node : Data) where
  reach_uri : (fields : Members) (uri : List ℕ) (b : Bool) → HasUri node fields uri → (length (nfc_text key) == 0) ≡ b → entry_made key node ≡ cond b (Err BadName) (with_fields (nfc_text key) (object fields) uri)
  reach_uri fields uri b has is =
      made_some key node (object fields) (nfc_text key) (ap fields_of has.node_is) refl
      ∙ fields_some (nfc_text key) (object fields) uri b (ap (option_and_then as_str) has.uri_is) is

  named_is : nfc_text key ≢ [] → (length (nfc_text key) == 0) ≡ false
  named_is named = false_from_ne_true _ (λ none. named (no_length (nfc_text key) none))

  reach_cap : CapsAreDecided → (fields : Members) (cap : Cap) → HasCap key node fields cap → entry_made key node ≡ with_known (nfc_text key) (object fields) cap
  reach_cap caps fields cap has =
      let read : child_reading has.uri ≡ Ok cap = ap child_of ((caps.0 has.uri cap).0 has.is) ∙ ap (λ b. cond b (Ok cap) (Err NotImmutable)) has.child in
      reach_uri fields has.uri false has.has (named_is has.named) ∙ cap_known (nfc_text key) (object fields) has.uri cap read

  reach_metadata : CapsAreDecided → (d : Data) (m : HasMetadata key node d) (r : Result (List ℕ) DirFault) → metadata_made (Some d) ≡ r → entry_made key node ≡ then_make (in_entry key m.cap) r
  reach_metadata caps d m r is =
      reach_cap caps m.fields m.cap m.has ∙ metadata_known (nfc_text key) (object m.fields) m.cap r (no_write_has _ m.no_write) (ap metadata_made m.is ∙ is)

  pub is_made : CapsAreDecided → (entry : Entry) → IsEntryOf key node entry → entry_made key node ≡ Ok entry
  is_made caps entry of =
      reach_cap caps of.fields entry.cap of.cap
      ∙ metadata_known (nfc_text key) (object of.fields) entry.cap (Ok entry.metadata) (no_write_has _ of.no_write) (metadata_is _ entry.metadata of.metadata)
      ∙ ap (λ n. Ok (record { name = n; cap = entry.cap; metadata = entry.metadata })) (sym of.name)

  no_shape : (o : Option Data) → fields_of node ≡ o → ((fields : Members) (uri : List ℕ) → ¬ (HasUri node fields uri)) → entry_made key node ≡ Err BadShape
  no_shape None is none = made_none key node is
  no_shape (Some d) is none =
      let shape = shape_of node d is in
      let at : (o : Option (List ℕ)) → uri_in (object shape.1) ≡ o → entry_of_fields (nfc_text key) (object shape.1) ≡ Err BadShape = elim [
        | None ↦ λ is. fields_none (nfc_text key) (object shape.1) is
        | Some uri ↦ λ is. absurd (none shape.1 uri (record { kind = shape.0; node_is = shape.2; uri_is = text_in _ uri is }))
      ] in
      made_some key node d (nfc_text key) is refl ∙ ap (entry_of_fields (nfc_text key)) shape.3 ∙ at (uri_in (object shape.1)) refl

  not_object : CapsAreDecided → (d : Data) → HasMetadata key node d → as_object d ≡ None → entry_made key node ≡ Err BadShape
  not_object caps d m none = reach_metadata caps d m (Err BadShape) (rw none refl)

  pub is_refused : CapsAreDecided → (fault : DirFault) → IsMemberFault fault key node → entry_made key node ≡ Err fault
  is_refused caps BadShape (inl none) = no_shape (fields_of node) refl none
  is_refused caps BadShape (inr of) = not_object caps of.0 of.1 of.2
  is_refused caps BadName of = reach_uri of.0 of.1 true of.2 (ap (λ t. length t == 0) of.3)
  is_refused caps BadCap of = reach_uri of.0 of.1 false of.2 (named_is of.3) ∙ cap_fault (nfc_text key) (object of.0) of.1 BadCap (no_child caps of.1 BadCap of.4)
  is_refused caps NotImmutable of = reach_uri of.0 of.1 false of.2 (named_is of.3) ∙ cap_fault (nfc_text key) (object of.0) of.1 NotImmutable (no_child caps of.1 NotImmutable of.4)
  is_refused caps WriteCap of =
      reach_cap caps of.0 of.1 of.2 ∙ write_known (nfc_text key) (object of.0) of.1 (true_from_ne_false _ (λ none. of.3 (no_write _ none)))
  is_refused caps FractionalNumber of = reach_metadata caps of.0 of.1 (Err FractionalNumber) (rw (of.2, of.3) refl)
  is_refused caps BadMetadata of = let beyond = lt-leb (depth of.0) 100 of.4 in reach_metadata caps of.0 of.1 (Err BadMetadata) (rw (of.2, of.3, beyond) refl)
  is_refused caps other of = absurd of
