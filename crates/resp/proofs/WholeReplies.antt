-- Arrays, and replies.
use Rattle.std.proofs.Common.{◌≡◌, ◌<◌, ℕ, Bool, true, false, cond, eqb, List, [], ◌∷◌, ◌++◌, length, Option, Some, None, Result, Ok, Err, refl, sym, ap, subst, ◌∙◌}
use Rattle.std.proofs.lemmas.Bool.{eqb-true}
use Rattle.resp.specs.declared.fault.Wrong.{Wrong}
use Rattle.resp.specs.declared.limits.Limits.{Limits}
use Rattle.resp.specs.declared.items.Kind.{Kind}
use Rattle.resp.specs.declared.items.Kind.TheVariants as kind
use Rattle.resp.specs.declared.reply.Element.{Element}
use Rattle.resp.specs.declared.reply.Element.TheVariants as element
use Rattle.resp.specs.declared.reply.Reply.{Reply}
use Rattle.resp.specs.declared.reply.Reply.TheVariants as reply
use Rattle.resp.specs.Command.{line_end}
use Rattle.resp.specs.Spelled.{Writes, SpellsItem, SpellsAll, SpellsArray, SpellsElement, SpellsReply}
use Rattle.resp.specs.Reading.{Read, byte_at, number_at, kind_of, marked, mark_of, item_after, item_at, all_at, array_at, element_after, element_at, reply_after, reply_at}
use Rattle.resp.proofs.Readers.{Reads, reads-same, IsByte, reads-byte, Then, reads-then, IsMapped, reads-map, IsAll, reads-all}
use Rattle.resp.proofs.Numbers.{IsNumber, reads-number}
use Rattle.resp.proofs.LoneItems.{code_of, kind_is, After, reads-item_after, marked-spells, spells-marked, reads-item}

abbrev pub MarkFacts : ℕ → Option Kind → Type 0
MarkFacts c None = c ≡ 42
MarkFacts c (Some k) = c ≡ code_of k

marked_is : (c : ℕ) (j : Result Kind Wrong) (m : Option Kind) → kind_of c ≡ j → marked j ≡ Ok m → MarkFacts c m
marked_is c (Ok k) (Some l) e h = kind_is c k e ∙ ap code_of (same k l h)
  where
    same : (k l : Kind) → ◌≡◌ {A = Result (Option Kind) Wrong} (Ok (Some k)) (Ok (Some l)) → k ≡ l
    same k l h = cc
marked_is c (Ok k) None e h = absurd cc
marked_is c (Err w) m e h = absurd cc

mark_is : (c : ℕ) (m : Option Kind) → mark_of c ≡ Ok m → MarkFacts c m
unfolding mark_of
mark_is c m e = go (eqb c 42) refl e
  where
    go : (b : Bool) → eqb c 42 ≡ b → ◌≡◌ {A = Result (Option Kind) Wrong} (cond b (Ok None) (marked (kind_of c))) (Ok m) → MarkFacts c m
    go true p h = subst (λ x. MarkFacts c x) (same None m h) (eqb-true c 42 p)
      where
        same : (x y : Option Kind) → ◌≡◌ {A = Result (Option Kind) Wrong} (Ok x) (Ok y) → x ≡ y
        same x y h = cc
    go false p h = marked_is c (kind_of c) m refl h

mark_array : mark_of 42 ≡ Ok None
unfolding mark_of
mark_array = refl

mark_code : (k : Kind) → mark_of (code_of k) ≡ Ok (Some k)
unfolding mark_of code_of kind_of
mark_code kind.Text = refl
mark_code kind.Error = refl
mark_code kind.Integer = refl
mark_code kind.Bulk = refl

-- what stands after the mark of an array
abbrev IsArray : {A : Type 0} → Limits → (A → List ℕ → Type 0) → List A → List ℕ → Type 0
IsArray limits S all bytes = (digits rest : List ℕ) × Writes limits limits.elements digits (length all) × SpellsAll S all rest × (bytes ≡ digits ++ line_end ++ rest)

abbrev Counted : {A : Type 0} → Limits → (A → List ℕ → Type 0) → List A → List ℕ → Type 0
Counted limits S = Then (IsNumber limits limits.elements) (IsAll S)

array-to : {A : Type 0} (limits : Limits) (S : A → List ℕ → Type 0) (all : List A) (bytes : List ℕ) → Counted limits S all bytes → IsArray limits S all bytes
array-to limits S all bytes s =
    (s.first.0, s.back, subst (λ n. Writes limits limits.elements s.first.0 n) (sym s.second.1) s.first.1, s.second.0, s.parts ∙ ap (λ (t : List ℕ). t ++ s.back) s.first.2)

array-from : {A : Type 0} (limits : Limits) (S : A → List ℕ → Type 0) (all : List A) (bytes : List ℕ) → IsArray limits S all bytes → Counted limits S all bytes
array-from limits S all bytes s = record {
  value = length all;
  front = s.0 ++ line_end;
  back = s.1;
  first = (s.0, s.2, refl);
  second = (s.3, refl);
  parts = s.4;
}

reads-array : {A : Type 0} (limits : Limits) (S : A → List ℕ → Type 0) (read : List ℕ → Read A) → 0 < limits.line → Reads S read → Reads (IsArray limits S) (array_at limits read)
unfolding array_at
reads-array limits S read room R = reads-same (Counted limits S) (IsArray limits S) (array_at limits read) (array-to limits S) (array-from limits S)
    (reads-then (IsNumber limits limits.elements) (IsAll S) (number_at limits limits.elements) (all_at read) (reads-number limits limits.elements room) (reads-all S read R))

array-spells : {A : Type 0} (limits : Limits) (S : A → List ℕ → Type 0) (all : List A) (back : List ℕ) → IsArray limits S all back → SpellsArray limits S all (42 ∷ back)
array-spells limits S all back s = (s.0, s.1, s.2, s.3, ap (λ (t : List ℕ). 42 ∷ t) s.4)

-- an array behind its mark
record Listed {A : Type 0} (limits : Limits) (S : A → List ℕ → Type 0) (all : List A) (bytes : List ℕ) : Type 0 where
  back : List ℕ
  array : IsArray limits S all back
  parts : bytes ≡ 42 ∷ back

spells-array : {A : Type 0} (limits : Limits) (S : A → List ℕ → Type 0) (all : List A) (bytes : List ℕ) → SpellsArray limits S all bytes → Listed limits S all bytes
spells-array limits S all bytes s = record { back = s.0 ++ line_end ++ s.1; array = (s.0, s.1, s.2, s.3, refl); parts = s.4 }

-- ---- elements

abbrev ElementAfter : Limits → Option Kind → Element → List ℕ → Type 0
ElementAfter limits None = IsMapped (λ all. element.Several all) (IsArray limits (SpellsItem limits))
ElementAfter limits (Some k) = IsMapped (λ one. element.One one) (After limits k)

reads-element_after : (limits : Limits) → 0 < limits.line → (m : Option Kind) → Reads (ElementAfter limits m) (element_after limits m)
unfolding element_after
reads-element_after limits room None = reads-map (λ all. element.Several all) (IsArray limits (SpellsItem limits)) (array_at limits (item_at limits)) (reads-array limits (SpellsItem limits) (item_at limits) room (reads-item limits room))
reads-element_after limits room (Some k) = reads-map (λ one. element.One one) (After limits k) (item_after limits k) (reads-item_after limits room k)

element-marked : (limits : Limits) (c : ℕ) (m : Option Kind) (e : Element) (back : List ℕ) → MarkFacts c m → ElementAfter limits m e back → SpellsElement limits e (c ∷ back)
element-marked limits c None e back is s =
    subst (λ (n : ℕ). SpellsElement limits e (n ∷ back)) (sym is)
    (subst (λ x. SpellsElement limits x (42 ∷ back)) (sym s.2) (array-spells limits (SpellsItem limits) s.0 back s.1))
element-marked limits c (Some k) e back is s =
    subst (λ (n : ℕ). SpellsElement limits e (n ∷ back)) (sym is)
    (subst (λ x. SpellsElement limits x (code_of k ∷ back)) (sym s.2) (marked-spells limits k s.0 back s.1))

element-to : (limits : Limits) (e : Element) (bytes : List ℕ) → Then (IsByte mark_of) (ElementAfter limits) e bytes → SpellsElement limits e bytes
element-to limits e bytes s =
    subst (λ b. SpellsElement limits e b) (sym (s.parts ∙ ap (λ (t : List ℕ). t ++ s.back) s.first.2))
    (element-marked limits s.first.0 s.value e s.back (mark_is s.first.0 s.value s.first.1) s.second)

element-from : (limits : Limits) (e : Element) (bytes : List ℕ) → SpellsElement limits e bytes → Then (IsByte mark_of) (ElementAfter limits) e bytes
element-from limits (element.One one) bytes s =
    let m = spells-marked limits one bytes s in
    record { value = Some m.kind; front = code_of m.kind ∷ []; back = m.back; first = (code_of m.kind, mark_code m.kind, refl); second = (one, m.after, refl); parts = m.parts }
element-from limits (element.Several all) bytes s =
    let l = spells-array limits (SpellsItem limits) all bytes s in
    record { value = None; front = 42 ∷ []; back = l.back; first = (42, mark_array, refl); second = (all, l.array, refl); parts = l.parts }

reads-element : (limits : Limits) → 0 < limits.line → Reads (SpellsElement limits) (element_at limits)
unfolding element_at
reads-element limits room = reads-same (Then (IsByte mark_of) (ElementAfter limits)) (SpellsElement limits) (element_at limits) (element-to limits) (element-from limits)
    (reads-then (IsByte mark_of) (ElementAfter limits) (byte_at mark_of) (element_after limits)
    (reads-byte mark_of 42 None mark_array) (reads-element_after limits room))

-- ---- replies

abbrev ReplyAfter : Limits → Option Kind → Reply → List ℕ → Type 0
ReplyAfter limits None = IsMapped (λ all. reply.Several all) (IsArray limits (SpellsElement limits))
ReplyAfter limits (Some k) = IsMapped (λ one. reply.One one) (After limits k)

reads-reply_after : (limits : Limits) → 0 < limits.line → (m : Option Kind) → Reads (ReplyAfter limits m) (reply_after limits m)
unfolding reply_after
reads-reply_after limits room None = reads-map (λ all. reply.Several all) (IsArray limits (SpellsElement limits)) (array_at limits (element_at limits)) (reads-array limits (SpellsElement limits) (element_at limits) room (reads-element limits room))
reads-reply_after limits room (Some k) = reads-map (λ one. reply.One one) (After limits k) (item_after limits k) (reads-item_after limits room k)

reply-marked : (limits : Limits) (c : ℕ) (m : Option Kind) (e : Reply) (back : List ℕ) → MarkFacts c m → ReplyAfter limits m e back → SpellsReply limits e (c ∷ back)
reply-marked limits c None e back is s =
    subst (λ (n : ℕ). SpellsReply limits e (n ∷ back)) (sym is)
    (subst (λ x. SpellsReply limits x (42 ∷ back)) (sym s.2) (array-spells limits (SpellsElement limits) s.0 back s.1))
reply-marked limits c (Some k) e back is s =
    subst (λ (n : ℕ). SpellsReply limits e (n ∷ back)) (sym is)
    (subst (λ x. SpellsReply limits x (code_of k ∷ back)) (sym s.2) (marked-spells limits k s.0 back s.1))

reply-to : (limits : Limits) (e : Reply) (bytes : List ℕ) → Then (IsByte mark_of) (ReplyAfter limits) e bytes → SpellsReply limits e bytes
reply-to limits e bytes s =
    subst (λ b. SpellsReply limits e b) (sym (s.parts ∙ ap (λ (t : List ℕ). t ++ s.back) s.first.2))
    (reply-marked limits s.first.0 s.value e s.back (mark_is s.first.0 s.value s.first.1) s.second)

reply-from : (limits : Limits) (e : Reply) (bytes : List ℕ) → SpellsReply limits e bytes → Then (IsByte mark_of) (ReplyAfter limits) e bytes
reply-from limits (reply.One one) bytes s =
    let m = spells-marked limits one bytes s in
    record { value = Some m.kind; front = code_of m.kind ∷ []; back = m.back; first = (code_of m.kind, mark_code m.kind, refl); second = (one, m.after, refl); parts = m.parts }
reply-from limits (reply.Several all) bytes s =
    let l = spells-array limits (SpellsElement limits) all bytes s in
    record { value = None; front = 42 ∷ []; back = l.back; first = (42, mark_array, refl); second = (all, l.array, refl); parts = l.parts }

pub reads-reply : (limits : Limits) → 0 < limits.line → Reads (SpellsReply limits) (reply_at limits)
unfolding reply_at
reads-reply limits room = reads-same (Then (IsByte mark_of) (ReplyAfter limits)) (SpellsReply limits) (reply_at limits) (reply-to limits) (reply-from limits)
    (reads-then (IsByte mark_of) (ReplyAfter limits) (byte_at mark_of) (reply_after limits)
    (reads-byte mark_of 42 None mark_array) (reads-reply_after limits room))
