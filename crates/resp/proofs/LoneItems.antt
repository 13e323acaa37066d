-- Items.
use Rattle.std.proofs.Common.{◌≡◌, ◌<◌, ℕ, Bool, true, false, cond, eqb, List, [], ◌∷◌, ◌++◌, Result, Ok, Err, refl, sym, ap, subst, ◌∙◌}
use Rattle.std.proofs.lemmas.Bool.{eqb-true}
use Rattle.resp.specs.declared.fault.Wrong.{Wrong}
use Rattle.resp.specs.declared.fault.Wrong.TheVariants.{Malformed}
use Rattle.resp.specs.declared.limits.Limits.{Limits}
use Rattle.resp.specs.declared.items.Kind.{Kind}
use Rattle.resp.specs.declared.items.Kind.TheVariants as kind
use Rattle.resp.specs.declared.reply.Item.{Item}
use Rattle.resp.specs.declared.reply.Item.TheVariants as item
use Rattle.resp.specs.Command.{line_end}
use Rattle.resp.specs.Spelled.{SpellsItem}
use Rattle.resp.specs.Reading.{byte_at, text_at, integer_at, kind_of, item_after, item_at}
use Rattle.resp.proofs.Readers.{Reads, reads-same, IsByte, reads-byte, Then, reads-then, IsMapped, reads-map}
use Rattle.resp.proofs.Texts.{IsLineText, reads-text}
use Rattle.resp.proofs.Integers.{IsInteger, reads-integer}
use Rattle.resp.proofs.Bulks.{IsBulk, reads-bulk}

-- the mark of a kind
unfoldable pub code_of : Kind → ℕ
code_of kind.Text = 43
code_of kind.Error = 45
code_of kind.Integer = 58
code_of kind.Bulk = 36

same : (x y : Kind) → ◌≡◌ {A = Result Kind Wrong} (Ok x) (Ok y) → x ≡ y
same x y h = cc

pub kind_is : (c : ℕ) (k : Kind) → kind_of c ≡ Ok k → c ≡ code_of k
unfolding kind_of code_of
kind_is c k e = go (eqb c 43) (eqb c 45) (eqb c 58) (eqb c 36) refl refl refl refl e
  where
    go : (a b d f : Bool) → eqb c 43 ≡ a → eqb c 45 ≡ b → eqb c 58 ≡ d → eqb c 36 ≡ f
        → ◌≡◌ {A = Result Kind Wrong} (cond a (Ok kind.Text) (cond b (Ok kind.Error) (cond d (Ok kind.Integer) (cond f (Ok kind.Bulk) (Err Malformed))))) (Ok k) → c ≡ code_of k
    go true b d f p q r t h = eqb-true c 43 p ∙ ap code_of (same kind.Text k h)
    go false true d f p q r t h = eqb-true c 45 q ∙ ap code_of (same kind.Error k h)
    go false false true f p q r t h = eqb-true c 58 r ∙ ap code_of (same kind.Integer k h)
    go false false false true p q r t h = eqb-true c 36 t ∙ ap code_of (same kind.Bulk k h)
    go false false false false p q r t h = absurd cc

pub kind_code : (k : Kind) → kind_of (code_of k) ≡ Ok k
unfolding kind_of code_of
kind_code kind.Text = refl
kind_code kind.Error = refl
kind_code kind.Integer = refl
kind_code kind.Bulk = refl

abbrev pub After : Limits → Kind → Item → List ℕ → Type 0
After limits kind.Text = IsMapped (λ t. item.Text t) (IsLineText limits)
After limits kind.Error = IsMapped (λ t. item.Error t) (IsLineText limits)
After limits kind.Integer = IsMapped (λ n. item.Integer n) (IsInteger limits)
After limits kind.Bulk = IsBulk limits

pub reads-item_after : (limits : Limits) → 0 < limits.line → (k : Kind) → Reads (After limits k) (item_after limits k)
unfolding item_after
reads-item_after limits room kind.Text = reads-map (λ t. item.Text t) (IsLineText limits) (text_at limits) (reads-text limits)
reads-item_after limits room kind.Error = reads-map (λ t. item.Error t) (IsLineText limits) (text_at limits) (reads-text limits)
reads-item_after limits room kind.Integer = reads-map (λ n. item.Integer n) (IsInteger limits) (integer_at limits) (reads-integer limits room)
reads-item_after limits room kind.Bulk = reads-bulk limits

bulk-spells : (limits : Limits) (i : Item) (back : List ℕ) → IsBulk limits i back → SpellsItem limits i (36 ∷ back)
bulk-spells limits (item.Text t) back s = absurd s
bulk-spells limits (item.Error t) back s = absurd s
bulk-spells limits (item.Integer n) back s = absurd s
bulk-spells limits item.Null back s = ap (λ (t : List ℕ). 36 ∷ t) s
bulk-spells limits (item.Bulk content) back s = (s.0, s.1, ap (λ (t : List ℕ). 36 ∷ t) s.2)

pub marked-spells : (limits : Limits) (k : Kind) (i : Item) (back : List ℕ) → After limits k i back → SpellsItem limits i (code_of k ∷ back)
unfolding code_of
marked-spells limits kind.Text i back s = subst (λ j. SpellsItem limits j (43 ∷ back)) (sym s.2) (s.1.0, ap (λ (t : List ℕ). 43 ∷ t) s.1.1)
marked-spells limits kind.Error i back s = subst (λ j. SpellsItem limits j (45 ∷ back)) (sym s.2) (s.1.0, ap (λ (t : List ℕ). 45 ∷ t) s.1.1)
marked-spells limits kind.Integer i back s = subst (λ j. SpellsItem limits j (58 ∷ back)) (sym s.2) (s.1.0, s.1.1, ap (λ (t : List ℕ). 58 ∷ t) s.1.2)
marked-spells limits kind.Bulk i back s = bulk-spells limits i back s

-- an item behind its mark
pub record Marked (limits : Limits) (i : Item) (bytes : List ℕ) : Type 0 where
  pub kind : Kind
  pub back : List ℕ
  pub after : After limits kind i back
  pub parts : bytes ≡ code_of kind ∷ back

pub spells-marked : (limits : Limits) (i : Item) (bytes : List ℕ) → SpellsItem limits i bytes → Marked limits i bytes
unfolding code_of
spells-marked limits (item.Text t) bytes s = record { kind = kind.Text; back = t ++ line_end; after = (t, (s.0, refl), refl); parts = s.1 }
spells-marked limits (item.Error t) bytes s = record { kind = kind.Error; back = t ++ line_end; after = (t, (s.0, refl), refl); parts = s.1 }
spells-marked limits (item.Integer n) bytes s = record { kind = kind.Integer; back = s.0 ++ line_end; after = (n, (s.0, s.1, refl), refl); parts = s.2 }
spells-marked limits (item.Bulk content) bytes s = record { kind = kind.Bulk; back = s.0 ++ line_end ++ content ++ line_end; after = (s.0, s.1, refl); parts = s.2 }
spells-marked limits item.Null bytes s = record { kind = kind.Bulk; back = 45 ∷ 49 ∷ line_end; after = refl; parts = s }

abbrev Led : Limits → Item → List ℕ → Type 0
Led limits = Then (IsByte kind_of) (After limits)

item-to : (limits : Limits) (i : Item) (bytes : List ℕ) → Led limits i bytes → SpellsItem limits i bytes
item-to limits i bytes s =
    subst (λ b. SpellsItem limits i b)
    (sym (s.parts ∙ ap (λ (t : List ℕ). t ++ s.back) (s.first.2 ∙ ap (λ (c : ℕ). c ∷ []) (kind_is s.first.0 s.value s.first.1))))
    (marked-spells limits s.value i s.back s.second)

item-from : (limits : Limits) (i : Item) (bytes : List ℕ) → SpellsItem limits i bytes → Led limits i bytes
item-from limits i bytes s =
    let m = spells-marked limits i bytes s in
    record { value = m.kind; front = code_of m.kind ∷ []; back = m.back; first = (code_of m.kind, kind_code m.kind, refl); second = m.after; parts = m.parts }

pub reads-item : (limits : Limits) → 0 < limits.line → Reads (SpellsItem limits) (item_at limits)
unfolding item_at
reads-item limits room = reads-same (Led limits) (SpellsItem limits) (item_at limits) (item-to limits) (item-from limits)
    (reads-then (IsByte kind_of) (After limits) (byte_at kind_of) (item_after limits)
    (reads-byte kind_of (code_of kind.Text) kind.Text (kind_code kind.Text)) (reads-item_after limits room))
