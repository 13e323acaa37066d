-- What spells a reply (RESP2), within limits.
use Rattle.std.specs.Prelude.{◌≡◌, ◌≢◌, ◌⊎◌, ◌≤◌, ◌^◌, ◌-◌, ℕ, ℤ, pos, neg_ℤ, List, [], ◌∷◌, ◌++◌, length, codes}
use Rattle.std.specs.List.{AllByRecursion}
use Rattle.std.specs.Str.Parse.{IsNumeral, digits_value}
use Rattle.resp.specs.declared.limits.Limits.{Limits}
use Rattle.resp.specs.declared.reply.Item.{Item}
use Rattle.resp.specs.declared.reply.Item.TheVariants as item
use Rattle.resp.specs.declared.reply.Element.{Element}
use Rattle.resp.specs.declared.reply.Element.TheVariants as element
use Rattle.resp.specs.declared.reply.Reply.{Reply}
use Rattle.resp.specs.declared.reply.Reply.TheVariants as reply
use Rattle.resp.specs.Command.{line_end, line}

-- text on one line, with no CR and no LF in it
abbrev pub IsText : Limits → List ℕ → Type 0
IsText limits text = AllByRecursion (λ c. (c ≢ 13) × (c ≢ 10)) text × (length text ≤ limits.line)

-- digits, one or more, that write a number of at most so much
abbrev pub Writes : Limits → ℕ → List ℕ → ℕ → Type 0
Writes limits most text n = IsNumeral 10 text × (length text ≤ limits.line) × (digits_value 10 text ≡ n) × (n ≤ most)

-- digits, with a sign or none, that write an integer of 64 bits
abbrev pub WritesInteger : Limits → List ℕ → ℤ → Type 0
WritesInteger limits text n = (digits : List ℕ) × (m : ℕ)
    × (((text ≡ digits) × Writes limits (2 ^ 63 - 1) digits m × (n ≡ pos m))
    ⊎ (((text ≡ 43 ∷ digits) × Writes limits (2 ^ 63 - 1) digits m × (n ≡ pos m))
    ⊎ ((text ≡ 45 ∷ digits) × Writes limits (2 ^ 63) digits m × (n ≡ neg_ℤ (pos m)))))

-- the lines `+text`, `-text` and `:integer`; `$length`, CR LF, as many bytes and CR LF; and `$-1`
abbrev pub SpellsItem : Limits → Item → List ℕ → Type 0
SpellsItem limits (item.Text text) bytes = IsText limits text × (bytes ≡ line 43 text)
SpellsItem limits (item.Error text) bytes = IsText limits text × (bytes ≡ line 45 text)
SpellsItem limits (item.Integer n) bytes = (text : List ℕ) × WritesInteger limits text n × (bytes ≡ line 58 text)
SpellsItem limits (item.Bulk content) bytes = (digits : List ℕ)
    × Writes limits limits.bulk digits (length content)
    × (bytes ≡ line 36 digits ++ content ++ line_end)
SpellsItem limits item.Null bytes = bytes ≡ line 36 (codes "-1")

-- one after the other
abbrev pub SpellsAll : {A : Type 0} → (A → List ℕ → Type 0) → List A → List ℕ → Type 0
SpellsAll Spells [] bytes = bytes ≡ []
SpellsAll Spells (a ∷ all) bytes = (first rest : List ℕ) × Spells a first × SpellsAll Spells all rest × (bytes ≡ first ++ rest)

-- `*count`, CR LF, and as many elements
abbrev pub SpellsArray : {A : Type 0} → Limits → (A → List ℕ → Type 0) → List A → List ℕ → Type 0
SpellsArray limits Spells all bytes = (digits rest : List ℕ)
    × Writes limits limits.elements digits (length all)
    × SpellsAll Spells all rest × (bytes ≡ line 42 digits ++ rest)

abbrev pub SpellsElement : Limits → Element → List ℕ → Type 0
SpellsElement limits (element.One one) bytes = SpellsItem limits one bytes
SpellsElement limits (element.Several items) bytes = SpellsArray limits (SpellsItem limits) items bytes

abbrev pub SpellsReply : Limits → Reply → List ℕ → Type 0
SpellsReply limits (reply.One one) bytes = SpellsItem limits one bytes
SpellsReply limits (reply.Several elements) bytes = SpellsArray limits (SpellsElement limits) elements bytes

-- bytes with which something spelled begins, and which are not the whole of it
pub record IsBegun {A : Type 0} (Spells : A → List ℕ → Type 0) (bytes : List ℕ) : Type 0 where
  pub value : A
  pub next : ℕ
  pub rest : List ℕ
  pub spelled : Spells value (bytes ++ next ∷ rest)
