-- What replies say, whatever was asked.
use Rattle.std.specs.Prelude.{◌≡◌, ◌⊎◌, ℕ, List, [], ◌∷◌, codes, nat_eq, IsTrue, Option, Some, None}
use Rattle.std.specs.List.{starts_with}
use Rattle.resp.specs.declared.reply.Element.TheVariants as element
use Rattle.resp.specs.declared.reply.Item.TheVariants as item
use Rattle.resp.specs.declared.reply.Reply.{Reply}
use Rattle.resp.specs.declared.reply.Reply.TheVariants as reply

-- `+OK`
abbrev pub IsOkReply : Reply → Type 0
IsOkReply answer = answer ≡ reply.One (item.Text (codes "OK"))

-- the bytes, or that there are none
abbrev pub IsValue : Reply → Option (List ℕ) → Type 0
IsValue answer None = answer ≡ reply.One item.Null
IsValue answer (Some bytes) = answer ≡ reply.One (item.Bulk bytes)

-- a word and the value of a setting
abbrev pub IsSetting : Reply → List ℕ → Type 0
IsSetting answer value = (word : List ℕ) × (answer ≡ reply.Several (element.One (item.Bulk word) ∷ element.One (item.Bulk value) ∷ []))

-- an error reply: the server heard what it was told, and doesn't do it
abbrev pub IsError : Reply → Type 0
IsError answer = (why : List ℕ) × (answer ≡ reply.One (item.Error why))

-- an error reply of a kind, which is the word that it begins with
abbrev pub IsErrorOf : List ℕ → Reply → Type 0
IsErrorOf kind answer = (why : List ℕ) × (answer ≡ reply.One (item.Error why)) × IsTrue (starts_with nat_eq why kind)

-- `-OOM ..`: the server has no memory left
abbrev pub IsFullError : Reply → Type 0
IsFullError answer = IsErrorOf (codes "OOM ") answer

-- `-WRONGTYPE ..`: what stands under the name are no bytes
abbrev pub IsOtherKind : Reply → Type 0
IsOtherKind answer = IsErrorOf (codes "WRONGTYPE ") answer

-- A share's bytes came, or that there is none: nothing stands there, or no bytes, or what are none.
abbrev pub GivesShare : Reply → Option (List ℕ) → Type 0
GivesShare answer None = IsValue answer None ⊎ (IsValue answer (Some []) ⊎ IsOtherKind answer)
GivesShare answer (Some bytes) = IsValue answer (Some bytes)
