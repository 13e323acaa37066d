-- What replies say.
use Rattle.std.specs.Prelude.{◌≡◌, ◌⊎◌, ℕ, suc, pos, List, [], ◌∷◌, Bool, true, false, codes, Option, Some, None}
use Rattle.redis_store.specs.Replies.{GivesShare, IsError, IsErrorOf, IsFullError}
use Rattle.redis_store.specs.declared.fault.ServerFault.{ServerFault}
use Rattle.redis_store.specs.declared.fault.ServerFault.TheVariants.{Refused, Full, Replica, OtherReply}
use Rattle.resp.specs.declared.reply.Item.TheVariants as item
use Rattle.resp.specs.declared.reply.Reply.{Reply}
use Rattle.resp.specs.declared.reply.Reply.TheVariants as reply

-- `:1`, or `:0`: that one stands, was put or was taken away, or none
abbrev pub SaysWhether : Bool → Reply → Type 0
SaysWhether true answer = answer ≡ reply.One (item.Integer (pos 1))
SaysWhether false answer = answer ≡ reply.One (item.Integer (pos 0))

-- these are the numbers, from this one on, of the replies that say one; the others say none
abbrev pub SayWhich : ℕ → List Reply → List ℕ → Type 0
SayWhich number [] numbers = numbers ≡ []
SayWhich number (answer ∷ answers) numbers =
    (SaysWhether true answer × ((rest : List ℕ) × (numbers ≡ number ∷ rest) × SayWhich (suc number) answers rest))
    ⊎ (SaysWhether false answer × SayWhich (suc number) answers numbers)

-- a share with its number, or none
abbrev pub numbered_share : ℕ → Option (List ℕ) → List (ℕ × List ℕ)
numbered_share number None = []
numbered_share number (Some bytes) = (number, bytes) ∷ []

-- these are the shares that the replies give, each with its number, from this one on; the other replies give none
abbrev pub GiveShares : ℕ → List Reply → List (ℕ × List ℕ) → Type 0
GiveShares number [] shares = shares ≡ []
GiveShares number (answer ∷ answers) shares =
    ((bytes : List ℕ) × GivesShare answer (Some bytes) × ((rest : List (ℕ × List ℕ)) × (shares ≡ (number, bytes) ∷ rest) × GiveShares (suc number) answers rest))
    ⊎ (GivesShare answer None × GiveShares (suc number) answers shares)

-- `-READONLY ..` or `-MASTERDOWN ..`: the server is a replica
abbrev pub IsReplicaError : Reply → Type 0
IsReplicaError answer = IsErrorOf (codes "READONLY ") answer ⊎ IsErrorOf (codes "MASTERDOWN ") answer

-- what each fault says of a reply that is none of those that were wanted
abbrev pub IsFaultOf : ServerFault → Reply → Type 0
IsFaultOf Full answer = IsFullError answer
IsFaultOf Replica answer = IsReplicaError answer
IsFaultOf Refused answer = IsError answer × (IsFullError answer → ⊥) × (IsReplicaError answer → ⊥)
IsFaultOf OtherReply answer = IsError answer → ⊥
IsFaultOf _ answer = ⊥
