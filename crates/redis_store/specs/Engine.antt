-- What a Redis server is assumed to do (Redis: GET, EXISTS, SETNX, SET, DEL, and its page on pipelining).
use Rattle.std.specs.Prelude.{◌≡◌, ℕ, Bool, true, false, List, ◌∷◌, ◌++◌, length, None, Some, Contains}
use Rattle.std.specs.List.{flat_map, AllZip}
use Rattle.resp.specs.declared.limits.Limits.{Limits}
use Rattle.resp.specs.declared.reply.Reply.{Reply}
use Rattle.resp.specs.Spelled.{SpellsReply, SpellsAll}
use Rattle.redis_store.specs.Replies.{IsOkReply, IsValue, IsOtherKind}
use Rattle.redis_store.specs.Answers.{SaysWhether}
use Rattle.redis_store.specs.Commands.{get_command, exists_command, put_command, set_command, delete_command}
use Rattle.redis_store.specs.Exchanges.{Exchange}

-- ---- states

-- what stands under a name: nothing, bytes, or what are none, as a list or a set
pub data EngineValue : Type 0 where
  nothing : EngineValue
  of_bytes : List ℕ → EngineValue
  of_other_kind : EngineValue

-- whether something stands there
abbrev pub is_something : EngineValue → Bool
is_something nothing = false
is_something (of_bytes bytes) = true
is_something of_other_kind = true

-- what stands under each name
abbrev pub EngineState : Type 0
EngineState = List ℕ → EngineValue

-- In one of these states this stood under a name.
abbrev pub StoodUnder : List EngineState → List ℕ → EngineValue → Type 0
StoodUnder states name value = (state : EngineState) × Contains states state × (state name ≡ value)

-- Among these states one was followed by another.
abbrev pub IsFollowed : List EngineState → EngineState → EngineState → Type 0
IsFollowed states before after = (front back : List EngineState) × (states ≡ front ++ before ∷ after ∷ back)

-- ---- what replies say of them

-- the reply to `GET` where this stands under the name
abbrev pub SaysValue : EngineValue → Reply → Type 0
SaysValue nothing answer = IsValue answer None
SaysValue (of_bytes content) answer = IsValue answer (Some content)
SaysValue of_other_kind answer = IsOtherKind answer

-- `GET`: what it says stood under the name.
abbrev pub IsGetReply : List EngineState → List ℕ → Reply → Type 0
IsGetReply states name answer = (value : EngineValue) → SaysValue value answer → StoodUnder states name value

-- `EXISTS`: where it says one something stood under the name, and where it says none nothing did.
abbrev pub IsExistsReply : List EngineState → List ℕ → Reply → Type 0
IsExistsReply states name answer = (said : Bool) → SaysWhether said answer
    → (value : EngineValue) × StoodUnder states name value × (is_something value ≡ said)

-- `SETNX`: where it says one nothing stood under the name and these bytes did next, and where it says none something
-- stood.
pub record IsSetReply (states : List EngineState) (name content : List ℕ) (answer : Reply) : Type 0 where
  pub done : SaysWhether true answer
      → (before after : EngineState) × IsFollowed states before after
      × (before name ≡ nothing) × (after name ≡ of_bytes content)
  pub kept : SaysWhether false answer
      → (value : EngineValue) × StoodUnder states name value × (is_something value ≡ true)

-- `SET`: where it says `+OK`, in one of these states these bytes stood under the name.
abbrev pub IsReplaceReply : List EngineState → List ℕ → List ℕ → Reply → Type 0
IsReplaceReply states name content answer = IsOkReply answer → StoodUnder states name (of_bytes content)

-- `DEL`: where it says one something stood under the name and nothing did next, and where it says none nothing stood.
pub record IsDeleteReply (states : List EngineState) (name : List ℕ) (answer : Reply) : Type 0 where
  pub done : SaysWhether true answer
      → (before after : EngineState) × IsFollowed states before after
      × (is_something (before name) ≡ true) × (after name ≡ nothing)
  pub none : SaysWhether false answer → StoodUnder states name nothing

-- ---- what is assumed

-- The premise of the laws, which nothing proves of a real server. In an exchange, from before its first command was
-- carried out until its last reply came, an engine was in these states, the oldest first, and in no others: so those
-- to which others' commands led are among them. Redis carries out one command at a time, so each is one step. Several
-- that are told in one exchange are a pipeline, which isn't atomic: they are several steps, with others' between. So
-- each reply is of a moment of its own, and in which order those moments come isn't assumed. Nothing is assumed of an
-- error reply but of the one that says that what stands there are no bytes, nor of other commands.
pub record IsEngineExchange (states : List EngineState) (exchange : Exchange) : Type 0 where
  pub gets : (limits : Limits) (names : List (List ℕ)) (answers : List Reply)
      → exchange.0 ≡ flat_map get_command names
      → length answers ≡ length names → SpellsAll (SpellsReply limits) answers exchange.1
      → AllZip (IsGetReply states) names answers
  pub exist : (limits : Limits) (names : List (List ℕ)) (answers : List Reply)
      → exchange.0 ≡ flat_map exists_command names
      → length answers ≡ length names → SpellsAll (SpellsReply limits) answers exchange.1
      → AllZip (IsExistsReply states) names answers
  pub put : (limits : Limits) (name content : List ℕ) (answer : Reply) → exchange.0 ≡ put_command name content
      → SpellsReply limits answer exchange.1 → IsSetReply states name content answer
  pub replace : (limits : Limits) (name content : List ℕ) (answer : Reply) → exchange.0 ≡ set_command name content
      → SpellsReply limits answer exchange.1 → IsReplaceReply states name content answer
  pub delete : (limits : Limits) (name : List ℕ) (answer : Reply) → exchange.0 ≡ delete_command name
      → SpellsReply limits answer exchange.1 → IsDeleteReply states name answer
