-- What a connection was told, and what came.
use Rattle.std.specs.Prelude.{◌≡◌, ◌⊎◌, ℕ, List, length, Bool, true, false, Option}
use Rattle.resp.specs.declared.reply.Item.TheVariants as item
use Rattle.resp.specs.declared.reply.Reply.{Reply}
use Rattle.resp.specs.declared.reply.Reply.TheVariants as reply
use Rattle.resp.specs.Spelled.{SpellsReply, SpellsAll}
use Rattle.redis_store.specs.Replies.{GivesShare, IsErrorOf, IsOkReply, IsSetting}
use Rattle.redis_store.specs.Commands.{get_command, put_command, set_command, config_command}
use Rattle.redis_store.specs.Exchanges.{Talk, with_exchange, short_limits, value_limits, IsGreeted, IsToldInPart}
use Rattle.redis_store.specs.declared.connection.Greeting.{Greeting}
use Rattle.redis_store.specs.Answers.{SaysWhether, SayWhich, GiveShares}
use Rattle.redis_store.specs.GridText.{grid_text}
use Rattle.redis_store.specs.AfterExchange.{IsOfLink}
use Rattle.redis_store.specs.Strange.{IsStrange}
use Rattle.redis_store.specs.declared.fault.ServerFault.{ServerFault}
use Rattle.redis_store.specs.declared.fault.ServerFault.TheVariants.{SettingsRotten, OtherGrid, OtherSecret, OtherPlace}

-- ---- a new connection

-- a text stands under a name, or none does
abbrev pub found_reply : Bool → List ℕ → Reply
found_reply true text = reply.One (item.Bulk text)
found_reply false text = reply.One item.Null

-- nothing stood under the name, and the text was put there where nothing stood
pub record IsClaimed (name text : List ℕ) (old new : Talk) : Type 0 where
  pub said : Bool
  pub answer : Reply
  pub none_came : List ℕ
  pub put_came : List ℕ
  pub none : SpellsReply short_limits (reply.One item.Null) none_came
  pub is_said : SaysWhether said answer
  pub put : SpellsReply short_limits answer put_came
  pub told : new ≡ with_exchange (with_exchange old (get_command name) none_came) (put_command name text) put_came

-- One new connection: the password was taken where there is one, and whose the server is was asked last, and the text of
-- the settings that are wanted came. Nothing else was told, but for that text where none stood.
pub record IsOpened (first : Greeting) (old talk : Talk) : Type 0 where
  pub greeted : Talk
  pub before : Talk
  pub came : List ℕ
  pub admitted : IsGreeted first.password old greeted
  pub asked : (before ≡ greeted) ⊎ IsClaimed first.name (grid_text first.settings) greeted before
  pub ours : SpellsReply short_limits (reply.One (item.Bulk (grid_text first.settings))) came
  pub told : talk ≡ with_exchange before (get_command first.name) came

-- Whose the server is was asked last, and the text that came is why it is none that was wanted.
pub record IsOfAnother (fault : ServerFault) (first : Greeting) (talk : Talk) : Type 0 where
  pub before : Talk
  pub text : List ℕ
  pub came : List ℕ
  pub spelled : SpellsReply short_limits (reply.One (item.Bulk text)) came
  pub told : talk ≡ with_exchange before (get_command first.name) came
  pub strange : IsStrange fault text first.settings

-- What is said where no connection was opened: what differs only of such a text; for private clauses.
abbrev pub IsToldOf : ServerFault → Greeting → Talk → Type 0
IsToldOf SettingsRotten first talk = IsOfAnother SettingsRotten first talk
IsToldOf OtherGrid first talk = IsOfAnother OtherGrid first talk
IsToldOf OtherSecret first talk = IsOfAnother OtherSecret first talk
IsToldOf (OtherPlace place) first talk = IsOfAnother (OtherPlace place) first talk
IsToldOf fault first talk = IsOfLink fault

-- An open connection was told nothing more, and another is new.
abbrev pub IsAtHand : Bool → Greeting → Talk → Talk → Type 0
IsAtHand true first old new = new ≡ old
IsAtHand false first old new = IsOpened first old new

-- ---- one exchange

-- The connection over which commands are told: the one that was open, which was told nothing more, or else a new one. One
-- that was open may have ended before a byte came to the commands: then it is one new one too.
abbrev pub IsToldOver : Bool → Greeting → List ℕ → Talk → Talk → Type 0
IsToldOver true first commands old ready = (ready ≡ old) ⊎ ((ended : Talk) × IsToldInPart old commands ended × IsOpened first ended ready)
IsToldOver false first commands old ready = IsOpened first old ready

-- Commands were told in one exchange, in which these bytes came.
pub record IsToldIn (is_open : Bool) (first : Greeting) (old new : Talk) (commands came : List ℕ) : Type 0 where
  pub ready : Talk
  pub over : IsToldOver is_open first commands old ready
  pub told : new ≡ with_exchange ready commands came

-- The server was told a command and said that one is there, was put or was taken away, or none.
pub record IsSaidBy (is_open : Bool) (first : Greeting) (old new : Talk) (command : List ℕ) (said : Bool) : Type 0 where
  pub answer : Reply
  pub came : List ℕ
  pub is_said : SaysWhether said answer
  pub spelled : SpellsReply short_limits answer came
  pub told : IsToldIn is_open first old new command came

-- It was told to put bytes whatever stands there, and took them.
pub record IsSetBy (is_open : Bool) (first : Greeting) (old new : Talk) (name content : List ℕ) : Type 0 where
  pub answer : Reply
  pub came : List ℕ
  pub is_done : IsOkReply answer
  pub spelled : SpellsReply short_limits answer came
  pub told : IsToldIn is_open first old new (set_command name content) came

-- It was asked for a setting of its own, and said this value.
pub record IsSettingSaidBy (is_open : Bool) (first : Greeting) (old new : Talk) (name value : List ℕ) : Type 0 where
  pub answer : Reply
  pub came : List ℕ
  pub is_setting : IsSetting answer value
  pub spelled : SpellsReply short_limits answer came
  pub told : IsToldIn is_open first old new (config_command name) came

-- It was told so many commands in one exchange, and said of each number from 0 on whether it is among these.
pub record AreSaidBy (is_open : Bool) (first : Greeting) (old new : Talk) (commands : List ℕ) (count : ℕ) (numbers : List ℕ) : Type 0 where
  pub answers : List Reply
  pub came : List ℕ
  pub many : length answers ≡ count
  pub are_said : SayWhich 0 answers numbers
  pub spelled : SpellsAll (SpellsReply short_limits) answers came
  pub told : IsToldIn is_open first old new commands came

-- It was told a command and gave this share, or none.
pub record IsShareGivenBy (is_open : Bool) (first : Greeting) (old new : Talk) (longest : ℕ) (command : List ℕ) (share : Option (List ℕ)) : Type 0 where
  pub answer : Reply
  pub came : List ℕ
  pub gives : GivesShare answer share
  pub spelled : SpellsReply (value_limits longest) answer came
  pub told : IsToldIn is_open first old new command came

-- It was told so many commands in one exchange, one for each number from 0 on, and gave these shares of them.
pub record AreSharesGivenBy (is_open : Bool) (first : Greeting) (old new : Talk) (longest : ℕ) (commands : List ℕ) (count : ℕ) (shares : List (ℕ × List ℕ)) : Type 0 where
  pub answers : List Reply
  pub came : List ℕ
  pub many : length answers ≡ count
  pub give : GiveShares 0 answers shares
  pub spelled : SpellsAll (SpellsReply (value_limits longest)) answers came
  pub told : IsToldIn is_open first old new commands came

-- It was told a command, and an error reply of this kind came.
pub record IsRefusedBy (is_open : Bool) (first : Greeting) (old new : Talk) (command kind : List ℕ) : Type 0 where
  pub answer : Reply
  pub came : List ℕ
  pub is_error : IsErrorOf kind answer
  pub spelled : SpellsReply short_limits answer came
  pub told : IsToldIn is_open first old new command came
