-- A share that was put in another's stead, and a setting that a server says.
use Rattle.std.proofs.Common.{◌≡◌, ℕ, List, Bool, true, false, Option, Some, None, IfSome, ap, ◌∙◌, subst}
use Rattle.redis_store.specs.declared.connection.Greeting.{Greeting}
use Rattle.resp.specs.declared.reply.Reply.{Reply}
use Rattle.resp.specs.Spelled.{SpellsReply}
use Rattle.redis_store.specs.Commands.{get_command, put_command, config_command}
use Rattle.redis_store.specs.Exchanges.{Talk, short_limits, with_exchange}
use Rattle.redis_store.specs.Replies.{IsSetting}
use Rattle.redis_store.specs.Put.{IsReplaced}
use Rattle.redis_store.specs.Told.{IsToldOver, IsToldIn, IsSaidBy, IsSetBy, IsSettingSaidBy, IsShareGivenBy}

module _ (first : Greeting) (longest : ℕ) (name content : List ℕ) where
  pub stood_before : (is_open said : Bool) (old new : Talk) (key : List ℕ) → said ≡ false → key ≡ name
      → IsSaidBy is_open first old new (put_command key content) said → IsSaidBy is_open first old new (put_command name content) false
  stood_before is_open said old new key is same by =
      subst (IsSaidBy is_open first old new (put_command name content)) is
      (subst (λ (k : List ℕ). IsSaidBy is_open first old new (put_command k content) said) same by)

  pub given_behind : (is_open : Bool) (other : Greeting) (most : ℕ) (old new : Talk) (key : List ℕ) (found : Option (List ℕ)) → is_open ≡ true → other ≡ first → most ≡ longest → key ≡ name
      → IsShareGivenBy is_open other old new most (get_command key) found → IsShareGivenBy true first old new longest (get_command name) found
  given_behind is_open other most old new key found is of bound same by =
      subst (λ (k : List ℕ). IsShareGivenBy true first old new longest (get_command k) found) same
      (subst (λ (m : ℕ). IsShareGivenBy true first old new m (get_command key) found) bound
      (subst (λ (f : Greeting). IsShareGivenBy true f old new most (get_command key) found) of
      (subst (λ (b : Bool). IsShareGivenBy b other old new most (get_command key) found) is by)))

  pub set_behind : (is_open : Bool) (other : Greeting) (old new : Talk) (key : List ℕ) → is_open ≡ true → other ≡ first → key ≡ name
      → IsSetBy is_open other old new key content → IsSetBy true first old new name content
  set_behind is_open other old new key is of same by =
      subst (λ (k : List ℕ). IsSetBy true first old new k content) same
      (subst (λ (f : Greeting). IsSetBy true f old new key content) of
      (subst (λ (b : Bool). IsSetBy b other old new key content) is by))

  pub replaced : (is_open : Bool) (old one two new : Talk) (found : Option (List ℕ)) → IsSaidBy is_open first old one (put_command name content) false
      → IsShareGivenBy true first one two longest (get_command name) found → (found ≡ Some content → ⊥) → IsSetBy true first two new name content
      → IsReplaced is_open first old new longest name content
  replaced is_open old one two new found stood given other put = record {
    share = found;
    between = two;
    looked = record { between = one; stood = stood; given = given };
    other = other;
    put = put;
  }

pub setting_said : (is_open : Bool) (first : Greeting) (old one new : Talk) (name commands : List ℕ) (reply : Reply) (came : List ℕ) → SpellsReply short_limits reply came → IsToldIn is_open first old one commands came → commands ≡ config_command name → new ≡ one
    → (value : Option (List ℕ)) → IfSome value (IsSetting reply) → IfSome value (λ bytes. IsSettingSaidBy is_open first old new name bytes)
setting_said is_open first old one new name commands reply came spelled told is same None says = tt
setting_said is_open first old one new name commands reply came spelled told is same (Some bytes) says = record {
  answer = reply;
  came = came;
  is_setting = says;
  spelled = spelled;
  told = record { ready = told.ready; over = subst (λ (c : List ℕ). IsToldOver is_open first c old told.ready) is told.over; told = same ∙ told.told ∙ ap (λ (c : List ℕ). with_exchange told.ready c came) is };
}
