-- Calls of a store that look, one after the other.
use Rattle.std.proofs.Common.{◌∙◌, ℕ, Bool, arith}
use Rattle.share_store.specs.Looked.{Looked}
use Rattle.share_store.specs.Shares.{Shares}

pub looked_both : {S : Type 0} {honest : S → Bool} {shares : S → Shares} {room failures : S → ℕ} {old mid new : S} → Looked honest shares room failures old mid → Looked honest shares room failures mid new → Looked honest shares room failures old new
looked_both before now = record {
  rises = omega (arith, before.rises, now.rises);
  still_honest = λ all. now.still_honest (before.still_honest all);
  was_honest = λ all. before.was_honest (now.was_honest all);
  same_shares = λ all. now.same_shares (before.still_honest all) ∙ before.same_shares all;
  same_room = λ all. now.same_room (before.still_honest all) ∙ before.same_room all;
}
