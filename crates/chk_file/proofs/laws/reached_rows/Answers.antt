use Rattle.std.proofs.Common.{◌≡◌, ◌⊎◌, inl, inr, ◌<◌, ◌≤◌, ℕ, List, Option, None, ◌∙◌, arith}
use Rattle.grid.specs.GridState.{stood}
use Rattle.chk_file.proofs.Amid.{all_reached}
use Rattle.chk_file.proofs.laws.reached_rows.Goals as goal

-- where it failed in between it failed in all that time
failed_too : (o stands stood : Option (List ℕ)) (first before after last : ℕ) → stands ≡ stood → first ≤ before → after ≤ last
    → (o ≡ stands) ⊎ ((before < after) × (o ≡ None)) → (o ≡ stood) ⊎ ((first < last) × (o ≡ None))
failed_too o stands stood first before after last same low high (inl is) = inl (is ∙ same)
failed_too o stands stood first before after last same low high (inr (failed, none)) = inr (omega arith, none)

pub returns : goal.returns
returns c = record {
  all = λ old new index row calm reached. all_reached (stood old) old new index row calm reached;
  together = λ first old new last index row same low high reached. record {
    each = λ server number. failed_too (row server number) _ _ _ _ _ _ (λ i. same i server number) (low server) (high server) (reached.each server number);
  };
}
