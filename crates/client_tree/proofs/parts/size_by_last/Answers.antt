use Rattle.std.proofs.Common.{◌≡◌, ◌+◌, ◌*◌, ◌≤◌, length, sym, ◌∙◌, arith, Some}
use Rattle.client_tree.specs.Parts.{part_bytes, size_of_last}
use Rattle.client_tree.proofs.PartSizes.{no_last, some_entries, size_fixed}
use Rattle.client_tree.proofs.parts.size_by_last.Goals as goal

pub returns-in_err-last : goal.returns-in_err-last
returns-in_err-last c = rw c.from_residual.ensures (no_last c.args.entries.now (sym c.in_err-last.ensures))

pub returns-then-last-gt-PART_BYTES : goal.returns-then-last-gt-PART_BYTES
returns-then-last-gt-PART_BYTES c = λ size are.
    let is : size_of_last c.args.entries.now ≡ Some c.in_ok-last.last = sym c.size_of_last.ensures ∙ c.in_ok-last.was in
    let fixed = size_fixed c.args.entries.now c.in_ok-last.last is size are in
    let short : c.in_ok-last.last ≤ part_bytes = fixed.0 in
    omega arith

pub returns-then-size-gt-PART_BYTES : goal.returns-then-size-gt-PART_BYTES
returns-then-size-gt-PART_BYTES c =
    let is : size_of_last c.args.entries.now ≡ Some c.in_ok-last.last = sym c.size_of_last.ensures ∙ c.in_ok-last.was in (
      omega arith,
      omega arith,
      λ size are.
          let fixed = size_fixed c.args.entries.now c.in_ok-last.last is size are in
          let some = some_entries c.args.entries.now c.in_ok-last.last is in
          let same : size + part_bytes ≡ length c.args.entries.now * part_bytes + c.in_ok-last.last = fixed.1 in
          omega arith,
    )

pub returns-else-size-gt-PART_BYTES : goal.returns-else-size-gt-PART_BYTES
returns-else-size-gt-PART_BYTES c = λ size are.
    let is : size_of_last c.args.entries.now ≡ Some c.in_ok-last.last = sym c.size_of_last.ensures ∙ c.in_ok-last.was in
    let fixed = size_fixed c.args.entries.now c.in_ok-last.last is size are in
    let some = some_entries c.args.entries.now c.in_ok-last.last is in
    let same : size + part_bytes ≡ length c.args.entries.now * part_bytes + c.in_ok-last.last = fixed.1 in
    let long = are.long in
    omega arith
