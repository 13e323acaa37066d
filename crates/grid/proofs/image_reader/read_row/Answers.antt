use Rattle.std.proofs.Common.{rules, ◌≡◌, ◌+◌, ◌<◌, ◌≤◌, ℕ, suc, take, drop, length, IfSome, Some, List, sym, subst, arith}
use Rattle.std.specs.Option.{option_map}
use Rattle.std.specs.Rc.{rc_slice_items}
use Rattle.grid.specs.Layout.{row_front}
use Rattle.grid.specs.ImageHeads.{head_key}
use Rattle.grid.specs.ImageReading.{rows_said, stopped}
use Rattle.grid.proofs.ImageSteps.{front_of, says_row, bad_head, cut_off}
use Rattle.grid.proofs.image_reader.read_row.Goals as goal

pub returns-in-Err-clause-bad_image : goal.returns-in-Err-clause-bad_image
returns-in-Err-clause-bad_image g c p is =
    let last = option_map head_key c.args.last.now in
    let place : c.args.place + c.in-Err.offset ≡ p = cc in
    let came = front_of _ _ (row_front c.args.layout) c.in_ok-came.came c.fill.new.buffer (search rules) c.in_ok-came.ensures.told in
    subst (λ q. IfSome (g.R.Read.remaining c.args.reader.now) (λ left. (n : ℕ) → rows_said c.args.layout (suc n) c.args.servers last c.args.place left ≡ stopped q)) place
    (bad_head c.args.layout c.args.servers last c.args.place _ _ (take c.in_ok-came.came c.fill.new.buffer) c.in-Err.offset came (sym c.in-Err.ensures.said))

pub returns-in_default-2-clause-bad_image : goal.returns-in_default-2-clause-bad_image
returns-in_default-2-clause-bad_image g c p is =
    let last = option_map head_key c.args.last.now in
    let named : c.in-Some.own_place ≡ p = cc in
    let place : c.args.place + row_front c.args.layout ≡ p = omega arith in
    let short : IfSome (g.R.Read.remaining c.fill.new.reader) (λ left. length left < c.in-Ok.head.length) = rw c.in_default-2.is at c.in_ok-bytes.ensures.told in
    let came = front_of _ _ (row_front c.args.layout) c.in_ok-came.came c.fill.new.buffer (search rules) c.in_ok-came.ensures.told in
    subst (λ q. IfSome (g.R.Read.remaining c.args.reader.now) (λ left. (n : ℕ) → rows_said c.args.layout (suc n) c.args.servers last c.args.place left ≡ stopped q)) place
    (cut_off c.args.layout c.args.servers last c.args.place _ (g.R.Read.remaining c.fill.new.reader) (take c.in_ok-came.came c.fill.new.buffer) c.in-Ok.head came (sym c.in-Ok.ensures.said) short)

pub returns-clause-told : goal.returns-clause-told
returns-clause-told g c =
    let last = option_map head_key c.args.last.now in
    let came = front_of _ _ (row_front c.args.layout) c.in_ok-came.came c.fill.new.buffer (search rules) c.in_ok-came.ensures.told in
    let told = rw c.in-Some-2.is at c.in_ok-bytes.ensures.told in
    let own = subst (λ (own : List ℕ). IfSome (g.R.Read.remaining c.fill.new.reader) (λ left. (c.in-Ok.head.length ≤ length left) × (own ≡ take c.in-Ok.head.length left) × (g.R.Read.remaining c.read_bytes.new.reader ≡ Some (drop c.in-Ok.head.length left)))) (sym c.in_ok-bytes-2.ensures) told in
    says_row c.args.layout c.args.servers last c.args.place _ (g.R.Read.remaining c.fill.new.reader) _ (take c.in_ok-came.came c.fill.new.buffer) (rc_slice_items c.in_ok-bytes-2.bytes) c.in-Ok.head came (sym c.in-Ok.ensures.said) own
