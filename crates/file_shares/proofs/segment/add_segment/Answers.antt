use Rattle.std.proofs.Common.{◌≡◌, ◌+◌, ◌≤◌, ℕ, List, length, take, drop, ap, ◌∙◌, arith, ◌-◌, length-append, length-drop}
use Rattle.std.proofs.lemmas.List.{take_all}
use Rattle.std.specs.Prelude.{◌==◌}
use Rattle.std.specs.List.{list_all}
use Rattle.share_codec.specs.Segments.{segment_length}
use Rattle.file_shares.specs.Fit.{decoded_at}
use Rattle.file_shares.proofs.Lengths.{segment_fits}
use Rattle.file_shares.proofs.Fitting.{take-past, drop-past}
use Rattle.file_shares.proofs.segment.add_segment.Goals as goal

pub overflow_add-end : goal.overflow_add-end
overflow_add-end c =
    let code = c.decoded_blocks_are_the_given.ensures in
    let old : List ℕ = c.args.bytes.now.items in
    let more : List ℕ = decoded_at c.args.params.now c.args.shares.now c.args.at in
    let fits = segment_fits code.count code.primary c.args.params.now c.args.shares.now c.requires.taken c.args.at c.requires.inside in
    let e : length c.push_decoded.new.bytes.items ≡ length old + length more = ap length c.in_ok-push_decoded.ensures ∙ length-append old more in
    let a = c.args.bytes.now.ok.0 in let b = c.push_decoded.new.bytes.ok.0 in let d = c.len-start.ensures in let g = c.segment_length.ensures.length in
    let s = c.push_decoded.new.bytes.small in
    omega arith

pub slice_bounds-is_zeros-count : goal.slice_bounds-is_zeros-count
slice_bounds-is_zeros-count c =
    let code = c.decoded_blocks_are_the_given.ensures in
    let old : List ℕ = c.args.bytes.now.items in
    let more : List ℕ = decoded_at c.args.params.now c.args.shares.now c.args.at in
    let fits = segment_fits code.count code.primary c.args.params.now c.args.shares.now c.requires.taken c.args.at c.requires.inside in
    let e : length c.deref.result.now ≡ length old + length more = ap length (c.deref.ensures.value ∙ c.in_ok-push_decoded.ensures) ∙ length-append old more in
    let a = c.args.bytes.now.ok.0 in let d = c.len-start.ensures in let g = c.segment_length.ensures.length in
    omega arith

pub slice_bounds-is_zeros-start : goal.slice_bounds-is_zeros-start
slice_bounds-is_zeros-start c =
    let code = c.decoded_blocks_are_the_given.ensures in
    let old : List ℕ = c.args.bytes.now.items in
    let more : List ℕ = decoded_at c.args.params.now c.args.shares.now c.args.at in
    let fits = segment_fits code.count code.primary c.args.params.now c.args.shares.now c.requires.taken c.args.at c.requires.inside in
    let e : length c.deref.result.now ≡ length old + length more = ap length (c.deref.ensures.value ∙ c.in_ok-push_decoded.ensures) ∙ length-append old more in
    let a = c.args.bytes.now.ok.0 in let d = c.len-start.ensures in let g = c.segment_length.ensures.length in
    omega arith

pub returns-clause-bytes : goal.returns-clause-bytes
returns-clause-bytes c =
    let old : List ℕ = c.args.bytes.now.items in
    let more : List ℕ = decoded_at c.args.params.now c.args.shares.now c.args.at in
    let at_end : c.len-start.result + c.segment_length.result ≡ length old + segment_length c.args.params.now c.args.at =
    (let a = c.args.bytes.now.ok.0 in let d = c.len-start.ensures in let g = c.segment_length.ensures.length in omega arith) in
    c.truncate.ensures.items ∙ (λ i. take (at_end i) (c.in_ok-push_decoded.ensures i)) ∙ take-past old more (segment_length c.args.params.now c.args.at)

pub returns-clause-zeros : goal.returns-clause-zeros
returns-clause-zeros c =
    let old : List ℕ = c.args.bytes.now.items in
    let more : List ℕ = decoded_at c.args.params.now c.args.shares.now c.args.at in
    let at_end : c.len-start.result + c.segment_length.result ≡ length old + segment_length c.args.params.now c.args.at =
    (let a = c.args.bytes.now.ok.0 in let d = c.len-start.ensures in let g = c.segment_length.ensures.length in omega arith) in
    let past : List ℕ = drop (c.len-start.result + c.segment_length.result) c.deref.result.now in
    let whole : length past ≤ length c.deref.result.now - (c.len-start.result + c.segment_length.result) =
    (let h = length-drop (c.len-start.result + c.segment_length.result) c.deref.result.now in omega arith) in
    c.is_zeros-zeros.ensures
    ∙ ap (list_all (λ b. b == 0)) (take_all (length c.deref.result.now - (c.len-start.result + c.segment_length.result)) past whole ∙ (λ i. drop (at_end i) ((c.deref.ensures.value ∙ c.in_ok-push_decoded.ensures) i)) ∙ drop-past old more (segment_length c.args.params.now c.args.at))
