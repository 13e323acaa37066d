use Rattle.std.proofs.Common.{◌≡◌, ◌≤◌, ◌+◌, ◌++◌, ℕ, List, [], length, take, get_or, ap, ◌∙◌, arith, length-append, length-take}
use Rattle.std.specs.List.{concat}
use Rattle.std.proofs.Math.Seq.{take-append-add}
use Rattle.share_codec.specs.Segments.{segments, segment_length, primary_blocks}
use Rattle.share_repair.proofs.decoding.add_segment.Goals as goal

pub returns-clause-bytes : goal.returns-clause-bytes
returns-clause-bytes c crypttext good =
    let laws = c.segments_are_joined_again.ensures in
    let p = c.args.params.now in
    let s : List ℕ = get_or (segments p crypttext) c.args.at [] in
    let old : List ℕ = c.args.bytes.now.items in
    let more : List ℕ = concat (primary_blocks p.k s) in
    let new : c.push_decoded.new.bytes.items ≡ old ++ more = c.in_ok-given.ensures.bytes crypttext good in
    let long : length s ≡ segment_length p c.args.at = laws.lengths p crypttext c.args.at good.size c.requires.inside in
    let front : take (length s) more ≡ s = laws.segment p.k s good.sharing.some in
    let fits : length s ≤ length more = (let e = ap length front in let t = length-take (length s) more in omega arith) in
    let whole : length c.push_decoded.new.bytes.items ≡ length old + length more = ap length new ∙ length-append old more in
    let at_end : c.saturating_add-end.result ≡ length old + length s =
    (let a = c.args.bytes.now.ok.0 in let b = c.push_decoded.new.bytes.ok.0 in let d = c.len-start.ensures in let g = c.segment_length.ensures.length in
    let h = c.push_decoded.new.bytes.small in let q = c.saturating_add-end.ensures in omega arith) in
    c.truncate.ensures.items ∙ (λ i. take (at_end i) (new i)) ∙ take-append-add old more (length s) ∙ ap (λ ys. old ++ ys) front
