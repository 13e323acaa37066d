use Rattle.std.proofs.Common.{◌≤◌, ◌^◌, ◌-◌, [], ◌∙◌, arith}
use Rattle.octets.specs.Sharing.{IsSharing}
use Rattle.tag_hash.specs.Decimal.{decimal_text}
use Rattle.share_codec.specs.Params.{ParamsValue}
use Rattle.share_codec.specs.Segments.{segment_size, segment_count}
use Rattle.share_repair.proofs.Fronts.{behind1, behind2, behind3, behind4, behind5, behind6, ueb_text-is, sharing_as, params_as}
use Rattle.share_repair.proofs.extension.numbers_in.Goals as goal

few : (p : ParamsValue) → IsSharing p.k p.n → (p.k ≤ 256) × (p.n ≤ 256)
few p h = let e = h.enough in let l = h.limit in (omega arith, omega arith)

pub returns-in_err-rest : goal.returns-in_err-rest
returns-in_err-rest c p roots sharing small e = absurd (c.in_err-rest.ensures roots.crypttext_root (behind1 p roots) (e ∙ ueb_text-is p roots))

pub returns-in_err-needed : goal.returns-in_err-needed
returns-in_err-needed c p roots sharing small e =
    let t1 = (c.in_ok-rest.ensures roots.crypttext_root (behind1 p roots) (e ∙ ueb_text-is p roots)).1 in
    absurd (c.in_err-needed.ensures.reads p.k (behind2 p roots) (few p sharing).0 t1)

pub returns-in_err-rest-2 : goal.returns-in_err-rest-2
returns-in_err-rest-2 c p roots sharing small e =
    let t1 = (c.in_ok-rest.ensures roots.crypttext_root (behind1 p roots) (e ∙ ueb_text-is p roots)).1 in
    let t2 = (c.in_ok-needed.ensures.reads p.k (behind2 p roots) (few p sharing).0 t1).1 in
    absurd (c.in_err-rest-2.ensures (decimal_text (segment_count p)) (behind3 p roots) t2)

pub returns-in_err-rest-3 : goal.returns-in_err-rest-3
returns-in_err-rest-3 c p roots sharing small e =
    let t1 = (c.in_ok-rest.ensures roots.crypttext_root (behind1 p roots) (e ∙ ueb_text-is p roots)).1 in
    let t2 = (c.in_ok-needed.ensures.reads p.k (behind2 p roots) (few p sharing).0 t1).1 in
    let t3 = (c.in_ok-rest-2.ensures (decimal_text (segment_count p)) (behind3 p roots) t2).1 in
    absurd (c.in_err-rest-3.ensures (decimal_text (segment_size p)) (behind4 p roots) t3)

pub returns-in_err-rest-4 : goal.returns-in_err-rest-4
returns-in_err-rest-4 c p roots sharing small e =
    let t1 = (c.in_ok-rest.ensures roots.crypttext_root (behind1 p roots) (e ∙ ueb_text-is p roots)).1 in
    let t2 = (c.in_ok-needed.ensures.reads p.k (behind2 p roots) (few p sharing).0 t1).1 in
    let t3 = (c.in_ok-rest-2.ensures (decimal_text (segment_count p)) (behind3 p roots) t2).1 in
    let t4 = (c.in_ok-rest-3.ensures (decimal_text (segment_size p)) (behind4 p roots) t3).1 in
    absurd (c.in_err-rest-4.ensures roots.share_root (behind5 p roots) t4)

pub returns-in_err-size : goal.returns-in_err-size
returns-in_err-size c p roots sharing small e =
    let t1 = (c.in_ok-rest.ensures roots.crypttext_root (behind1 p roots) (e ∙ ueb_text-is p roots)).1 in
    let t2 = (c.in_ok-needed.ensures.reads p.k (behind2 p roots) (few p sharing).0 t1).1 in
    let t3 = (c.in_ok-rest-2.ensures (decimal_text (segment_count p)) (behind3 p roots) t2).1 in
    let t4 = (c.in_ok-rest-3.ensures (decimal_text (segment_size p)) (behind4 p roots) t3).1 in
    let t5 = (c.in_ok-rest-4.ensures roots.share_root (behind5 p roots) t4).1 in
    let fits : p.size ≤ 2 ^ 64 - 1 = omega arith in
    absurd (c.in_err-size.ensures.reads p.size (behind6 p roots) fits t5)

pub returns-in_err-made : goal.returns-in_err-made
returns-in_err-made c p roots sharing small e =
    let t1 = (c.in_ok-rest.ensures roots.crypttext_root (behind1 p roots) (e ∙ ueb_text-is p roots)).1 in
    let t2 = (c.in_ok-needed.ensures.reads p.k (behind2 p roots) (few p sharing).0 t1).1 in
    let t3 = (c.in_ok-rest-2.ensures (decimal_text (segment_count p)) (behind3 p roots) t2).1 in
    let t4 = (c.in_ok-rest-3.ensures (decimal_text (segment_size p)) (behind4 p roots) t3).1 in
    let t5 = (c.in_ok-rest-4.ensures roots.share_root (behind5 p roots) t4).1 in
    let fits : p.size ≤ 2 ^ 64 - 1 = omega arith in
    let t6 = (c.in_ok-size.ensures.reads p.size (behind6 p roots) fits t5).1 in
    absurd (c.in_err-made.ensures.reads p.n [] (few p sharing).1 t6)

pub returns : goal.returns
returns c p roots sharing small e =
    let t1 = (c.in_ok-rest.ensures roots.crypttext_root (behind1 p roots) (e ∙ ueb_text-is p roots)).1 in
    let t2 = c.in_ok-needed.ensures.reads p.k (behind2 p roots) (few p sharing).0 t1 in
    let t3 = (c.in_ok-rest-2.ensures (decimal_text (segment_count p)) (behind3 p roots) t2.1).1 in
    let t4 = (c.in_ok-rest-3.ensures (decimal_text (segment_size p)) (behind4 p roots) t3).1 in
    let t5 = (c.in_ok-rest-4.ensures roots.share_root (behind5 p roots) t4).1 in
    let fits : p.size ≤ 2 ^ 64 - 1 = omega arith in
    let t6 = c.in_ok-size.ensures.reads p.size (behind6 p roots) fits t5 in
    let t7 = c.in_ok-made.ensures.reads p.n [] (few p sharing).1 t6.1 in
    params_as p c.in_ok-needed.needed c.in_ok-made.made c.in_ok-size.size c.params_of.result t2.0 t7.0 t6.0
    (c.params_of.ensures (sharing_as p.k p.n c.in_ok-needed.needed c.in_ok-made.made t2.0 t7.0 sharing))
