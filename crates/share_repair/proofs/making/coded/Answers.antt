use Rattle.std.proofs.Common.{◌≡◌, ℕ, List, map, sym, ap, subst, ◌∙◌, arith, Vec, Global, Bool, not, false, true}
use Rattle.std.specs.Prelude.{nat_eq}
use Rattle.std.specs.Cmp.Lexicographic.{pointwise, same_text}
use Rattle.std.specs.Rc.{rc_slice_items}
use Rattle.share_codec.specs.Params.{ParamsValue}
use Rattle.share_repair.specs.Files.{FileLabel, IsCrypttextOf, all_shares}
use Rattle.share_repair.specs.Repaired.{AreAmong, strings_of}
use Rattle.share_repair.proofs.Givens.{bytes_are, among_strings, strings_among, made_among, given_made}
use Rattle.share_repair.proofs.making.coded.Goals as goal

alike : (xs ys : List ℕ) (r : Bool) → r ≡ false → r ≡ not (pointwise nat_eq xs ys) → xs ≡ ys
alike xs ys r e f = same_text xs ys (by_case (pointwise nat_eq xs ys) (sym e ∙ f))
  where
    by_case : (b : Bool) → false ≡ not b → true ≡ b
    by_case true h = λ _. true
    by_case false h = cc

pub returns-then-not-are_among-clause-unlike : goal.returns-then-not-are_among-clause-unlike
returns-then-not-are_among-clause-unlike c other is =
    let label : FileLabel = record { params = c.args.params.now; ueb = c.args.ueb.now } in
    let crypttext = c.args.crypttext.now in
    let made : List (List ℕ) = map (λ (share : Vec ℕ Global). share.items) c.deref.result.now in
    let e : made ≡ all_shares label.params crypttext =
    ap (map (λ (share : Vec ℕ Global). share.items)) c.deref.ensures.value ∙ c.in_ok-made.ensures.shares in
    c.are_among.ensures.no c.if-not-are_among.true
    (strings_among rc_slice_items made c.args.given.now (made_among label crypttext (strings_of rc_slice_items c.args.given.now) made e is))

pub returns-clause-made : goal.returns-clause-made
returns-clause-made c =
    let label : FileLabel = record { params = c.args.params.now; ueb = c.args.ueb.now } in
    let crypttext = c.args.crypttext.now in
    let given = strings_of rc_slice_items c.args.given.now in
    let same : map (λ (share : Vec ℕ Global). share.items) c.deref.result.now ≡ map (λ (share : Vec ℕ Global). share.items) c.in_ok-made.made.items =
    ap (map (λ (share : Vec ℕ Global). share.items)) c.deref.ensures.value in
    let file : IsCrypttextOf label crypttext = record {
      sharing = c.params_are_a_sharing.ensures;
      some = c.requires.some;
      bytes = bytes_are crypttext c.type_inv.crypttext;
      size = let e = c.if-crypttext-params.false in let v = ap (λ (p : ParamsValue). p.size) c.params.view_is in omega arith;
      hash = sym c.in_ok-made.ensures.hash ∙ alike c.in_ok-made.own c.args.ueb.now c.ne.result c.if-ne.false c.ne.ensures;
    } in
    let among : AreAmong (map (λ (share : Vec ℕ Global). share.items) c.in_ok-made.made.items) given =
    subst (λ m. AreAmong m given) same (among_strings rc_slice_items (map (λ (share : Vec ℕ Global). share.items) c.deref.result.now) c.args.given.now (c.are_among.ensures.yes c.if-not-are_among.false)) in
    record {
      crypttext = crypttext;
      origin = given_made rc_slice_items label crypttext c.args.given.now (map (λ (share : Vec ℕ Global). share.items) c.in_ok-made.made.items) file c.in_ok-made.ensures.shares among c.requires.many c.requires.apart;
      all = c.in_ok-made.ensures.shares;
    }
