use Rattle.std.proofs.Common.{◌≡◌, length, take, drop, sym, ap, ◌∙◌, subst}
use Rattle.share_codec.specs.Segments.{segments}
use Rattle.share_codec.specs.Maker.{Maker, IsMaking}
use Rattle.share_codec.proofs.Steps.{hashed_making}
use Rattle.share_codec.proofs.maker.ShareMaker.hash_segments.Goals as goal

pub returns-clause-making : goal.returns-clause-making
returns-clause-making c crypttext making are =
    let m : Maker = record {
      params = c.self.inside.params;
      coded = c.self.inside.coded;
      drafts = c.self.inside.drafts.items;
      segment_hashes = c.self.inside.segment_hashes.items;
      block_hashes = c.self.inside.block_hashes.items;
    } in
    let view : m ≡ c.args.self.now = c.self.view_is in
    hashed_making m crypttext c.args.next.now c.deref.result.now _
    (subst (λ (v : Maker). IsMaking v crypttext) (sym view) making)
    (are ∙ ap (λ (v : Maker). take (length c.args.next.now) (drop (length v.segment_hashes) (segments v.params crypttext))) (sym view))
    (c.deref.ensures.value ∙ c.in_ok-hashes.ensures)
    c.in_ok-extend_from_slice.ensures.items
