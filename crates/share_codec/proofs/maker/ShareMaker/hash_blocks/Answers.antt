use Rattle.std.proofs.Common.{◌≡◌, ◌<◌, get_or, List, ℕ, length, map, take, drop, sym, ap, ◌∙◌, subst, arith}
use Rattle.std.specs.List.{flat_map}
use Rattle.share_codec.specs.Segments.{segment_count}
use Rattle.share_codec.proofs.Cuts.{Filled, filled}
use Rattle.share_codec.specs.Tags.{block_hash}
use Rattle.share_codec.specs.Drafts.{Begun, nothing_begun, IsFull, blocks_begun}
use Rattle.share_codec.specs.Maker.{Maker, IsMaking}
use Rattle.share_codec.proofs.Steps.{blocks_making, coded_full}
use Rattle.share_codec.proofs.maker.ShareMaker.hash_blocks.Goals as goal

pub returns-clause-making : goal.returns-clause-making
returns-clause-making c crypttext making =
    let m : Maker = record {
      params = c.self.inside.params;
      coded = c.self.inside.coded;
      drafts = c.self.inside.drafts.items;
      segment_hashes = c.self.inside.segment_hashes.items;
      block_hashes = c.self.inside.block_hashes.items;
    } in
    let view : m ≡ c.args.self.now = c.self.view_is in
    let start : c.len-start.result ≡ length c.self.inside.block_hashes.items = omega (arith, c.len-start.ensures) in
    blocks_making m crypttext c.deref-2.result.now _ c.args.most
    (subst (λ (v : Maker). IsMaking v crypttext) (sym view) making)
    (c.deref-2.ensures.value ∙ c.in_ok-hashes.ensures.next
    ∙ ap (λ (n : ℕ). map block_hash (take c.args.most (drop n (flat_map (blocks_begun m.params) c.deref.result.now)))) start
    ∙ ap (λ (ds : List Begun). map block_hash (take c.args.most (drop (length m.block_hashes) (flat_map (blocks_begun m.params) ds)))) c.deref.ensures.value)
    c.in_ok-extend_from_slice.ensures.items

pub next_hashes-requires-clause-full : goal.next_hashes-requires-clause-full
next_hashes-requires-clause-full c =
    let m : Maker = record {
      params = c.self.inside.params;
      coded = c.self.inside.coded;
      drafts = c.self.inside.drafts.items;
      segment_hashes = c.self.inside.segment_hashes.items;
      block_hashes = c.self.inside.block_hashes.items;
    } in
    let view : m ≡ c.args.self.now = c.self.view_is in
    let making : IsMaking m c.requires.made.0 = subst (λ (v : Maker). IsMaking v c.requires.made.0) (sym view) c.requires.made.1 in
    let all : m.coded ≡ segment_count m.params = subst (λ (v : Maker). v.coded ≡ segment_count v.params) (sym view) c.requires.coded in
    let some : Filled m.params = filled m.params c.params_are_a_sharing.ensures c.self.invariant.0 in
    subst (λ (ds : List Begun). (i : ℕ) → i < length ds → IsFull m.params (get_or ds i nothing_begun)) (sym c.deref.ensures.value) (coded_full m c.requires.made.0 making all some)
