use Rattle.std.proofs.Common.{◌≡◌, map, length, sym, ap, ◌∙◌, subst, arith}
use Rattle.std.specs.List.{range_with_len}
use Rattle.merkle.specs.Tree.{root}
use Rattle.share_codec.specs.Shares.{roots_of, segment_hashes, share_leaves, share, ueb_hash}
use Rattle.share_codec.specs.Drafts.{shared_of}
use Rattle.share_codec.specs.Maker.{Maker, IsMaking, IsReady}
use Rattle.share_codec.proofs.Cuts.{Filled, filled}
use Rattle.share_codec.proofs.Fronts.{HashLengths, leaves_many, drafts_many, heading_is, room_is, all_made, hash_is}
use Rattle.share_codec.proofs.Steps.{drafts_are, hashes_are, leaves_made}
use Rattle.share_codec.proofs.maker.ShareMaker.finish.Goals as goal

pub finish-requires-clause-as_many : goal.finish-requires-clause-as_many
finish-requires-clause-as_many c =
    let m : Maker = record {
      params = c.self.inside.params;
      coded = c.self.inside.coded;
      drafts = c.self.inside.drafts.items;
      segment_hashes = c.self.inside.segment_hashes.items;
      block_hashes = c.self.inside.block_hashes.items;
    } in
    let view : m ≡ c.args.self = c.self.view_is in
    let crypttext = c.requires.made.0 in
    let making : IsMaking m crypttext = subst (λ (v : Maker). IsMaking v crypttext) (sym view) c.requires.made.1 in
    let ready : IsReady m = subst IsReady (sym view) c.requires.ready in
    let some : Filled m.params = filled m.params c.params_are_a_sharing.ensures c.self.invariant.0 in
    let many : c.len.result ≡ length c.self.inside.drafts.items = omega (arith, c.len.ensures) in
    let leaves : c.in_ok-roots.field-0.items ≡ share_leaves m.params crypttext =
    leaves_made m crypttext making ready some c.in_ok-roots.field-0.items c.deref.result.now c.segment_count-count.result c.len.result c.deref.ensures.value c.segment_count-count.ensures.count many c.in_ok-roots.ensures in
    drafts_many m.params crypttext m.drafts (drafts_are m crypttext making ready some) ∙ sym (ap length (c.in_ok-tree.ensures ∙ leaves) ∙ leaves_many m.params crypttext)

pub finish-requires-clause-room : goal.finish-requires-clause-room
finish-requires-clause-room c =
    let m : Maker = record {
      params = c.self.inside.params;
      coded = c.self.inside.coded;
      drafts = c.self.inside.drafts.items;
      segment_hashes = c.self.inside.segment_hashes.items;
      block_hashes = c.self.inside.block_hashes.items;
    } in
    let view : m ≡ c.args.self = c.self.view_is in
    let crypttext = c.requires.made.0 in
    let making : IsMaking m crypttext = subst (λ (v : Maker). IsMaking v crypttext) (sym view) c.requires.made.1 in
    let ready : IsReady m = subst IsReady (sym view) c.requires.ready in
    let some : Filled m.params = filled m.params c.params_are_a_sharing.ensures c.self.invariant.0 in
    let lengths : HashLengths = record {
      tagged_long = c.texts_fix_their_parts.ensures.tagged_length;
      root_long = c.hashes_have_32_bytes.ensures.root;
      chain_long = c.hashes_have_32_bytes.ensures.chain;
      chain_high = c.chains_lead_to_the_root.ensures.high;
    } in
    let many : c.len.result ≡ length c.self.inside.drafts.items = omega (arith, c.len.ensures) in
    let leaves : c.in_ok-roots.field-0.items ≡ share_leaves m.params crypttext =
    leaves_made m crypttext making ready some c.in_ok-roots.field-0.items c.deref.result.now c.segment_count-count.result c.len.result c.deref.ensures.value c.segment_count-count.ensures.count many c.in_ok-roots.ensures in
    let tree : c.in_ok-tree.tree ≡ share_leaves m.params crypttext = c.in_ok-tree.ensures ∙ leaves in
    let heading : c.in_ok-heading.heading ≡ shared_of m.params (roots_of m.params crypttext) (segment_hashes m.params crypttext) =
    heading_is m.params crypttext c.in_ok-heading.heading (record { crypttext_root = c.root.result; share_root = c.root-2.result }) c.deref-3.result.now c.in_ok-tree.tree
    c.in_ok-heading.ensures (c.deref-3.ensures.value ∙ hashes_are m crypttext making ready some) tree (c.root.ensures ∙ ap root (c.deref-2.ensures.value ∙ sym c.deref-3.ensures.value)) c.root-2.ensures in
    room_is m.params crypttext m.drafts (drafts_are m crypttext making ready some) lengths c.in_ok-heading.heading c.in_ok-tree.tree heading tree

pub returns-clause-shares : goal.returns-clause-shares
returns-clause-shares c crypttext given =
    let m : Maker = record {
      params = c.self.inside.params;
      coded = c.self.inside.coded;
      drafts = c.self.inside.drafts.items;
      segment_hashes = c.self.inside.segment_hashes.items;
      block_hashes = c.self.inside.block_hashes.items;
    } in
    let view : m ≡ c.args.self = c.self.view_is in
    let making : IsMaking m crypttext = subst (λ (v : Maker). IsMaking v crypttext) (sym view) given in
    let ready : IsReady m = subst IsReady (sym view) c.requires.ready in
    let some : Filled m.params = filled m.params c.params_are_a_sharing.ensures c.self.invariant.0 in
    let lengths : HashLengths = record {
      tagged_long = c.texts_fix_their_parts.ensures.tagged_length;
      root_long = c.hashes_have_32_bytes.ensures.root;
      chain_long = c.hashes_have_32_bytes.ensures.chain;
      chain_high = c.chains_lead_to_the_root.ensures.high;
    } in
    let many : c.len.result ≡ length c.self.inside.drafts.items = omega (arith, c.len.ensures) in
    let leaves : c.in_ok-roots.field-0.items ≡ share_leaves m.params crypttext =
    leaves_made m crypttext making ready some c.in_ok-roots.field-0.items c.deref.result.now c.segment_count-count.result c.len.result c.deref.ensures.value c.segment_count-count.ensures.count many c.in_ok-roots.ensures in
    let tree : c.in_ok-tree.tree ≡ share_leaves m.params crypttext = c.in_ok-tree.ensures ∙ leaves in
    let heading : c.in_ok-heading.heading ≡ shared_of m.params (roots_of m.params crypttext) (segment_hashes m.params crypttext) =
    heading_is m.params crypttext c.in_ok-heading.heading (record { crypttext_root = c.root.result; share_root = c.root-2.result }) c.deref-3.result.now c.in_ok-tree.tree
    c.in_ok-heading.ensures (c.deref-3.ensures.value ∙ hashes_are m crypttext making ready some) tree (c.root.ensures ∙ ap root (c.deref-2.ensures.value ∙ sym c.deref-3.ensures.value)) c.root-2.ensures in
    c.in_ok-shares.ensures
    ∙ all_made m.params crypttext m.drafts (drafts_are m crypttext making ready some) lengths c.in_ok-heading.heading c.in_ok-tree.tree heading tree making.size some
    ∙ ap (λ (v : Maker). map (λ i. share v.params crypttext i) (range_with_len 0 v.params.n)) view

pub returns-clause-hash : goal.returns-clause-hash
returns-clause-hash c crypttext given =
    let m : Maker = record {
      params = c.self.inside.params;
      coded = c.self.inside.coded;
      drafts = c.self.inside.drafts.items;
      segment_hashes = c.self.inside.segment_hashes.items;
      block_hashes = c.self.inside.block_hashes.items;
    } in
    let view : m ≡ c.args.self = c.self.view_is in
    let making : IsMaking m crypttext = subst (λ (v : Maker). IsMaking v crypttext) (sym view) given in
    let ready : IsReady m = subst IsReady (sym view) c.requires.ready in
    let some : Filled m.params = filled m.params c.params_are_a_sharing.ensures c.self.invariant.0 in
    let many : c.len.result ≡ length c.self.inside.drafts.items = omega (arith, c.len.ensures) in
    let leaves : c.in_ok-roots.field-0.items ≡ share_leaves m.params crypttext =
    leaves_made m crypttext making ready some c.in_ok-roots.field-0.items c.deref.result.now c.segment_count-count.result c.len.result c.deref.ensures.value c.segment_count-count.ensures.count many c.in_ok-roots.ensures in
    let tree : c.in_ok-tree.tree ≡ share_leaves m.params crypttext = c.in_ok-tree.ensures ∙ leaves in
    let heading : c.in_ok-heading.heading ≡ shared_of m.params (roots_of m.params crypttext) (segment_hashes m.params crypttext) =
    heading_is m.params crypttext c.in_ok-heading.heading (record { crypttext_root = c.root.result; share_root = c.root-2.result }) c.deref-3.result.now c.in_ok-tree.tree
    c.in_ok-heading.ensures (c.deref-3.ensures.value ∙ hashes_are m crypttext making ready some) tree (c.root.ensures ∙ ap root (c.deref-2.ensures.value ∙ sym c.deref-3.ensures.value)) c.root-2.ensures in
    hash_is m.params crypttext c.in_ok-heading.heading c.extension_hash.result heading c.extension_hash.ensures
    ∙ ap (λ (v : Maker). ueb_hash v.params crypttext) view
