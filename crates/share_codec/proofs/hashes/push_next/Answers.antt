use Rattle.std.proofs.Common.{◌≡◌, ℕ, List, length, take, drop, ap, ◌∙◌, arith}
use Rattle.std.specs.Simd.{first_chunks}
use Rattle.erasure.specs.Given.{contents_of}
use Rattle.tag_hash.specs.Tagged.{tagged}
use Rattle.share_codec.proofs.NextPieces.{with_next}
use Rattle.share_codec.proofs.hashes.push_next.Goals as goal

pub returns : goal.returns
returns c =
    let pieces : List (List ℕ) = first_chunks c.args.size c.args.count c.args.bytes.now in
    let done : c.len.result ≡ length c.args.hashes.now.items = omega (arith, c.len.ensures) in
    record {
      first = with_next (tagged c.args.tag.now) pieces c.deref.result.now c.args.hashes.now.items c.deref-2.result.now _ c.args.most _
          c.requires.first
          (ap contents_of c.deref.ensures.value ∙ c.in_ok-pieces.ensures ∙ ap (λ n. take c.args.most (drop n pieces)) done)
          (c.deref-2.ensures.value ∙ c.in_ok-next.ensures)
          c.extend_from_slice.ensures.items;
    }
