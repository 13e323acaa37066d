use Rattle.std.proofs.Common.{◌≡◌, ℕ, List, map, ap, ◌∙◌, subst, Vec, Global}
use Rattle.std.specs.Prelude.{IfOk}
use Rattle.std.specs.Simd.{first_chunks}
use Rattle.erasure.specs.Given.{contents_of}
use Rattle.share_codec.specs.Params.{ParamsValue}
use Rattle.cap_binding.proofs.Cuts.{as_many, one_length}
use Rattle.cap_binding.proofs.Columns.{row_is}
use Rattle.cap_binding.proofs.block_hashes.padded_row.Goals as goal

pub coded-requires-clause-count : goal.coded-requires-clause-count
coded-requires-clause-count c =
    let cut : contents_of c.deref.result.now ≡ first_chunks c.args.size c.args.params.now.k c.args.bytes.now = ap contents_of c.deref.ensures.value ∙ c.in_ok-primary.ensures ∙ ap (λ m. first_chunks c.args.size m c.args.bytes.now) (ap (λ (v : ParamsValue). v.k) c.params.view_is) in
    as_many c.args.size c.args.params.now.k c.args.bytes.now c.deref.result.now cut

pub coded-requires-clause-one_length : goal.coded-requires-clause-one_length
coded-requires-clause-one_length c =
    let cut : contents_of c.deref.result.now ≡ first_chunks c.args.size c.args.params.now.k c.args.bytes.now = ap contents_of c.deref.ensures.value ∙ c.in_ok-primary.ensures ∙ ap (λ m. first_chunks c.args.size m c.args.bytes.now) (ap (λ (v : ParamsValue). v.k) c.params.view_is) in
    one_length c.args.size c.args.params.now.k c.args.bytes.now (contents_of c.deref.result.now) cut c.requires.whole

pub returns : goal.returns
returns c =
    let cut : contents_of c.deref.result.now ≡ first_chunks c.args.size c.args.params.now.k c.args.bytes.now = ap contents_of c.deref.ensures.value ∙ c.in_ok-primary.ensures ∙ ap (λ m. first_chunks c.args.size m c.args.bytes.now) (ap (λ (v : ParamsValue). v.k) c.params.view_is) in
    subst (λ (hs : List (List ℕ)). IfOk c.hashed.result (λ row. row.items ≡ hs))
    (row_is c.deref-2.result.now (contents_of c.deref.result.now) (first_chunks c.args.size c.args.params.now.k c.args.bytes.now) c.args.params.now.n
    (ap (map (λ (b : Vec ℕ Global). b.items)) c.deref-2.ensures.value ∙ c.in_ok-blocks.ensures) cut)
    c.hashed.ensures
