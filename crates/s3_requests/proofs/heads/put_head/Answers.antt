use Rattle.std.proofs.Common.{rules, ◌∙◌}
use Rattle.s3_requests.proofs.PathLemmas.{path_plain}
use Rattle.s3_requests.proofs.HeadLemmas.{one_head}
use Rattle.s3_requests.proofs.heads.put_head.Goals as goal

pub signed_head-requires : goal.signed_head-requires
signed_head-requires c =
    let site = c.args.site.now in
    record {
      path_is = rw (c.as_slice-2.ensures.value, c.in_ok-path.ensures.path) (path_plain site.bucket c.args.name.now c.requires.site_is.bucket_is c.requires.name_is);
      host_is = rw c.as_slice.ensures c.requires.site_is.host_is;
    }

pub returns-clause-head : goal.returns-clause-head
returns-clause-head c =
    let head = c.in_ok-head.ensures.head ∙ one_head c.args.signer.now c.args.site.now c.args.name.now c.args.asked c.args.time.now _ c.method.ensures c.as_slice.ensures
    (c.as_slice-2.ensures.value ∙ c.in_ok-path.ensures.path) c.content_length.ensures c.is_conditional.ensures in
    search rules
