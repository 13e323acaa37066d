use Rattle.std.proofs.Common.{subst}
use Rattle.std.specs.Prelude.{⊤}
use Rattle.web_ops.specs.Encoding.{encoding_of, upload_of}
use Rattle.chk_file.specs.Upload.{upload_cap}
use Rattle.web_replies.specs.Replies.{cap_reply}
use Rattle.web_ops.specs.Replied.{IsPutReply}
use Rattle.web_ops.specs.Uploads.{if_long}
use Rattle.web_ops.specs.Calls.{IsCarriedOut}
use Rattle.web_ops.proofs.storing.put.Goals as goal

pub returns-clause-done : goal.returns-clause-done
returns-clause-done g c =
    let e = encoding_of c.args.k c.args.n c.args.secret.now in
    subst (λ items. IsCarriedOut ⊤ (if_long (upload_of e items)) (IsPutReply (upload_cap (upload_of e items))) (λ look. cap_reply (upload_cap (upload_of e items))) c.store.result c.args.grid.now c.store.new.grid) c.into_vec.ensures c.store.ensures.done
