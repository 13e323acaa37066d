use Rattle.std.proofs.Common.{false, Some, None, Err, inl, inr, sym, ap, subst}
use Rattle.caps.specs.Weakening.{verify_fields}
use Rattle.chk_file.specs.Cached.{IsCacheCurrent}
use Rattle.web_replies.specs.Replies.{bytes_reply}
use Rattle.web_ops.specs.Answers.{content_reply, node_reply}
use Rattle.web_ops.specs.Replied.{IsContent}
use Rattle.web_ops.specs.Calls.{IsFound, IsFoundAmid}
use Rattle.web_ops.proofs.Found.{read_found}
use Rattle.caps.specs.declared.cap.Cap.{Cap}
use Rattle.path_walk.specs.Amid.{IsGivenAmid}
use Rattle.web_ops.specs.Amid.{fields_read, IsNodeBy}
use Rattle.web_ops.proofs.Amid.{unread_amid, given_kept, content_amid}
use Rattle.web_ops.proofs.node.content.Goals as goal

pub returns-in-Ok-clause-found : goal.returns-in-Ok-clause-found
returns-in-Ok-clause-found g c =
    subst (λ cap. IsFound (IsCacheCurrent c.args.cache.now c.args.grid.now) (IsContent c.args.range cap) (λ look. content_reply look.gives c.args.range cap) c.download_reply.result c.args.grid.now c.begin.new.grid)
    (sym c.in-Chk.is)
    (read_found _ (bytes_reply (Some (verify_fields c.in-Chk.fields)) c.args.range) c.in-Chk.fields c.in-Ok.download.left c.download_reply.result c.args.grid.now c.begin.new.grid
    (rw c.file_of-file.ensures at c.download_reply.ensures) c.begin.ensures.leaves c.begin.ensures.unchanged c.in-Ok.ensures.bound c.in-Ok.ensures.fit)

pub returns-in-Ok-clause-amid : goal.returns-in-Ok-clause-amid
returns-in-Ok-clause-amid g c =
    let old = c.args.grid.now in
    let new = c.begin.new.grid in
    subst (λ (cap : Cap). IsFoundAmid (IsNodeBy (IsGivenAmid c.args.cache.now old new) false c.args.range cap) c.download_reply.result c.args.cache.now c.begin.new.cache old new)
    (sym c.in-Chk.is)
    (content_amid c.in-Chk.fields (Some c.in-Ok.download.left) c.args.range c.download_reply.result c.args.cache.now c.begin.new.cache old new
    c.begin.ensures.told c.begin.ensures.stand_still c.begin.ensures.kept_seen
    (λ all. given_kept c.args.cache.now old new c.in-Chk.fields c.in-Ok.download.left (c.in-Ok.ensures.seen all))
    (rw c.file_of-file.ensures at c.download_reply.ensures))

pub returns-in-Err-NotEnoughShares-clause-amid : goal.returns-in-Err-NotEnoughShares-clause-amid
returns-in-Err-NotEnoughShares-clause-amid g c =
    let old = c.args.grid.now in
    let new = c.begin.new.grid in
    subst (λ (cap : Cap). IsFoundAmid (IsNodeBy (IsGivenAmid c.args.cache.now old new) false c.args.range cap) c.failure_reply.result c.args.cache.now c.begin.new.cache old new)
    (sym c.in-Chk.is)
    (content_amid c.in-Chk.fields None c.args.range c.failure_reply.result c.args.cache.now c.begin.new.cache old new
    c.begin.ensures.told c.begin.ensures.stand_still c.begin.ensures.kept_seen
    (λ all. inr (c.in-Err-NotEnoughShares.ensures.seen_missing all (ap Err c.in-Err-NotEnoughShares.field-0-is)))
    c.failure_reply.ensures)

pub returns-in-Lit-clause-amid : goal.returns-in-Lit-clause-amid
returns-in-Lit-clause-amid g c =
    unread_amid _ false c.args.range c.args.cap _ c.bytes_reply.result c.args.cache.now c.args.grid.now
    (ap (fields_read false) c.in-Lit.is) (ap (node_reply (λ _. None) false c.args.range) c.in-Lit.is) c.bytes_reply.ensures

pub returns-in-DirChk-clause-amid : goal.returns-in-DirChk-clause-amid
returns-in-DirChk-clause-amid g c =
    let r = c.failure_reply-in-DirChk.result in
    elim c.in-DirChk.is [
      | inl is ↦ unread_amid _ false c.args.range c.args.cap _ r c.args.cache.now c.args.grid.now (ap (fields_read false) is.1) (ap (node_reply (λ _. None) false c.args.range) is.1) c.failure_reply-in-DirChk.ensures
      | inr is ↦ unread_amid _ false c.args.range c.args.cap _ r c.args.cache.now c.args.grid.now (ap (fields_read false) is.1) (ap (node_reply (λ _. None) false c.args.range) is.1) c.failure_reply-in-DirChk.ensures
    ]

pub returns-clause-amid : goal.returns-clause-amid
returns-clause-amid g c =
    let r = c.failure_reply-in-ChkVerify.result in
    elim c.in-ChkVerify.is [
      | inl is ↦ unread_amid _ false c.args.range c.args.cap _ r c.args.cache.now c.args.grid.now (ap (fields_read false) is.1) (ap (node_reply (λ _. None) false c.args.range) is.1) c.failure_reply-in-ChkVerify.ensures
      | inr is ↦ unread_amid _ false c.args.range c.args.cap _ r c.args.cache.now c.args.grid.now (ap (fields_read false) is.1) (ap (node_reply (λ _. None) false c.args.range) is.1) c.failure_reply-in-ChkVerify.ensures
    ]
