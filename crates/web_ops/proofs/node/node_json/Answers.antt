use Rattle.std.proofs.Common.{true, Some, None, Ok, Err, inl, inr, sym, ap, subst, ◌∙◌}
use Rattle.caps.specs.declared.cap.Cap.TheVariants.{DirChk}
use Rattle.chk_file.specs.Cached.{IsCacheCurrent}
use Rattle.json_view.specs.Nodes.{file_text}
use Rattle.web_replies.specs.Replies.{json_reply}
use Rattle.web_ops.specs.Answers.{listing_reply, node_json_reply, node_reply}
use Rattle.web_ops.specs.Replied.{IsNodeJson}
use Rattle.web_ops.specs.Calls.{IsFound, IsFoundAmid}
use Rattle.web_ops.proofs.Found.{read_found}
use Rattle.caps.specs.declared.cap.Cap.{Cap}
use Rattle.path_walk.specs.Amid.{IsGivenAmid}
use Rattle.web_ops.specs.Amid.{fields_read, IsNodeBy}
use Rattle.web_ops.proofs.Amid.{failed_amid, unread_amid, given_kept, listing_amid}
use Rattle.web_ops.proofs.node.node_json.Goals as goal

pub returns-in-Ok-clause-found : goal.returns-in-Ok-clause-found
returns-in-Ok-clause-found g c =
    subst (λ cap. IsFound (IsCacheCurrent c.args.cache.now c.args.grid.now) (IsNodeJson cap) (λ look. node_json_reply look.gives cap) c.listing.result c.args.grid.now c.read_counted.new.grid)
    (sym c.in-DirChk.is)
    (read_found _ (listing_reply (DirChk c.in-DirChk.fields)) c.in-DirChk.fields c.in-Ok.counted c.listing.result c.args.grid.now c.read_counted.new.grid
    (rw c.in-DirChk.is at c.listing.ensures) c.read_counted.ensures.leaves c.read_counted.ensures.unchanged c.in-Ok.ensures.bound c.in-Ok.ensures.fit)

pub returns-in-Ok-clause-amid : goal.returns-in-Ok-clause-amid
returns-in-Ok-clause-amid g c range =
    let old = c.args.grid.now in
    let new = c.read_counted.new.grid in
    subst (λ (cap : Cap). IsFoundAmid (IsNodeBy (IsGivenAmid c.args.cache.now old new) true range cap) c.listing.result c.args.cache.now c.read_counted.new.cache old new)
    (sym c.in-DirChk.is)
    (listing_amid c.in-DirChk.fields (Some c.in-Ok.counted) range c.listing.result c.args.cache.now c.read_counted.new.cache old new
    c.read_counted.ensures.told c.read_counted.ensures.stand_still c.read_counted.ensures.kept_seen
    (λ all. given_kept c.args.cache.now old new c.in-DirChk.fields c.in-Ok.counted (c.in-Ok.ensures.seen all))
    (rw c.in-DirChk.is at c.listing.ensures))

pub returns-in-Err-NotEnoughShares-clause-amid : goal.returns-in-Err-NotEnoughShares-clause-amid
returns-in-Err-NotEnoughShares-clause-amid g c range =
    let old = c.args.grid.now in
    let new = c.read_counted.new.grid in
    subst (λ (cap : Cap). IsFoundAmid (IsNodeBy (IsGivenAmid c.args.cache.now old new) true range cap) c.failure_reply.result c.args.cache.now c.read_counted.new.cache old new)
    (sym c.in-DirChk.is)
    (listing_amid c.in-DirChk.fields None range c.failure_reply.result c.args.cache.now c.read_counted.new.cache old new
    c.read_counted.ensures.told c.read_counted.ensures.stand_still c.read_counted.ensures.kept_seen
    (λ all. inr (c.in-Err-NotEnoughShares.ensures.seen_missing all (ap Err c.in-Err-NotEnoughShares.field-0-is)))
    c.failure_reply.ensures)

pub returns-in-DirLit-clause-amid : goal.returns-in-DirLit-clause-amid
returns-in-DirLit-clause-amid g c range =
    unread_amid _ true range c.args.cap.now _ c.literal_listing.result c.args.cache.now c.args.grid.now
    (ap (fields_read true) c.in-DirLit.is) (ap (node_reply (λ _. None) true range) c.in-DirLit.is) (rw c.in-DirLit.is at c.literal_listing.ensures)

pub returns-in_err-file_json-in-Chk-clause-amid : goal.returns-in_err-file_json-in-Chk-clause-amid
returns-in_err-file_json-in-Chk-clause-amid g c range = failed_amid _ _ c.from_residual.result c.args.cache.now c.args.grid.now c.from_residual.ensures.1

pub returns-in-ChkVerify-clause-amid : goal.returns-in-ChkVerify-clause-amid
returns-in-ChkVerify-clause-amid g c range =
    let r = c.failure_reply-in-ChkVerify.result in
    elim c.in-ChkVerify.is [
      | inl is ↦ unread_amid _ true range c.args.cap.now _ r c.args.cache.now c.args.grid.now (ap (fields_read true) is.1) (ap (node_reply (λ _. None) true range) is.1) c.failure_reply-in-ChkVerify.ensures
      | inr is ↦ unread_amid _ true range c.args.cap.now _ r c.args.cache.now c.args.grid.now (ap (fields_read true) is.1) (ap (node_reply (λ _. None) true range) is.1) c.failure_reply-in-ChkVerify.ensures
    ]

pub returns-in_ok-file_json-in-Chk-clause-amid : goal.returns-in_ok-file_json-in-Chk-clause-amid
returns-in_ok-file_json-in-Chk-clause-amid g c range =
    let same = c.json_reply.ensures ∙ ap json_reply c.in_ok-file_json-in-Chk.ensures in
    elim c.in-Chk.is [
      | inl is ↦ unread_amid _ true range c.args.cap.now (json_reply (file_text c.args.cap.now)) (Ok c.json_reply.result) c.args.cache.now c.args.grid.now (ap (fields_read true) is.1) (ap (node_reply (λ _. None) true range) is.1 ∙ sym (ap (λ (cap : Cap). json_reply (file_text cap)) is.1)) same
      | inr is ↦ unread_amid _ true range c.args.cap.now (json_reply (file_text c.args.cap.now)) (Ok c.json_reply.result) c.args.cache.now c.args.grid.now (ap (fields_read true) is.1) (ap (node_reply (λ _. None) true range) is.1 ∙ sym (ap (λ (cap : Cap). json_reply (file_text cap)) is.1)) same
    ]
