use Rattle.std.proofs.Common.{◌≡◌, ℕ, cond, Err, ap, ◌∙◌, inl, inr, subst}
use Rattle.erasure.specs.Code.{AreBytes}
use Rattle.std.proofs.lemmas.Result.{IfOk-weaker}
use Rattle.grid.specs.declared.fault.GridFault.TheVariants.{NoMemory, Full, Down}
use Rattle.chk_file.specs.Upload.{uploaded}
use Rattle.web_ops.specs.Uploads.{as_directory}
use Rattle.web_replies.specs.Replies.{cap_reply}
use Rattle.web_ops.proofs.CarriedOut.{stored, stopped, full_tells, down_tells, rose, unless}
use Rattle.web_ops.proofs.storing.store.Goals as goal

full_is_not_memory : (s : ℕ) → Full s ≡ NoMemory → ⊥
full_is_not_memory s e = cc

down_is_not_memory : (s : ℕ) → Down s ≡ NoMemory → ⊥
down_is_not_memory s e = cc

pub returns-in-Ok-clause-done : goal.returns-in-Ok-clause-done
returns-in-Ok-clause-done g c =
    stored (uploaded c.args.k c.args.n c.args.secret.now c.args.bytes.items) _ c.cap_reply.result c.args.grid.now c.upload.new.grid c.upload.ensures.leaves (subst AreBytes c.deref.ensures.value c.are_bytes.ensures) (λ few. (c.upload.ensures.short few).0)
    (IfOk-weaker c.cap_reply.result _ _ (λ reply is. is ∙ ap cap_reply (c.as_kind-named.ensures ∙ ap (λ cap. cond c.args.directory (as_directory cap) cap) c.in-Ok.ensures.cap)) c.cap_reply.ensures)
    c.upload.ensures.history c.in-Ok.ensures.stored c.in-Ok.ensures.all_stand c.in-Ok.ensures.all_stood c.in-Ok.ensures.world

pub returns-in-Err-Full-clause-done : goal.returns-in-Err-Full-clause-done
returns-in-Err-Full-clause-done g c =
    let was = c.in-Err-Full.is ∙ ap Err c.in-Err-Full.field-0-is in
    stopped (uploaded c.args.k c.args.n c.args.secret.now c.args.bytes.items) _ c.failure_reply.result c.args.grid.now c.upload.new.grid c.upload.ensures.leaves (subst AreBytes c.deref.ensures.value c.are_bytes.ensures) (λ few. (c.upload.ensures.short few).0)
    (IfOk-weaker c.failure_reply.result _ _ (λ reply is. inr (inl is)) c.failure_reply.ensures)
    (IfOk-weaker c.failure_reply.result _ _ (λ reply is. full_tells _ _ reply _ _ is (c.upload.ensures.stops _ was)) c.failure_reply.ensures)
    (λ honest. (let some = c.in-Err-Full.ensures.begun honest in record { servers = c.upload.ensures.leaves.servers; m = some.0; put = some.1; history = c.upload.ensures.history honest }))
    (λ honest room calm. absurd (c.upload.ensures.never_full honest room _ was))
    (λ few. absurd (full_is_not_memory _ (unless c.upload.result _ _ was (c.upload.ensures.short few).1)))

pub returns-in-Err-Down-clause-done : goal.returns-in-Err-Down-clause-done
returns-in-Err-Down-clause-done g c =
    let was = c.in-Err-Down.is ∙ ap Err c.in-Err-Down.field-0-is in
    stopped (uploaded c.args.k c.args.n c.args.secret.now c.args.bytes.items) _ c.failure_reply-in-Err-Down.result c.args.grid.now c.upload.new.grid c.upload.ensures.leaves (subst AreBytes c.deref.ensures.value c.are_bytes.ensures) (λ few. (c.upload.ensures.short few).0)
    (IfOk-weaker c.failure_reply-in-Err-Down.result _ _ (λ reply is. inr (inr is)) c.failure_reply-in-Err-Down.ensures)
    (IfOk-weaker c.failure_reply-in-Err-Down.result _ _ (λ reply is. down_tells _ _ reply _ _ is (c.upload.ensures.stops_down _ was) ((c.upload.ensures.down _).0 was)) c.failure_reply-in-Err-Down.ensures)
    (λ honest. (let some = c.in-Err-Down.ensures.begun honest in record { servers = c.upload.ensures.leaves.servers; m = some.0; put = some.1; history = c.upload.ensures.history honest }))
    (λ honest room calm. absurd (rose c.args.grid.now c.upload.new.grid _ ((c.upload.ensures.down _).0 was) calm))
    (λ few. absurd (down_is_not_memory _ (unless c.upload.result _ _ was (c.upload.ensures.short few).1)))

pub returns-in-Err-NoMemory-clause-done : goal.returns-in-Err-NoMemory-clause-done
returns-in-Err-NoMemory-clause-done g c =
    stopped (uploaded c.args.k c.args.n c.args.secret.now c.args.bytes.items) _ (Err (record {})) c.args.grid.now c.upload.new.grid c.upload.ensures.leaves (subst AreBytes c.deref.ensures.value c.are_bytes.ensures) (λ few. (c.upload.ensures.short few).0)
    tt tt
    (λ honest. (let some = c.in-Err-NoMemory.ensures.begun honest in record { servers = c.upload.ensures.leaves.servers; m = some.0; put = some.1; history = c.upload.ensures.history honest }))
    (λ honest room calm. tt)
    (λ few. tt)
