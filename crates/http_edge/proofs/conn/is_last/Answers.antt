use Rattle.std.proofs.Common.{◌≡◌, ℕ, List, ◌++◌, drop, refl, sym, ap, ◌∙◌, append-nil}
use Rattle.http_edge.specs.FramingState.{frame_read}
use Rattle.http_edge.specs.Places.{BodyReading, read, resume}
use Rattle.http_edge.specs.declared.place.Step.{Step}
use Rattle.http_edge.specs.declared.place.Step.TheVariants.{Next}
use Rattle.http_edge.proofs.NoHead.{first_request, no_request, going_on}
use Rattle.http_edge.proofs.conn.is_last.Goals as goal

pub returns-in-Next-clause-not : goal.returns-in-Next-clause-not
returns-in-Next-clause-not c = λ false.
    no_request _ (ap (λ (r : BodyReading). first_request (frame_read c.args.request.now c.args.bytes.now r)) was
    ∙ going_on c.args.request.now c.in-Next.field-0 c.in_ok-step.field-0-1 (c.args.content.now ++ c.read_chunks.new.content.items) c.args.bytes.now
    (rw c.in-Next.is at c.in_ok-step.ensures.taken))
  where
    was : read 0 c.args.content.now c.args.place c.args.bytes.now ≡ resume c.in_ok-step.field-0-1 (Next c.in-Next.field-0) (c.args.content.now ++ c.read_chunks.new.content.items) (drop c.in_ok-step.field-0-1 c.args.bytes.now)
    was = ap (λ (content : List ℕ). read 0 content c.args.place c.args.bytes.now)
        (sym (append-nil c.args.content.now) ∙ ap (λ (x : List ℕ). c.args.content.now ++ x) (sym c.in_ok-added.ensures.items))
        ∙ c.in_ok-step.ensures.read c.args.content.now refl
        ∙ ap (λ (s : Step). resume c.in_ok-step.field-0-1 s (c.args.content.now ++ c.read_chunks.new.content.items) (drop c.in_ok-step.field-0-1 c.args.bytes.now)) c.in-Next.is
