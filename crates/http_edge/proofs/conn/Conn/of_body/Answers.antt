use Rattle.std.proofs.Common.{◌≡◌, ◌≤◌, ℕ, List, ◌++◌, length, drop, refl, sym, ap, ◌∙◌, append-nil, arith}
use Rattle.std.proofs.lemmas.List.{drop_all}
use Rattle.http_edge.specs.FramingState.{FramingState}
use Rattle.http_edge.specs.Places.{read, resume, IsTakenByStep}
use Rattle.http_edge.specs.State.{left_of}
use Rattle.http_edge.specs.Kept.{count_read, bytes_of_body}
use Rattle.http_edge.specs.declared.place.Step.{Step}
use Rattle.http_edge.specs.declared.place.Step.TheVariants.{Next, Ended, Broken}
use Rattle.http_edge.proofs.conn.Conn.of_body.Goals as goal

-- where all bytes were read, or those up to an end or a fault, so many were
counted : (step : Step) (taken : ℕ) (content bytes : List ℕ) → IsTakenByStep step taken (length bytes) → count_read (length bytes) (resume taken step content (drop taken bytes)) ≡ taken
unfolding read
counted (Next place) taken content bytes all =
    ap (λ (rest : List ℕ). count_read (length bytes) (read taken content place rest)) (drop_all taken bytes (omega (all, arith))) ∙ sym all
counted Ended taken content bytes some = refl
counted (Broken fault) taken content bytes some = refl

pub returns-in_ok-count-in-Chunks-clause-count : goal.returns-in_ok-count-in-Chunks-clause-count
returns-in_ok-count-in-Chunks-clause-count c =
    sym (ap (λ (s : FramingState). bytes_of_body s c.args.piece.now) (sym c.self.view_is ∙ ap left_of c.in-Chunks.is)
    ∙ (ap (count_read (length c.args.piece.now)) was
    ∙ counted c.in_ok-count-in-Chunks.field-0-0 c.in_ok-count-in-Chunks.count _ c.args.piece.now c.in_ok-count-in-Chunks.ensures.taken))
  where
    was : read 0 c.in-Chunks.content.items c.in-Chunks.place c.args.piece.now ≡ resume c.in_ok-count-in-Chunks.count c.in_ok-count-in-Chunks.field-0-0 (c.in-Chunks.content.items ++ c.read_chunks.new.content.items) (drop c.in_ok-count-in-Chunks.count c.args.piece.now)
    was = ap (λ (content : List ℕ). read 0 content c.in-Chunks.place c.args.piece.now)
        (sym (append-nil c.in-Chunks.content.items) ∙ ap (λ (x : List ℕ). c.in-Chunks.content.items ++ x) (sym c.in_ok-added-in-Chunks.ensures.items))
        ∙ c.in_ok-count-in-Chunks.ensures.read c.in-Chunks.content.items (grind (arith, c.in-Chunks.content.ok, c.len-in-Chunks.ensures))

-- no more were taken than there are
within : (step : Step) (taken all : ℕ) → IsTakenByStep step taken all → taken ≤ all
within (Next place) taken all same = omega (same, arith)
within Ended taken all some = some.1
within (Broken fault) taken all some = some.1

pub returns-in_ok-count-in-Chunks-clause-within : goal.returns-in_ok-count-in-Chunks-clause-within
returns-in_ok-count-in-Chunks-clause-within c = within c.in_ok-count-in-Chunks.field-0-0 c.in_ok-count-in-Chunks.count (length c.args.piece.now) c.in_ok-count-in-Chunks.ensures.taken
