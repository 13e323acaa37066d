use Rattle.std.proofs.Common.{◌≡◌, ℕ, ◌+◌, ◌<◌, List, [], ◌∷◌, ◌++◌, length, sym, subst, arith}
use Rattle.caps.specs.declared.cap.Cap.{Cap}
use Rattle.client_tree.specs.Runs.{Passes}
use Rattle.client_tree.specs.Parts.{part_bytes}
use Rattle.client_tree.specs.Stored.{IsStoredFrom}
use Rattle.client_tree.proofs.Running.{none_passed, passed_more, one_more_passed, ok_more}
use Rattle.client_tree.proofs.Read.{IsReadUpTo, first_read, next_read, last_read}
use Rattle.client_tree.proofs.pieces.put_rest.Goals as goal

pub loop-init : goal.loop-init
loop-init g c =
    let path : List (List ℕ) = c.args.path.now in
    let first : List ℕ = c.args.first.items in
    subst (λ (caps : List Cap). Passes g.S.Source.gave g.S.Source.kept (IsReadUpTo path caps 0 first first) c.args.source.now c.args.source.now) (sym c.new-caps.ensures.items)
    (none_passed g.S.Source.gave g.S.Source.kept (IsReadUpTo path [] 0 first first) c.args.source.now (first_read path first))

pub returns-then-count-lt-PART_BYTES : goal.returns-then-count-lt-PART_BYTES
returns-then-count-lt-PART_BYTES g c =
    let path : List (List ℕ) = c.args.path.now in
    let first : List ℕ = c.args.first.items in
    let piece : List ℕ = c.loop.piece.items in
    let short : length piece < part_bytes = omega arith in
    ok_more c.put_last.result _ _
    (λ cap stored. passed_more g.S.Source.gave g.S.Source.kept (IsReadUpTo path c.loop.caps.items c.loop.size first piece) (IsStoredFrom cap path first)
    c.args.source.now c.loop.source
    (λ fs. last_read path c.loop.caps.items c.loop.size cap first piece fs short stored) c.loop.invariant)
    c.put_last.ensures

pub loop-preserved : goal.loop-preserved
loop-preserved g c =
    let path : List (List ℕ) = c.args.path.now in
    let first : List ℕ = c.args.first.items in
    let piece : List ℕ = c.loop.piece.items in
    let next : List ℕ = c.in_ok-piece.piece.items in
    let cap : Cap = c.in_ok-put_piece.field-0 in
    let size : c.loop.size + length piece ≡ c.in_ok-size.size = omega arith in
    subst (λ (caps : List Cap). Passes g.S.Source.gave g.S.Source.kept (IsReadUpTo path caps c.in_ok-size.size first next) c.args.source.now c.read_piece.new.self) (sym c.in_ok-push.ensures.items)
    (subst (λ (n : ℕ). Passes g.S.Source.gave g.S.Source.kept (IsReadUpTo path (c.loop.caps.items ++ cap ∷ []) n first next) c.args.source.now c.read_piece.new.self) size
    (one_more_passed g.S.Source.gave g.S.Source.kept (IsReadUpTo path c.loop.caps.items c.loop.size first piece) (IsReadUpTo path (c.loop.caps.items ++ cap ∷ []) (c.loop.size + length piece) first next)
    c.args.source.now c.loop.source c.read_piece.new.self (record { path = path; bytes = next })
    (λ fs. next_read path c.loop.caps.items cap c.loop.size first piece next fs c.in_ok-put_piece.ensures) c.loop.invariant c.in_ok-piece.ensures.ok))
