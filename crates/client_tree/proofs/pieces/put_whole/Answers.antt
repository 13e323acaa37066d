use Rattle.std.proofs.Common.{ℕ, List}
use Rattle.client_tree.specs.Stored.{IsStoredAt, IsStoredFrom}
use Rattle.client_tree.proofs.Running.{passed_behind, ok_more}
use Rattle.client_tree.proofs.pieces.put_whole.Goals as goal

pub returns : goal.returns
returns g c =
    let path : List (List ℕ) = c.args.path.now in
    let first : List ℕ = c.in_ok-first.first.items in
    ok_more c.put_rest.result _ _
    (λ cap known. passed_behind g.S.Source.gave g.S.Source.kept (IsStoredFrom cap path first) (IsStoredAt cap path)
    c.args.source.now c.read_piece.new.self c.put_rest.new.source (record { path = path; bytes = first }) (λ fs stored. stored) c.in_ok-first.ensures.ok known)
    c.put_rest.ensures
