use Rattle.json_spelling.proofs.TokenPieces.{IsPushedTo}
use Rattle.std.proofs.Common.{length}
use Rattle.json_spelling.proofs.token_pieces.push_tokens.Given as goal

abbrev pub invariant-tokens : goal.invariant-tokens
invariant-tokens g l = IsPushedTo g.T.TakesTokens.took l.behind l.text l.fn.taker l.reader l.taker l.begun l.ended

abbrev pub decreases-tokens : goal.decreases-tokens
decreases-tokens g l = length l.reader
