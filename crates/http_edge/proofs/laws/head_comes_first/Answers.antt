use Rattle.http_edge.proofs.HeadFirst.{head_first, head_block_verdict, blank_first}
use Rattle.http_edge.proofs.laws.head_comes_first.Goals as goal

pub returns : goal.returns
returns c = record { head = head_first; verdict = head_block_verdict; blank = blank_first }
