use Rattle.http_edge.proofs.BlockLemmas.{head_of_reads, head_of_finds}
use Rattle.http_edge.proofs.laws.head_is_of_the_grammar.Goals as goal

pub returns : goal.returns
returns c = record { only = head_of_reads; each = head_of_finds }
