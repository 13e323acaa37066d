use Rattle.json.specs.Json.{max_depth}
use Rattle.json.specs.Lex.{tokens}
use Rattle.json_stack.proofs.Reading.{machine_reads}
use Rattle.json_stack.proofs.laws.machine_reads_the_grammar.Goals as goal

pub returns : goal.returns
returns c = record {
  value = machine_reads;
  document = λ text. machine_reads max_depth (tokens text);
}
