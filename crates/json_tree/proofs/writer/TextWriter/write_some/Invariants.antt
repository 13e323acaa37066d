use Rattle.std.proofs.Common.{◌≡◌, ◌+◌, ◌<◌, length}
use Rattle.serde_json.specs.Data.{Data}
use Rattle.json_tree.specs.Writers.{IsWriting, parts_to_write}
use Rattle.json_tree.proofs.writer.TextWriter.write_some.Given as goal

abbrev pub invariant-loop-i : goal.invariant-loop-i
invariant-loop-i l = record {
  writing : (d : Data) → IsWriting d l.fn.self → IsWriting d l.self;
  parts : parts_to_write l.self + l.i ≡ parts_to_write l.fn.self;
  bytes : length l.self.out.items < length l.fn.self.out.items + 65536;
}
