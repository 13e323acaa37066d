use Rattle.std.proofs.Common.{[]}
use Rattle.tag_hash.proofs.hashes.tagged.Goals as goal

pub returns : goal.returns
returns c = c.finish.ensures c.args.tag.now c.args.value.now (c.update.ensures c.args.tag.now [] c.new-hasher.ensures)
