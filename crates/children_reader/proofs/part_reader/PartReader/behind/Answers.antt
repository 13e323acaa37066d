use Rattle.children_reader.proofs.Pieces.{nothing_read}
use Rattle.children_reader.proofs.part_reader.PartReader.behind.Goals as goal

pub returns-clause-read : goal.returns-clause-read
returns-clause-read g c taken json within utf8 =
    nothing_read g.T.TakesTokens.took json c.args.at (record { looked = c.new.result; taker = c.args.taker }) c.new.ensures.at c.new.ensures.end (c.new.ensures.looked json within) utf8 taken
