use Rattle.round_trips.proofs.Items.{said_of, stored_of, same_of, plain_of}
use Rattle.round_trips.proofs.laws.asks_are_items.Goals as goal

pub returns : goal.returns
returns c = record {
  said = said_of c.requests_are_meant.ensures;
  same = same_of c.browsers_are_told_the_same.ensures;
  plain = plain_of;
  stored = stored_of c.requests_are_meant.ensures;
}
