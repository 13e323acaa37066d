use Rattle.tag_hash.proofs.NetstringLemmas.{netstring_injective, netstring_begins_none, netstring_parts}
use Rattle.tag_hash.proofs.Reading.{netstring_read_back, netstring_read_only}
use Rattle.tag_hash.proofs.laws.netstrings_are_read_back.Goals as goal

pub returns : goal.returns
returns c = record { injective = netstring_injective; begins_none = netstring_begins_none; parts = netstring_parts; reads_back = netstring_read_back; reads_nothing_else = netstring_read_only }
