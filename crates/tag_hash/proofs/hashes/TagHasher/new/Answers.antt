use Rattle.std.proofs.Common.{[], sym, subst}
use Rattle.sha2.specs.Hashers.{Holds256}
use Rattle.tag_hash.specs.Netstring.{netstring}
use Rattle.tag_hash.specs.Tagged.{tagged_text}
use Rattle.tag_hash.specs.TagHasher.{HasTaken}
use Rattle.tag_hash.proofs.NetstringLemmas.{append_nil}
use Rattle.tag_hash.proofs.hashes.TagHasher.new.Goals as goal

pub returns : goal.returns
unfolding HasTaken tagged_text
returns c = subst (Holds256 c.update_netstring.new.hasher) (sym (append_nil (netstring c.args.tag.now))) (c.update_netstring.ensures [] c.new-inner.ensures)
