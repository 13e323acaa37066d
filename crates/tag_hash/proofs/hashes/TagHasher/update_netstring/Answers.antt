use Rattle.std.proofs.Common.{◌++◌, subst}
use Rattle.std.proofs.lemmas.List.{append_assoc}
use Rattle.sha2.specs.Hashers.{Holds256}
use Rattle.tag_hash.specs.Netstring.{netstring}
use Rattle.tag_hash.specs.Tagged.{tagged_text}
use Rattle.tag_hash.specs.TagHasher.{HasTaken}
use Rattle.tag_hash.proofs.hashes.TagHasher.update_netstring.Goals as goal

pub returns : goal.returns
unfolding HasTaken tagged_text
returns c = λ tag value taken.
    subst (Holds256 c.update_netstring.new.hasher) (append_assoc (netstring tag) value (netstring c.args.piece.now)) (c.update_netstring.ensures (netstring tag ++ value) taken)
