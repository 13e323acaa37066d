use Rattle.std.proofs.Common.{ap, ◌∙◌}
use Rattle.sha2.specs.Sha256.{sha256}
use Rattle.tag_hash.specs.Tagged.{tagged, tagged_text}
use Rattle.tag_hash.specs.Use.{double_sha256}
use Rattle.tag_hash.specs.TagHasher.{HasTaken}
use Rattle.tag_hash.proofs.hashes.TagHasher.finish.Goals as goal

pub returns : goal.returns
unfolding HasTaken tagged double_sha256
returns c = λ tag value taken. c.digest.ensures ∙ ap sha256 (c.finalize-once.ensures (tagged_text tag value) taken)
