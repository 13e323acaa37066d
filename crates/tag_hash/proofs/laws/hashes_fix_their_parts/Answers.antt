use Rattle.tag_hash.proofs.HashLemmas.{NoCollision-part, tagged_parts, tagged16_parts, pair_parts}
use Rattle.tag_hash.proofs.laws.hashes_fix_their_parts.Goals as goal

pub returns : goal.returns
returns c = record { of_part = NoCollision-part; tagged = tagged_parts; tagged16 = tagged16_parts; pair = λ uses t u a b c d. pair_parts uses t u a c b d }
