use Rattle.tag_hash.proofs.HashLemmas.{tagged_text_parts, pair_text_parts, length-tagged, length-tagged16, length-pair}
use Rattle.tag_hash.proofs.laws.texts_fix_their_parts.Goals as goal

pub returns : goal.returns
returns c = record { tagged = tagged_text_parts; pair = λ t u a b c d. pair_text_parts t u a c b d; tagged_length = length-tagged; tagged16_length = length-tagged16; pair_length = length-pair }
