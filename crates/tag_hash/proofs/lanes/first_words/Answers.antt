use Rattle.std.proofs.Common.{refl}
use Rattle.tag_hash.proofs.lanes.first_words.Goals as goal

pub returns : goal.returns
returns g c = λ b are. rw (c.words_at.ensures b are, c.words_at-2.ensures b are, c.words_at-3.ensures b are, c.words_at-4.ensures b are, c.words_at-5.ensures b are, c.words_at-6.ensures b are, c.words_at-7.ensures b are, c.words_at-8.ensures b are, c.words_at-9.ensures b are, c.words_at-10.ensures b are, c.words_at-11.ensures b are, c.words_at-12.ensures b are, c.words_at-13.ensures b are, c.words_at-14.ensures b are, c.words_at-15.ensures b are, c.words_at-16.ensures b are) refl
