use Rattle.std.proofs.Common.{refl}
use Rattle.json.specs.Lex.{lex, punctuate}
use Rattle.json.specs.Text.{content}
use Rattle.json.specs.Word.{word, after_number}
use Rattle.json_stack.specs.Machine.{items_and, members_and, state_after}
use Rattle.json_stack.proofs.laws.small_texts.Goals as goal

pub returns : goal.returns
unfolding state_after items_and members_and lex punctuate content word after_number
returns c = record { whole = refl; half = refl; deep = refl; too_deep = refl; key_awaited = refl }
