use Rattle.std.proofs.Common.{IsUtf8, subst}
use Rattle.json_spelling.proofs.OnePass.{spelling_kept}
use Rattle.json_spelling.proofs.metadata.spelling_is_kept.Goals as goal

pub returns : goal.returns
returns c bytes is = spelling_kept bytes c.args.spelled.now is (subst IsUtf8 c.as_str-text.ensures c.as_str-text.utf8)
