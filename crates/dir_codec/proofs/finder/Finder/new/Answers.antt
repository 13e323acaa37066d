use Rattle.std.proofs.Common.{refl, ◌∙◌}
use Rattle.dir_codec.proofs.SoughtNames.{none_read}
use Rattle.dir_codec.proofs.finder.Finder.new.Goals as goal

pub returns : goal.returns
returns c text =
    none_read c.args.name.now text _ (c.from_string.ensures ∙ c.in_ok-from_str.ensures.ok) (c.from_string-2.ensures ∙ c.new.ensures.bytes) refl refl refl
