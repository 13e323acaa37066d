use Rattle.std.proofs.Common.{◌≡◌, map, take}
use Rattle.dir_codec.specs.Names.{nfc_text}
use Rattle.path_names.proofs.path.normalized.Given as goal

abbrev pub invariant-loop-text : goal.invariant-loop-text
invariant-loop-text l = l.names.items ≡ map nfc_text (take l.text-index l.texts)
