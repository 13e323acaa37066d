use Rattle.std.proofs.Common.{refl}
use Rattle.std.specs.Char.{encode_utf8}
use Rattle.std.specs.Str.{chars, is_utf8}
use Rattle.percent_encoding.specs.Percent.{percent_decode}
use Rattle.unicode_normalization.proofs.Computing.{unicode_normalization}
use Rattle.dir_codec.specs.Names.{nfc_text}
use Rattle.path_names.specs.Names.{has_bad_escape}
use Rattle.path_names.proofs.laws.an_accent_is_joined.Goals as goal

pub returns : goal.returns
unfolding chars encode_utf8 is_utf8 percent_decode unicode_normalization nfc_text has_bad_escape
returns c = refl
