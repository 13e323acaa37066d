use Rattle.std.proofs.Common.{refl}
use Rattle.std.specs.Char.{encode_utf8}
use Rattle.std.specs.Str.{chars, is_utf8}
use Rattle.percent_encoding.specs.Percent.{percent_decode}
use Rattle.unicode_normalization.proofs.Computing.{unicode_normalization}
use Rattle.dir_codec.specs.Names.{nfc_text}
use Rattle.path_names.specs.Names.{has_bad_escape}
use Rattle.path_names.proofs.laws.small_paths.Goals as goal

pub returns-clause-escaped : goal.returns-clause-escaped
unfolding chars encode_utf8 is_utf8 percent_decode unicode_normalization nfc_text has_bad_escape
returns-clause-escaped c = refl

pub returns-clause-cap_alone : goal.returns-clause-cap_alone
unfolding chars encode_utf8 is_utf8 percent_decode unicode_normalization nfc_text has_bad_escape
returns-clause-cap_alone c = refl

pub returns-clause-empty_cap : goal.returns-clause-empty_cap
unfolding chars encode_utf8 is_utf8 percent_decode unicode_normalization nfc_text has_bad_escape
returns-clause-empty_cap c = refl

pub returns-clause-empty_name : goal.returns-clause-empty_name
unfolding chars encode_utf8 is_utf8 percent_decode unicode_normalization nfc_text has_bad_escape
returns-clause-empty_name c = refl

pub returns-clause-escape_first : goal.returns-clause-escape_first
unfolding chars encode_utf8 is_utf8 percent_decode unicode_normalization nfc_text has_bad_escape
returns-clause-escape_first c = refl

pub returns-clause-text_second : goal.returns-clause-text_second
unfolding chars encode_utf8 is_utf8 percent_decode unicode_normalization nfc_text has_bad_escape
returns-clause-text_second c = refl
