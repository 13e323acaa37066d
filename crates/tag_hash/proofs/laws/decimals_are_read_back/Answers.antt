use Rattle.tag_hash.proofs.DecimalLemmas.{decimal_text_injective, decimal_text_digits, digits_value-decimal_text, decimal_text_printed}
use Rattle.tag_hash.proofs.laws.decimals_are_read_back.Goals as goal

pub returns : goal.returns
returns c = record { injective = decimal_text_injective; digits = decimal_text_digits; value = digits_value-decimal_text; printed = decimal_text_printed }
