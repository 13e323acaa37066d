use Rattle.std.proofs.Common.{◌≡◌, false, map, string_bytes, sym, ◌∙◌}
use Rattle.option_file.specs.Words.{is_given, option_name}
use Rattle.option_file.proofs.words.push_beside.Goals as goal

pub returns : goal.returns
returns c =
    let named : c.deref.result.now ≡ option_name c.args.key.now = c.deref.ensures ∙ c.in_ok-name.ensures in
    let same : c.deref-2.result.now ≡ option_name c.args.key.now = c.deref-2.ensures ∙ c.in_ok-name.ensures in
    let none : is_given (map string_bytes c.args.given.now) c.args.key.now ≡ false = sym (rw named at c.is_given.ensures) ∙ c.if-is_given.false in
    rw none (c.push_option.ensures c.args.key.now same)
