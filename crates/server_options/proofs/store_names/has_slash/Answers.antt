use Rattle.std.proofs.Common.{lit<}
use Rattle.std.proofs.lemmas.Str.Pattern.{contains_char}
use Rattle.server_options.proofs.ByteLemmas.{is_in}
use Rattle.server_options.proofs.store_names.has_slash.Goals as goal

pub returns : goal.returns
returns c =
    let tells = contains_char 47 c.args.text.now c.contains.result c.contains.ensures.cases (lit< tt) in
    is_in 47 c.args.text.now c.contains.result tells.0 tells.1
