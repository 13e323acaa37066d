use Rattle.std.proofs.Common.{rules, ◌≡◌, ◌∙◌, ap, [], map, option_map}
use Rattle.std.specs.Option.{unwrap_or}
use Rattle.clap.specs.Words.{found_of, matched_of, raw_values}
use Rattle.clap.proofs.WalkLemmas.{raw_values-rows}
use Rattle.command_words.proofs.given.words_of.Goals as goal

pub returns : goal.returns
returns c =
    let f = found_of c.args.given.now in
    let given : map (λ s. s.now) c.match-get_strs.words.items ≡ unwrap_or (option_map raw_values (matched_of f c.args.name.now)) [] = search rules in
    given ∙ ap (λ o. unwrap_or o []) (raw_values-rows f c.args.name.now)
