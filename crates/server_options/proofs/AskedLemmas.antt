-- What is put together of what was read.
use Rattle.std.proofs.Common.{◌≡◌, ℕ, List, Option, None, Some, Box, ap, box_value, codes, is_some, option_map, subst, sym, true≢false, unwrap_or}
use Rattle.clap.specs.Words.{Row, Text, found_of, rows_of, subcommand_name_of, subcommand_rows_of}
use Rattle.clap.specs.Simple.{subcommand_rows}
use Rattle.clap.specs.declared.parser.matches.ArgMatches.{ArgMatches}
use Rattle.clap.specs.declared.parser.matches.ArgMatches.TheViews.{out-ArgMatches, out-SubCommand}
use Rattle.clap.specs.declared.parser.matches.SubCommand.{SubCommand}
use Rattle.octets.specs.Sharing.{IsSharing}
use Rattle.command_words.specs.Given.{given_rows, word_of}
use Rattle.server_options.specs.Asked.{AreSharesGiven}
use Rattle.server_options.specs.Shares.{IsPairOf}
use Rattle.server_options.specs.declared.options.Shares.{Shares}

pub shares_given : (rows : List Row) (text : List ℕ) (shares : Shares) → text ≡ word_of (codes "shares") rows → IsPairOf text shares.needed shares.made
    → IsSharing shares.needed shares.made → AreSharesGiven rows shares
shares_given rows text shares same pair sharing = record {
  pair = subst (λ t. IsPairOf t shares.needed shares.made) same pair;
  sharing = sharing;
}

-- a text that is a sharing isn't one that is none
pub not_none : (read text : List ℕ) (shares : Shares) → read ≡ text → IsPairOf read shares.needed shares.made
    → IsSharing shares.needed shares.made → ((k n : ℕ) → IsPairOf text k n → IsSharing k n → ⊥) → ⊥
not_none read text shares same pair sharing none =
    none shares.needed shares.made (subst (λ t. IsPairOf t shares.needed shares.made) same pair) sharing

-- what holds of two lists holds of the same two
pub of_the_same : {X Y : Type 0} (P : List X → List Y → Type 0) {xs xs' : List X} {ys ys' : List Y} → xs ≡ xs' → ys ≡ ys' → P xs ys → P xs' ys'
of_the_same P {xs} {xs'} {ys} {ys'} one other holds = subst (λ zs. P zs ys') one (subst (λ zs. P xs zs) other holds)

both_of : {Z : Type 0} (sub : Option (Box SubCommand Z)) (verb : Text) (rows : List Row) → option_map (λ b. (out-SubCommand (box_value b)).name.now) sub ≡ Some verb
    → option_map (λ p. p.1) (subcommand_rows sub) ≡ Some rows → subcommand_rows sub ≡ Some (verb, rows)
both_of None verb rows name is = absurd (true≢false (sym (ap is_some name)))
both_of (Some b) verb rows name is = λ i. Some (ap (λ o. unwrap_or o verb) name i, ap (λ o. unwrap_or o rows) is i)

-- a verb by its name and what was given with it
pub verb_given : (m given : ArgMatches) (verb : Text) → subcommand_name_of m ≡ Some verb
    → option_map (λ p. p.1) (subcommand_rows (out-ArgMatches m).subcommand) ≡ Some (rows_of (found_of given)) → subcommand_rows_of m ≡ Some (verb, given_rows given)
verb_given m given verb name is = both_of (out-ArgMatches m).subcommand verb (given_rows given) name is
