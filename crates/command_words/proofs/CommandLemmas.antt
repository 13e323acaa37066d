-- How a command line is put together of its arguments and verbs.
use Rattle.std.proofs.Common.{◌≡◌, ◌∙◌, ◌++◌, List, [], ◌∷◌, Result, Ok, IfOk, ap, ap₂, append_assoc, append-nil, false, subst, sym}
use Rattle.std.specs.List.{AllZip}
use Rattle.std.specs.Prelude.{◌||◌}
use Rattle.clap.specs.Words.{AddsArg, AddsInTurn, AddsSubcommand, App, Rule, Shape, app_of, with_rule, with_subcommand}
use Rattle.clap.specs.Simple.{on_top}
use Rattle.clap.specs.declared.builder.arg.Arg.{Arg}
use Rattle.clap.specs.declared.builder.command.Command.{Command}
use Rattle.clap.specs.declared.builder.command.Command.TheViews.{out-Command}
use Rattle.command_words.specs.Rules.{HasRule}
use Rattle.command_words.specs.Verbs.{HasShape}

module _ {X Y : Type 0} (R : X → Y → Type 0) where
  pub zip_append : (xs xs' : List X) (ys ys' : List Y) → AllZip R xs ys → AllZip R xs' ys' → AllZip R (xs ++ xs') (ys ++ ys')
  zip_append [] xs' [] ys' one other = other
  zip_append [] xs' (y ∷ ys) ys' one other = absurd one
  zip_append (x ∷ xs) xs' [] ys' one other = absurd one
  zip_append (x ∷ xs) xs' (y ∷ ys) ys' one other = (one.0, zip_append xs xs' ys ys' one.1 other)

-- arguments that were made one by one, and then moved into a list
pub listed : (rules : List Rule) {items args : List Arg} → items ≡ args → AllZip HasRule rules args → AllZip HasRule rules items
listed rules same zip = subst (AllZip HasRule rules) (sym same) zip

-- a command is this one, and no argument of it reaches into a verb
abbrev pub IsApp : App → Command → Type 0
IsApp a command = (app_of command ≡ a) × ((out-Command command).has_globals ≡ false)

abbrev pub with_rules : List Rule → App → App
with_rules rules = on_top (λ s. record s { rules = s.rules ++ rules })

-- it gets its arguments one by one
one_more : (old new : Command) (x : Arg) (a : App) (r : Rule) → AddsArg old x new → IsApp a old → HasRule r x → IsApp (with_rule a r) new
one_more old new x a r adds is rule = (adds.shape rule.1 ∙ ap₂ with_rule is.0 rule.0, adds.globals ∙ ap₂ (λ x y. x || y) is.1 rule.1)

pub all_more : (old new : Command) (a : App) (rules : List Rule) (args : List Arg) → AddsInTurn AddsArg old args new → IsApp a old
    → AllZip HasRule rules args → IsApp (with_rules rules a) new
all_more old new a [] [] same is zip =
    subst (IsApp (with_rules [] a)) same (is.0 ∙ ap (λ rules. on_top (λ s. record s { rules = rules }) a) (sym (append-nil a.top.rules)), is.1)
all_more old new a [] (x ∷ args) adds is zip = absurd zip
all_more old new a (r ∷ rules) [] adds is zip = absurd zip
all_more old new a (r ∷ rules) (x ∷ args) adds is zip =
    let all = all_more adds.0 new (with_rule a r) rules args adds.2 (one_more old adds.0 x a r adds.1 is zip.0) zip.1 in
    (all.0 ∙ ap (λ rules. on_top (λ s. record s { rules = rules }) a) (append_assoc a.top.rules (r ∷ []) rules), all.1)

-- a list has verbs of these shapes, and gets one more
pub record HasVerbs (shapes : List Shape) (commands : List Command) : Type 0 where
  pub all : AllZip HasShape shapes commands

pub no_verbs : {list : List Command} → list ≡ [] → HasVerbs [] list
no_verbs {list} none = record { all = subst (AllZip HasShape []) (sym none) tt }

pub verb_more : {E : Type 0} {shapes : List Shape} {old new : List Command} (s : Shape) (verb : Result Command E)
    → ((command : Command) × (verb ≡ Ok command) × (new ≡ old ++ command ∷ [])) → HasVerbs shapes old → IfOk verb (HasShape s) → HasVerbs (shapes ++ s ∷ []) new
verb_more {E} {shapes} {old} {new} s verb adds before has = record {
  all = subst (AllZip HasShape (shapes ++ s ∷ [])) (sym adds.2)
      (zip_append HasShape shapes (s ∷ []) old (adds.0 ∷ []) before.all (subst (λ v. IfOk v (HasShape s)) adds.1 has, tt));
}

-- a program with verbs gets more
more_verbs : (old new : Command) (top : Shape) (subs shapes : List Shape) (commands : List Command) → AddsInTurn AddsSubcommand old commands new
    → app_of old ≡ (record { top = record top { is_leaf = false }; subs = subs }) → AllZip HasShape shapes commands
    → app_of new ≡ (record { top = record top { is_leaf = false }; subs = subs ++ shapes })
more_verbs old new top subs [] [] same app zip = ap app_of (sym same) ∙ app ∙ ap (λ list. record { top = record top { is_leaf = false }; subs = list }) (sym (append-nil subs))
more_verbs old new top subs [] (c ∷ commands) adds app zip = absurd zip
more_verbs old new top subs (s ∷ shapes) [] adds app zip = absurd zip
more_verbs old new top subs (s ∷ shapes) (c ∷ commands) adds app zip =
    more_verbs adds.0 new top (subs ++ s ∷ []) shapes commands adds.2 (adds.1.shape zip.0.1 ∙ ap₂ with_subcommand app zip.0.0) zip.1
    ∙ ap (λ list. record { top = record top { is_leaf = false }; subs = list }) (append_assoc subs (s ∷ []) shapes)

-- and one without gets its first ones
pub all_verbs : (old new : Command) (top first : Shape) (shapes : List Shape) (commands : List Command) → AddsInTurn AddsSubcommand old commands new
    → app_of old ≡ (record { top = top; subs = [] }) → AllZip HasShape (first ∷ shapes) commands
    → app_of new ≡ (record { top = record top { is_leaf = false }; subs = first ∷ shapes })
all_verbs old new top first shapes [] adds app zip = absurd zip
all_verbs old new top first shapes (c ∷ commands) adds app zip =
    more_verbs adds.0 new top (first ∷ []) shapes commands adds.2 (adds.1.shape zip.0.1 ∙ ap₂ with_subcommand app zip.0.0) zip.1
