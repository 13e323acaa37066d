use Rattle.std.proofs.Common.{◌≡◌, ◌∙◌, ◌++◌, ◌&&◌, [], ◌∷◌, Bool, List, ap, arith, false, length, length-append, ne_eqb, not, refl, true}
use Rattle.std.proofs.lemmas.Result.{IfOk-weaker}
use Rattle.clap.specs.Words.{rule_of}
use Rattle.clap.specs.Walk.{is_empty, is_free_arg}
use Rattle.clap.specs.declared.builder.arg.Arg.{Arg}
use Rattle.server_options.proofs.arguments.excluding.Goals as goal

filled : {X : Type 0} (xs : List X) (x : X) → is_empty (xs ++ x ∷ []) ≡ false
filled xs x = ne_eqb (length (xs ++ x ∷ [])) 0 (λ e. omega (arith, e, length-append xs (x ∷ [])))

never : (one other : Bool) → (one && (false && other)) ≡ false
never true other = refl
never false other = refl

not_free : (a : Arg) → is_empty a.conflicts.items ≡ false → is_free_arg a ≡ false
not_free a some =
    let others : Bool = is_empty a.needs.items && (is_empty a.r_ifs.items && (is_empty a.r_ifs_all.items && (is_empty a.r_unless.items && is_empty a.r_unless_all.items))) in
    ap (λ none. not a.exclusive && (none && others)) some ∙ never (not a.exclusive) others

pub returns-clause-rule : goal.returns-clause-rule
returns-clause-rule c = IfOk-weaker c.conflicts_with.result _ _
    (λ (arg : Arg) adds.
    ap (λ free. record (rule_of arg) { is_free = free }) (not_free arg (ap is_empty adds.1 ∙ filled c.args.argument.conflicts.items _))
    ∙ ap (λ (a : Arg). record (rule_of a) { is_free = false }) adds.0)
    c.conflicts_with.ensures

pub returns-clause-local : goal.returns-clause-local
returns-clause-local c = IfOk-weaker c.conflicts_with.result _ _ (λ arg adds. ap (λ (a : Arg). a.global) adds.0) c.conflicts_with.ensures
