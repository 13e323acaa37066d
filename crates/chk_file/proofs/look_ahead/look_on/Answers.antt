use Rattle.std.proofs.Common.{◌≡◌, subst}
use Rattle.chk_file.specs.Cached.{CacheEntry, IsWithinOr}
use Rattle.chk_file.specs.Seen.{step_entry, looked_entry}
use Rattle.chk_file.specs.declared.looking.Looked.{Looked}
use Rattle.chk_file.proofs.look_ahead.look_on.Goals as goal

pub returns-in-Ok-Going : goal.returns-in-Ok-Going
returns-in-Ok-Going c =
    let P : CacheEntry → Type 0 = λ e. IsWithinOr c.args.cache.now c.put_looking.new.self e in
    let same : c.in-Ok-Going.next ≡ c.args.looking = subst (λ (l : Looked). looked_entry l ≡ c.args.looking) c.in-Ok-Going.field-0-is c.in-Ok-Going.ensures in
    subst P same c.put_looking.ensures

pub returns-then-is_small : goal.returns-then-is_small
returns-then-is_small c =
    let P : CacheEntry → Type 0 = λ e. IsWithinOr c.args.cache.now c.add_step.new.self e in
    let same : step_entry c.in-Ok-Done.step ≡ c.args.looking = subst (λ (l : Looked). looked_entry l ≡ c.args.looking) c.in-Ok-Done.field-0-is c.in-Ok-Done.ensures in
    subst P same c.add_step.ensures
