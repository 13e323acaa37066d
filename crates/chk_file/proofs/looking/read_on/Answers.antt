use Rattle.std.proofs.Common.{List, ℕ, sym, ap, subst, ◌∙◌}
use Rattle.dir_codec.specs.Sought.{sought_in, IsFinding, IsFoundOn}
use Rattle.dir_codec.specs.declared.finder.Finding.{Finding}
use Rattle.dir_codec.specs.declared.finder.Finding.TheVariants.{Done}
use Rattle.chk_file.proofs.looking.read_on.Goals as goal

pub new-requires : goal.new-requires
new-requires c =
    let name : List ℕ = c.args.name in
    let text : List ℕ = c.deref.result.now in
    let finding : IsFinding name text c.args.finder = subst (λ (t : List ℕ). IsFinding name t c.args.finder) (sym c.deref.ensures.value) c.requires.finding in
    let found : IsFoundOn name text (Done c.in-Done.sought) = subst (λ (f : Finding). IsFoundOn name text f) c.in-Done.is (c.in_ok-finder.ensures.found name finding) in
    found ∙ ap (sought_in name) (c.deref.ensures.value ∙ sym c.from_vec-bytes.ensures)
