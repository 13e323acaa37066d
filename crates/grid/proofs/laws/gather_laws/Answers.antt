use Rattle.std.proofs.Common.{◌<◌, ◌≡◌, ◌==◌, arith, subst}
use Rattle.std.proofs.lemmas.Bool.{eqb-true}
use Rattle.grid.proofs.Gather.{all_stand}
use Rattle.share_store.proofs.Missing.{none_missing, all_that_pass}
use Rattle.grid.proofs.laws.gather_laws.Goals as goal

pub returns : goal.returns
returns c = record {
  none_missing = λ before after all given calm. none_missing (λ f. before f.0 < after f.0) all given (λ f rose. omega (arith, rose, calm f.0));
  all_of_server = λ before after s all given calm.
      all_that_pass (λ f. before f.0 < after f.0) (λ f. f.0 == s) all given
      (λ f here rose.
      let at : f.0 ≡ s = eqb-true f.0 s here in
      let there : before s < after s = subst (λ k. before k < after k) at rose in
      omega (arith, there, calm));
  stands = all_stand;
}
