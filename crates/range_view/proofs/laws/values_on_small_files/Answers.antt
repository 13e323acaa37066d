use Rattle.std.proofs.Common.{refl}
use Rattle.httparse.specs.Grammar.{trim_ows}
use Rattle.range_view.specs.Asked.{asked}
use Rattle.range_view.proofs.laws.values_on_small_files.Goals as goal

pub returns-clause-middle : goal.returns-clause-middle
unfolding asked trim_ows
returns-clause-middle c = refl

pub returns-clause-cut : goal.returns-clause-cut
unfolding asked trim_ows
returns-clause-cut c = refl

pub returns-clause-open : goal.returns-clause-open
unfolding asked trim_ows
returns-clause-open c = refl

pub returns-clause-suffix : goal.returns-clause-suffix
unfolding asked trim_ows
returns-clause-suffix c = refl

pub returns-clause-long_suffix : goal.returns-clause-long_suffix
unfolding asked trim_ows
returns-clause-long_suffix c = refl

pub returns-clause-no_suffix : goal.returns-clause-no_suffix
unfolding asked trim_ows
returns-clause-no_suffix c = refl

pub returns-clause-past : goal.returns-clause-past
unfolding asked trim_ows
returns-clause-past c = refl

pub returns-clause-backwards : goal.returns-clause-backwards
unfolding asked trim_ows
returns-clause-backwards c = refl

pub returns-clause-several : goal.returns-clause-several
unfolding asked trim_ows
returns-clause-several c = refl

pub returns-clause-empty : goal.returns-clause-empty
unfolding asked trim_ows
returns-clause-empty c = refl
