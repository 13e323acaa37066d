use Rattle.std.proofs.Common.{[], refl, sym, subst}
use Rattle.chk_file.specs.Look.{by_held}
use Rattle.round_trips.specs.Honest.{IsWrittenAnswer}
use Rattle.round_trips.proofs.Got.{first_trip}
use Rattle.round_trips.proofs.laws.some_are_honest.Goals as goal

pub returns : goal.returns
returns c = record {
  honest = λ settings. record {
    written = λ w ask body r after told. subst (IsWrittenAnswer settings (by_held w) ask body) (sym told.0) refl;
    stored = λ w ask body answer after told. ([], told.1);
    kept = λ w ask body fault after told. absurd (let e = told.0 in cc);
  };
  answered = λ settings ask body w. (refl, refl);
  trip = first_trip;
}
