use Rattle.std.proofs.Common.{refl}
use Rattle.std.specs.Fmt.{digits}
use Rattle.serde_json.proofs.OnLiterals.{serde_json_on_literals}
use Rattle.json_view.specs.Strings.{quoted}
use Rattle.health_json.specs.Checks.{servers_text, sharemap_text}
use Rattle.health_json.proofs.Sharemap.{places_back}
use Rattle.health_json.proofs.laws.sharemaps_have_their_places.Goals as goal

pub returns-clause-places : goal.returns-clause-places
returns-clause-places c = places_back

pub returns-clause-some : goal.returns-clause-some
unfolding digits serde_json_on_literals quoted servers_text sharemap_text
returns-clause-some c = refl

pub returns-clause-none : goal.returns-clause-none
unfolding sharemap_text
returns-clause-none c = refl
