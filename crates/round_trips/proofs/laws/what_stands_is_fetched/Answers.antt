use Rattle.std.proofs.Common.{[]}
use Rattle.std.proofs.lemmas.Result.{MatchResult-weaker}
use Rattle.client_core.specs.declared.ask.Ask.TheVariants.{Read}
use Rattle.round_trips.specs.Trips.{GivesJust}
use Rattle.round_trips.proofs.Got.{gives, just_these, none_refused}
use Rattle.round_trips.proofs.laws.what_stands_is_fetched.Goals as goal

pub returns : goal.returns
returns g c settings world u honest is named stands =
    let f = c.args.asked.now in
    let exact = c.fetch_stored.ensures.exact in
    let written = honest.written c.args.gateway.now (Read f) [] exact.0 c.fetch_stored.new.gateway exact.1 in
    let h : GivesJust f u.bytes exact.0 = gives c.uploads_bind_their_bytes.ensures settings (world c.args.gateway.now) u f named is.some stands exact.0 written in
    MatchResult-weaker c.fetch_stored.result exact.2
    (λ bytes given. just_these f u.bytes exact.0 h bytes.items given)
    (λ fault refused other. (exact.0, exact.1, none_refused f u.bytes exact.0 h (refused other)))
