-- Words of which one is wrong.
use Rattle.std.proofs.Common.{◌≡◌, ◌≢◌, ◌∙◌, ℕ, List, [], ◌∷◌, length, refl, sym, ap, arith}
use Rattle.std.specs.Prelude.{codes}
use Rattle.gate_tasks.specs.Arguments.{Asks, AsksToServe, AsksService, IsAddress, IsCount, IsWrong, IsWrongToServe, IsWrongService}
use Rattle.gate_tasks.specs.declared.arguments.Service.{Service}
use Rattle.gate_tasks.specs.declared.arguments.Task.{Task}
use Rattle.gate_tasks.specs.declared.arguments.Task.TheVariants.{Replay, Serve}
use Rattle.gate_tasks.specs.declared.fault.UsageFault.{UsageFault}
use Rattle.gate_tasks.specs.declared.fault.UsageFault.TheVariants.{NoText, NoCommand, OtherCommand, ReplayCount, ServeCount, Address, Connections, Secret}

verbs_differ : codes "replay" ≡ codes "serve" → ⊥
verbs_differ is = let lengths : ◌≡◌ {A = ℕ} 6 5 = ap (λ (l : List ℕ). length l) is in absurd (omega (arith, lengths))

-- what is asked for is not wrong
service_is_right : (address count secret : List ℕ) (fault : UsageFault) (service : Service) → IsWrongService address count secret fault → AsksService address count secret service → ⊥
service_is_right address count secret Address service wrong asks = wrong (service.address, asks.address_text)
service_is_right address count secret Connections service wrong asks = wrong.1 (service.connections, asks.some_connections, asks.connections_text)
service_is_right address count secret Secret service wrong asks = wrong.2 (service.secret, asks.secret_text, asks.secret_fits)
service_is_right address count secret NoText service wrong asks = wrong
service_is_right address count secret NoCommand service wrong asks = wrong
service_is_right address count secret OtherCommand service wrong asks = wrong
service_is_right address count secret ReplayCount service wrong asks = wrong
service_is_right address count secret ServeCount service wrong asks = wrong

arguments_are_right : (arguments : List (List ℕ)) (fault : UsageFault) (service : Service) → IsWrongToServe arguments fault → AsksToServe arguments service → ⊥
arguments_are_right [] fault service wrong asks = asks
arguments_are_right (address ∷ []) fault service wrong asks = asks
arguments_are_right (address ∷ count ∷ []) fault service wrong asks = service_is_right address count [] fault service wrong asks
arguments_are_right (address ∷ count ∷ secret ∷ []) fault service wrong asks = service_is_right address count secret fault service wrong asks
arguments_are_right (address ∷ count ∷ secret ∷ word ∷ more) fault service wrong asks = asks

-- what is wrong of words that begin with serve
behind_serve : (verb : List ℕ) (arguments : List (List ℕ)) (fault : UsageFault) → verb ≡ codes "serve" → IsWrong (verb ∷ arguments) fault → IsWrongToServe arguments fault
behind_serve verb arguments NoCommand is wrong = absurd wrong
behind_serve verb arguments OtherCommand is wrong = absurd (wrong.1 is)
behind_serve verb arguments ReplayCount is wrong = absurd (verbs_differ (sym wrong.0 ∙ is))
behind_serve verb arguments NoText is wrong = wrong.1
behind_serve verb arguments ServeCount is wrong = wrong.1
behind_serve verb arguments Address is wrong = wrong.1
behind_serve verb arguments Connections is wrong = wrong.1
behind_serve verb arguments Secret is wrong = wrong.1

-- what is wrong of words that begin with replay
behind_replay : (verb : List ℕ) (arguments : List (List ℕ)) (fault : UsageFault) → verb ≡ codes "replay" → IsWrong (verb ∷ arguments) fault → (fault ≡ ReplayCount) × (arguments ≢ [])
behind_replay verb arguments NoCommand is wrong = absurd wrong
behind_replay verb arguments OtherCommand is wrong = absurd (wrong.0 is)
behind_replay verb arguments ReplayCount is wrong = (refl, wrong.1)
behind_replay verb arguments NoText is wrong = absurd (verbs_differ (sym is ∙ wrong.0))
behind_replay verb arguments ServeCount is wrong = absurd (verbs_differ (sym is ∙ wrong.0))
behind_replay verb arguments Address is wrong = absurd (verbs_differ (sym is ∙ wrong.0))
behind_replay verb arguments Connections is wrong = absurd (verbs_differ (sym is ∙ wrong.0))
behind_replay verb arguments Secret is wrong = absurd (verbs_differ (sym is ∙ wrong.0))

pub wrong_asks_nothing : (words : List (List ℕ)) (fault : UsageFault) (task : Task) → IsWrong words fault → Asks words task → ⊥
wrong_asks_nothing [] fault task wrong asks = asks
wrong_asks_nothing (verb ∷ arguments) fault Replay wrong asks = (behind_replay verb arguments fault asks.0 wrong).1 asks.1
wrong_asks_nothing (verb ∷ arguments) fault (Serve service) wrong asks = arguments_are_right arguments fault service (behind_serve verb arguments fault asks.0 wrong) asks.1

-- the first of ADDR, CONNS and SECRET that is wrong is one
address_first : (address count secret : List ℕ) (fault : UsageFault) → ¬ (IsAddress address) → IsWrongService address count secret fault → Address ≡ fault
address_first address count secret Address none wrong = refl
address_first address count secret Connections none wrong = absurd (none wrong.0)
address_first address count secret Secret none wrong = absurd (none wrong.0)
address_first address count secret NoText none wrong = absurd wrong
address_first address count secret NoCommand none wrong = absurd wrong
address_first address count secret OtherCommand none wrong = absurd wrong
address_first address count secret ReplayCount none wrong = absurd wrong
address_first address count secret ServeCount none wrong = absurd wrong

connections_first : (address count secret : List ℕ) (fault : UsageFault) → IsAddress address → ¬ (IsCount count) → IsWrongService address count secret fault → Connections ≡ fault
connections_first address count secret Address is none wrong = absurd (wrong is)
connections_first address count secret Connections is none wrong = refl
connections_first address count secret Secret is none wrong = absurd (none wrong.1)
connections_first address count secret NoText is none wrong = absurd wrong
connections_first address count secret NoCommand is none wrong = absurd wrong
connections_first address count secret OtherCommand is none wrong = absurd wrong
connections_first address count secret ReplayCount is none wrong = absurd wrong
connections_first address count secret ServeCount is none wrong = absurd wrong

secret_first : (address count secret : List ℕ) (fault : UsageFault) → IsAddress address → IsCount count → IsWrongService address count secret fault → Secret ≡ fault
secret_first address count secret Address is counts wrong = absurd (wrong is)
secret_first address count secret Connections is counts wrong = absurd (wrong.1 counts)
secret_first address count secret Secret is counts wrong = refl
secret_first address count secret NoText is counts wrong = absurd wrong
secret_first address count secret NoCommand is counts wrong = absurd wrong
secret_first address count secret OtherCommand is counts wrong = absurd wrong
secret_first address count secret ReplayCount is counts wrong = absurd wrong
secret_first address count secret ServeCount is counts wrong = absurd wrong

service_is_decided : (address count secret : List ℕ) (fault other : UsageFault) → IsWrongService address count secret fault → IsWrongService address count secret other → fault ≡ other
service_is_decided address count secret Address other wrong also = address_first address count secret other wrong also
service_is_decided address count secret Connections other wrong also = connections_first address count secret other wrong.0 wrong.1 also
service_is_decided address count secret Secret other wrong also = secret_first address count secret other wrong.0 wrong.1 also
service_is_decided address count secret NoText other wrong also = absurd wrong
service_is_decided address count secret NoCommand other wrong also = absurd wrong
service_is_decided address count secret OtherCommand other wrong also = absurd wrong
service_is_decided address count secret ReplayCount other wrong also = absurd wrong
service_is_decided address count secret ServeCount other wrong also = absurd wrong

arguments_are_decided : (arguments : List (List ℕ)) (fault other : UsageFault) → IsWrongToServe arguments fault → IsWrongToServe arguments other → fault ≡ other
arguments_are_decided [] fault other wrong also = wrong ∙ sym also
arguments_are_decided (address ∷ []) fault other wrong also = wrong ∙ sym also
arguments_are_decided (address ∷ count ∷ []) fault other wrong also = service_is_decided address count [] fault other wrong also
arguments_are_decided (address ∷ count ∷ secret ∷ []) fault other wrong also = service_is_decided address count secret fault other wrong also
arguments_are_decided (address ∷ count ∷ secret ∷ word ∷ more) fault other wrong also = wrong ∙ sym also

-- what is wrong of words that begin with neither
behind_other : (verb : List ℕ) (arguments : List (List ℕ)) (fault : UsageFault) → (verb ≢ codes "replay") × (verb ≢ codes "serve") → IsWrong (verb ∷ arguments) fault → OtherCommand ≡ fault
behind_other verb arguments NoCommand neither wrong = absurd wrong
behind_other verb arguments OtherCommand neither wrong = refl
behind_other verb arguments ReplayCount neither wrong = absurd (neither.0 wrong.0)
behind_other verb arguments NoText neither wrong = absurd (neither.1 wrong.0)
behind_other verb arguments ServeCount neither wrong = absurd (neither.1 wrong.0)
behind_other verb arguments Address neither wrong = absurd (neither.1 wrong.0)
behind_other verb arguments Connections neither wrong = absurd (neither.1 wrong.0)
behind_other verb arguments Secret neither wrong = absurd (neither.1 wrong.0)

pub wrong_is_decided : (words : List (List ℕ)) (fault other : UsageFault) → IsWrong words fault → IsWrong words other → fault ≡ other
wrong_is_decided [] fault other wrong also = wrong ∙ sym also
wrong_is_decided (verb ∷ arguments) NoCommand other wrong also = absurd wrong
wrong_is_decided (verb ∷ arguments) OtherCommand other wrong also = behind_other verb arguments other wrong also
wrong_is_decided (verb ∷ arguments) ReplayCount other wrong also = sym (behind_replay verb arguments other wrong.0 also).0
wrong_is_decided (verb ∷ arguments) NoText other wrong also = arguments_are_decided arguments NoText other wrong.1 (behind_serve verb arguments other wrong.0 also)
wrong_is_decided (verb ∷ arguments) ServeCount other wrong also = arguments_are_decided arguments ServeCount other wrong.1 (behind_serve verb arguments other wrong.0 also)
wrong_is_decided (verb ∷ arguments) Address other wrong also = arguments_are_decided arguments Address other wrong.1 (behind_serve verb arguments other wrong.0 also)
wrong_is_decided (verb ∷ arguments) Connections other wrong also = arguments_are_decided arguments Connections other wrong.1 (behind_serve verb arguments other wrong.0 also)
wrong_is_decided (verb ∷ arguments) Secret other wrong also = arguments_are_decided arguments Secret other wrong.1 (behind_serve verb arguments other wrong.0 also)
