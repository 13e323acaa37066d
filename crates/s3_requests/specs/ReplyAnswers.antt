-- What a reply answers.
use Rattle.std.specs.Prelude.{◌≡◌, ℕ, Bool, true, false, List, [], ◌∷◌, Contains}
use Rattle.s3_requests.specs.declared.asks.ObjectAsk.{ObjectAsk}
use Rattle.s3_requests.specs.declared.asks.ObjectAsk.TheVariants as asks
use Rattle.s3_requests.specs.declared.answers.ObjectAnswer.{ObjectAnswer}
use Rattle.s3_requests.specs.declared.answers.ObjectAnswer.TheVariants.{Done, Stands, Nothing}
use Rattle.s3_requests.specs.declared.answers.SettingsStep.{SettingsStep}
use Rattle.s3_requests.specs.declared.answers.SettingsStep.TheVariants as steps

-- the statuses that say that what came was put
abbrev pub put_statuses : List ℕ
put_statuses = 200 ∷ 201 ∷ 204 ∷ []

-- the statuses that say so of the object that was asked for; no other status does
abbrev pub answer_statuses : ObjectAnswer → ObjectAsk → List ℕ
answer_statuses Done (asks.PutOnce bytes) = put_statuses
answer_statuses Done (asks.PutOver bytes) = put_statuses
answer_statuses Done asks.Delete = 200 ∷ 204 ∷ []
answer_statuses Stands asks.Get = 200 ∷ []
answer_statuses Stands asks.Head = 200 ∷ []
answer_statuses Stands (asks.PutOnce bytes) = 412 ∷ []
answer_statuses Nothing asks.Get = 404 ∷ []
answer_statuses Nothing asks.Head = 404 ∷ []
answer_statuses Nothing asks.Delete = 404 ∷ []
answer_statuses _ _ = []

-- a status that says so
abbrev pub IsAnswerStatus : ObjectAnswer → ObjectAsk → ℕ → Type 0
IsAnswerStatus answer asked status = Contains (answer_statuses answer asked) status

-- it says nothing of the object
abbrev pub IsNoAnswer : ObjectAsk → ℕ → Type 0
IsNoAnswer asked status = (answer : ObjectAnswer) → IsAnswerStatus answer asked status → ⊥

-- what comes next where the settings were asked for, of a grid that is new or isn't
abbrev pub IsSettingsStep : SettingsStep → ℕ → Bool → Type 0
IsSettingsStep steps.Compare status is_new = status ≡ 200
IsSettingsStep steps.Write status is_new = (status ≡ 404) × (is_new ≡ true)
IsSettingsStep steps.Missing status is_new = (status ≡ 404) × (is_new ≡ false)
