-- Runs one after the other.
use Rattle.std.proofs.Common.{◌≡◌, ℕ, zero, suc, ◌+◌, List, [], ◌∷◌, ◌++◌, map, Bool, true, refl, sym, ap, subst, ◌∙◌, eq-eqb, add-zero, zero-add, append-nil, arith}
use Rattle.std.specs.Prelude.{All}
use Rattle.std.proofs.lemmas.List.{append_assoc}
use Rattle.octets.specs.Sharing.{IsSharing}
use Rattle.erasure.specs.Code.{AreBytes}
use Rattle.chk_file.specs.Upload.{Upload}
use Rattle.chk_file.specs.World.{World}
use Rattle.chk_file.specs.Look.{Look, by_fit}
use Rattle.gate_core.specs.Settings.{GatewaySettings, under}
use Rattle.gate_core.specs.Events.{Event, handed}
use Rattle.gate_core.specs.Items.{Entry, Asked, Lost, Spoiled, items}
use Rattle.gate_core.specs.Runs.{after_entry, world_after, told, said_by, said}
use Rattle.gate_core.specs.Reach.{only_caller, kept_by, kept}
use Rattle.gate_core.specs.Apart.{Apart}
use Rattle.gate_core.specs.Uploaded.{IsProper, IsLeftBy, uploads_by, uploads_of}
use Rattle.gate_core.specs.Rooms.{Rooms}
use Rattle.gate_core.specs.ConnectionState.{State, waiting}
use Rattle.gate_core.specs.Came.{Opening, Came}
use Rattle.restarts.specs.CrashedRuns.{CrashedRun, IsCrashedRun, AreLived, IsHistory, items_in, items_of, unheard}
use Rattle.restarts.specs.Callers.{caller_number, in_run, items_from, all_items, told_over}
use Rattle.restarts.proofs.Mends.{proper_none, proper_ends}
use Rattle.restarts.proofs.Runs.{world-append, said-append, proper-append, left-append}
use Rattle.restarts.proofs.Tagged.{same_world, same_said as same_said_in, none_said, none_later, proper_in_run}

-- ---- a gateway's own secret has no part in runs

pub same_after : (s : GatewaySettings) (own : List ℕ) (x : Entry) (w : World) → after_entry (under s own) x w ≡ after_entry s x w
same_after s own (Asked id secret item) w = refl
same_after s own (Lost server key) w = refl
same_after s own (Spoiled server key place) w = refl

same_told : (s : GatewaySettings) (own : List ℕ) (look : Look) (caller : ℕ) (x : Entry) → told (under s own) look caller x ≡ told s look caller x
same_told s own look caller (Asked id secret item) = refl
same_told s own look caller (Lost server key) = refl
same_told s own look caller (Spoiled server key place) = refl

same_said : (look : World → Look) (s : GatewaySettings) (own : List ℕ) (caller : ℕ) (w : World) (xs : List Entry) → said_by look (under s own) caller w xs ≡ said_by look s caller w xs
same_said look s own caller w [] = refl
same_said look s own caller w (x ∷ more) =
    ap (λ v. told (under s own) (look w) caller x ++ said_by look (under s own) caller v more) (same_after s own x w)
    ∙ ap (λ t. t ++ said_by look (under s own) caller (after_entry s x w) more) (same_told s own (look w) caller x)
    ∙ ap (λ r. told s (look w) caller x ++ r) (same_said look s own caller (after_entry s x w) more)

same_by : (s : GatewaySettings) (own : List ℕ) (x : Entry) → uploads_by (under s own) x ≡ uploads_by s x
same_by s own (Asked id secret item) = refl
same_by s own (Lost server key) = refl
same_by s own (Spoiled server key place) = refl

same_uploads : (s : GatewaySettings) (own : List ℕ) (xs : List Entry) → uploads_of (under s own) xs ≡ uploads_of s xs
same_uploads s own [] = refl
same_uploads s own (x ∷ more) = ap (λ a. a ++ uploads_of (under s own) more) (same_by s own x) ∙ ap (λ r. uploads_by s x ++ r) (same_uploads s own more)

-- ---- what is uploaded are bytes

-- of what calls uploaded
proper_calls : (settings : GatewaySettings) (w : World) (rooms : Rooms) (g : State) (events : List Event) → IsSharing settings.k settings.n → g.settings ≡ under settings g.settings.secret
    → Came (record { world = w; rooms = rooms }) g events → IsProper settings (items events)
proper_calls settings w rooms g events sharing same came = record {
  sharing = sharing;
  bytes = subst (All (λ (u : Upload). AreBytes u.bytes)) (ap (λ (s : GatewaySettings). uploads_of s (items events)) same ∙ same_uploads settings g.settings.secret (items events)) came.bytes;
}

proper_life : (settings : GatewaySettings) (w : World) (life : CrashedRun) → IsSharing settings.k settings.n → IsCrashedRun settings w life → IsProper settings (items_in life)
proper_life settings w life sharing lived =
    proper-append settings (items life.events) life.ends (proper_calls settings w lived.rooms life.gateway life.events sharing lived.same lived.came)
    (proper_ends settings (world_after settings w (items life.events)) life.asked life.ends sharing lived.end lived.proper)

proper_lives : (settings : GatewaySettings) (w : World) (lives : List CrashedRun) → IsSharing settings.k settings.n → AreLived settings w lives → IsProper settings (items_of lives)
proper_lives settings w [] sharing lived = proper_none settings sharing
proper_lives settings w (life ∷ lives) sharing lived =
    proper-append settings (items_in life) (items_of lives) (proper_life settings w life sharing lived.0) (proper_lives settings (world_after settings w (items_in life)) lives sharing lived.1)

pub left_by_all : (settings : GatewaySettings) (past : List Entry) (w : World) (lives : List CrashedRun) → IsLeftBy settings past w → AreLived settings w lives
    → IsLeftBy settings (past ++ items_of lives) (world_after settings w (items_of lives))
left_by_all settings past w lives left lived = left-append settings past (items_of lives) w left (proper_lives settings w lives left.proper.sharing lived)

proper_from : (settings : GatewaySettings) → IsSharing settings.k settings.n → (run : ℕ) (w : World) (lives : List CrashedRun) (events : List Event) → AreLived settings w lives → IsProper settings (items events)
    → IsProper settings (items_from run lives events)
proper_from settings sharing run w [] events lived calls = proper_in_run settings run (items events) calls
proper_from settings sharing run w (life ∷ lives) events lived calls =
    proper-append settings (map (in_run run) (items_in life)) (items_from (suc run) lives events)
    (proper_in_run settings run (items_in life) (proper_life settings w life sharing lived.0))
    (proper_from settings sharing (suc run) (world_after settings w (items_in life)) lives events lived.1 calls)

-- ---- what callers are told

abbrev Whole : Type 0
Whole = (opening : Opening) (g : State) (events : List Event) (caller : ℕ) → Came opening g events → handed caller events ++ waiting g caller ≡ said_by by_fit g.settings caller opening.world (items events)

abbrev KeptAnswers : Type 0
KeptAnswers = (settings : GatewaySettings) (callers : ℕ → Bool) (caller : ℕ) (past : List Entry) (w : World) (entries : List Entry) → callers caller ≡ true → IsProper settings entries → IsLeftBy settings past w
    → Apart settings callers past w entries → said settings caller w (kept settings callers w entries) ≡ said_by by_fit settings caller w entries

abbrev LocalAnswers : Type 0
LocalAnswers = (settings : GatewaySettings) (callers : ℕ → Bool) (caller : ℕ) (w : World) (entries : List Entry) → callers caller ≡ true
    → said_by by_fit settings caller w (kept_by by_fit settings callers w entries) ≡ said_by by_fit settings caller w entries

module _ (whole : Whole) (settings : GatewaySettings) (caller : ℕ) where
  told_calls : (w : World) (rooms : Rooms) (g : State) (events : List Event) → g.settings ≡ under settings g.settings.secret → Came (record { world = w; rooms = rooms }) g events
      → handed caller events ++ waiting g caller ≡ said_by by_fit settings caller w (items events)
  told_calls w rooms g events same came =
      whole (record { world = w; rooms = rooms }) g events caller came
      ∙ ap (λ (s : GatewaySettings). said_by by_fit s caller w (items events)) same
      ∙ same_said by_fit settings g.settings.secret caller w (items events)

  told_life : (w : World) (life : CrashedRun) → IsCrashedRun settings w life → handed caller life.events ++ unheard settings caller w life ≡ said_by by_fit settings caller w (items_in life)
  told_life w life lived =
      let rest : List ℕ = said_by by_fit settings caller (world_after settings w (items life.events)) life.ends in
      sym (append_assoc (handed caller life.events) (waiting life.gateway caller) rest)
      ∙ ap (λ (l : List ℕ). l ++ rest) (told_calls w lived.rooms life.gateway life.events lived.same lived.came)
      ∙ sym (said-append by_fit settings caller w (items life.events) life.ends)

  -- those of a run that others came before, over the runs from there on
  pub told_from : (run base : ℕ) (w : World) (lives : List CrashedRun) (g : State) (events : List Event) (rooms : Rooms) → AreLived settings w lives → g.settings ≡ under settings g.settings.secret
      → Came (record { world = world_after settings w (items_of lives); rooms = rooms }) g events
      → told_over settings run caller w lives g events ≡ said_by by_fit settings (caller_number (base + run) caller) w (items_from base lives events)
  told_from zero base w [] g events rooms lived same came =
      told_calls w rooms g events same came ∙ sym (same_said_in by_fit settings base caller w (items events))
      ∙ ap (λ (r : ℕ). said_by by_fit settings (caller_number r caller) w (map (in_run base) (items events))) (sym (add-zero base))
  told_from (suc run) base w [] g events rooms lived same came =
      sym (none_said by_fit settings base (base + suc run) caller w (items events) (λ e. absurd (omega (arith, e))))
  told_from zero base w (life ∷ lives) g events rooms lived same came =
      let mine : List Entry = map (in_run base) (items_in life) in
      let v : World = world_after settings w mine in
      let said_here : List ℕ = said_by by_fit settings (caller_number base caller) w mine in
      told_life w life lived.0
      ∙ sym (same_said_in by_fit settings base caller w (items_in life))
      ∙ sym (append-nil said_here)
      ∙ ap (λ (l : List ℕ). said_here ++ l) (sym (none_later by_fit settings (suc base) base caller v lives events (omega arith)))
      ∙ sym (said-append by_fit settings (caller_number base caller) w mine (items_from (suc base) lives events))
      ∙ ap (λ (r : ℕ). said_by by_fit settings (caller_number r caller) w (items_from base (life ∷ lives) events)) (sym (add-zero base))
  told_from (suc run) base w (life ∷ lives) g events rooms lived same came =
      let mine : List Entry = map (in_run base) (items_in life) in
      let who : ℕ = caller_number (base + suc run) caller in
      let next : World = world_after settings w (items_in life) in
      let v : World = world_after settings w mine in
      told_from run (suc base) next lives g events rooms lived.1 same
      (subst (λ (u : World). Came (record { world = u; rooms = rooms }) g events) (world-append settings w (items_in life) (items_of lives)) came)
      ∙ ap (λ (r : ℕ). said_by by_fit settings (caller_number r caller) next (items_from (suc base) lives events)) (omega arith)
      ∙ ap (λ (u : World). said_by by_fit settings who u (items_from (suc base) lives events)) (sym (same_world settings base w (items_in life)))
      ∙ ap (λ (l : List ℕ). l ++ said_by by_fit settings who v (items_from (suc base) lives events)) (sym (none_said by_fit settings base (base + suc run) caller w (items_in life) (λ e. absurd (omega (arith, e)))))
      ∙ sym (said-append by_fit settings who w mine (items_from (suc base) lives events))

  pub told_all : (run : ℕ) (w : World) (lives : List CrashedRun) (g : State) (events : List Event) → IsHistory settings w lives g events
      → told_over settings run caller w lives g events ≡ said_by by_fit settings (caller_number run caller) w (all_items lives events)
  told_all run w lives g events history =
      told_from run 0 w lives g events history.rooms history.lived history.same history.came
      ∙ ap (λ (r : ℕ). said_by by_fit settings (caller_number r caller) w (all_items lives events)) (zero-add run)

  pub told_verified : LocalAnswers → (run : ℕ) (w : World) (lives : List CrashedRun) (g : State) (events : List Event) → IsHistory settings w lives g events
      → told_over settings run caller w lives g events ≡ said_by by_fit settings (caller_number run caller) w (kept_by by_fit settings (only_caller (caller_number run caller)) w (all_items lives events))
  told_verified local run w lives g events history =
      let who : ℕ = caller_number run caller in
      told_all run w lives g events history ∙ sym (local settings (only_caller who) who w (all_items lives events) (eq-eqb who who refl))

  module _ (answers : KeptAnswers) (past : List Entry) (w : World) (lives : List CrashedRun) (g : State) (events : List Event) (history : IsHistory settings w lives g events) (left : IsLeftBy settings past w) where
    abbrev v : World
    v = world_after settings w (items_of lives)

    calls : IsProper settings (items events)
    calls = proper_calls settings v history.rooms g events left.proper.sharing history.same history.came

    pub told_apart : (run : ℕ) → Apart settings (only_caller (caller_number run caller)) past w (all_items lives events)
        → told_over settings run caller w lives g events ≡ said settings (caller_number run caller) w (kept settings (only_caller (caller_number run caller)) w (all_items lives events))
    told_apart run apart =
        let who : ℕ = caller_number run caller in
        told_all run w lives g events history
        ∙ sym (answers settings (only_caller who) who past w (all_items lives events) (eq-eqb who who refl) (proper_from settings left.proper.sharing 0 w lives events history.lived calls) left apart)

    pub told_last : Apart settings (only_caller caller) (past ++ items_of lives) v (items events) → handed caller events ++ waiting g caller ≡ said settings caller v (kept settings (only_caller caller) v (items events))
    told_last apart =
        told_calls v history.rooms g events history.same history.came
        ∙ sym (answers settings (only_caller caller) caller (past ++ items_of lives) v (items events) (eq-eqb caller caller refl) calls (left_by_all settings past w lives left history.lived) apart)
