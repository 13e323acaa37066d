-- Callers of different runs are different callers, and their items are told apart by them alone.
use Rattle.std.proofs.Common.{◌≡◌, ◌<◌, ℕ, zero, suc, List, [], ◌∷◌, ◌++◌, map, Bool, false, refl, sym, ap, subst, ◌∙◌, arith, if◌then◌else◌}
use Rattle.std.specs.Prelude.{All, nat_eq}
use Rattle.erasure.specs.Code.{AreBytes}
use Rattle.chk_file.specs.Upload.{Upload}
use Rattle.chk_file.specs.World.{World}
use Rattle.chk_file.specs.Look.{Look}
use Rattle.gate_core.specs.Settings.{GatewaySettings}
use Rattle.gate_core.specs.Events.{Event}
use Rattle.gate_core.specs.Items.{Entry, Asked, Lost, Spoiled, items}
use Rattle.gate_core.specs.Answers.{answer}
use Rattle.gate_core.specs.Settings.{under}
use Rattle.gate_core.specs.Runs.{after_entry, world_after, told, said_by}
use Rattle.gate_core.specs.Uploaded.{IsProper, uploads_by, uploads_of}
use Rattle.restarts.specs.CrashedRuns.{CrashedRun, items_in}
use Rattle.restarts.specs.Callers.{caller_number, in_run, items_from}
use Rattle.restarts.proofs.Runs.{said-append}

-- ---- each connection of each run has a number of its own

pub caller_number_one : (r s a b : ℕ) → caller_number r a ≡ caller_number s b → (r ≡ s) × (a ≡ b)
caller_number_one zero zero a b e = (refl, omega (arith, e))
caller_number_one zero (suc s) a b e = absurd (omega (arith, e))
caller_number_one (suc r) zero a b e = absurd (omega (arith, e))
caller_number_one (suc r) (suc s) a b e =
    let half : caller_number r a ≡ caller_number s b = omega (arith, e) in
    let one = caller_number_one r s a b half in
    (ap suc one.0, one.1)

same_test : (r a b : ℕ) → nat_eq (caller_number r a) (caller_number r b) ≡ nat_eq a b
same_test r a b = grind (arith, caller_number_one r r a b)

other_test : (r s a b : ℕ) → (r ≡ s → ⊥) → nat_eq (caller_number r a) (caller_number s b) ≡ false
other_test r s a b other = grind (arith, λ (e : caller_number r a ≡ caller_number s b). other (caller_number_one r s a b e).0)

-- ---- what stands and what is uploaded don't look at callers

same_entry : (settings : GatewaySettings) (r : ℕ) (x : Entry) (w : World) → after_entry settings (in_run r x) w ≡ after_entry settings x w
same_entry settings r (Asked id secret item) w = refl
same_entry settings r (Lost server key) w = refl
same_entry settings r (Spoiled server key place) w = refl

pub same_world : (settings : GatewaySettings) (r : ℕ) (w : World) (xs : List Entry) → world_after settings w (map (in_run r) xs) ≡ world_after settings w xs
same_world settings r w [] = refl
same_world settings r w (x ∷ xs) =
    ap (λ (v : World). world_after settings v (map (in_run r) xs)) (same_entry settings r x w) ∙ same_world settings r (after_entry settings x w) xs

same_by : (settings : GatewaySettings) (r : ℕ) (x : Entry) → uploads_by settings (in_run r x) ≡ uploads_by settings x
same_by settings r (Asked id secret item) = refl
same_by settings r (Lost server key) = refl
same_by settings r (Spoiled server key place) = refl

same_uploads : (settings : GatewaySettings) (r : ℕ) (xs : List Entry) → uploads_of settings (map (in_run r) xs) ≡ uploads_of settings xs
same_uploads settings r [] = refl
same_uploads settings r (x ∷ xs) =
    ap (λ (a : List Upload). a ++ uploads_of settings (map (in_run r) xs)) (same_by settings r x)
    ∙ ap (λ (a : List Upload). uploads_by settings x ++ a) (same_uploads settings r xs)

pub proper_in_run : (settings : GatewaySettings) (r : ℕ) (xs : List Entry) → IsProper settings xs → IsProper settings (map (in_run r) xs)
proper_in_run settings r xs proper = record {
  sharing = proper.sharing;
  bytes = subst (All (λ (u : Upload). AreBytes u.bytes)) (sym (same_uploads settings r xs)) proper.bytes;
}

-- ---- what is told of them

same_told : (settings : GatewaySettings) (look : Look) (r id : ℕ) (x : Entry) → told settings look (caller_number r id) (in_run r x) ≡ told settings look id x
same_told settings look r id (Asked other secret item) =
    ap (λ (b : Bool). if b then answer (under settings secret) look item else []) (same_test r other id)
same_told settings look r id (Lost server key) = refl
same_told settings look r id (Spoiled server key place) = refl

not_told : (settings : GatewaySettings) (look : Look) (r s id : ℕ) (x : Entry) → (r ≡ s → ⊥) → told settings look (caller_number s id) (in_run r x) ≡ []
not_told settings look r s id (Asked other secret item) apart =
    ap (λ (b : Bool). if b then answer (under settings secret) look item else []) (other_test r s other id apart)
not_told settings look r s id (Lost server key) apart = refl
not_told settings look r s id (Spoiled server key place) apart = refl

pub same_said : (look : World → Look) (settings : GatewaySettings) (r id : ℕ) (w : World) (xs : List Entry) → said_by look settings (caller_number r id) w (map (in_run r) xs) ≡ said_by look settings id w xs
same_said look settings r id w [] = refl
same_said look settings r id w (x ∷ xs) =
    ap (λ (t : List ℕ). t ++ said_by look settings (caller_number r id) (after_entry settings (in_run r x) w) (map (in_run r) xs)) (same_told settings (look w) r id x)
    ∙ ap (λ (v : World). told settings (look w) id x ++ said_by look settings (caller_number r id) v (map (in_run r) xs)) (same_entry settings r x w)
    ∙ ap (λ (t : List ℕ). told settings (look w) id x ++ t) (same_said look settings r id (after_entry settings x w) xs)

pub none_said : (look : World → Look) (settings : GatewaySettings) (r s id : ℕ) (w : World) (xs : List Entry) → (r ≡ s → ⊥) → said_by look settings (caller_number s id) w (map (in_run r) xs) ≡ []
none_said look settings r s id w [] apart = refl
none_said look settings r s id w (x ∷ xs) apart =
    ap (λ (t : List ℕ). t ++ said_by look settings (caller_number s id) (after_entry settings (in_run r x) w) (map (in_run r) xs)) (not_told settings (look w) r s id x apart)
    ∙ none_said look settings r s id (after_entry settings (in_run r x) w) xs apart

-- later runs have no item of an earlier one's caller
pub none_later : (look : World → Look) (settings : GatewaySettings) (r s id : ℕ) (w : World) (lives : List CrashedRun) (events : List Event) → s < r → said_by look settings (caller_number s id) w (items_from r lives events) ≡ []
none_later look settings r s id w [] events later = none_said look settings r s id w (items events) (λ e. absurd (omega (arith, later, e)))
none_later look settings r s id w (life ∷ lives) events later =
    said-append look settings (caller_number s id) w (map (in_run r) (items_in life)) (items_from (suc r) lives events)
    ∙ ap (λ (t : List ℕ). t ++ said_by look settings (caller_number s id) (world_after settings w (map (in_run r) (items_in life))) (items_from (suc r) lives events))
    (none_said look settings r s id w (items_in life) (λ e. absurd (omega (arith, later, e))))
    ∙ none_later look settings (suc r) s id (world_after settings w (map (in_run r) (items_in life))) lives events (omega (arith, later))
