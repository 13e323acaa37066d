-- What is told by what was seen.
use Rattle.std.proofs.Common.{◌≡◌, ℕ, Bool, List, [], ◌∷◌, ◌++◌, true, refl, sym, ap, subst, ◌∙◌, append-nil, eq-eqb}
use Rattle.std.specs.List.{AllByRecursion}
use Rattle.grid.specs.Standing.{Standing}
use Rattle.chk_file.specs.Marks.{shown}
use Rattle.chk_file.specs.World.{World}
use Rattle.chk_file.specs.Look.{look_in, by_fit, by_held}
use Rattle.gate_core.specs.Settings.{GatewaySettings}
use Rattle.gate_core.specs.Items.{Entry}
use Rattle.gate_core.specs.Runs.{world_after, told, said_by, said}
use Rattle.gate_core.specs.Reach.{only_caller}
use Rattle.gate_core.specs.Apart.{Apart}
use Rattle.gate_core.specs.Uploaded.{IsProper, IsLeftBy}
use Rattle.restarts.specs.Mended.{AreCutOff}
use Rattle.restarts.proofs.Runs.{left-append}
use Rattle.restarts.proofs.Mends.{Resumes, Ended, ended, proper_ends}
use Rattle.many_gates.specs.Changes.{Change, item_of_change, items_of_changes}
use Rattle.many_gates.specs.Seen.{IsSeen, SeenOf}

all_proper : (settings : GatewaySettings) (changes : List Change) → AllByRecursion (λ x. IsProper settings (item_of_change x ∷ [])) changes → AllByRecursion (λ x. IsProper settings (x ∷ [])) (items_of_changes changes)
all_proper settings [] proper = tt
all_proper settings (x ∷ changes) proper = (proper.0, all_proper settings changes proper.1)

pub seen_of : ((settings : GatewaySettings) (changes : List Change) (before seen : Standing) → IsSeen settings changes before seen → AreCutOff settings before (items_of_changes changes) seen) → Resumes
    → (settings : GatewaySettings) (past : List Entry) (w : World) (changes : List Change) (seen : Standing) → IsLeftBy settings past w → AllByRecursion (λ x. IsProper settings (item_of_change x ∷ [])) changes
    → IsSeen settings changes (shown w.marks) seen → SeenOf settings past w changes seen
seen_of cut resumes settings past w changes seen left proper is =
    let all : Ended settings w (items_of_changes changes) seen = ended resumes settings w (items_of_changes changes) (shown w.marks) seen refl (cut settings changes (shown w.marks) seen is) in
    record {
      ends = all.ends;
      are = all.are;
      left = left-append settings past all.ends w left (proper_ends settings w (items_of_changes changes) all.ends left.proper.sharing all.are (all_proper settings changes proper));
      stands = all.stands;
    }

abbrev pub WrittenLaw : Type 0
WrittenLaw = (settings : GatewaySettings) (callers : ℕ → Bool) (caller : ℕ) (past : List Entry) (w : World) (entries : List Entry) → callers caller ≡ true → IsProper settings entries → IsLeftBy settings past w
    → Apart settings callers past w entries → said settings caller w entries ≡ said_by by_fit settings caller w entries

pub written : WrittenLaw → (settings : GatewaySettings) (past : List Entry) (w : World) (changes : List Change) (seen : Standing) (run : SeenOf settings past w changes seen) (caller : ℕ) (x : Entry)
    → IsProper settings (x ∷ []) → Apart settings (only_caller caller) (past ++ run.ends) (world_after settings w run.ends) (x ∷ [])
    → told settings (look_in seen) caller x ≡ told settings (by_held (world_after settings w run.ends)) caller x
written law settings past w changes seen run caller x proper apart =
    let v : World = world_after settings w run.ends in
    let same : said settings caller v (x ∷ []) ≡ said_by by_fit settings caller v (x ∷ []) =
    law settings (only_caller caller) caller (past ++ run.ends) v (x ∷ []) (eq-eqb caller caller refl) proper run.left apart in
    ap (λ (c : Standing). told settings (look_in c) caller x) run.stands
    ∙ sym (append-nil (told settings (by_fit v) caller x)) ∙ sym same ∙ append-nil (told settings (by_held v) caller x)
