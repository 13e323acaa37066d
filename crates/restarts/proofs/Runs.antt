-- Runs after runs.
use Rattle.std.proofs.Common.{◌≡◌, ℕ, List, [], ◌∷◌, ◌++◌, length, refl, sym, ap, subst, ◌∙◌}
use Rattle.std.specs.Prelude.{All}
use Rattle.std.specs.FinMap as map
use Rattle.std.proofs.lemmas.List.{append_assoc}
use Rattle.std.proofs.lemmas.List.Concat.{flat_map-append}
use Rattle.std.proofs.lemmas.List.Elements.{All-append}
use Rattle.erasure.specs.Code.{AreBytes}
use Rattle.grid.specs.Standing.{Standing}
use Rattle.grid.specs.GridState.{stood}
use Rattle.chk_file.specs.Upload.{Upload}
use Rattle.chk_file.specs.Marks.{shown}
use Rattle.chk_file.specs.World.{World, empty}
use Rattle.chk_file.specs.Look.{Look}
use Rattle.gate_core.specs.Settings.{GatewaySettings}
use Rattle.gate_core.specs.Items.{Entry}
use Rattle.gate_core.specs.Runs.{after_entry, world_after, told, said_by}
use Rattle.gate_core.specs.Uploaded.{IsProper, IsLeftBy, uploads_by, uploads_of}
use Rattle.gate_core.specs.ConnectionState.{State}
use Rattle.gate_core.specs.Came.{Starts}
use Rattle.restarts.specs.CutOff.{IsCutOff}
use Rattle.restarts.specs.Resumed.{Resumed}
use Rattle.restarts.specs.Reopened.{Reopened}

pub world-append : (settings : GatewaySettings) (w : World) (xs ys : List Entry) → world_after settings w (xs ++ ys) ≡ world_after settings (world_after settings w xs) ys
world-append settings w [] ys = refl
world-append settings w (x ∷ xs) ys = world-append settings (after_entry settings x w) xs ys

pub said-append : (look : World → Look) (settings : GatewaySettings) (caller : ℕ) (w : World) (xs ys : List Entry)
    → said_by look settings caller w (xs ++ ys) ≡ said_by look settings caller w xs ++ said_by look settings caller (world_after settings w xs) ys
said-append look settings caller w [] ys = refl
said-append look settings caller w (x ∷ xs) ys =
    ap (λ r. told settings (look w) caller x ++ r) (said-append look settings caller (after_entry settings x w) xs ys)
    ∙ sym (append_assoc (told settings (look w) caller x) (said_by look settings caller (after_entry settings x w) xs) (said_by look settings caller (world_after settings (after_entry settings x w) xs) ys))

pub proper-append : (settings : GatewaySettings) (xs ys : List Entry) → IsProper settings xs → IsProper settings ys → IsProper settings (xs ++ ys)
proper-append settings xs ys one two = record {
  sharing = one.sharing;
  bytes = subst (All (λ (u : Upload). AreBytes u.bytes)) (sym (flat_map-append (uploads_by settings) xs ys)) (All-append (λ (u : Upload). AreBytes u.bytes) (uploads_of settings xs) (uploads_of settings ys) one.bytes two.bytes);
}

pub left-append : (settings : GatewaySettings) (past more : List Entry) (w : World) → IsLeftBy settings past w → IsProper settings more → IsLeftBy settings (past ++ more) (world_after settings w more)
left-append settings past more w left proper = record {
  world = ap (λ (v : World). world_after settings v more) left.world ∙ sym (world-append settings empty past more);
  proper = proper-append settings past more left.proper proper;
}

pub reopened : ((settings : GatewaySettings) (w : World) (x : Entry) (c : Standing) → IsCutOff settings w x c → Resumed settings w x c)
    → ((w : World) (g : State) → g.connections ≡ map.empty → length g.grid.stores ≡ g.settings.servers → stood g.grid ≡ shown w.marks → Starts w g)
    → (settings : GatewaySettings) (past first : List Entry) (opening : World) (x : Entry) (c : Standing) → IsLeftBy settings past opening → IsProper settings first → IsProper settings (x ∷ [])
    → IsCutOff settings (world_after settings opening first) x c → Reopened settings past first opening x c
reopened resumes begins settings past first opening x c left proper here off =
    let r : Resumed settings (world_after settings opening first) x c = resumes settings (world_after settings opening first) x c off in
    let w : World = world_after settings opening (first ++ r.last) in
    let same : w ≡ world_after settings (world_after settings opening first) r.last = world-append settings opening first r.last in
    record {
      last = r.last;
      end = r.end;
      left = left-append settings past (first ++ r.last) opening left (proper-append settings first r.last proper (r.proper here));
      starts = λ g none long stands. begins w g none long (stands ∙ r.stands ∙ ap (λ (v : World). shown v.marks) (sym same));
    }
