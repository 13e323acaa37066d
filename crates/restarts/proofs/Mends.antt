-- Items that were refused, one after the other.
use Rattle.std.proofs.Common.{◌≡◌, List, [], ◌∷◌, ◌++◌, length, refl, sym, ap, subst, ◌∙◌, arith, inl, inr}
use Rattle.std.specs.List.{AllByRecursion}
use Rattle.std.specs.FinMap as map
use Rattle.octets.specs.Sharing.{IsSharing}
use Rattle.grid.specs.Standing.{Standing}
use Rattle.grid.specs.GridState.{stood}
use Rattle.chk_file.specs.Marks.{shown}
use Rattle.chk_file.specs.World.{World}
use Rattle.gate_core.specs.Settings.{GatewaySettings}
use Rattle.gate_core.specs.Items.{Entry}
use Rattle.gate_core.specs.Runs.{world_after}
use Rattle.gate_core.specs.Uploaded.{IsProper, IsLeftBy}
use Rattle.gate_core.specs.ConnectionState.{State}
use Rattle.gate_core.specs.Came.{Starts}
use Rattle.restarts.specs.CutOff.{IsCutOff}
use Rattle.restarts.specs.Resumed.{IsEnd, Resumed}
use Rattle.restarts.specs.Mended.{AreCutOff, AreEnds, Mended}
use Rattle.restarts.proofs.Ends.{still_proper}
use Rattle.restarts.proofs.Runs.{world-append, proper-append, left-append}

abbrev pub Resumes : Type 0
Resumes = (settings : GatewaySettings) (w : World) (x : Entry) (c : Standing) → IsCutOff settings w x c → Resumed settings w x c

pub record Ended (settings : GatewaySettings) (w : World) (entries : List Entry) (d : Standing) : Type 0 where
  pub ends : List Entry
  pub are : AreEnds settings w entries ends
  pub stands : d ≡ shown (world_after settings w ends).marks

pub ended : Resumes → (settings : GatewaySettings) (w : World) (entries : List Entry) (c d : Standing) → c ≡ shown w.marks → AreCutOff settings c entries d → Ended settings w entries d
ended resumes settings w [] c d here is = record { ends = []; are = refl; stands = is ∙ here }
ended resumes settings w (x ∷ entries) c d here (e, (off, rest)) =
    let r : Resumed settings w x e = resumes settings w x e (off w (sym here)) in
    let more : Ended settings (world_after settings w r.last) entries d = ended resumes settings (world_after settings w r.last) entries e d r.stands rest in
    record {
      ends = r.last ++ more.ends;
      are = (r.last, (more.ends, (refl, (r.end, more.are))));
      stands = more.stands ∙ ap (λ (v : World). shown v.marks) (sym (world-append settings w r.last more.ends));
    }

-- what items brought that ended so are bytes
pub proper_none : (settings : GatewaySettings) → IsSharing settings.k settings.n → IsProper settings []
proper_none settings sharing = record { sharing = sharing; bytes = λ k d lt. absurd (omega arith) }

proper_end : (settings : GatewaySettings) (w : World) (x : Entry) (last : List Entry) → IsSharing settings.k settings.n → IsEnd w x last → IsProper settings (x ∷ []) → IsProper settings last
proper_end settings w x last sharing (inl none) here = subst (IsProper settings) (sym none) (proper_none settings sharing)
proper_end settings w x last sharing (inr (lost, is, new)) here = subst (IsProper settings) (sym is) (still_proper settings x lost here)

pub proper_ends : (settings : GatewaySettings) (w : World) (entries ends : List Entry) → IsSharing settings.k settings.n → AreEnds settings w entries ends → AllByRecursion (λ x. IsProper settings (x ∷ [])) entries
    → IsProper settings ends
proper_ends settings w [] ends sharing none proper = subst (IsProper settings) (sym none) (proper_none settings sharing)
proper_ends settings w (x ∷ entries) ends sharing (last, (more, (is, (end, are)))) proper =
    subst (IsProper settings) (sym is) (proper-append settings last more (proper_end settings w x last sharing end proper.0) (proper_ends settings (world_after settings w last) entries more sharing are proper.1))

pub mended : Resumes → ((w : World) (g : State) → g.connections ≡ map.empty → length g.grid.stores ≡ g.settings.servers → stood g.grid ≡ shown w.marks → Starts w g)
    → (settings : GatewaySettings) (past : List Entry) (opening : World) (entries : List Entry) (d : Standing) → IsLeftBy settings past opening → AllByRecursion (λ x. IsProper settings (x ∷ [])) entries
    → AreCutOff settings (shown opening.marks) entries d → Mended settings past opening entries d
mended resumes begins settings past opening entries d left proper off =
    let all : Ended settings opening entries d = ended resumes settings opening entries (shown opening.marks) d refl off in
    record {
      ends = all.ends;
      are = all.are;
      left = left-append settings past all.ends opening left (proper_ends settings opening entries all.ends left.proper.sharing all.are proper);
      starts = λ g none long stands. begins (world_after settings opening all.ends) g none long (stands ∙ all.stands);
    }
