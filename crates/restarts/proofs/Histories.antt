-- Histories, call by call and crash by crash.
use Rattle.std.proofs.Common.{◌≡◌, ℕ, List, [], ◌∷◌, ◌++◌, length, refl, sym, ap, subst, ◌∙◌}
use Rattle.std.specs.List.{AllByRecursion}
use Rattle.std.proofs.lemmas.List.{append_assoc, append-nil}
use Rattle.std.specs.Prelude.{All}
use Rattle.std.specs.FinMap as map
use Rattle.octets.specs.Sharing.{IsSharing}
use Rattle.http_edge.specs.declared.item.Item.{Item}
use Rattle.http_edge.specs.FramingState.{frame_from}
use Rattle.grid.specs.Standing.{Standing}
use Rattle.grid.specs.GridState.{stood, room_at, IsHonest}
use Rattle.chk_file.specs.Marks.{shown}
use Rattle.chk_file.specs.World.{World}
use Rattle.gate_core.specs.Settings.{GatewaySettings, under}
use Rattle.gate_core.specs.Events.{Event}
use Rattle.gate_core.specs.Items.{Entry, items, entries_of_items}
use Rattle.gate_core.specs.Runs.{upload_by, after_entry, world_after}
use Rattle.gate_core.specs.Uploaded.{IsProper, BringsBytes}
use Rattle.gate_core.specs.ConnectionState.{ConnectionState, State, secret_at}
use Rattle.gate_core.specs.Served.{AreBegun, IsReceived}
use Rattle.gate_core.specs.Came.{Starts, GoesOn}
use Rattle.restarts.specs.Mended.{AreCutOff}
use Rattle.restarts.specs.CrashedRuns.{CrashedRun, IsCrashedRun, AreLived, IsHistory, Restarted, items_in, items_of}
use Rattle.restarts.specs.LeftIn.{AreLeftIn}
use Rattle.restarts.proofs.Ends.{PutLaw}
use Rattle.restarts.proofs.Lives.{same_after}
use Rattle.restarts.proofs.MidCalls.{begun_cut, all_proper}
use Rattle.restarts.proofs.Mends.{Resumes, Ended, ended}
use Rattle.restarts.proofs.Runs.{world-append}

pub begins : (settings : GatewaySettings) (w : World) (g : State) → g.settings ≡ under settings g.settings.secret → IsHonest g.grid → Starts w g → IsHistory settings w [] g []
begins settings w g same honest starts = record { lived = tt; same = same; rooms = room_at g.grid; came = starts honest }

pub called : (settings : GatewaySettings) (w : World) (lives : List CrashedRun) (old new : State) (events : List Event) (e : Event) → IsHistory settings w lives old events → new.settings ≡ old.settings → GoesOn old new e
    → IsHistory settings w lives new (events ++ e ∷ [])
called settings w lives old new events e history kept on = record {
  lived = history.lived;
  same = subst (λ (s : GatewaySettings). s ≡ under settings s.secret) (sym kept) history.same;
  rooms = history.rooms;
  came = on (record { world = world_after settings w (items_of lives); rooms = history.rooms }) events history.came;
}

items-append : (lives : List CrashedRun) (life : CrashedRun) → items_of (lives ++ life ∷ []) ≡ items_of lives ++ items_in life
items-append [] life = append-nil (items_in life)
items-append (l ∷ ls) life = ap (λ (r : List Entry). items_in l ++ r) (items-append ls life) ∙ sym (append_assoc (items_in l) (items_of ls) (items_in life))

lived-append : (settings : GatewaySettings) (w : World) (lives : List CrashedRun) (life : CrashedRun) → AreLived settings w lives → IsCrashedRun settings (world_after settings w (items_of lives)) life → AreLived settings w (lives ++ life ∷ [])
lived-append settings w [] life lived one = (one, tt)
lived-append settings w (l ∷ ls) life lived one =
    (lived.0, lived-append settings (world_after settings w (items_in l)) ls life lived.1 (subst (λ (v : World). IsCrashedRun settings v life) (world-append settings w (items_in l) (items_of ls)) one))

pub crashed : Resumes
    → ((w : World) (g : State) → g.connections ≡ map.empty → length g.grid.stores ≡ g.settings.servers → stood g.grid ≡ shown w.marks → Starts w g)
    → (settings : GatewaySettings) (w : World) (lives : List CrashedRun) (g : State) (events : List Event) (asked : List Entry) (c : Standing) (h : State) → IsHistory settings w lives g events
    → AllByRecursion (λ x. IsProper settings (x ∷ [])) asked → AreCutOff settings (shown (world_after settings (world_after settings w (items_of lives)) (items events)).marks) asked c
    → h.settings ≡ under settings h.settings.secret → h.connections ≡ map.empty → length h.grid.stores ≡ h.settings.servers → IsHonest h.grid → stood h.grid ≡ c
    → Restarted settings w lives g events asked h
crashed resumes starts settings w lives g events asked c h history proper off same none long honest stands =
    let v : World = world_after settings w (items_of lives) in
    let before : World = world_after settings v (items events) in
    let r : Ended settings before asked c = ended resumes settings before asked (shown before.marks) c refl off in
    let life : CrashedRun = record { events = events; gateway = g; asked = asked; ends = r.ends } in
    let w' : World = world_after settings w (items_of (lives ++ life ∷ [])) in
    let ends : world_after settings before r.ends ≡ w' =
    sym (world-append settings v (items events) r.ends)
    ∙ sym (world-append settings w (items_of lives) (items_in life))
    ∙ ap (world_after settings w) (sym (items-append lives life)) in
    record {
      ends = r.ends;
      history = record {
        lived = lived-append settings w lives life history.lived (record {
          same = history.same;
          rooms = history.rooms;
          came = history.came;
          end = r.are;
          proper = proper;
        });
        same = same;
        rooms = room_at h.grid;
        came = starts w' h none long (stands ∙ r.stands ∙ ap (λ (u : World). shown u.marks) ends) honest;
      };
    }

-- ---- a crash inside the call that takes bytes

-- a gateway's own secret has no part in the world
same_world : (s : GatewaySettings) (own : List ℕ) (w : World) (xs : List Entry) → world_after (under s own) w xs ≡ world_after s w xs
same_world s own w [] = refl
same_world s own w (x ∷ xs) = ap (λ v. world_after (under s own) v xs) (same_after s own x w) ∙ same_world s own (after_entry s x w) xs

pub crashed_in_bytes : PutLaw → Resumes
    → ((w : World) (g : State) → g.connections ≡ map.empty → length g.grid.stores ≡ g.settings.servers → stood g.grid ≡ shown w.marks → Starts w g)
    → (settings : GatewaySettings) (w : World) (lives : List CrashedRun) (g new : State) (events : List Event) (id : ℕ) (held : ConnectionState) (piece : List ℕ) (c : Standing) (h : State) → IsSharing settings.k settings.n
    → IsHistory settings w lives g events → IsReceived g new id held piece → AreLeftIn g.grid new.grid c
    → h.settings ≡ under settings h.settings.secret → h.connections ≡ map.empty → length h.grid.stores ≡ h.settings.servers → IsHonest h.grid → stood h.grid ≡ c
    → Restarted settings w lives g events (entries_of_items id (secret_at g.settings held) (frame_from held.conn piece)) h
crashed_in_bytes put resumes starts settings w lives g new events id held piece c h sharing history received left same none long honest stands =
    let v : World = world_after settings w (items_of lives) in
    let secret : List ℕ = secret_at g.settings held in
    let asked : List Item = frame_from held.conn piece in
    let again : under g.settings secret ≡ under settings secret = ap (λ (s : GatewaySettings). under s secret) history.same in
    let shows : stood g.grid ≡ shown (world_after settings v (items events)).marks =
    history.came.stores.stand
    ∙ ap (λ (s : GatewaySettings). shown (world_after s v (items events)).marks) history.same
    ∙ ap (λ (u : World). shown u.marks) (same_world settings g.settings.secret v (items events)) in
    let cut = begun_cut put settings id secret asked g.grid new.grid c (history.came.servers ∙ ap (λ (s : GatewaySettings). s.servers) history.same)
    (subst (λ (s : GatewaySettings). AreBegun s asked g.grid new.grid) again (received.fed.served.begun history.came.stores.honest)) left in
    let proper = all_proper settings id secret asked sharing (subst (λ (s : GatewaySettings). All (λ item. BringsBytes (upload_by s item)) asked) again received.fed.served.bytes) in
    crashed resumes starts settings w lives g events (entries_of_items id secret asked) c h history proper
    (subst (λ (f : Standing). AreCutOff settings f (entries_of_items id secret asked) c) shows cut) same none long honest stands
