-- Calls that lines ask for.
use Rattle.std.proofs.Common.{inl, inr, ◌≡◌, ◌≢◌, ℕ, ◌≤◌, ◌<◌, List, [], ◌∷◌, ◌++◌, length, take, drop, Bool, true, false, cond, Option, Some, None, Err, refl, sym, ap, subst, ◌∙◌, arith, nat_lt, eq-eqb}
use Rattle.std.specs.Prelude.{MatchOption, is_some, IsErrOf, ◌↔◌, ◌&&◌, not, unwrap_or}
use Rattle.std.proofs.Math.Seq.{drop-append_seam}
use Rattle.std.proofs.lemmas.List.{append-nil, length-map}
use Rattle.std.proofs.lemmas.List.Elements.{All-nil}
use Rattle.std.proofs.lemmas.Bool.Decides.{nat_tests}
use Rattle.octets.specs.Sharing.{IsSharing}
use Rattle.grid.specs.declared.fault.GridFault.{GridFault}
use Rattle.grid.specs.declared.fault.GridFault.TheVariants as grid_fault
use Rattle.share_store.specs.Shares.{ShareKey}
use Rattle.grid.specs.Refusals.{IsChangeRefusal}
use Rattle.grid.specs.Leaves.{TellsDown}
use Rattle.grid.specs.GridState.{GridState, maps_of, stood, failures_at, IsHonest, NoneFailed}
use Rattle.grid.specs.Rows.{rows_of}
use Rattle.grid.specs.Image.{image, refused_place}
use Rattle.grid.specs.ImageLaws.{CanBeWritten}
use Rattle.grid.specs.declared.image_layout.Layout.TheVariants.{VersionTwo}
use Rattle.chk_file.specs.World.{World, empty}
use Rattle.chk_file.specs.Marks.{shown}
use Rattle.chk_file.specs.Look.{by_fit}
use Rattle.gate_core.specs.Settings.{GatewaySettings}
use Rattle.gate_core.specs.declared.fault.GatewayFault.{GatewayFault}
use Rattle.gate_core.specs.declared.fault.GatewayFault.TheVariants.{Known, NotOpen, BadParameters}
use Rattle.gate_core.specs.declared.stage.Stage.{Stage}
use Rattle.gate_core.specs.Events.{Event, Open, Bytes, End, Take, Lose, Spoil, is_known, handed, has_ended}
use Rattle.gate_core.specs.Items.{Entry, items}
use Rattle.gate_core.specs.Runs.{world_after, said_by, said}
use Rattle.gate_core.specs.Reach.{only_caller, kept}
use Rattle.gate_core.specs.Uploaded.{IsProper, IsLeftBy}
use Rattle.gate_core.specs.Apart.{Apart}
use Rattle.gate_core.specs.ConnectionState.{ConnectionState, State, connection_at, waiting, waiting_in, open_refusal, bytes_refusal, take_refusal, stage_refusal}
use Rattle.gate_core.specs.AfterCall.{with_held, with_grid, opened, taken, ended_state}
use Rattle.gate_core.specs.Came.{Opening, Came, CameAt, IsRoomy, GoesOn, stage_of}
use Rattle.gate_core.specs.Served.{IsReceived}
use Rattle.gate_tasks.specs.Replies.{settings_by, is_going, unsaid, unsaid_of_kept, IsApart, first_bytes_reply, opened_reply, IsTakeReply, world_by, if_server, IsImageAfter, IsNoImageAfter}
use Rattle.gate_tasks.specs.Running.{IsCalled}
use Rattle.gate_tasks.specs.declared.command.Call.TheVariants as call
use Rattle.gate_tasks.specs.declared.command.Grid.{Grid}
use Rattle.gate_tasks.specs.declared.command.Share.{Share}
use Rattle.gate_tasks.specs.declared.reply.Reply.{Reply}
use Rattle.gate_tasks.specs.declared.reply.Reply.TheVariants.{Done, Refused, GridRefused, Given, Imaged, Answered}

-- ---- `open`

unknown : (s : GatewaySettings) (w : World) (id n : ℕ) (held : Option ConnectionState) (events : List Event) (P : Type 0) (Q : GatewayFault → Type 0) → ((e : GatewayFault) → Q e → ⊥) → MatchOption (open_refusal held n) P Q → CameAt s w id held events
    → is_known id events ≡ false
unknown s w id n None events P Q never answer at = at.unknown
unknown s w id n (Some held) events P Q never answer at = absurd (never Known answer)

short : (n : ℕ) (held : Option ConnectionState) (P : Type 0) (Q : GatewayFault → Type 0) → ((e : GatewayFault) → Q e → ⊥) → MatchOption (open_refusal held n) P Q → nat_lt 256 n ≡ false
short n None P Q never answer =
    elim (nat_lt 256 n) as (λ b. MatchOption (cond b (Some BadParameters) None) P Q → b ≡ false) [
      | true ↦ λ long. absurd (never BadParameters long)
      | false ↦ λ _. refl
    ] answer
short n (Some held) P Q never answer = absurd (never Known answer)

pub open_called : (old new : State) (id : ℕ) (secret : Option (List ℕ)) (P : Type 0) (Q : GatewayFault → Type 0) → ((e : GatewayFault) → Q e → ⊥) → MatchOption (open_refusal (connection_at old id) (length (unwrap_or secret []))) P Q → new ≡ with_held old id (opened secret)
    → GoesOn old new (Open id (unwrap_or secret old.settings.secret)) → IsCalled old new (call.Open id secret) Done
open_called old new id secret P Q never answer left on = record {
  settings = ap (λ (s : State). s.settings) left;
  told = λ grid opening events set sharing came.
      let n = length (unwrap_or secret []) in
      ap (λ b. cond b (Refused BadParameters) Done) (sym (short n (connection_at old id) P Q never answer))
      ∙ ap (λ b. cond b (Refused Known) (opened_reply secret)) (sym (unknown old.settings opening.world id n (connection_at old id) events P Q never answer (came.each id)));
  came = λ grid opening events set came calm.
      subst (λ (s : GatewaySettings). Came opening new (events ++ Open id (unwrap_or secret s.secret) ∷ [])) set (on opening events came);
}

-- ---- `bytes` and `end`

not_ended : (b : Bool) (P : Type 0) (Q : GatewayFault → Type 0) → ((e : GatewayFault) → Q e → ⊥) → MatchOption (stage_refusal (stage_of b)) P Q → b ≡ false
not_ended false P Q never answer = refl
not_ended true P Q never answer = absurd (never NotOpen answer)

going : (s : GatewaySettings) (w : World) (id : ℕ) (held : Option ConnectionState) (events : List Event) (P : Type 0) (Q : GatewayFault → Type 0) → ((e : GatewayFault) → Q e → ⊥) → MatchOption (bytes_refusal held) P Q → CameAt s w id held events
    → is_going id events ≡ true
going s w id None events P Q never answer at = absurd (never NotOpen answer)
going s w id (Some held) events P Q never answer at =
    let over = not_ended (has_ended id events) P Q never (subst (λ (t : Stage). MatchOption (stage_refusal t) P Q) at.stage answer) in
    ap (λ k. k && not (has_ended id events)) at.known ∙ ap not over

open_held : (held : Option ConnectionState) (P : Type 0) (Q : GatewayFault → Type 0) → ((e : GatewayFault) → Q e → ⊥) → MatchOption (bytes_refusal held) P Q → (h : ConnectionState) × (held ≡ Some h)
open_held None P Q never answer = absurd (never NotOpen answer)
open_held (Some h) P Q never answer = (h, refl)

pub end_called : (old new : State) (id : ℕ) (P : Type 0) (Q : GatewayFault → Type 0) → ((e : GatewayFault) → Q e → ⊥) → MatchOption (bytes_refusal (connection_at old id)) P Q
    → ((h : ConnectionState) → connection_at old id ≡ Some h → new ≡ with_held old id (ended_state h)) → GoesOn old new (End id) → IsCalled old new (call.End id) Done
end_called old new id P Q never answer left on =
    let h = open_held (connection_at old id) P Q never answer in
    record {
      settings = ap (λ (s : State). s.settings) (left h.0 h.1);
      told = λ grid opening events set sharing came. ap (λ b. cond b Done (Refused NotOpen)) (sym (going old.settings opening.world id (connection_at old id) events P Q never answer (came.each id)));
      came = λ grid opening events set came calm. on opening events came;
    }

pub bytes_called : (old new : State) (id : ℕ) (piece : List ℕ) (P : Type 0) (Q : GatewayFault → Type 0) → ((e : GatewayFault) → Q e → ⊥) → MatchOption (bytes_refusal (connection_at old id)) P Q
    → ((h : ConnectionState) → connection_at old id ≡ Some h → IsReceived old new id h piece) → ((s : ℕ) → failures_at old.grid s ≡ 0) → ((s : ℕ) → failures_at new.grid s ≡ 0)
    → ((opening : Opening) (events : List Event) → Came opening old events → IsRoomy old.settings opening (events ++ Bytes id piece ∷ []) → NoneFailed old.grid new.grid → Came opening new (events ++ Bytes id piece ∷ []))
    → IsCalled old new (call.Bytes id piece) Done
bytes_called old new id piece P Q never answer received before after on =
    let h = open_held (connection_at old id) P Q never answer in
    record {
      settings = (received h.0 h.1).settings;
      told = λ grid opening events set sharing came. ap (λ b. cond b Done (Refused NotOpen)) (sym (going old.settings opening.world id (connection_at old id) events P Q never answer (came.each id)));
      came = λ grid opening events set came calm.
          on opening events came (subst (λ (s : GatewaySettings). IsRoomy s opening (events ++ Bytes id piece ∷ [])) (sym set) calm) (λ s. after s ∙ sym (before s));
    }

-- ---- `take`

known : (s : GatewaySettings) (w : World) (id : ℕ) (held : Option ConnectionState) (events : List Event) (P : Type 0) (Q : GatewayFault → Type 0) → ((e : GatewayFault) → Q e → ⊥) → MatchOption (take_refusal held) P Q → CameAt s w id held events
    → is_known id events ≡ true
known s w id None events P Q never answer at = absurd (never NotOpen answer)
known s w id (Some held) events P Q never answer at = at.known

taken_held : (held : Option ConnectionState) (P : Type 0) (Q : GatewayFault → Type 0) → ((e : GatewayFault) → Q e → ⊥) → MatchOption (take_refusal held) P Q → (h : ConnectionState) × (held ≡ Some h)
taken_held None P Q never answer = absurd (never NotOpen answer)
taken_held (Some h) P Q never answer = (h, refl)

-- what waits is what the caller was not given yet
waits : (g : State) (grid : Grid) (opening : Opening) (events : List Event) (id : ℕ) (held : Option ConnectionState) (P : Type 0) (Q : GatewayFault → Type 0) → ((e : GatewayFault) → Q e → ⊥) → MatchOption (take_refusal held) P Q → connection_at g id ≡ held
    → g.settings ≡ settings_by grid → CameAt g.settings opening.world id held events → unsaid grid opening id events ≡ waiting g id
waits g grid opening events id None P Q never answer is set at = absurd (never NotOpen answer)
waits g grid opening events id (Some h) P Q never answer is set at =
    ap (λ (s : GatewaySettings). drop (length (handed id events)) (said_by by_fit s id opening.world (items events))) (sym set)
    ∙ ap (drop (length (handed id events))) (sym at.out) ∙ drop-append_seam (handed id events) h.waiting
    ∙ ap waiting_in (sym is)

-- what the written answers say of the kept items is what verification finds
abbrev pub KeptIsVerified : Type 0
KeptIsVerified = (settings : GatewaySettings) (callers : ℕ → Bool) (caller : ℕ) (past : List Entry) (w : World) (entries : List Entry) → callers caller ≡ true → IsProper settings entries → IsLeftBy settings past w → Apart settings callers past w entries
    → said settings caller w (kept settings callers w entries) ≡ said_by by_fit settings caller w entries

-- nothing stands at first where no item was before
pub nothing_past : (settings : GatewaySettings) → IsSharing settings.k settings.n → IsLeftBy settings [] empty
nothing_past settings sharing = record { world = refl; proper = record { sharing = sharing; bytes = All-nil _ } }

kept_unsaid : KeptIsVerified → (g : State) (grid : Grid) (opening : Opening) (events : List Event) (id : ℕ) → g.settings ≡ settings_by grid → IsSharing grid.k grid.n → Came opening g events → IsApart grid opening id events
    → unsaid grid opening id events ≡ unsaid_of_kept grid opening id events
kept_unsaid law g grid opening events id set sharing came apart =
    let ours : IsProper g.settings (items events) = record { sharing = subst (λ (s : GatewaySettings). IsSharing s.k s.n) (sym set) sharing; bytes = came.bytes } in
    let proper : IsProper (settings_by grid) (items events) = subst (λ s. IsProper s (items events)) set ours in
    ap (drop (length (handed id events))) (sym (law (settings_by grid) (only_caller id) id apart.past opening.world (items events) (eq-eqb id id refl) proper apart.left apart.apart))

taken_reply : (g : State) (grid : Grid) (opening : Opening) (events : List Event) (id most : ℕ) (reply : Reply) → KeptIsVerified → g.settings ≡ settings_by grid → IsSharing grid.k grid.n → Came opening g events
    → reply ≡ first_bytes_reply id events most (unsaid grid opening id events) → IsTakeReply grid opening events id most reply
taken_reply g grid opening events id most reply law set sharing came is = record {
  verified = is;
  isolated = λ apart. is ∙ ap (first_bytes_reply id events most) (kept_unsaid law g grid opening events id set sharing came apart);
}

pub take_called : KeptIsVerified → (old new : State) (id most : ℕ) (given : List ℕ) (P : Type 0) (Q : GatewayFault → Type 0) → ((e : GatewayFault) → Q e → ⊥) → MatchOption (take_refusal (connection_at old id)) P Q → given ≡ take most (waiting old id)
    → ((h : ConnectionState) → connection_at old id ≡ Some h → new ≡ with_held old id (taken most h)) → GoesOn old new (Take id given) → IsCalled old new (call.Take id most) (Given given)
take_called law old new id most given P Q never answer is left on =
    let h = taken_held (connection_at old id) P Q never answer in
    record {
      settings = ap (λ (s : State). s.settings) (left h.0 h.1);
      told = λ grid opening events set sharing came.
          let whole : Given given ≡ Given (take most (unsaid grid opening id events)) =
          ap Given (is ∙ ap (take most) (sym (waits old grid opening events id (connection_at old id) P Q never answer refl set (came.each id)))) in
          taken_reply old grid opening events id most (Given given) law set sharing came
          (whole ∙ ap (λ b. cond b (Given (take most (unsaid grid opening id events))) (Refused NotOpen)) (sym (known old.settings opening.world id (connection_at old id) events P Q never answer (came.each id))));
      came = λ grid opening events set came calm. on opening events came;
    }

-- ---- `lose` and `spoil`

there : (length_ servers server : ℕ) (P : Type 0) → length_ ≡ servers → (P ↔ (length_ ≤ server)) → (P → ⊥) → nat_lt server servers ≡ true
there l servers server P is no_server never =
    let above : l ≤ server → ⊥ = λ h. never (no_server.1 h) in
    let lower : server < servers = omega (arith, above, is) in
    grind (arith, nat_tests, lower)

not_there : (length_ servers server : ℕ) → length_ ≡ servers → length_ ≤ server → nat_lt server servers ≡ false
not_there l servers server is h = grind (arith, nat_tests)

looked : (g : State) (grid : Grid) (opening : Opening) (events : List Event) → g.settings ≡ settings_by grid → Came opening g events → stood g.grid ≡ shown (world_by grid opening events).marks
looked g grid opening events set came = came.stores.stand ∙ ap (λ (s : GatewaySettings). shown (world_after s opening.world (items events)).marks) set

servers_are : (g : State) (grid : Grid) (opening : Opening) (events : List Event) → g.settings ≡ settings_by grid → Came opening g events → length g.grid.stores ≡ grid.servers
servers_are g grid opening events set came = came.servers ∙ ap (λ (s : GatewaySettings). s.servers) set

no_down : (old new : GridState) (s : ℕ) → ((s : ℕ) → failures_at old s ≡ 0) → ((s : ℕ) → failures_at new s ≡ 0) → failures_at old s < failures_at new s → ⊥
no_down old new s before after less = omega (arith, before s, after s, less)

pub lost_called : (old new : State) (share : Share) (lost : Bool) (P : Type 0) → new ≡ with_grid old new.grid → (P ↔ (length old.grid.stores ≤ share.server)) → (P → ⊥)
    → (IsHonest old.grid → lost ≡ is_some (stood old.grid share.server (share.index, share.number))) → GoesOn old new (Lose share.server (share.index, share.number)) → IsCalled old new (call.Lose share) (Answered lost)
lost_called old new share lost P left no_server never is on = record {
  settings = ap (λ (s : State). s.settings) left;
  told = λ grid opening events set sharing came.
      let key : ShareKey = (share.index, share.number) in
      ap Answered (is came.stores.honest ∙ ap (λ st. is_some (st share.server key)) (looked old grid opening events set came))
      ∙ ap (λ b. cond b (Answered (is_some (shown (world_by grid opening events).marks share.server key))) (GridRefused grid_fault.NoServer))
      (sym (there (length old.grid.stores) grid.servers share.server P (servers_are old grid opening events set came) no_server never));
  came = λ grid opening events set came calm. on opening events came;
}

pub spoiled_called : (old new : State) (share : Share) (place : ℕ) (spoiled : Bool) (P : Type 0) → new ≡ with_grid old new.grid → (P ↔ (length old.grid.stores ≤ share.server)) → (P → ⊥)
    → (IsHonest old.grid → spoiled ≡ nat_lt place (length (unwrap_or (stood old.grid share.server (share.index, share.number)) []))) → GoesOn old new (Spoil share.server (share.index, share.number) place)
    → IsCalled old new (call.Spoil share place) (Answered spoiled)
spoiled_called old new share place spoiled P left no_server never is on = record {
  settings = ap (λ (s : State). s.settings) left;
  told = λ grid opening events set sharing came.
      let key : ShareKey = (share.index, share.number) in
      ap Answered (is came.stores.honest ∙ ap (λ st. nat_lt place (length (unwrap_or (st share.server key) []))) (looked old grid opening events set came))
      ∙ ap (λ b. cond b (Answered (nat_lt place (length (unwrap_or (shown (world_by grid opening events).marks share.server key) [])))) (GridRefused grid_fault.NoServer))
      (sym (there (length old.grid.stores) grid.servers share.server P (servers_are old grid opening events set came) no_server never));
  came = λ grid opening events set came calm. on opening events came;
}

-- the one refusal of a change in memory: there is no such server
no_such : (old new : GridState) (server : ℕ) (fault : GridFault) → ((s : ℕ) → failures_at old s ≡ 0) → ((s : ℕ) → failures_at new s ≡ 0) → IsChangeRefusal fault → fault ≢ grid_fault.NoMemory
    → TellsDown {T = Bool} old new (Err fault) → (IsErrOf {T = Bool} (Err fault) grid_fault.NoServer ↔ (length old.stores ≤ server)) → (fault ≡ grid_fault.NoServer) × (length old.stores ≤ server)
no_such old new server (grid_fault.Full s) before after is known_ down no_server = absurd is
no_such old new server (grid_fault.Down s) before after is known_ down no_server = absurd (no_down old new s before after ((down s).0 refl))
no_such old new server grid_fault.NoServer before after is known_ down no_server = (refl, no_server.0 refl)
no_such old new server (grid_fault.BadImage place) before after is known_ down no_server = absurd is
no_such old new server grid_fault.ReadFailed before after is known_ down no_server = absurd is
no_such old new server grid_fault.WriteFailed before after is known_ down no_server = absurd is
no_such old new server grid_fault.NoMemory before after is known_ down no_server = absurd (known_ refl)

module _ (old new : State) (share : Share) (fault : GridFault) (reply : Reply) (is : reply ≡ GridRefused fault) (left : new ≡ with_grid old new.grid) (before : (s : ℕ) → failures_at old.grid s ≡ 0)
    (after : (s : ℕ) → failures_at new.grid s ≡ 0) (change : IsChangeRefusal fault) (known_ : fault ≢ grid_fault.NoMemory) (down : TellsDown {T = Bool} old.grid new.grid (Err fault))
    (no_server : IsErrOf {T = Bool} (Err fault) grid_fault.NoServer ↔ (length old.grid.stores ≤ share.server)) (on : (opening : Opening) (events : List Event) → Came opening old events → Came opening new events) where
  refusal : (fault ≡ grid_fault.NoServer) × (length old.grid.stores ≤ share.server)
  refusal = no_such old.grid new.grid share.server fault before after change known_ down no_server

  refused_reply : (grid : Grid) (opening : Opening) (events : List Event) (answer : Bool) → old.settings ≡ settings_by grid → Came opening old events → reply ≡ if_server grid share.server answer
  refused_reply grid opening events answer set came =
      is ∙ ap GridRefused refusal.0
      ∙ ap (λ b. cond b (Answered answer) (GridRefused grid_fault.NoServer)) (sym (not_there (length old.grid.stores) grid.servers share.server (servers_are old grid opening events set came) refusal.1))

  refused_came : (opening : Opening) (events : List Event) → Came opening old events → Came opening new (events ++ [])
  refused_came opening events came = subst (Came opening new) (sym (append-nil events)) (on opening events came)

  pub lose_refused : IsCalled old new (call.Lose share) reply
  lose_refused = subst (IsCalled old new (call.Lose share)) (sym is) record {
    settings = ap (λ (s : State). s.settings) left;
    told = λ grid opening events set sharing came. sym is ∙ refused_reply grid opening events _ set came;
    came = λ grid opening events set came calm. refused_came opening events came;
  }

  pub spoil_refused : (place : ℕ) → IsCalled old new (call.Spoil share place) reply
  spoil_refused place = subst (IsCalled old new (call.Spoil share place)) (sym is) record {
    settings = ap (λ (s : State). s.settings) left;
    told = λ grid opening events set sharing came. sym is ∙ refused_reply grid opening events _ set came;
    came = λ grid opening events set came calm. refused_came opening events came;
  }

-- ---- `image`

image_of_what_stands : (g : State) (bytes : List ℕ) → (IsHonest g.grid → bytes ≡ image (length g.grid.stores) (rows_of (maps_of g.grid)))
    → (IsHonest g.grid → CanBeWritten VersionTwo (length g.grid.stores) (rows_of (maps_of g.grid)))
    → (grid : Grid) (opening : Opening) (events : List Event) → g.settings ≡ settings_by grid → Came opening g events → IsImageAfter grid opening events bytes
image_of_what_stands g bytes is can grid opening events set came =
    let many : length g.grid.stores ≡ grid.servers = servers_are g grid opening events set came in
    record {
      maps = maps_of g.grid;
      servers = length-map g.grid.stores (λ t. t.shares) ∙ many;
      stand = looked g grid opening events set came;
      is = is came.stores.honest ∙ ap (λ n. image n (rows_of (maps_of g.grid))) many;
      whole = subst (λ n. CanBeWritten VersionTwo n (rows_of (maps_of g.grid))) many (can came.stores.honest);
    }

no_image_of_what_stands : (g : State) (place : ℕ) → (IsHonest g.grid → refused_place (rows_of (maps_of g.grid)) ≡ Some place)
    → (grid : Grid) (opening : Opening) (events : List Event) → g.settings ≡ settings_by grid → Came opening g events → IsNoImageAfter grid opening events place
no_image_of_what_stands g place refused grid opening events set came = record {
  maps = maps_of g.grid;
  servers = length-map g.grid.stores (λ t. t.shares) ∙ servers_are g grid opening events set came;
  stand = looked g grid opening events set came;
  refused = refused came.stores.honest;
}

module _ (old new : State) (left : new ≡ with_grid old new.grid) (on : (opening : Opening) (events : List Event) → Came opening old events → Came opening new events) where
  stays : (opening : Opening) (events : List Event) → Came opening old events → Came opening new (events ++ [])
  stays opening events came = subst (Came opening new) (sym (append-nil events)) (on opening events came)

  pub imaged : (bytes : List ℕ) → (IsHonest old.grid → bytes ≡ image (length old.grid.stores) (rows_of (maps_of old.grid)))
      → (IsHonest old.grid → CanBeWritten VersionTwo (length old.grid.stores) (rows_of (maps_of old.grid))) → IsCalled old new call.Image (Imaged bytes)
  imaged bytes is can = record {
    settings = ap (λ (s : State). s.settings) left;
    told = λ grid opening events set sharing came. inl (bytes, refl, image_of_what_stands old bytes is can grid opening events set came);
    came = λ grid opening events set came calm. stays opening events came;
  }

  pub image_refused : (place : ℕ) → (IsHonest old.grid → refused_place (rows_of (maps_of old.grid)) ≡ Some place)
      → IsCalled old new call.Image (GridRefused (grid_fault.BadImage place))
  image_refused place refused = record {
    settings = ap (λ (s : State). s.settings) left;
    told = λ grid opening events set sharing came. inr (place, refl, no_image_of_what_stands old place refused grid opening events set came);
    came = λ grid opening events set came calm. stays opening events came;
  }
