-- Steps that are answered.
use Rattle.std.proofs.Common.{◌≡◌, ℕ, ◌≤◌, List, [], ◌∷◌, ◌++◌, length, true, false, Option, Some, None, refl, sym, ap, subst, ◌∙◌, append_assoc, length-append, arith}
use Rattle.std.proofs.lemmas.List.{append-nil}
use Rattle.chk_file.specs.World.{World}
use Rattle.gate_core.specs.Settings.{GatewaySettings}
use Rattle.gate_core.specs.Events.{Event}
use Rattle.gate_core.specs.Items.{Entry, items, items_after, completed}
use Rattle.gate_core.specs.Runs.{after_entry}
use Rattle.gate_core.specs.Rooms.{Rooms, room_after, HasRoomForAll}
use Rattle.gate_core.specs.ConnectionState.{State}
use Rattle.gate_core.specs.Came.{Opening, Came}
use Rattle.gate_tasks.specs.Script.{Step, may_stand}
use Rattle.gate_tasks.specs.Replies.{CallStep, settings_by, IsOpening, IsCalm, IsScriptReply, event_by, events_of, call_of, calls_in, AreReplies, BeginsWell, IsToldAfter, IsToldFrom, AreTold}
use Rattle.gate_tasks.specs.Running.{CameAfter, CameFrom, CameBy, IsProgress, IsCalled, Answered}
use Rattle.gate_tasks.specs.declared.command.Command.{Command}
use Rattle.gate_tasks.specs.declared.command.Command.TheVariants as command
use Rattle.gate_tasks.specs.declared.command.Call.{Call}
use Rattle.gate_tasks.specs.declared.command.Grid.{Grid}
use Rattle.gate_tasks.specs.declared.reply.Reply.{Reply}

-- ---- one more call

pub events_more : (grid : Grid) (calls : List CallStep) (step : CallStep) → events_of grid (calls ++ step ∷ []) ≡ events_of grid calls ++ event_by grid step.call step.reply
events_more grid [] step = append-nil (event_by grid step.call step.reply)
events_more grid (first ∷ calls) step =
    ap (λ e. event_by grid first.call first.reply ++ e) (events_more grid calls step) ∙ sym (append_assoc (event_by grid first.call first.reply) (events_of grid calls) (event_by grid step.call step.reply))

replies_more : (grid : Grid) (opening : Opening) (events : List Event) (calls : List CallStep) (step : CallStep) → AreReplies grid opening events calls
    → (IsCalm grid opening (events ++ events_of grid calls) → IsScriptReply grid opening (events ++ events_of grid calls) step.call step.reply) → AreReplies grid opening events (calls ++ step ∷ [])
replies_more grid opening events [] step told reply = (subst (λ e. IsCalm grid opening e → IsScriptReply grid opening e step.call step.reply) (append-nil events) reply, tt)
replies_more grid opening events (first ∷ calls) step told reply =
    let e = event_by grid first.call first.reply in
    (told.0, replies_more grid opening (events ++ e) calls step told.1 (subst (λ l. IsCalm grid opening l → IsScriptReply grid opening l step.call step.reply) (sym (append_assoc events e (events_of grid calls))) reply))

-- ---- room for a beginning

room_first : (settings : GatewaySettings) (w : World) (rooms : Rooms) (xs ys : List Entry) → HasRoomForAll settings w rooms (xs ++ ys) → HasRoomForAll settings w rooms xs
room_first settings w rooms [] ys room = tt
room_first settings w rooms (x ∷ xs) ys room = (room.0, room_first settings (after_entry settings x w) (room_after settings x w rooms) xs ys room.1)

items_first : (before events more : List Event) → (ys : List Entry) × (items_after before (events ++ more) ≡ items_after before events ++ ys)
items_first before [] more = (items_after before more, refl)
items_first before (e ∷ events) more =
    let rest = items_first (before ++ e ∷ []) events more in
    (rest.0, ap (λ l. completed before e ++ l) rest.1 ∙ sym (append_assoc (completed before e) (items_after (before ++ e ∷ []) events) rest.0))

pub calm_first : (grid : Grid) (opening : Opening) (events more : List Event) → IsCalm grid opening (events ++ more) → IsCalm grid opening events
unfolding items
calm_first grid opening events more calm =
    let rest = items_first [] events more in
    room_first (settings_by grid) opening.world opening.rooms (items_after [] events) rest.0
    (subst (HasRoomForAll (settings_by grid) opening.world opening.rooms) rest.1 calm)

-- ---- where commands may stand

-- `grid` does not where a gateway is
pub grid_late : (log : List Step) (was : Option Grid) (g : State) (grid : Grid) → IsProgress log was (Some g) → may_stand log (command.Grid grid) ≡ false
grid_late [] None g grid at = absurd (omega arith)
grid_late [] (Some was) g grid at = cc
grid_late (step ∷ []) was g grid at = refl
grid_late (step ∷ next ∷ more) was g grid at = refl

-- no call does where none is
pub call_none : (log : List Step) (was : Option Grid) (asked : Call) → IsProgress log was None → may_stand log (command.Call asked) ≡ false
call_none log None asked at = ap (λ l. may_stand l (command.Call asked)) at
call_none log (Some was) asked at = absurd at

-- `restore` does only while the parameters are at hand
pub restore_late : (log : List Step) (gateway : Option State) (image : List ℕ) → IsProgress log None gateway → may_stand log (command.Restore image) ≡ false
restore_late log None image at = ap (λ l. may_stand l (command.Restore image)) at
restore_late [] (Some g) image at = absurd (omega arith)
restore_late (step ∷ []) (Some g) image at = absurd (omega arith)
restore_late (step ∷ next ∷ more) (Some g) image at = refl

call_late : (log : List Step) (was : Option Grid) (g : State) (asked : Call) → IsProgress log was (Some g) → may_stand log (command.Call asked) ≡ true
call_late [] None g asked at = absurd (omega arith)
call_late [] (Some was) g asked at = cc
call_late (step ∷ []) was g asked at = refl
call_late (step ∷ next ∷ more) was g asked at = refl

-- ---- calls and what stands before them

-- a call is the last of them
calls_more : (log : List Step) (asked : Call) (reply : Reply) → calls_in (log ++ record { command = command.Call asked; reply = reply } ∷ []) ≡ calls_in log ++ record { call = asked; reply = reply } ∷ []
calls_more [] asked reply = refl
calls_more (first ∷ log) asked reply =
    let last : CallStep = record { call = asked; reply = reply } in
    ap (λ calls. call_of first.command first.reply ++ calls) (calls_more log asked reply) ∙ sym (append_assoc (call_of first.command first.reply) (calls_in log) (last ∷ []))

-- and with it the same stands before them
opening_same : (grid : Grid) (log : List Step) (asked : Call) (reply : Reply) (opening : Opening) → IsOpening grid (log ++ record { command = command.Call asked; reply = reply } ∷ []) opening → IsOpening grid log opening
opening_same grid [] asked reply opening opened = opened
opening_same grid (first ∷ log) asked reply opening opened = opened

-- ---- a call after these steps

-- a call restores nothing
begins_more : (grid : Grid) (log : List Step) (asked : Call) (reply : Reply) → BeginsWell grid log → BeginsWell grid (log ++ record { command = command.Call asked; reply = reply } ∷ [])
begins_more grid [] asked reply well = tt
begins_more grid (first ∷ log) asked reply well = well

module _ (old new : State) (asked : Call) (reply : Reply) (called : IsCalled old new asked reply) where
  abbrev step : Step
  step = record { command = command.Call asked; reply = reply }

  abbrev answered : CallStep
  answered = record { call = asked; reply = reply }

  told_after : (grid : Grid) (first : Reply) (log : List Step) → IsToldAfter grid first log → CameAfter grid log old → IsToldAfter grid first (log ++ step ∷ [])
  told_after grid first log told came = record {
    made = told.made;
    restored = begins_more grid log asked reply told.restored;
    replies = λ opening opened.
        let same = opening_same grid log asked reply opening opened in
        subst (AreReplies grid opening []) (sym (calls_more log asked reply))
        (replies_more grid opening [] (calls_in log) answered (told.replies opening same) (λ calm. called.told grid opening (events_of grid (calls_in log)) came.settings came.sharing (came.as_written opening same calm)));
  }

  came_after : (grid : Grid) (log : List Step) → CameAfter grid log old → CameAfter grid (log ++ step ∷ []) new
  came_after grid log came = record {
    settings = called.settings ∙ came.settings;
    sharing = came.sharing;
    as_written = λ opening opened calm.
        let same = opening_same grid log asked reply opening opened in
        let before = events_of grid (calls_in log) in
        let more : events_of grid (calls_in (log ++ step ∷ [])) ≡ before ++ event_by grid asked reply = ap (events_of grid) (calls_more log asked reply) ∙ events_more grid (calls_in log) answered in
        let all = subst (IsCalm grid opening) more calm in
        let first = calm_first grid opening before (event_by grid asked reply) all in
        subst (Came opening new) (sym more) (called.came grid opening before came.settings (came.as_written opening same first) all);
  }

  told_from : (first : Command) (answer : Reply) (log : List Step) → IsToldFrom first answer log → CameFrom first log old → IsToldFrom first answer (log ++ step ∷ [])
  told_from (command.Grid grid) answer log told came = told_after grid answer log told came
  told_from (command.Restore image) answer log told came = told
  told_from (command.Call call) answer log told came = told

  came_from : (first : Command) (log : List Step) → CameFrom first log old → CameFrom first (log ++ step ∷ []) new
  came_from (command.Grid grid) log came = came_after grid log came
  came_from (command.Restore image) log came = came
  came_from (command.Call call) log came = came

  call_told : (log : List Step) → AreTold log → CameBy log old → AreTold (log ++ step ∷ [])
  call_told [] told came = absurd came
  call_told (first ∷ log) told came = told_from first.command first.reply log told came

  call_came : (log : List Step) → CameBy log old → CameBy (log ++ step ∷ []) new
  call_came [] came = absurd came
  call_came (first ∷ log) came = came_from first.command log came

  some_step : (log : List Step) → CameBy log old → 2 ≤ length (log ++ step ∷ [])
  some_step [] came = absurd came
  some_step (first ∷ log) came = omega (arith, length-append log (step ∷ []))

  came_by : (log : List Step) (was : Option Grid) → IsProgress log was (Some old) → CameBy log old
  came_by log None at = at.1
  came_by log (Some was) at = at.1

  pub call_answered : (log : List Step) (was : Option Grid) → IsProgress log was (Some old) → AreTold log → Answered log (command.Call asked) (Some reply) None (Some new)
  call_answered log was at told =
      let came = came_by log was at in
      record {
        stands = call_late log was old asked at;
        told = call_told log told came;
        ends = refl;
        at = λ _. (some_step log came, call_came log came);
      }
