-- A flow that runs, call by call, and what serving a connection comes to.
use Rattle.std.proofs.Common.{◌≡◌, ◌≢◌, ℕ, List, [], ◌∷◌, ◌++◌, Bool, true, false, ◌⊎◌, ⊎_elim, inl, inr, refl, sym, ap, subst, ◌∙◌, Option, Some, None}
use Rattle.std.specs.Prelude.{IsTrue, ◌||◌}
use Rattle.std.specs.Io.KnownBytes.{Consumes}
use Rattle.std.specs.List.{list_any}
use Rattle.std.proofs.KnownBytes.{Consumes-nil, Consumes-trans, Appends-nil, Appends-trans}
use Rattle.std.proofs.lemmas.List.{append-nil}
use Rattle.std.proofs.lemmas.List.Elements.{filter-append}
use Rattle.std.proofs.lemmas.List.Folds.{list_any-append}
use Rattle.http_edge.specs.FramingState.{rest, is_closed as is_left_closed}
use Rattle.gate_core.specs.declared.stage.Stage.{Stage}
use Rattle.gate_core.specs.declared.stage.Stage.TheVariants as stage
use Rattle.gate_core.specs.Events.{Event, Open, is_end, is_event_of, calls_of, bytes_of_calls, handed, has_ended}
use Rattle.gate_core.specs.ConnectionState.{ConnectionState, State, connection_at, waiting, waiting_in, is_over, is_closed_in, stage_refusal}
use Rattle.gate_core.specs.Faithful.{Faithful, FaithfulAt}
use Rattle.gate_flow.specs.declared.fault.FlowFault.{FlowFault}
use Rattle.gate_flow.specs.declared.fault.FlowFault.TheVariants.{Refused, ReadFailed, WriteFailed, NoMemory}
use Rattle.gate_flow.specs.declared.want.Want.{Want}
use Rattle.gate_flow.specs.declared.want.Want.TheVariants as want
use Rattle.gate_flow.specs.State.{FlowState, IsSoundFlow, Stands, opened_flow}
use Rattle.gate_flow.specs.Led.{AreOf, TakesBytes, AreTimely, IsLed, IsLedAsWritten, IsGivenUp}
use Rattle.gate_flow.specs.Steps.{AreBytesRead, AreBytesWritten, Advances, AdvancesAsWritten, Rests, RestsAt}
use Rattle.gate_flow.specs.Run.{HasRun, HasRunAsWritten}
use Rattle.gate_flow.specs.Served.{HasStopped, IsServed, IsFlowStopped, FlowStopsAt}
use Rattle.gate_flow.proofs.Leading.{Beginnings, led_more, calm_more, joined_more, handed_more, joined_one, handed_one}
use Rattle.gate_flow.proofs.Moving.{own_one, own_more, moves_own, timely_more}
use Rattle.gate_flow.proofs.Standing.{read_stands, wrote_stands, advanced_stands}

-- ---- it is opened

pub run_begins : (id : ℕ) (secret : List ℕ) (g h : State) (r w : Option (List ℕ)) → IsLed id (Open id secret ∷ []) g h → IsLedAsWritten (Open id secret ∷ []) g h → TakesBytes (connection_at h id)
    → HasRunAsWritten id secret g h (opened_flow id) r r w w
run_begins id secret g h r w led calm takes = record {
  run = record {
    same = refl;
    calls = Open id secret ∷ [];
    opens = ([], refl);
    own = own_one id (Open id secret) refl;
    timely = λ events told. (tt, tt);
    led = led;
    bytes = [];
    out = [];
    flowed = record { all_read = sym (append-nil (bytes_of_calls id (Open id secret ∷ [])) ∙ joined_one id (Open id secret) refl); all_written = handed_one id (Open id secret) refl };
    taken = Consumes-nil r;
    put = Appends-nil w;
    input = λ over. cc;
  };
  as_written = calm;
  takes = takes;
}

-- ---- it is called

module _ (id : ℕ) (secret : List ℕ) (g h : State) (old new : FlowState) (read left before after : Option (List ℕ)) where
  run_reads : (left2 : Option (List ℕ)) → HasRun id secret g h old read left before after → AreBytesRead old new left left2 → HasRun id secret g h new read left2 before after
  run_reads left2 run now = record {
    same = now.id ∙ run.same;
    calls = run.calls;
    opens = run.opens;
    own = run.own;
    timely = run.timely;
    led = run.led;
    bytes = run.bytes ++ now.more;
    out = run.out;
    flowed = read_stands old new run.calls run.bytes run.out left left2 run.flowed now;
    taken = Consumes-trans read left left2 run.bytes now.more run.taken now.taken;
    put = run.put;
    input = now.at_end;
  }

  pub reads : (left2 : Option (List ℕ)) → HasRunAsWritten id secret g h old read left before after → AreBytesRead old new left left2 → HasRunAsWritten id secret g h new read left2 before after
  unfolding run_reads
  reads left2 was now = record { run = run_reads left2 was.run now; as_written = was.as_written; takes = was.takes }

  run_writes : (after2 : Option (List ℕ)) → HasRun id secret g h old read left before after → AreBytesWritten old new after after2 → HasRun id secret g h new read left before after2
  run_writes after2 run now = record {
    same = now.id ∙ run.same;
    calls = run.calls;
    opens = run.opens;
    own = run.own;
    timely = run.timely;
    led = run.led;
    bytes = run.bytes;
    out = run.out ++ now.some;
    flowed = wrote_stands old new run.calls run.bytes run.out after after2 run.flowed now;
    taken = run.taken;
    put = Appends-trans before after after2 run.out now.some run.put now.put;
    input = λ over. run.input (sym now.ended ∙ over);
  }

  pub writes : (after2 : Option (List ℕ)) → HasRunAsWritten id secret g h old read left before after → AreBytesWritten old new after after2 → HasRunAsWritten id secret g h new read left before after2
  unfolding run_writes
  writes after2 was now = record { run = run_writes after2 was.run now; as_written = was.as_written; takes = was.takes }

  module _ (k : State) (run : HasRun id secret g h old read left before after) where
    pub run_advances : Advances old new h k → HasRun id secret g k new read left before after
    run_advances now =
        let calls = now.moved.calls in
        record {
          same = now.id ∙ run.same;
          calls = run.calls ++ calls;
          opens = (run.opens.0 ++ calls, ap (λ cs. cs ++ calls) run.opens.1);
          own = own_more id run.calls calls run.own (subst (λ (i : ℕ). AreOf i calls) run.same (moves_own old.id calls now.moved.own));
          timely = λ events told. timely_more id events run.calls calls (run.timely events told)
              (subst (λ (i : ℕ). AreTimely i (events ++ run.calls) calls) run.same (now.moved.timely (events ++ run.calls) (run.led.told events told)));
          led = led_more id run.calls calls g h k run.led (subst (λ (i : ℕ). IsLed i calls h k) run.same now.moved.led);
          bytes = run.bytes;
          out = run.out;
          flowed = advanced_stands old new h k run.calls run.bytes run.out run.flowed now;
          taken = run.taken;
          put = run.put;
          input = λ over. run.input (sym now.ended ∙ over);
        }

  plainly : (k : State) → AdvancesAsWritten old new h k → Advances old new h k
  plainly k now = record { id = now.id; ended = now.ended; moved = now.moved.moved; parts = now.parts }

  pub advances : Beginnings → (k : State) → HasRunAsWritten id secret g h old read left before after → AdvancesAsWritten old new h k → HasRunAsWritten id secret g k new read left before after
  unfolding run_advances plainly
  advances begins k was now =
      let calls = now.moved.moved.calls in
      record {
        run = run_advances k was.run (plainly k now);
        as_written = calm_more begins id was.run.calls calls g h k was.run.led (subst (λ (i : ℕ). IsLed i calls h k) was.run.same now.moved.moved.led) was.as_written now.moved.as_written;
        takes = subst (λ (i : ℕ). TakesBytes (connection_at k i)) was.run.same (now.moved.takes (subst (λ (i : ℕ). TakesBytes (connection_at h i)) (sym was.run.same) was.takes));
      }

-- ---- it is closed

or_true : (a : Bool) → (a || true) ≡ true
or_true true = refl
or_true false = refl

module _ (id : ℕ) (secret : List ℕ) (g h k : State) (f : FlowState) (read left before after : Option (List ℕ)) (run : HasRun id secret g h f read left before after) (given : IsGivenUp id h k) where
  brings_all : bytes_of_calls id (run.calls ++ given.calls) ≡ bytes_of_calls id run.calls
  brings_all = joined_more id run.calls given.calls ∙ ap (λ r. bytes_of_calls id run.calls ++ r) given.brings ∙ append-nil (bytes_of_calls id run.calls)

  pub stopped : (unwritten : List ℕ) → f.portion ≡ unwritten → HasStopped id secret g k read left before after f.piece unwritten
  stopped unwritten rest_is = record {
    calls = run.calls ++ given.calls;
    opens = (run.opens.0 ++ given.calls, ap (λ cs. cs ++ given.calls) run.opens.1);
    own = own_more id run.calls given.calls run.own (moves_own id given.calls given.own);
    timely = λ events told. timely_more id events run.calls given.calls (run.timely events told) (given.timely (events ++ run.calls));
    led = led_more id run.calls given.calls g h k run.led given.led;
    taken = subst (Consumes read left) (run.flowed.all_read ∙ ap (λ (i : ℕ). bytes_of_calls i run.calls ++ f.piece) run.same ∙ ap (λ r. r ++ f.piece) (sym brings_all)) run.taken;
    out = run.out;
    put = run.put;
    handed_out = handed_more id run.calls given.calls ∙ ap (λ r. r ++ handed id given.calls) (ap (λ (i : ℕ). handed i run.calls) (sym run.same) ∙ run.flowed.all_written)
        ∙ ap (λ r. (run.out ++ f.portion) ++ r) given.gives ∙ append-nil (run.out ++ f.portion) ∙ ap (λ r. run.out ++ r) rest_is;
    over = given.over;
  }

-- ---- where it rests

-- nothing is left of a flow that doesn't want to write, but what stands behind an item that closes
quiet : (w : Want) (f : FlowState) (held : Option ConnectionState) → Stands w f → RestsAt w f held → w ≢ want.Write → (f.portion ≡ []) × (waiting_in held ≡ []) × ((f.piece ≡ []) ⊎ IsTrue (is_closed_in held))
quiet want.Read f held stands rests other = (stands.1, rests.0, inl stands.0)
quiet want.Advance f held stands rests other = absurd rests
quiet want.Write f held stands rests other = absurd (other refl)
quiet want.Nothing f held stands rests other = (stands, rests.0, ⊎_elim (λ over. inl over.1) (λ closed. inr closed) rests.1)

open_stage : (st : Stage) → stage_refusal st ≡ None → is_over st ≡ false
open_stage stage.Open takes = refl
open_stage stage.Ended takes = cc
open_stage stage.Cut takes = cc

open_is : (st : Stage) → is_over st ≡ false → st ≡ stage.Open
open_is stage.Open none = refl
open_is stage.Ended none = cc
open_is stage.Cut none = cc

left_so : (a b : Bool) → b ≡ false → (a || b) ≡ true → a ≡ true
left_so true b none so = refl
left_so false b none so = cc

-- what is held tells that an item that closes was completed
closed_by : (g : State) (id : ℕ) (events : List Event) → TakesBytes (connection_at g id) → IsTrue (is_closed_in (connection_at g id)) → Faithful g events → is_left_closed (rest (bytes_of_calls id events)) ≡ true
closed_by g id events takes closed told = at (connection_at g id) takes closed (told.each id)
  where
    at : (held : Option ConnectionState) → TakesBytes held → IsTrue (is_closed_in held) → FaithfulAt g.settings id held events → is_left_closed (rest (bytes_of_calls id events)) ≡ true
    at None takes closed told = cc
    at (Some held) takes closed told =
        let going = open_stage held.stage takes in
        sym (ap is_left_closed (told.read (open_is held.stage going))) ∙ left_so (is_left_closed held.conn) (is_over held.stage) going closed

module _ (id : ℕ) (secret : List ℕ) (g h k : State) (f : FlowState) (read left before after : Option (List ℕ)) where
  pub served : Beginnings → HasRunAsWritten id secret g h f read left before after → IsSoundFlow f → Rests f h → f.want ≢ want.Write → IsGivenUp f.id h k → IsServed id secret g k read left before after
  unfolding stopped
  served begins was sound rests other gave =
      let run = was.run in
      let given : IsGivenUp id h k = subst (λ (i : ℕ). IsGivenUp i h k) run.same gave in
      let still = quiet f.want f (connection_at h f.id) sound.stands rests other in
      record {
        unbrought = f.piece;
        stopped = stopped id secret g h k f read left before after run given [] still.0;
        as_written = calm_more begins id run.calls given.calls g h k run.led given.led was.as_written given.as_written;
        ended = ap (list_any is_end) (filter-append (is_event_of id) run.calls given.calls) ∙ list_any-append is_end (calls_of id run.calls) (calls_of id given.calls)
            ∙ ap (λ r. has_ended id run.calls || r) (given.ends was.takes) ∙ or_true (has_ended id run.calls);
        behind = ⊎_elim (λ piece. inl piece)
            (λ closed. inr (λ events told.
            ap (λ bytes. is_left_closed (rest bytes)) (joined_more id events (run.calls ++ given.calls) ∙ ap (λ r. bytes_of_calls id events ++ r) (brings_all id secret g h k f read left before after run given) ∙ sym (joined_more id events run.calls))
            ∙ closed_by h id (events ++ run.calls) was.takes (subst (λ (i : ℕ). IsTrue (is_closed_in (connection_at h i))) run.same closed) (run.led.told events told)))
            still.2;
        all = given.waits ∙ ap (λ (i : ℕ). waiting h i) (sym run.same) ∙ still.1;
      }

  pub stops : (fault : FlowFault) → HasRun id secret g h f read left before after → IsSoundFlow f → FlowStopsAt fault f h → IsGivenUp f.id h k → IsFlowStopped fault id secret g k read left before after
  stops Refused run sound at gave = absurd at
  stops ReadFailed run sound at gave =
      let given : IsGivenUp id h k = subst (λ (i : ℕ). IsGivenUp i h k) run.same gave in
      let stands : Stands want.Read f = subst (λ w. Stands w f) at.0 sound.stands in
      subst (λ piece. HasStopped id secret g k read left before after piece []) stands.0
      (stopped id secret g h k f read left before after run given [] stands.1)
  stops WriteFailed run sound at gave =
      let given : IsGivenUp id h k = subst (λ (i : ℕ). IsGivenUp i h k) run.same gave in
      (f.piece, f.portion, at, stopped id secret g h k f read left before after run given f.portion refl)
  stops NoMemory run sound at gave =
      let given : IsGivenUp id h k = subst (λ (i : ℕ). IsGivenUp i h k) run.same gave in
      inr (f.piece, f.portion, stopped id secret g h k f read left before after run given f.portion refl)
