-- Where a flow stands, call by call.
use Rattle.std.proofs.Common.{◌≡◌, ◌≢◌, ℕ, List, [], ◌∷◌, ◌++◌, false, cond, ne_eqb, refl, sym, ap, subst, ◌∙◌, append_assoc, Option, Some, None}
use Rattle.std.specs.List.{flat_map}
use Rattle.std.proofs.lemmas.List.{append-nil}
use Rattle.std.proofs.lemmas.List.Elements.{All-head, All-tail}
use Rattle.http_edge.specs.Frame.{frame}
use Rattle.gate_core.specs.Settings.{GatewaySettings}
use Rattle.gate_core.specs.Events.{Event, Open, caller_of, piece_in, bytes_given_by, is_caller, is_event_of, calls_of, bytes_of_calls, handed}
use Rattle.gate_core.specs.ConnectionState.{State, connection_at}
use Rattle.gate_core.specs.Replied.{AreAnswered}
use Rattle.gate_core.specs.Faithful.{Faithful, FaithfulAt}
use Rattle.gate_flow.specs.State.{FlowState, opened_flow}
use Rattle.gate_flow.specs.Led.{AreOf}
use Rattle.gate_flow.specs.Steps.{AreBytesRead, AreBytesWritten, Advances, Rests, RestsAt}
use Rattle.gate_flow.specs.Flowed.{Flowed}
use Rattle.gate_flow.proofs.Leading.{joined_more, handed_more, joined_one, handed_one}

untold : (g : State) (events : List Event) (id : ℕ) → Faithful g events → connection_at g id ≡ None → FaithfulAt g.settings id None events
untold g events id told none = subst (λ o. FaithfulAt g.settings id o events) none (told.each id)

pub opened_stands : (g : State) (events : List Event) (id : ℕ) (secret : List ℕ) → Faithful g events → connection_at g id ≡ None → Flowed (opened_flow id) (events ++ Open id secret ∷ []) [] []
opened_stands g events id secret told none =
    let was = untold g events id told none in
    record {
      all_read = sym (append-nil (bytes_of_calls id (events ++ Open id secret ∷ [])) ∙ joined_more id events (Open id secret ∷ []) ∙ ap (λ r. r ++ bytes_of_calls id (Open id secret ∷ [])) was.read ∙ joined_one id (Open id secret) refl);
      all_written = handed_more id events (Open id secret ∷ []) ∙ ap (λ r. r ++ handed id (Open id secret ∷ [])) was.given ∙ handed_one id (Open id secret) refl;
    }

pub read_stands : (old new : FlowState) (events : List Event) (read written : List ℕ) (before after : Option (List ℕ)) → Flowed old events read written → (now : AreBytesRead old new before after) → Flowed new events (read ++ now.more) written
read_stands old new events read written before after was now = record {
  all_read = ap (λ r. r ++ now.more) was.all_read ∙ append_assoc (bytes_of_calls old.id events) old.piece now.more
      ∙ ap (λ r. bytes_of_calls old.id events ++ r) (sym now.piece) ∙ ap (λ (k : ℕ). bytes_of_calls k events ++ new.piece) (sym now.id);
  all_written = ap (λ (k : ℕ). handed k events) now.id ∙ was.all_written ∙ ap (λ r. written ++ r) (sym now.portion);
}

pub wrote_stands : (old new : FlowState) (events : List Event) (read written : List ℕ) (before after : Option (List ℕ)) → Flowed old events read written → (now : AreBytesWritten old new before after) → Flowed new events read (written ++ now.some)
wrote_stands old new events read written before after was now = record {
  all_read = was.all_read ∙ ap (λ r. bytes_of_calls old.id events ++ r) (sym now.piece) ∙ ap (λ (k : ℕ). bytes_of_calls k events ++ new.piece) (sym now.id);
  all_written = ap (λ (k : ℕ). handed k events) now.id ∙ was.all_written ∙ ap (λ r. written ++ r) now.portion ∙ sym (append_assoc written now.some new.portion);
}

pub advanced_stands : (old new : FlowState) (g h : State) (events : List Event) (read written : List ℕ) → Flowed old events read written → (now : Advances old new g h) → Flowed new (events ++ now.moved.calls) read written
advanced_stands old new g h events read written was now =
    let calls = now.moved.calls in
    record {
      all_read = was.all_read ∙ ap (λ r. bytes_of_calls old.id events ++ r) now.moved.brought ∙ sym (append_assoc (bytes_of_calls old.id events) (bytes_of_calls old.id calls) new.piece)
          ∙ ap (λ r. r ++ new.piece) (sym (joined_more old.id events calls)) ∙ ap (λ (k : ℕ). bytes_of_calls k (events ++ calls) ++ new.piece) (sym now.id);
      all_written = ap (λ (k : ℕ). handed k (events ++ calls)) now.id ∙ handed_more old.id events calls ∙ ap (λ r. r ++ handed old.id calls) was.all_written
          ∙ append_assoc written old.portion (handed old.id calls) ∙ ap (λ r. written ++ r) (sym now.moved.handed_out);
    }

other_call : (mine id : ℕ) (e : Event) → id ≢ mine → caller_of e ≡ Some id → is_event_of mine e ≡ false
other_call mine id e apart is = ap (is_caller mine) is ∙ ne_eqb id mine apart

none_of : (mine id : ℕ) (calls : List Event) → id ≢ mine → AreOf id calls → calls_of mine calls ≡ []
none_of mine id [] apart own = refl
none_of mine id (e ∷ calls) apart own =
    ap (λ b. cond b (e ∷ calls_of mine calls) (calls_of mine calls)) (other_call mine id e apart (All-head (λ (x : Event). caller_of x ≡ Some id) e calls own))
    ∙ none_of mine id calls apart (All-tail (λ (x : Event). caller_of x ≡ Some id) e calls own)

pub others_stand : (f : FlowState) (events calls : List Event) (id : ℕ) (read written : List ℕ) → Flowed f events read written → id ≢ f.id → AreOf id calls → Flowed f (events ++ calls) read written
others_stand f events calls id read written was apart own =
    let none = none_of f.id id calls apart own in
    record {
      all_read = was.all_read ∙ ap (λ r. r ++ f.piece) (sym (joined_more f.id events calls ∙ ap (λ r. bytes_of_calls f.id events ++ r) (ap (flat_map piece_in) none) ∙ append-nil (bytes_of_calls f.id events)));
      all_written = handed_more f.id events calls ∙ ap (λ r. handed f.id events ++ r) (ap (flat_map bytes_given_by) none) ∙ append-nil (handed f.id events) ∙ was.all_written;
    }

pub rests_on : (f : FlowState) (g h : State) → connection_at h f.id ≡ connection_at g f.id → Rests f g → Rests f h
rests_on f g h same rests = subst (λ o. RestsAt f.want f o) (sym same) rests

pub said_so : (f : FlowState) (events : List Event) (read written waits said : List ℕ) → Flowed f events read written → handed f.id events ++ waits ≡ said → written ++ (f.portion ++ waits) ≡ said
said_so f events read written waits said was says = sym (append_assoc written f.portion waits) ∙ ap (λ r. r ++ waits) (sym was.all_written) ∙ says

pub answered_so : (f : FlowState) (settings : GatewaySettings) (events : List Event) (read written : List ℕ) → Flowed f events read written
    → (more : List ℕ) × AreAnswered settings (frame (bytes_of_calls f.id events)) (handed f.id events ++ more)
    → (more : List ℕ) × AreAnswered settings (frame (bytes_of_calls f.id events)) (written ++ (f.portion ++ more))
answered_so f settings events read written was (more, are) =
    (more, subst (AreAnswered settings (frame (bytes_of_calls f.id events))) (ap (λ r. r ++ more) was.all_written ∙ append_assoc written f.portion more) are)
