-- Where a flow stops that runs.
use Rattle.std.proofs.Common.{◌≡◌, ◌≢◌, ℕ, ◌+◌, ◌≤◌, List, [], ◌++◌, length, Bool, true, false, ◌⊎◌, ⊎_elim, Option, Some, None, Result, Ok, Err, sym, subst, ap, ◌∙◌, inl, refl, length-append, arith}
use Rattle.std.proofs.KnownBytes.{Consumes-nil, Consumes-trans}
use Rattle.std.specs.Prelude.{MatchBool, MatchOption, IsOkUnless, OnOk}
use Rattle.gate_core.specs.declared.fault.GatewayFault.{GatewayFault}
use Rattle.gate_core.specs.ConnectionState.{State, connection_at}
use Rattle.gate_flow.specs.declared.fault.FlowFault.{FlowFault}
use Rattle.gate_flow.specs.declared.fault.FlowFault.TheVariants.{Refused, ReadFailed, WriteFailed, NoMemory}
use Rattle.gate_flow.specs.declared.want.Want.{Want}
use Rattle.gate_flow.specs.declared.want.Want.TheVariants as want
use Rattle.gate_flow.specs.State.{FlowState, IsSoundFlow, Stands, opened_flow}
use Rattle.gate_flow.specs.Run.{HasRunAsWritten}
use Rattle.gate_flow.specs.Faults.{IsReadFault, IsWriteFault, IsCallFault}
use Rattle.gate_flow.specs.Led.{TakesBytes}
use Rattle.gate_core.specs.ConnectionState.{bytes_refusal}
use Rattle.gate_flow.specs.Steps.{Rests, RestsAt, AreBytesRead}
use Rattle.gate_flow.specs.Served.{FlowStopsAt, IsFlowStopped}
use Rattle.gate_tasks.specs.Turns.{IsReadWithin, most_at_a_time}

reading_stops : (fault : FlowFault) (g : State) (f : FlowState) → f.want ≡ want.Read → Rests f g → IsReadFault fault → FlowStopsAt fault f g
reading_stops Refused g f wants rests why = absurd why
reading_stops ReadFailed g f wants rests why = (wants, rests)
reading_stops WriteFailed g f wants rests why = absurd why
reading_stops NoMemory g f wants rests why = tt

pub read_stops : (fault : FlowFault) (g : State) (f f2 : FlowState) → f2 ≡ f → f.want ≡ want.Read → Rests f g → IsReadFault fault → FlowStopsAt fault f2 g
read_stops fault g f f2 same wants rests why = subst (λ x. FlowStopsAt fault x g) (sym same) (reading_stops fault g f wants rests why)

writing_stops : (fault : FlowFault) (g : State) (f : FlowState) → f.portion ≢ [] → IsWriteFault fault → FlowStopsAt fault f g
writing_stops Refused g f some why = absurd why
writing_stops ReadFailed g f some why = absurd why
writing_stops WriteFailed g f some why = some
writing_stops NoMemory g f some why = absurd why

pub write_stops : (fault : FlowFault) (g : State) (f f2 : FlowState) → f2 ≡ f → f.portion ≢ [] → IsWriteFault fault → FlowStopsAt fault f2 g
write_stops fault g f f2 same some why = subst (λ x. FlowStopsAt fault x g) (sym same) (writing_stops fault g f some why)

-- a call of the gateway that fails where bytes are taken of the connection fails for memory
pub call_stops : (fault : FlowFault) (g h : State) (f : FlowState) (id own : ℕ) → IsCallFault (connection_at g own) fault → own ≡ id → TakesBytes (connection_at g id) → FlowStopsAt fault f h
call_stops Refused g h f id own why same takes = absurd (why (subst (λ i. bytes_refusal (connection_at g i) ≡ None) (sym same) takes))
call_stops ReadFailed g h f id own why same takes = absurd why
call_stops WriteFailed g h f id own why same takes = absurd why
call_stops NoMemory g h f id own why same takes = tt

-- bytes are at hand where a flow wants to write
some_at_hand : (f : FlowState) → IsSoundFlow f → f.want ≡ want.Write → f.portion ≢ []
some_at_hand f sound wants = subst (λ w. Stands w f) wants sound.stands

pub at_hand : (b : Bool) (w : Want) (f : FlowState) → w ≡ f.want → IsSoundFlow f → MatchBool b (w ≡ want.Write) (w ≢ want.Write) → MatchBool b ((f.want ≡ want.Write) × (f.portion ≢ [])) (f.want ≢ want.Write)
at_hand true w f is sound so = (sym is ∙ so, some_at_hand f sound (sym is ∙ so))
at_hand false w f is sound so = λ other. so (is ∙ other)

pub if_true : (P Q : Type 0) (b : Bool) → b ≡ true → MatchBool b P Q → P
if_true P Q b is so = subst (λ x. MatchBool x P Q) is so

-- ---- where it rests

pub written_rests : (f : FlowState) (g : State) → (f.want ≡ want.Advance) ⊎ (f.want ≡ want.Write) → f.want ≢ want.Advance → Rests f g
written_rests f g next other = ⊎_elim (λ advance. absurd (other advance)) (λ write. subst (λ w. RestsAt w f (connection_at g f.id)) (sym write) tt) next

pub read_rests : (f f2 : FlowState) (g : State) → (f2.want ≡ want.Advance) ⊎ (f2 ≡ f) → Rests f g → f2.want ≢ want.Advance → Rests f2 g
read_rests f f2 g next rests other = ⊎_elim (λ advance. absurd (other advance)) (λ same. subst (λ x. Rests x g) (sym same) rests) next

-- ---- outcomes

pub begun_so : (id : ℕ) (secret : List ℕ) (g h : State) (f : FlowState) (r w : Option (List ℕ)) → f ≡ opened_flow id → HasRunAsWritten id secret g h (opened_flow id) r r w w → HasRunAsWritten id secret g h f r r w w
begun_so id secret g h f r w is begun = subst (λ x. HasRunAsWritten id secret g h x r r w w) (sym is) begun

pub on_ok_all : {T E A B C D : Type 0} (r : Result T E) → OnOk r A → OnOk r B → OnOk r C → (A → B → C → D) → OnOk r D
on_ok_all (Ok v) a b c all = all a b c
on_ok_all (Err e) a b c all = tt

-- an id that isn't opened leaves all as it was
pub unopened_stops : {T : Type 0} (o : Option GatewayFault) (fault : FlowFault) (r : Result T FlowFault) (id : ℕ) (secret : List ℕ) (g k : State) (read before : Option (List ℕ)) → r ≡ Err fault
    → MatchOption o (IsOkUnless r NoMemory) (λ e. r ≡ Err Refused) → k ≡ g → IsFlowStopped fault id secret g k read read before before
unopened_stops o Refused r id secret g k read before is answer same = (same, refl, refl)
unopened_stops None ReadFailed r id secret g k read before is answer same = absurd (clash (subst (λ x. IsOkUnless x NoMemory) is answer))
  where
    clash : ReadFailed ≡ NoMemory → ⊥
    clash e = cc
unopened_stops (Some e) ReadFailed r id secret g k read before is answer same = cc
unopened_stops None WriteFailed r id secret g k read before is answer same = absurd (clash (subst (λ x. IsOkUnless x NoMemory) is answer))
  where
    clash : WriteFailed ≡ NoMemory → ⊥
    clash e = cc
unopened_stops (Some e) WriteFailed r id secret g k read before is answer same = cc
unopened_stops o NoMemory r id secret g k read before is answer same = inl (same, refl, refl)

-- ---- how much is read

pub none_read : (most : ℕ) (a : Option (List ℕ)) → IsReadWithin most a a
none_read most a = record { bytes = []; taken = Consumes-nil a; within = omega arith }

pub within_more : (m n : ℕ) (a b : Option (List ℕ)) → m ≤ n → IsReadWithin m a b → IsReadWithin n a b
within_more m n a b less read = record { bytes = read.bytes; taken = read.taken; within = omega (arith, read.within, less) }

pub read_on : (m n most : ℕ) (a b c : Option (List ℕ)) → m + n ≤ most → IsReadWithin m a b → IsReadWithin n b c → IsReadWithin most a c
read_on m n most a b c fits one two = record {
  bytes = one.bytes ++ two.bytes;
  taken = Consumes-trans a b c one.bytes two.bytes one.taken two.taken;
  within = omega (arith, length-append one.bytes two.bytes, one.within, two.within, fits);
}

-- a flow's buffers are bounded
pub once_within : (f f2 : FlowState) (a b : Option (List ℕ)) → AreBytesRead f f2 a b → IsSoundFlow f2 → IsReadWithin most_at_a_time a b
once_within f f2 a b read sound = record { bytes = read.more; taken = read.taken; within = omega (arith, length-append f.piece read.more, ap length read.piece, sound.piece) }

-- and where it stays as it was, nothing was read
pub still_within : (f f2 : FlowState) (a b : Option (List ℕ)) (most : ℕ) → AreBytesRead f f2 a b → f2 ≡ f → IsReadWithin most a b
still_within f f2 a b most read same = record { bytes = read.more; taken = read.taken; within = omega (arith, length-append f.piece read.more, ap length read.piece, ap (λ x. length x.piece) same) }
