-- What a flow is after the gateway was called for it.
use Rattle.std.proofs.Common.{◌≡◌, ◌≢◌, ℕ, suc, ◌≤◌, List, [], ◌∷◌, length, take, Bool, true, false, refl, sym, ap, subst, ◌∙◌, arith}
use Rattle.std.specs.Prelude.{IsTrue, ◌↔◌, MatchBool}
use Rattle.std.proofs.lemmas.List.{length-take}
use Rattle.gate_core.specs.Events.{Take}
use Rattle.gate_core.specs.ConnectionState.{State, connection_at, bytes_refusal}
use Rattle.gate_core.specs.Came.{GoesOn}
use Rattle.gate_flow.specs.declared.want.Want.{Want}
use Rattle.gate_flow.specs.declared.want.Want.TheVariants.{Read, Advance, Write, Nothing}
use Rattle.gate_flow.specs.State.{FlowState, IsSoundFlow, Stands}
use Rattle.gate_flow.specs.Led.{IsLed, IsMoved, IsMovedAsWritten}
use Rattle.gate_flow.specs.Steps.{Advances, AdvancesAsWritten}
use Rattle.gate_flow.proofs.Leading.{Beginnings}
use Rattle.gate_flow.specs.Brought.{AreBrought, AreInParts, IsEnough}
use Rattle.gate_flow.proofs.Moving.{failing_behind, parts_behind, parts_taken}

some_taken : (n : ℕ) (waits : List ℕ) → waits ≢ [] → take (suc n) waits ≢ []
some_taken n [] some = absurd (some refl)
some_taken n (x ∷ waits) some = λ none. cc

-- a test of whether bytes wait
pub waits_so : (b : Bool) (waits : List ℕ) → IsTrue b ↔ (waits ≢ []) → MatchBool b (waits ≢ []) (waits ≡ [])
waits_so true waits says = says.0 refl
waits_so false [] says = refl
waits_so false (x ∷ waits) says = let some : IsTrue false = says.1 (λ e. cc) in cc

module _ (old : FlowState) (id : ℕ) (piece portion : List ℕ) (ended : Bool) (want : Want) where
  abbrev before : FlowState
  before = record { id = id; piece = piece; portion = portion; ended = ended; want = want }

  abbrev pub after : List ℕ → List ℕ → Want → FlowState
  after left more next = record { id = id; piece = left; portion = more; ended = ended; want = next }

  module _ (is : before ≡ old) (g m : State) (left : List ℕ) where
    advances : (h : State) → ((now : IsMoved id g h piece left portion portion) × AreInParts id now.calls g h piece left) → Advances old (after left portion want) g h
    advances h (now, parts) = subst (λ o. Advances o (after left portion want) g h) is record { id = refl; ended = refl; moved = now; parts = parts }

    calmly : (h : State) (more : List ℕ) (next : Want) → IsEnough left (connection_at m id)
        → ((now : IsMovedAsWritten id g h piece left portion more) × ((parts : AreInParts id now.moved.calls g h piece left) × (parts.at ≡ m))) → AdvancesAsWritten old (after left more next) g h
    calmly h more next enough (now, (parts, at)) = subst (λ o. AdvancesAsWritten o (after left more next) g h) is record {
      id = refl;
      ended = refl;
      moved = now;
      parts = parts;
      enough = subst (λ (s : State). IsEnough left (connection_at s id)) (sym at) enough;
    }

    pub failing : ((now : IsMoved id g m piece left [] []) × AreInParts id now.calls g m piece left) → Advances old (after left portion want) g m
    failing is_in = advances m (failing_behind id g m piece left portion is_in)

    module _ (brought : (now : IsMovedAsWritten id g m piece left [] []) × AreBrought id now.moved.calls g m piece left) where
      behind : (now : IsMovedAsWritten id g m piece left portion portion) × ((parts : AreInParts id now.moved.calls g m piece left) × (parts.at ≡ m))
      behind = parts_behind id g m piece left portion brought

      -- a further call was refused and changed nothing
      pub failing_then : (h : State) → h ≡ m → Advances old (after left portion want) g h
      failing_then h same = subst (λ s. Advances old (after left portion want) g s) (sym same) (advances m (behind.0.moved, behind.1.0))

      module _ (enough : IsEnough left (connection_at m id)) where
        pub staying : (next : Want) → AdvancesAsWritten old (after left portion next) g m
        staying next = calmly m portion next enough behind

        pub writing : Beginnings → (h : State) (given items : List ℕ) → given ≡ items → portion ≡ [] → bytes_refusal (connection_at h id) ≡ bytes_refusal (connection_at m id) → IsLed id (Take id items ∷ []) m h → GoesOn m h (Take id items) → AdvancesAsWritten old (after left given Write) g h
        writing begins h given items same none stays led on = subst (λ (gs : List ℕ). AdvancesAsWritten old (after left gs Write) g h) (sym same)
            (calmly h items Write enough (parts_taken id g m piece left portion brought begins h items stays led on none))

  -- ---- it is sound

  module _ (is : before ≡ old) (advancing : old.want ≡ Advance) (sound : IsSoundFlow before) where
    was : want ≡ Advance
    was = ap (λ (f : FlowState). f.want) is ∙ advancing

    pub no_portion : portion ≡ []
    no_portion = subst (λ w. Stands w before) was sound.stands

    module _ (left : List ℕ) (less : length left ≤ length piece) where
      fits : length left ≤ 65536
      fits = omega (arith, less, sound.piece)

      pub sound_failing : IsSoundFlow (after left portion want)
      sound_failing = record { piece = fits; portion = sound.portion; stands = subst (λ w. Stands w (after left portion want)) (sym was) no_portion }

      pub sound_writing : (waits given : List ℕ) → waits ≢ [] → given ≡ take 65536 waits → IsSoundFlow (after left given Write)
      sound_writing waits given some is_given = record {
        piece = fits;
        portion = omega (arith, ap length is_given, length-take 65536 waits);
        stands = λ none. some_taken 65535 waits some (sym is_given ∙ none);
      }

      pub sound_ending : IsSoundFlow (after left portion Nothing)
      sound_ending = record { piece = fits; portion = sound.portion; stands = no_portion }

      pub sound_reading : left ≡ [] → ended ≡ false → IsSoundFlow (after left portion Read)
      sound_reading none goes_on = record { piece = fits; portion = sound.portion; stands = (none, no_portion, goes_on) }
