-- Runs of calls.
use Rattle.std.proofs.Common.{◌≡◌, ◌≤◌, ◌-◌, ℕ, suc, Bool, true, false, List, [], ◌∷◌, ◌++◌, length, get_or, take, drop, Result, Ok, Err, is_ok, refl, sym, ap, subst, ◌∙◌, arith, append_assoc, inl, inr}
use Rattle.std.proofs.Math.Seq.{take-length}
use Rattle.std.specs.Prelude.{IsTrue, IsErr, OnOk, OnErr}
use Rattle.share_store.specs.Shares.{Shares}
use Rattle.share_store.specs.declared.fault.StoreFault.{StoreFault}
use Rattle.share_shelf.specs.CrashStates.{IsEither, LeavesOnly}
use Rattle.kept_store.specs.Step.{Crashes}
use Rattle.kept_store.specs.Calls.{done, after_call, after_calls, MayBeLeft, IsRun}
use Rattle.kept_store.specs.declared.calls.Call.{Call}

-- how a call was answered
pub answered_is : (call : Call) (m n : Shares) (r : Result Bool StoreFault) (ok : Bool) → ok ≡ is_ok r → OnOk r (n ≡ done call m) → OnErr r (n ≡ m) → n ≡ after_call call ok m
answered_is call m n (Ok x) ok is did not_done = did ∙ ap (λ b. after_call call b m) (sym is)
answered_is call m n (Err e) ok is did not_done = not_done ∙ ap (λ b. after_call call b m) (sym is)

-- the first call, and those after it
pub first_call : (calls : List Call) (x : Call) → 1 ≤ length calls → x ≡ get_or calls 0 x → calls ≡ x ∷ take (length calls - 1) (drop 1 calls)
first_call [] x some is = absurd (omega arith)
first_call (y ∷ ys) x some is =
    let long : length (y ∷ ys) - 1 ≡ length ys = omega arith in
    ap (λ (l : List Call). y ∷ l) (sym (take-length ys)) ∙ ap (λ (z : Call). z ∷ take (length ys) ys) (sym is) ∙ ap (λ k. x ∷ take k ys) (sym long)

pub refused_so : {X E : Type 0} (r : Result X E) (P : Type 0) → IsErr r → OnOk r P
refused_so (Ok x) P err = cc
refused_so (Err e) P err = tt

pub granted_so : {X E : Type 0} (r : Result X E) (P Q : Type 0) → (P → Q) → OnOk r P → OnOk r Q
granted_so (Ok x) P Q then h = then h
granted_so (Err e) P Q then h = tt

-- one more answer
pub more_answers : (old pushed new : List Bool) (ok : Bool) (oks : List Bool) (calls rest : List Call) (call : Call) → pushed ≡ old ++ ok ∷ [] → calls ≡ call ∷ rest
    → (new ≡ pushed ++ oks) × (length oks ≡ length rest) → (new ≡ old ++ ok ∷ oks) × (length (ok ∷ oks) ≡ length calls)
more_answers old pushed new ok oks calls rest call is cut h =
    (h.0 ∙ ap (λ (l : List Bool). l ++ oks) is ∙ append_assoc old (ok ∷ []) oks, ap suc h.1 ∙ sym (ap (λ (l : List Call). length l) cut))

module _ {H : Type 0} (moment : H → ℕ) (left_since : H → ℕ → Shares → Type 0) (honest : H → Bool) where
  pub none_run : (calls : List Call) (down : Bool) (shelf : H) (m : Shares) → IsRun moment left_since honest calls [] down shelf shelf m m
  none_run [] down shelf m = record {
    stands = refl;
    crash = λ d h. record { later = omega arith; since = λ t c le left. inl left };
    left_alone = λ d. refl;
  }
  none_run (call ∷ calls) down shelf m = record {
    stands = refl;
    crash = λ d h. record { later = omega arith; since = λ t c le left. inl left };
    left_alone = λ d. refl;
  }

  pub more_run : (call : Call) (calls : List Call) (ok : Bool) (oks : List Bool) (down then : Bool) (a b d : H) (m n e : Shares)
      → Crashes moment left_since honest down a b m (done call m) → n ≡ after_call call ok m → (down ≡ true → then ≡ true) → IsRun moment left_since honest calls oks then b d n e
      → IsRun moment left_since honest (call ∷ calls) (ok ∷ oks) down a d m e
  more_run call calls ok oks down then a b d m n e step is stays run = record {
    stands = run.stands ∙ ap (after_calls calls oks) is;
    crash = λ up h. by_case (step.up up h) h then refl;
    left_alone = λ off. run.left_alone (stays off) ∙ step.left_alone off;
  }
    where
      by_case : LeavesOnly moment left_since a b (IsEither m (done call m)) → IsTrue (honest a) → (t : Bool) → then ≡ t → LeavesOnly moment left_since a d (MayBeLeft (call ∷ calls) (ok ∷ oks) m)
      by_case first h true off =
          let same : d ≡ b = run.left_alone off in
          record {
            later = subst (λ (s : H). moment a ≤ moment s) (sym same) first.later;
            since = λ t c le left. elim (first.since t c le (subst (λ (s : H). left_since s t c) same left)) [ inl was ↦ inl was | inr now ↦ inr (inl now) ];
          }
      by_case first h false on =
          let honest_b : IsTrue (honest b) = subst IsTrue (sym step.same_honest) h in
          let rest = run.crash on honest_b in
          let after_a : moment a ≤ moment b = first.later in
          let after_b : moment b ≤ moment d = rest.later in
          record {
            later = omega arith;
            since = λ t c le left. elim (rest.since t c (omega arith) left) [
              | inl was ↦ elim (first.since t c le was) [ inl long ↦ inl long | inr now ↦ inr (inl now) ]
              | inr then' ↦ inr (inr (subst (λ (s : Shares). MayBeLeft calls oks s c) is then'))
            ];
          }

  -- a run of the first call and then the others
  pub cut_run : (calls : List Call) (call : Call) (rest : List Call) (ok : Bool) (oks : List Bool) (down then : Bool) (a b d : H) (m n e : Shares) → calls ≡ call ∷ rest
      → Crashes moment left_since honest down a b m (done call m) → n ≡ after_call call ok m → (down ≡ true → then ≡ true) → IsRun moment left_since honest rest oks then b d n e
      → IsRun moment left_since honest calls (ok ∷ oks) down a d m e
  cut_run calls call rest ok oks down then a b d m n e cut step is stays run =
      subst (λ (l : List Call). IsRun moment left_since honest l (ok ∷ oks) down a d m e) (sym cut) (more_run call rest ok oks down then a b d m n e step is stays run)
