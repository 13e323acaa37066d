-- Calls that store nothing.
use Rattle.std.proofs.Common.{◌≡◌, ◌≢◌, ℕ, List, Bool, true, false, cond, Option, Some, None, Result, Ok, Err, IfOk, refl, sym, ap, subst, ◌∙◌, inl, inr}
use Rattle.std.proofs.lemmas.Result.{IfOk-weaker}
use Rattle.std.specs.declared.alloc.AllocError.{AllocError}
use Rattle.caps.specs.declared.cap.Cap.{Cap}
use Rattle.caps.specs.declared.cap.VerifyCap.{VerifyCap}
use Rattle.caps.specs.Fields.{ReadValue}
use Rattle.caps.specs.StorageIndex.{index_of}
use Rattle.grid.specs.Standing.{standing}
use Rattle.grid.specs.GridState.{GridState, stood, IsHonest, NoneFailed}
use Rattle.grid.specs.Leaves.{Leaves, IsUnchanged}
use Rattle.grid.proofs.Turns.{leaves_none, leaves_both, unchanged_none, unchanged_both, calm_first, calm_second}
use Rattle.file_shares.specs.Bound.{Bound}
use Rattle.file_shares.specs.Check.{HealthValue, check}
use Rattle.file_shares.specs.Fit.{fit}
use Rattle.chk_file.specs.Look.{Look, look_in}
use Rattle.chk_file.specs.Tables.{table_of}
use Rattle.path_walk.specs.Walk.{walked}
use Rattle.path_walk.specs.Way.{NamesLeadTo, WalkStops}
use Rattle.path_walk.specs.declared.fault.WalkFault.{WalkFault}
use Rattle.path_walk.specs.declared.fault.WalkFault.TheVariants.{NoMemory}
use Rattle.web_replies.specs.declared.reply.Reply.{Reply}
use Rattle.web_replies.specs.Replies.{json_reply, not_readable, not_enough_shares}
use Rattle.web_ops.specs.Answers.{at_end, with_bytes, walk_reply, health_text, checked_reply}
use Rattle.web_ops.specs.Replied.{MayGive, IsAtEnd, IsAnsweredFrom, IsHealth}
use Rattle.web_ops.specs.Calls.{IsFound}

-- ---- replies

-- a reply for which no store is asked
pub unasked : (Fresh : Type 0) (Fits : Reply → Type 0) (says : Look → Reply) (reply : Reply) (r : Result Reply AllocError) (g : GridState)
    → IfOk r (λ x. x ≡ reply) → Fits reply → ((look : Look) → reply ≡ says look) → IsFound Fresh Fits says r g g
unasked Fresh Fits says reply r g is fits same = record {
  leaves = leaves_none g;
  unchanged = λ honest. unchanged_none g;
  fits = IfOk-weaker r _ Fits (λ x e. subst Fits (sym e) fits) is;
  written = λ fresh honest calm. IfOk-weaker r _ _ (λ x e. e ∙ same (look_in (stood g))) is;
}

-- memory was refused
pub refused : (Fresh : Type 0) (Fits : Reply → Type 0) (says : Look → Reply) (e : AllocError) (old new : GridState)
    → Leaves old new → (IsHonest old → IsUnchanged old new) → IsFound Fresh Fits says (Err e) old new
refused Fresh Fits says e old new leaves same = record { leaves = leaves; unchanged = same; fits = tt; written = λ fresh honest calm. tt }

-- ---- reads

pub read_found : (Fresh : Type 0) (f : List ℕ → Reply) (fields : ReadValue) (bytes : List ℕ) (r : Result Reply AllocError) (old new : GridState)
    → IfOk r (λ x. x ≡ f bytes) → Leaves old new → (IsHonest old → IsUnchanged old new) → Bound fields bytes
    → (Fresh → IsHonest old → NoneFailed old new → fit (table_of (stood old) (index_of fields.key)) fields ≡ Some bytes)
    → IsFound Fresh (MayGive f fields) (λ look. with_bytes f (look.gives fields)) r old new
read_found Fresh f fields bytes r old new is leaves same bound found = record {
  leaves = leaves;
  unchanged = same;
  fits = IfOk-weaker r _ _ (λ x e. inr (record { bytes = bytes; bound = bound; is = e })) is;
  written = λ fresh honest calm. IfOk-weaker r _ _ (λ x e. e ∙ ap (with_bytes f) (sym (found fresh honest calm))) is;
}

pub read_missing : (Fresh : Type 0) (f : List ℕ → Reply) (fields : ReadValue) (r : Result Reply AllocError) (old new : GridState)
    → IfOk r (λ x. x ≡ not_enough_shares) → Leaves old new → (IsHonest old → IsUnchanged old new)
    → (IsHonest old → NoneFailed old new → fit (table_of (stood old) (index_of fields.key)) fields ≡ None)
    → IsFound Fresh (MayGive f fields) (λ look. with_bytes f (look.gives fields)) r old new
read_missing Fresh f fields r old new is leaves same found = record {
  leaves = leaves;
  unchanged = same;
  fits = IfOk-weaker r _ _ (λ x e. inl e) is;
  written = λ fresh honest calm. IfOk-weaker r _ _ (λ x e. e ∙ ap (with_bytes f) (sym (found honest calm))) is;
}

-- ---- walks

pub walked_to : (Fresh Still : Type 0) (Is : Cap → Reply → Type 0) (says : Look → Cap → Reply) (cap : Cap) (names : List (List ℕ)) (end : Cap) (r : Result Reply AllocError) (old mid new : GridState)
    → Leaves old mid → (IsHonest old → IsUnchanged old mid) → (Fresh → Still) → NamesLeadTo cap names end
    → (Fresh → IsHonest old → NoneFailed old mid → walked (look_in (stood old)).gives cap names ≡ Ok end)
    → IsFound Still (Is end) (λ look. says look end) r mid new
    → IsFound Fresh (IsAtEnd Is cap names) (λ look. at_end (says look) (walked look.gives cap names)) r old new
walked_to Fresh Still Is says cap names end r old mid new leaves same stays leads reached found = record {
  leaves = leaves_both old mid new leaves found.leaves;
  unchanged = λ honest. unchanged_both old mid new (same honest) (found.unchanged (leaves.honest honest));
  fits = IfOk-weaker r _ _ (λ x fits. inl (end, (leads, fits))) found.fits;
  written = λ fresh honest calm.
      IfOk-weaker r _ _ (λ x e. e ∙ ap (λ maps. says (look_in (standing maps)) end) (same honest).maps
      ∙ ap (at_end (says (look_in (stood old)))) (sym (reached fresh honest (calm_first old mid new leaves found.leaves calm))))
      (found.written (stays fresh) (leaves.honest honest) (calm_second old mid new leaves found.leaves calm));
}

pub walk_stopped : (Fresh : Type 0) (Is : Cap → Reply → Type 0) (says : Look → Cap → Reply) (cap : Cap) (names : List (List ℕ)) (fault : WalkFault) (r : Result Reply AllocError) (old new : GridState)
    → Leaves old new → (IsHonest old → IsUnchanged old new) → (fault ≢ NoMemory → WalkStops cap names fault)
    → (Fresh → IsHonest old → NoneFailed old new → fault ≢ NoMemory → walked (look_in (stood old)).gives cap names ≡ Err fault)
    → IfOk r (λ x. (fault ≢ NoMemory) × (x ≡ walk_reply fault))
    → IsFound Fresh (IsAtEnd Is cap names) (λ look. at_end (says look) (walked look.gives cap names)) r old new
walk_stopped Fresh Is says cap names fault r old new leaves same stops found is = record {
  leaves = leaves;
  unchanged = same;
  fits = IfOk-weaker r _ _ (λ x e. inr (fault, (stops e.0, e.1))) is;
  written = λ fresh honest calm. IfOk-weaker r _ _ (λ x e. e.1 ∙ ap (at_end (says (look_in (stood old)))) (sym (found fresh honest calm e.0))) is;
}

-- ---- where a cap leads

pub from_nowhere : (Fresh : Type 0) (b : Bool) (Is : Cap → Reply → Type 0) (says : Look → Reply) (cap : Cap) (names : List (List ℕ)) (r : Result Reply AllocError) (g : GridState)
    → b ≡ true → IfOk r (λ x. x ≡ not_readable)
    → IsFound Fresh (IsAnsweredFrom b Is cap names) (λ look. cond b not_readable (says look)) r g g
from_nowhere Fresh true Is says cap names r g e is = unasked _ _ _ not_readable r g is refl (λ look. refl)
from_nowhere Fresh false Is says cap names r g e is = cc

pub from_somewhere : (Fresh : Type 0) (b : Bool) (Is : Cap → Reply → Type 0) (says : Look → Reply) (cap : Cap) (names : List (List ℕ)) (r : Result Reply AllocError) (old new : GridState)
    → b ≡ false → IsFound Fresh (IsAtEnd Is cap names) says r old new
    → IsFound Fresh (IsAnsweredFrom b Is cap names) (λ look. cond b not_readable (says look)) r old new
from_somewhere Fresh true Is says cap names r old new e found = cc
from_somewhere Fresh false Is says cap names r old new e found = found

-- ---- checks

pub checked : (Fresh : Type 0) (mapped : Bool) (o : Option VerifyCap) (v : VerifyCap) (verify : Bool) (health : HealthValue) (r : Result Reply AllocError) (old new : GridState)
    → o ≡ Some v → IfOk r (λ x. x ≡ json_reply (health_text mapped v.fields.si health)) → Leaves old new → (IsHonest old → IsUnchanged old new)
    → (health.needed ≡ v.fields.k) × (health.expected ≡ v.fields.n)
    → (IsHonest old → NoneFailed old new → health ≡ check v.fields verify (table_of (stood old) v.fields.si))
    → IsFound Fresh (IsHealth mapped o) (λ look. checked_reply mapped look verify o) r old new
checked Fresh mapped o v verify health r old new some is leaves same numbers found =
    subst (λ p. IsFound Fresh (IsHealth mapped p) (λ look. checked_reply mapped look verify p) r old new) (sym some) (record {
      leaves = leaves;
      unchanged = same;
      fits = IfOk-weaker r _ _ (λ x e. record { health = health; needed = numbers.0; expected = numbers.1; is = e }) is;
      written = λ fresh honest calm. IfOk-weaker r _ _ (λ x e. e ∙ ap (λ h. json_reply (health_text mapped v.fields.si h)) (found honest calm)) is;
    })
