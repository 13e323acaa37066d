-- Files that pass in steps.
use Rattle.std.proofs.Common.{List, [], ◌∷◌, ◌++◌, sym, subst, append-nil, append_assoc, Ok, Err}
use Rattle.std.specs.Prelude.{Result, MatchResult, IfOk}
use Rattle.client_tree.specs.Runs.{File, FileRun, none, rests, passes, Passes}

-- one run after another
pub joined : {A : Type 0} {step : A → File → A → Type 0} {rest : A → A → Type 0} {first middle last : A} {files more : List File}
    → FileRun step rest first files middle → FileRun step rest middle more last → FileRun step rest first (files ++ more) last
joined {step = step} {rest = rest} {first = first} {middle = middle} {files = files} run none = subst (λ (fs : List File). FileRun step rest first fs middle) (sym (append-nil files)) run
joined run (rests more idle) = rests (joined run more) idle
joined {step = step} {rest = rest} {first = first} {files = files} run (passes {files = more} {last = last} {file = file} after taken) =
    subst (λ (fs : List File). FileRun step rest first fs last) (append_assoc files more (file ∷ [])) (passes (joined run after) taken)

module _ {A : Type 0} (step : A → File → A → Type 0) (rest : A → A → Type 0) where
  -- no file passed
  pub none_passed : (holds : List File → Type 0) (first : A) → holds [] → Passes step rest holds first first
  none_passed holds first held = record { files = []; run = none; hold = held }

  -- the same after a step in which none does
  pub rested : (holds : List File → Type 0) (first last : A) → rest first last → holds [] → Passes step rest holds first last
  rested holds first last idle held = record { files = []; run = rests none idle; hold = held }

  -- one passed
  pub one_passed : (holds : List File → Type 0) (first last : A) (file : File) → step first file last → holds (file ∷ []) → Passes step rest holds first last
  one_passed holds first last file taken held = record { files = file ∷ []; run = passes none taken; hold = held }

  -- files pass of which more is known
  pub passed_more : (holds other : List File → Type 0) (first last : A) → ((files : List File) → holds files → other files)
      → Passes step rest holds first last → Passes step rest other first last
  passed_more holds other first last known before = record { files = before.files; run = before.run; hold = known before.files before.hold }

  -- those of one run, and then those of another
  pub both_passed : (holds after all : List File → Type 0) (first middle last : A) → ((files more : List File) → holds files → after more → all (files ++ more))
      → Passes step rest holds first middle → Passes step rest after middle last → Passes step rest all first last
  both_passed holds after all first middle last known one other = record {
    files = one.files ++ other.files;
    run = joined one.run other.run;
    hold = known one.files other.files one.hold other.hold;
  }

  -- a step in which none does, and then those of a run
  pub passed_after : (holds other : List File → Type 0) (first middle last : A) → rest first middle → ((files : List File) → holds files → other files)
      → Passes step rest holds middle last → Passes step rest other first last
  passed_after holds other first middle last idle known after = record {
    files = after.files;
    run = joined (rests none idle) after.run;
    hold = known after.files after.hold;
  }

-- an outcome of which more is known
pub outcome_more : {T E : Type 0} (r : Result T E) (P P' : T → Type 0) (Q Q' : E → Type 0) → ((x : T) → P x → P' x) → ((e : E) → Q e → Q' e) → MatchResult r P Q → MatchResult r P' Q'
outcome_more (Ok x) P P' Q Q' good bad h = good x h
outcome_more (Err e) P P' Q Q' good bad h = bad e h

-- the same where nothing is claimed of a fault
pub ok_more : {T E : Type 0} (r : Result T E) (P Q : T → Type 0) → ((x : T) → P x → Q x) → IfOk r P → IfOk r Q
ok_more (Ok x) P Q good h = good x h
ok_more (Err e) P Q good h = h

-- files that pass, and then a step in which none does
pub passed_then_rested : {A : Type 0} (step : A → File → A → Type 0) (rest : A → A → Type 0) (holds other : List File → Type 0) (first middle last : A)
    → ((files : List File) → holds files → other files) → Passes step rest holds first middle → rest middle last → Passes step rest other first last
passed_then_rested step rest holds other first middle last known before idle = record { files = before.files; run = rests before.run idle; hold = known before.files before.hold }

-- files that pass, and then one more
pub one_more_passed : {A : Type 0} (step : A → File → A → Type 0) (rest : A → A → Type 0) (holds all : List File → Type 0) (first middle last : A) (file : File)
    → ((files : List File) → holds files → all (files ++ file ∷ [])) → Passes step rest holds first middle → step middle file last → Passes step rest all first last
one_more_passed step rest holds all first middle last file known before taken = record { files = before.files ++ file ∷ []; run = passes before.run taken; hold = known before.files before.hold }

-- a run without files
pub nothing_passed : {A : Type 0} (step : A → File → A → Type 0) (rest : A → A → Type 0) (holds : List File → Type 0) (first last : A) → holds [] → FileRun step rest first [] last → Passes step rest holds first last
nothing_passed step rest holds first last held run = record { files = []; run = run; hold = held }

-- one passes, and then files of which that holds behind it
pub passed_behind : {A : Type 0} (step : A → File → A → Type 0) (rest : A → A → Type 0) (holds other : List File → Type 0) (first middle last : A) (file : File)
    → ((files : List File) → holds files → other (file ∷ files)) → step first file middle → Passes step rest holds middle last → Passes step rest other first last
passed_behind step rest holds other first middle last file known taken after = record {
  files = file ∷ after.files;
  run = joined (passes none taken) after.run;
  hold = known after.files after.hold;
}
