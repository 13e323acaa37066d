-- Files whose caps a source knew, and steps in which nothing is read.
use Rattle.std.proofs.Common.{◌≡◌, ℕ, List, [], ◌∷◌, ◌++◌, refl, sym, ap, ◌∙◌, inl, inr, append-nil, append_assoc}
use Rattle.std.proofs.lemmas.List.Elements.{Contains-append_left, Contains-append_right, Contains-push}
use Rattle.caps.specs.declared.cap.Cap.{Cap}
use Rattle.client_core.specs.Way.{IsChildOf}
use Rattle.client_tree.specs.Runs.{File, FileRun, none, rests, passes, Passes}
use Rattle.client_tree.specs.Stored.{stored_name, HasChildren}
use Rattle.client_tree.specs.Known.{IsKnownFile, IsKnownBelow, IsIdle, IsKnownChild}
use Rattle.client_tree.specs.declared.children.Child.{Child}
use Rattle.client_tree.proofs.ChildLemmas.{among_is_child}

-- a run of which more is known between the files
rested_run : {A : Type 0} {step : A → File → A → Type 0} (rest other : A → A → Type 0) → ((old new : A) → rest old new → other old new)
    → {first last : A} {files : List File} → FileRun step rest first files last → FileRun step other first files last
rested_run rest other known none = none
rested_run rest other known (rests {middle = middle} {last = last} run idle) = rests (rested_run rest other known run) (known middle last idle)
rested_run rest other known (passes run taken) = passes (rested_run rest other known run) taken

-- files that pass, of which more is known, as it is of the steps between them
pub passed_beside : {A : Type 0} (step : A → File → A → Type 0) (rest other : A → A → Type 0) (holds more : List File → Type 0) (first last : A)
    → ((old new : A) → rest old new → other old new) → ((files : List File) → holds files → more files) → Passes step rest holds first last → Passes step other more first last
passed_beside step rest other holds more first last known all before =
    record { files = before.files; run = rested_run rest other known before.run; hold = all before.files before.hold }

-- what is idle is so of more
pub idle_more : {A : Type 0} (kept : A → A → Type 0) (knew : A → List (List ℕ) → Cap → A → Type 0) (holds other : List (List ℕ) → Cap → Type 0)
    → ((file : List (List ℕ)) (cap : Cap) → holds file cap → other file cap) → (old new : A) → IsIdle kept knew holds old new → IsIdle kept knew other old new
idle_more kept knew holds other known old new (inl idle) = inl idle
idle_more kept knew holds other known old new (inr step) =
    inr (record { file = step.file; cap = step.cap; knew_is = step.knew_is; hold = known step.file step.cap step.hold })

-- a step in which nothing came
pub idle_kept : {A : Type 0} (kept : A → A → Type 0) (knew : A → List (List ℕ) → Cap → A → Type 0) (holds : List (List ℕ) → Cap → Type 0)
    → (old new : A) → kept old new → IsIdle kept knew holds old new
idle_kept kept knew holds old new idle = inl idle

-- below more children, and below those that come behind others
pub known_more : (children more : List Child) (path file : List (List ℕ)) (known : Cap) → IsKnownBelow children path file known → IsKnownBelow (children ++ more) path file known
known_more children more path file known below =
    record { child = below.child; among = Contains-append_left children more below.child below.among; stored = below.stored; led = below.led }

pub known_behind : (children more : List Child) (path file : List (List ℕ)) (known : Cap) → IsKnownBelow more path file known → IsKnownBelow (children ++ more) path file known
known_behind children more path file known below =
    record { child = below.child; among = Contains-append_right children more below.child below.among; stored = below.stored; led = below.led }

-- what is known below a child is so below the last one
pub known_last : (children : List Child) (child : Child) (path file : List (List ℕ)) (known : Cap) → child.stored ≡ stored_name child.name
    → IsKnownFile child.cap (path ++ child.name ∷ []) file known → IsKnownBelow (children ++ child ∷ []) path file known
known_last children child path file known stored led = record { child = child; among = Contains-push children child; stored = stored; led = led }

-- what is known below children is so under a directory that has them
pub known_above : (cap : Cap) (children : List Child) (path file : List (List ℕ)) (known : Cap) → HasChildren children cap → IsKnownBelow children path file known → IsKnownFile cap path file known
known_above cap children path file known has below =
    let child : Child = below.child in
    let is : IsChildOf cap (stored_name child.name) child.cap = among_is_child cap children child has below.among below.stored in
    record {
      names = child.name ∷ below.led.names;
      file_is = below.led.file_is ∙ append_assoc path (child.name ∷ []) below.led.names;
      led = (child.cap, (is, below.led.led));
    }

-- the step in which a source told the cap of a child that is the last
pub known_step : {A : Type 0} (kept : A → A → Type 0) (knew : A → List (List ℕ) → Cap → A → Type 0) (children : List Child) (child : Child) (path file : List (List ℕ)) (name : List ℕ) (old new : A)
    → file ≡ path ++ name ∷ [] → IsKnownChild knew file name child old new → IsIdle kept knew (IsKnownBelow (children ++ child ∷ []) path) old new
known_step kept knew children child path file name old new place is =
    let stored : child.stored ≡ stored_name child.name = is.stored ∙ ap stored_name (sym is.named) in
    let here : file ≡ (path ++ child.name ∷ []) ++ [] =
    place ∙ ap (λ (n : List ℕ). path ++ n ∷ []) (sym is.named) ∙ sym (append-nil (path ++ child.name ∷ [])) in
    inr (record {
      file = file;
      cap = child.cap;
      knew_is = is.knew_is;
      hold = known_last children child path file child.cap stored (record { names = []; file_is = here; led = refl });
    })
