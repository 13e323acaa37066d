-- Files whose caps a source knew, under the names that lead to them.
use Rattle.std.specs.Prelude.{◌≡◌, ◌⊎◌, ℕ, List, [], ◌∷◌, ◌++◌, Contains, map}
use Rattle.caps.specs.declared.cap.Cap.{Cap}
use Rattle.client_core.specs.Way.{LeadsTo}
use Rattle.client_tree.specs.Stored.{stored_name}
use Rattle.client_tree.specs.declared.children.Child.{Child}

-- the names behind that path in the file's own lead from the cap to the one that was known
pub record IsKnownFile (cap : Cap) (path file : List (List ℕ)) (known : Cap) : Type 0 where
  pub names : List (List ℕ)
  pub file_is : file ≡ path ++ names
  pub led : LeadsTo cap (map stored_name names) known

-- the same from one of these children on, whose name comes next; for a private clause
pub record IsKnownBelow (children : List Child) (path file : List (List ℕ)) (known : Cap) : Type 0 where
  pub child : Child
  pub among : Contains children child
  pub stored : child.stored ≡ stored_name child.name
  pub led : IsKnownFile child.cap (path ++ child.name ∷ []) file known

-- a source gave the cap of a file, and that holds of both
pub record IsKnownStep {A : Type 0} (knew : A → List (List ℕ) → Cap → A → Type 0) (holds : List (List ℕ) → Cap → Type 0) (old new : A) : Type 0 where
  pub file : List (List ℕ)
  pub cap : Cap
  pub knew_is : knew old file cap new
  pub hold : holds file cap

-- a step in which nothing is read: a source gave nothing, or the cap of a file of which that holds
abbrev pub IsIdle : {A : Type 0} → (A → A → Type 0) → (A → List (List ℕ) → Cap → A → Type 0) → (List (List ℕ) → Cap → Type 0) → A → A → Type 0
IsIdle kept knew holds old new = kept old new ⊎ IsKnownStep knew holds old new

-- the child of that name has the cap that a source knew of the file; for a private clause
pub record IsKnownChild {A : Type 0} (knew : A → List (List ℕ) → Cap → A → Type 0) (file : List (List ℕ)) (name : List ℕ) (child : Child) (old new : A) : Type 0 where
  pub named : child.name ≡ name
  pub stored : child.stored ≡ stored_name name
  pub knew_is : knew old file child.cap new
