-- Files that pass one after the other, and the states between them.
use Rattle.std.specs.Prelude.{◌≡◌, ℕ, List, [], ◌∷◌, ◌++◌, All, flat_map}

-- a file under the names below a folder, or a piece of it
pub record File : Type 0 where
  pub path : List (List ℕ)
  pub bytes : List ℕ

-- from a first state to a last one these files pass, each in a step; between them are steps in which none does
pub data FileRun {A : Type 0} (step : A → File → A → Type 0) (rest : A → A → Type 0) (first : A) : List File → A → Type 0 where
  none : FileRun step rest first [] first
  rests : {files : List File} {middle last : A} → FileRun step rest first files middle → rest middle last → FileRun step rest first files last
  passes : {files : List File} {middle last : A} {file : File} → FileRun step rest first files middle → step middle file last → FileRun step rest first (files ++ file ∷ []) last

-- files pass of which that holds
pub record Passes {A : Type 0} (step : A → File → A → Type 0) (rest : A → A → Type 0) (holds : List File → Type 0) (first last : A) : Type 0 where
  pub files : List File
  pub run : FileRun step rest first files last
  pub hold : holds files

-- the files are groups of which each has that, one after the other
pub record AreGroups (holds : List File → Type 0) (files : List File) : Type 0 where
  pub groups : List (List File)
  pub each : All holds groups
  pub joined : flat_map (λ group. group) groups ≡ files
