-- Where files stand on a disk.
use Rattle.std.specs.Prelude.{◌≡◌, ℕ, List, ◌∷◌, ◌++◌}
use Rattle.std.specs.List.{flat_map}
use Rattle.client_tree.specs.FileNames.{AreFileNames}

-- names below a top: each behind a `/`
abbrev pub place_of_names : List ℕ → List (List ℕ) → List ℕ
place_of_names top names = top ++ flat_map (λ name. 47 ∷ name) names

-- below a top, and nowhere else: names of files lead there, of which none is empty, `.` or `..` or has a `/` or NUL
pub record IsPlaceBelow (top : List ℕ) (path : List (List ℕ)) (place : List ℕ) : Type 0 where
  pub text : place ≡ place_of_names top path
  pub names : AreFileNames path
