-- Where the code of an error stands in the body of a reply (Amazon S3, "Error responses": the element Code).
use Rattle.std.specs.Prelude.{◌≡◌, ◌≤◌, ◌<◌, ℕ, List, ◌++◌, codes, length, take, drop}
use Rattle.std.specs.Char.{is_ascii_alphabetic}
use Rattle.std.specs.List.{AllPass}

-- as much of a body as is looked through
abbrev pub code_room : List ℕ → List ℕ
code_room body = take 4096 body

-- 1 to 64 letters
pub record IsCodeText (text : List ℕ) : Type 0 where
  pub least : 1 ≤ length text
  pub most : length text ≤ 64
  pub letters : AllPass is_ascii_alphabetic text

-- It begins with the element, with this code and nothing else in it.
pub record BeginsWithCode (text code : List ℕ) : Type 0 where
  pub behind : List ℕ
  pub code_is : IsCodeText code
  pub element : text ≡ codes "<Code>" ++ code ++ codes "</Code>" ++ behind

-- in front of a place none begins
abbrev pub HasNoCodeBefore : List ℕ → ℕ → Type 0
HasNoCodeBefore text place = (earlier : ℕ) → earlier < place → (code : List ℕ) → BeginsWithCode (drop earlier text) code → ⊥

-- it is the code of the first one
pub record IsFirstCode (text code : List ℕ) : Type 0 where
  pub place : ℕ
  pub stands : BeginsWithCode (drop place text) code
  pub first : HasNoCodeBefore text place

-- there is none
abbrev pub HasNoCode : List ℕ → Type 0
HasNoCode text = (place : ℕ) (code : List ℕ) → BeginsWithCode (drop place text) code → ⊥
