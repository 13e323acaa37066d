-- The spellings of long metadata, which a count makes and keeps for the listing; for the models of both, and for private clauses.
use Rattle.std.specs.Prelude.{⊤, ℕ, ◌-◌, ◌≤◌, List, length, drop, Option, Some, None, IfSome}
use Rattle.std.specs.List.{All}
use Rattle.dir_codec.specs.First.{IsFirstSpelling}
use Rattle.dir_codec.specs.Parts.{first_metadata}
use Rattle.json_spelling.specs.MetadataSpellers.{IsMetadataSpeller}
use Rattle.json_spelling.specs.declared.metadata_speller.MetadataSpeller.{MetadataSpeller}
use Rattle.json_view.specs.declared.kept_spelling.KeptSpelling.{KeptSpelling}

-- where so many bytes of a text are left, an entry stands whose metadata have this spelling
pub record IsSpellingIn (text : List ℕ) (kept : KeptSpelling) : Type 0 where
  pub is : kept.left ≤ length text → IsFirstSpelling (drop (length text - kept.left) text) (Some kept.spelling)

abbrev pub AreSpellingsIn : List ℕ → List KeptSpelling → Type 0
AreSpellingsIn text kept = All (IsSpellingIn text) kept

-- where a spelling is known, it is that of the metadata of the entry that a text begins with
abbrev pub IsKnownSpelling : List ℕ → Option (List ℕ) → Type 0
IsKnownSpelling text None = ⊤
IsKnownSpelling text (Some spelling) = IsFirstSpelling text (Some spelling)

-- a speller, where there is one, has come some way with a text
abbrev pub IsSpellerOf : List ℕ → Option MetadataSpeller → Type 0
IsSpellerOf text None = ⊤
IsSpellerOf text (Some speller) = IsMetadataSpeller text speller

-- the same with the metadata of the entry that a text begins with
abbrev pub IsFirstSpeller : List ℕ → Option MetadataSpeller → Type 0
IsFirstSpeller text speller = IfSome (first_metadata text) (λ metadata. IsSpellerOf metadata speller)
