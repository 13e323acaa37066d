-- The one spelling of metadata, as far as it is made some of their text at a time.
use Rattle.std.specs.Prelude.{◌≡◌, ⊤, ℕ, ◌<◌, List, Some, None}
use Rattle.std.specs.Str.{IsUtf8}
use Rattle.json.specs.Lex.{tokens}
use Rattle.serde_json.specs.Data.{Data}
use Rattle.serde_json.specs.Read.{max_depth}
use Rattle.json_tree.specs.Builders.{HasTakenTokens}
use Rattle.json_tree.specs.Remains.{parts_left}
use Rattle.json_tree.specs.Writers.{IsWriting, parts_to_write}
use Rattle.json_tree.specs.declared.builder.TreeBuilder.{TreeBuilder}
use Rattle.json_spelling.specs.Metadata.{json_of, spelling_of}
use Rattle.json_spelling.specs.PieceReaders.{IsPieceReader}
use Rattle.json_spelling.specs.Sound.{IsSound}
use Rattle.json_spelling.specs.Speller.{HasSpelled}
use Rattle.json_spelling.specs.declared.metadata_speller.MetadataSpeller.{MetadataSpeller}
use Rattle.json_spelling.specs.declared.metadata_speller.MetadataSpelling.{MetadataSpelling}
use Rattle.json_spelling.specs.declared.metadata_speller.MetadataSpelling.TheVariants.{Going, Done}
use Rattle.json_spelling.specs.declared.metadata_speller.SpellingStage.{SpellingStage}

-- what a stage has of the text
abbrev pub IsSpellingStage : List ℕ → SpellingStage → Type 0
IsSpellingStage text (SpellingStage.Rising reader) = IsPieceReader HasSpelled text reader
IsSpellingStage text (SpellingStage.Building reader) = IsPieceReader (HasTakenTokens max_depth) text reader
IsSpellingStage text (SpellingStage.Writing writer) = (d : Data) × (json_of text ≡ Some d) × IsSound d × IsWriting d writer
IsSpellingStage text (SpellingStage.Refused remains) = spelling_of text ≡ None

-- a speller stands in the text
abbrev pub IsMetadataSpeller : List ℕ → MetadataSpeller → Type 0
IsMetadataSpeller text speller = IsSpellingStage text speller.stage

-- it goes on so, or what it made is the spelling of the text
abbrev pub IsSpelledOn : List ℕ → MetadataSpelling → Type 0
IsSpelledOn text (Going next) = IsMetadataSpeller text next
IsSpelledOn text (Done spelled) = spelled ≡ spelling_of text

-- ---- a speller comes to an end

-- the stage comes behind the other one, or has less to do
abbrev pub IsLaterSpellingStage : SpellingStage → SpellingStage → Type 0
IsLaterSpellingStage (SpellingStage.Rising reader) (SpellingStage.Rising next) = reader.search.reached < next.search.reached
IsLaterSpellingStage (SpellingStage.Rising reader) next = ⊤
IsLaterSpellingStage (SpellingStage.Building reader) (SpellingStage.Rising next) = ⊥
IsLaterSpellingStage (SpellingStage.Building reader) (SpellingStage.Building next) = reader.search.reached < next.search.reached
IsLaterSpellingStage (SpellingStage.Building reader) next = ⊤
IsLaterSpellingStage (SpellingStage.Writing writer) (SpellingStage.Writing next) = parts_to_write next < parts_to_write writer
IsLaterSpellingStage (SpellingStage.Writing writer) next = ⊥
IsLaterSpellingStage (SpellingStage.Refused remains) (SpellingStage.Refused next) = parts_left next < parts_left remains
IsLaterSpellingStage (SpellingStage.Refused remains) next = ⊥

-- a speller that goes on has less to do than one at that stage
abbrev pub IsLaterSpelling : SpellingStage → MetadataSpelling → Type 0
IsLaterSpelling stage (Going next) = IsLaterSpellingStage stage next.stage
IsLaterSpelling stage (Done spelled) = ⊤

-- ---- for private clauses

-- a tree took all tokens of a text
abbrev pub HoldsTreeOf : List ℕ → TreeBuilder → Type 0
HoldsTreeOf text tree = HasTakenTokens max_depth (tokens text) tree × IsUtf8 text

-- what comes behind a tree
abbrev pub IsBehindTree : SpellingStage → Type 0
IsBehindTree (SpellingStage.Rising reader) = ⊥
IsBehindTree (SpellingStage.Building reader) = ⊥
IsBehindTree (SpellingStage.Writing writer) = ⊤
IsBehindTree (SpellingStage.Refused remains) = ⊤
