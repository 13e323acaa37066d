-- The text of the directory that children JSON names, as far as it is made.
use Rattle.std.specs.Prelude.{◌≡◌, ◌+◌, ◌<◌, ◌≤◌, ◌++◌, ⊤, length, List, [], ℕ, option_map, Ok, Option, Some, None}
use Rattle.serde_json.specs.Data.{Members}
use Rattle.json_tree.specs.Remains.{parts_left}
use Rattle.json_tree.specs.declared.remains.Remains.{Remains}
use Rattle.children_reader.specs.Children.{making, made, making_after}
use Rattle.dir_codec.specs.DirectoryText.{directory_text}
use Rattle.children_reader.specs.Named.{entries_of}
use Rattle.children_reader.specs.Kept.{AreBefore}
use Rattle.children_reader.specs.Collecting.{IsCollecting, IsFurther}
use Rattle.dir_codec.specs.declared.entry.Entry.{Entry}
use Rattle.children_reader.specs.declared.collecting.Collected.{Collected}
use Rattle.children_reader.specs.declared.text_maker.Leavings.{Leavings}
use Rattle.children_reader.specs.declared.text_maker.MakerStage.{MakerStage}
use Rattle.children_reader.specs.declared.text_maker.TextMaker.{TextMaker}
use Rattle.children_reader.specs.declared.text_maker.TextMaking.{TextMaking}
use Rattle.children_reader.specs.declared.text_maker.TextMaking.TheVariants.{Going, Done}

-- what a stage has of the JSON
abbrev pub IsMakerStage : List ℕ → MakerStage → Type 0
IsMakerStage json MakerStage.Unopened = ⊤
IsMakerStage json (MakerStage.Collecting collecting) = IsCollecting json collecting
IsMakerStage json (MakerStage.Naming left children) = (ms : Members) × (making json ≡ making_after [] ms) × AreBefore children.entries left.entries ms
IsMakerStage json (MakerStage.Writing left text) = (entries : List Entry) × (making json ≡ Ok entries) × (text.items ++ directory_text (entries_of left.entries) ≡ directory_text entries)
IsMakerStage json (MakerStage.Refused leavings) = made json ≡ None

-- a maker stands in the JSON
abbrev pub IsTextMaker : List ℕ → TextMaker → Type 0
IsTextMaker json maker = IsMakerStage json maker.stage

-- the text of the directory that JSON names, where it names one
abbrev pub text_made : List ℕ → Option (List ℕ)
text_made json = option_map directory_text (made json)

-- it goes on so, or what it made is that text
abbrev pub IsTextMadeOn : List ℕ → TextMaking → Type 0
IsTextMadeOn json (Going next) = IsTextMaker json next
IsTextMadeOn json (Done text) = option_map (λ bytes. bytes.items) text ≡ text_made json

-- ---- a maker comes to an end

-- the parts that are left of a tree, if there is one
abbrev pub tree_parts : Option Remains → ℕ
tree_parts None = 0
tree_parts (Some remains) = parts_left remains

-- how much has yet to be let go of
abbrev pub leaving_count : Leavings → ℕ
leaving_count leavings = length leavings.outcomes.entries + length leavings.children.entries + tree_parts leavings.tree

-- no more than is let go of in a step
abbrev pub AreFewLeavings : Leavings → Type 0
AreFewLeavings leavings = (length leavings.outcomes.entries ≤ 1024) × (length leavings.children.entries ≤ 1024) × (tree_parts leavings.tree ≤ 1024)

-- the stage comes behind the other one, or has less to do
abbrev pub IsLaterStage : MakerStage → MakerStage → Type 0
IsLaterStage MakerStage.Unopened MakerStage.Unopened = ⊥
IsLaterStage MakerStage.Unopened next = ⊤
IsLaterStage (MakerStage.Collecting collecting) MakerStage.Unopened = ⊥
IsLaterStage (MakerStage.Collecting collecting) (MakerStage.Collecting next) = IsFurther collecting (Collected.More next)
IsLaterStage (MakerStage.Collecting collecting) next = ⊤
IsLaterStage (MakerStage.Naming left children) (MakerStage.Naming fewer named) = length fewer.entries < length left.entries
IsLaterStage (MakerStage.Naming left children) (MakerStage.Writing named text) = ⊤
IsLaterStage (MakerStage.Naming left children) (MakerStage.Refused leavings) = ⊤
IsLaterStage (MakerStage.Naming left children) next = ⊥
IsLaterStage (MakerStage.Writing left text) (MakerStage.Writing fewer longer) = length fewer.entries < length left.entries
IsLaterStage (MakerStage.Writing left text) (MakerStage.Refused leavings) = ⊤
IsLaterStage (MakerStage.Writing left text) next = ⊥
IsLaterStage (MakerStage.Refused leavings) (MakerStage.Refused fewer) = leaving_count fewer < leaving_count leavings
IsLaterStage (MakerStage.Refused leavings) next = ⊥

-- a maker that goes on has less to do than one at that stage
abbrev pub IsLaterMaker : MakerStage → TextMaking → Type 0
IsLaterMaker stage (Going next) = IsLaterStage stage next.stage
IsLaterMaker stage (Done text) = ⊤
