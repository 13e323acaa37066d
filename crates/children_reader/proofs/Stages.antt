-- How far the making of a directory of children JSON is.
use Rattle.std.proofs.Common.{◌≡◌, ℕ, List, [], ◌++◌, length, Some, None, option_map, Ok, Err, String, Global, refl, sym, ap, ◌∙◌, append-nil}
use Rattle.std.proofs.lemmas.List.{nil_from_length}
use Rattle.std.specs.Result.{result_ok}
use Rattle.serde_json.specs.Data.{object, Members}
use Rattle.children_reader.specs.Children.{making_after, making, made}
use Rattle.dir_codec.specs.DirectoryText.{directory_text}
use Rattle.children_reader.specs.Kept.{Outcome, AreOutcomes, AreBefore}
use Rattle.json_spelling.specs.Metadata.{json_of}
use Rattle.children_reader.specs.Named.{entries_of}
use Rattle.children_reader.specs.TextMakers.{text_made}
use Rattle.children_reader.specs.declared.child.Child.{Child}
use Rattle.dir_codec.specs.declared.entry.Entry.{Entry}
use Rattle.dir_codec.specs.declared.fault.DirFault.{DirFault}
use Rattle.children_reader.proofs.Making.{of_members}
use Rattle.children_reader.proofs.Outcomes.{all_made}

-- an object's members are made
pub members_made : (json : List ℕ) (ms : Members) → json_of json ≡ Some (object ms) → making json ≡ making_after [] ms
members_made json ms is = of_members json (object ms) ms is refl

-- before the first member
pub none_named : (children : List (String Global × Child)) (left : List Outcome) (ms : Members) → children ≡ [] → AreOutcomes left ms → AreBefore children left ms
none_named children left ms none outcomes = record {
  rest = ms;
  outcomes = outcomes;
  made = ap (λ es. making_after (entries_of es) ms) (sym none);
  kept = rw none tt;
}

-- behind the last member
pub all_named : (children : List (String Global × Child)) (left : List Outcome) (ms : Members) → length left ≡ 0 → AreBefore children left ms → making_after [] ms ≡ Ok (entries_of children)
all_named children left ms none before = all_made children left ms (nil_from_length left none) before

-- JSON that is refused names no directory
pub fault_named : (json : List ℕ) (fault : DirFault) → making json ≡ Err fault → made json ≡ None
unfolding made
fault_named json fault is = ap result_ok is

pub no_text_made : (json : List ℕ) → made json ≡ None → text_made json ≡ None
no_text_made json none = ap (option_map directory_text) none

-- the text of the directory
pub text_is : (json : List ℕ) (entries : List Entry) → making json ≡ Ok entries → text_made json ≡ Some (directory_text entries)
unfolding made
text_is json entries is = ap (λ r. option_map directory_text (result_ok r)) is

-- where each entry was written, the text is that
pub all_written : (json : List ℕ) (left : List (String Global × Child)) (entries : List Entry) (text : List ℕ) → length left ≡ 0 → making json ≡ Ok entries → text ++ directory_text (entries_of left) ≡ directory_text entries → Some text ≡ text_made json
all_written json left entries text none named is =
    ap Some (sym (append-nil text) ∙ ap (λ es. text ++ directory_text (entries_of es)) (sym (nil_from_length left none)) ∙ is) ∙ sym (text_is json entries named)
