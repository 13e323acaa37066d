-- What was had from a gateway where a task is done, each byte of it bound to its cap.
use Rattle.std.specs.Prelude.{◌≡◌, ◌⊎◌, ℕ, Bool, false, List, [], Result, Ok, Some, slice_get}
use Rattle.caps.specs.CapTexts.{IsCapText}
use Rattle.caps.specs.Weakening.{weakened}
use Rattle.caps.specs.declared.cap.Cap.{Cap}
use Rattle.caps.specs.declared.cap.VerifyCap.{VerifyCap}
use Rattle.caps.specs.declared.fields.ReadFields.{ReadFields}
use Rattle.dir_codec.specs.declared.entry.Entry.{Entry}
use Rattle.cap_binding.specs.Binds.{Binds}
use Rattle.client_core.specs.declared.ask.Ask.{Ask}
use Rattle.client_core.specs.declared.ask.Ask.TheVariants.{Check}
use Rattle.client_core.specs.declared.exchange.Answer.{Answer}
use Rattle.client_core.specs.declared.exchange.LinkFault.{LinkFault}
use Rattle.client_core.specs.Way.{IsDirectoryOf, LeadsTo}
use Rattle.client_tree.specs.Parts.{AreParts}
use Rattle.client_tree.specs.Runs.{File}
use Rattle.client_tree.specs.Trees.{IsTreeOf}
use Rattle.client_options.specs.declared.task.Node.{Node}

-- all files that the cap leads to
pub record IsTreeHad (cap : Cap) : Type 0 where
  pub files : List File
  pub tree : IsTreeOf cap [] files

-- what is stored under the fields
pub record IsStoredHad (fields : ReadFields) : Type 0 where
  pub bytes : List ℕ
  pub bound : Binds fields bytes

-- a directory's own text, which isn't that of a file in parts
pub record IsTextHad (cap : Cap) : Type 0 where
  pub entries : List Entry
  pub of_cap : IsDirectoryOf cap entries
  pub no_parts : (size : ℕ) → ¬ (AreParts size entries)

-- all that the cap leads to, or of a directory its text where no more is asked for
abbrev pub IsReadThrough : Bool → Cap → Type 0
IsReadThrough recursive cap = IsTreeHad cap ⊎ ((recursive ≡ false) × IsTextHad cap)

-- the cap is that of the text, but for one that names a file behind `@`
abbrev pub IsCapOf : List ℕ → Cap → Type 0
IsCapOf text cap = (slice_get text 0 ≡ Some 64) ⊎ IsCapText cap text

-- names lead from a node's cap to the end
pub record IsEndOf (node : Node) (end : Cap) : Type 0 where
  pub cap : Cap
  pub given : IsCapOf node.cap.now cap
  pub names : List (List ℕ)
  pub led : LeadsTo cap names end

pub record IsReadAt (node : Node) (recursive : Bool) : Type 0 where
  pub end : Cap
  pub of_node : IsEndOf node end
  pub read : IsReadThrough recursive end

-- the gateway was asked to check the cap's verify cap, with its shares verified or without, and gave an answer
pub record IsAskedCheck {A : Type 0} (told : A → Ask → List ℕ → Result Answer LinkFault → A → Type 0) (old : A) (cap : Cap) (verify : Bool) (new : A) : Type 0 where
  pub verified : VerifyCap
  pub is : weakened cap ≡ Some verified
  pub answer : Answer
  pub asked : told old (Check verified verify) [] (Ok answer) new
