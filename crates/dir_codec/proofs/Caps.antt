-- Caps of children.
use Rattle.std.proofs.Common.{◌≡◌, ◌≢◌, ◌⊎◌, inl, inr, ℕ, Bool, cond, List, Result, Ok, Err, sym, ap, ◌∙◌}
use Rattle.caps.specs.CapTexts.{IsCapText, cap_text}
use Rattle.caps.specs.Reading.{cap_reading}
use Rattle.caps.specs.declared.cap.Cap.{Cap}
use Rattle.caps.specs.declared.fault.CapFault.{CapFault}
use Rattle.dir_codec.specs.Entries.{is_child_cap}
use Rattle.dir_codec.specs.Reading.{child_fault, child_of, child_reading}
use Rattle.dir_codec.specs.declared.fault.DirFault.TheVariants.{NoMemory, NotImmutable}

-- what a parser answers, where it doesn't want memory
abbrev pub Answers : List ℕ → Result Cap CapFault → Type 0
Answers text r = (r ≡ cap_reading text) ⊎ (r ≡ Err CapFault.NoMemory)

pub cap_is : (text : List ℕ) (r : Result Cap CapFault) (cap : Cap) → r ≡ Ok cap → Answers text r → cap_reading text ≡ Ok cap
cap_is text r cap is (inl same) = sym same ∙ is
cap_is text r cap is (inr none) = absurd (let h : Ok cap ≡ Err CapFault.NoMemory = sym is ∙ none in cc)

pub child_is : (text : List ℕ) (r : Result Cap CapFault) (cap : Cap) (b : Bool) → r ≡ Ok cap → Answers text r → is_child_cap cap ≡ b → child_reading text ≡ cond b (Ok cap) (Err NotImmutable)
child_is text r cap b is answer child = ap child_of (cap_is text r cap is answer) ∙ ap (λ c. cond c (Ok cap) (Err NotImmutable)) child

pub cap_refused : (text : List ℕ) (r : Result Cap CapFault) (fault : CapFault) → r ≡ Err fault → Answers text r → child_fault fault ≢ NoMemory → child_reading text ≡ Err (child_fault fault)
cap_refused text r fault is (inl same) other = ap child_of (sym same ∙ is)
cap_refused text r fault is (inr none) other =
    let same : fault ≡ CapFault.NoMemory = let h : Err fault ≡ Err CapFault.NoMemory = sym is ∙ none in cc in absurd (other (ap child_fault same))

-- a cap that was read is read back from its text
pub read_again : (text : List ℕ) (r : Result Cap CapFault) (cap : Cap) → ((cap : Cap) (text : List ℕ) → IsCapText cap text → text ≡ cap_text cap) → IsCapText cap text → r ≡ Ok cap → Answers text r → cap_reading (cap_text cap) ≡ Ok cap
read_again text r cap one begins_text is answer = ap cap_reading (sym (one cap text begins_text)) ∙ cap_is text r cap is answer
