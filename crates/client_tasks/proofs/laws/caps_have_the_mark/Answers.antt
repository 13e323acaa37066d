use Rattle.std.proofs.Common.{◌≡◌, ℕ, ◌+◌, ◌≤◌, List, ◌++◌, length, drop, refl, ap, ◌∙◌, append_assoc, length-append, arith}
use Rattle.std.proofs.Math.Seq.{drop-append_seam}
use Rattle.caps.specs.CapTexts.{cap_text}
use Rattle.caps.specs.declared.cap.Cap.{Cap}
use Rattle.caps.specs.declared.cap.Cap.TheVariants.{Chk, Lit, DirChk, DirLit, ChkVerify, DirChkVerify}
use Rattle.client_tasks.specs.Lines.{cap_mark}
use Rattle.client_tasks.proofs.laws.caps_have_the_mark.Goals as goal

-- each cap's text begins with the mark
begins : (cap : Cap) → (rest : List ℕ) × (cap_text cap ≡ cap_mark ++ rest)
unfolding cap_text
begins (Chk fields) = (drop 4 (cap_text (Chk fields)), refl)
begins (Lit bytes) = (drop 4 (cap_text (Lit bytes)), refl)
begins (DirChk fields) = (drop 4 (cap_text (DirChk fields)), refl)
begins (DirLit bytes) = (drop 4 (cap_text (DirLit bytes)), refl)
begins (ChkVerify fields) = (drop 4 (cap_text (ChkVerify fields)), refl)
begins (DirChkVerify fields) = (drop 4 (cap_text (DirChkVerify fields)), refl)

-- a text in which something stands is as long as what is before it
behind : (text before rest : List ℕ) → text ≡ before ++ rest → length before ≤ length text
behind text before rest parted =
    let sum : length text ≡ length before + length rest = ap length parted ∙ length-append before rest in
    omega arith

pub returns : goal.returns
returns c = λ cap text before after plain stands.
    let mark = begins cap in
    let rest : List ℕ = mark.0 ++ after in
    let here : text ≡ before ++ (cap_mark ++ rest) = stands ∙ ap (λ (t : List ℕ). before ++ t) (ap (λ (t : List ℕ). t ++ after) mark.1 ∙ append_assoc cap_mark mark.0 after) in
    plain (length before) (behind text before (cap_mark ++ rest) here) rest
    (ap (λ (t : List ℕ). drop (length before) t) here ∙ drop-append_seam before (cap_mark ++ rest))
