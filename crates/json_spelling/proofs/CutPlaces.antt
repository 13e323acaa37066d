-- A text that is looked through for a comma, a window at a time.
use Rattle.std.proofs.Common.{◌≡◌, ℕ, ◌+◌, ◌-◌, ◌<◌, ◌≤◌, List, ◌++◌, length, take, drop, sym, ap, ◌∙◌, subst, arith, length-drop}
use Rattle.std.proofs.lemmas.List.{length-take-le, get_or-take, take-take, drop-drop}
use Rattle.std.proofs.Math.Seq.{take-add}
use Rattle.json.specs.Lex.{Mode, between}
use Rattle.json_seams.specs.Modes.{mode_after, is_outside}
use Rattle.json_seams.specs.Cuts.{IsCutFrom, IsCutComma}
use Rattle.json_spelling.specs.CommaSearch.{IsSearchedTo, IsCommaCut}

-- the next window
abbrev pub window : ℕ → ℕ → List ℕ → List ℕ
window end stop json = take (stop - end) (drop end json)

pub window_size : (end stop : ℕ) (json : List ℕ) → end ≤ stop → stop ≤ length json → length (window end stop json) ≡ stop - end
window_size end stop json ahead within = length-take-le (stop - end) (drop end json) (omega (arith, length-drop end json))

-- what stands at a place up to another
abbrev seen_to : ℕ → ℕ → List ℕ → List ℕ
seen_to at end text = take (end - at) (drop at text)

seen_more : (text : List ℕ) (at end stop : ℕ) → at ≤ end → end ≤ stop → seen_to at end text ++ window end stop text ≡ seen_to at stop text
seen_more text at end stop first ahead =
    let size : (end - at) + (stop - end) ≡ stop - at = omega arith in
    let place : at + (end - at) ≡ end = omega arith in
    let rest : drop (end - at) (drop at text) ≡ drop end text = drop-drop (end - at) at text ∙ ap (λ n. drop n text) place in
    ap (λ r. take (end - at) (drop at text) ++ take (stop - end) r) (sym rest) ∙ sym (take-add (end - at) (stop - end) (drop at text)) ∙ ap (λ n. take n (drop at text)) size

pub seen_on : ((mode : Mode) (before bytes : List ℕ) → mode_after mode (before ++ bytes) ≡ mode_after (mode_after mode before) bytes)
    → (text : List ℕ) (at end stop : ℕ) (mode next : Mode) → end ≤ stop → stop ≤ length text → next ≡ mode_after mode (window end stop text) → IsSearchedTo text at end mode → IsSearchedTo text at stop next
seen_on law text at end stop mode next ahead within goes before =
    let first = before.ahead in
    record {
      ahead = omega arith;
      within = within;
      stands =
          goes ∙ ap (λ m. mode_after m (window end stop text)) before.stands ∙ sym (law between (seen_to at end text) (window end stop text))
          ∙ ap (mode_after between) (seen_more text at end stop first ahead);
    }

-- a cut in the first bytes is one in all
in_all : (bytes : List ℕ) (n at : ℕ) → n ≤ length bytes → IsCutComma (take n bytes) at → IsCutComma bytes at
in_all bytes n at within is =
    let size = length-take-le n bytes within in
    let found = is.within in
    let before : at < n = omega arith in
    record {
      within = omega arith;
      comma = sym (get_or-take n bytes at 0 before) ∙ is.comma;
      outside = ap (λ t. is_outside (mode_after between t)) (sym (take-take at n bytes (omega arith))) ∙ is.outside;
    }

-- a cut in a window stands before its end
pub cut_inside : (text : List ℕ) (end stop cut : ℕ) (mode : Mode) → end ≤ stop → stop ≤ length text → IsCutFrom mode (window end stop text) cut → end + cut < stop
cut_inside text end stop cut mode ahead within is = let found = is.within in omega (arith, found, window_size end stop text ahead within)

pub cut_seen : ((mode : Mode) (before bytes : List ℕ) (at : ℕ) → IsCutFrom (mode_after mode before) bytes at → IsCutFrom mode (before ++ bytes) (length before + at))
    → (text : List ℕ) (at end stop cut : ℕ) (mode : Mode) → end ≤ stop → stop ≤ length text → IsCutFrom mode (window end stop text) cut → IsSearchedTo text at end mode → IsCommaCut text at (end + cut)
cut_seen law text at end stop cut mode ahead within is before =
    let first = before.ahead in
    let seen = seen_to at end text in
    let size : length seen ≡ end - at = length-take-le (end - at) (drop at text) (omega (arith, length-drop at text)) in
    let found = law between seen (window end stop text) cut (subst (λ m. IsCutFrom m (window end stop text) cut) before.stands is) in
    let place : length seen + cut ≡ (end + cut) - at = omega arith in
    let there = subst (λ t. IsCutComma t (length seen + cut)) (seen_more text at end stop first ahead) found in
    record {
      ahead = omega arith;
      comma = subst (IsCutComma (drop at text)) place (in_all (drop at text) (stop - at) (length seen + cut) (omega (arith, length-drop at text)) there);
    }
