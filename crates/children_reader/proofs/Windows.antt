-- A part of children JSON, looked through a window at a time.
use Rattle.std.proofs.Common.{◌≡◌, ℕ, ◌+◌, ◌-◌, ◌<◌, ◌≤◌, List, [], ◌∷◌, ◌++◌, length, take, drop, Some, None, refl, sym, ap, ap₂, ◌∙◌, subst, arith, append_assoc, length-append, length-drop}
use Rattle.std.proofs.lemmas.List.{length-take-le, take-append-drop, drop-drop, take_all, take-take, take_more}
use Rattle.std.proofs.Math.Seq.{take-add, take-append-add}
use Rattle.json.specs.Lex.{Mode, between}
use Rattle.json_members.specs.Brackets.{bracket_depth}
use Rattle.json_members.specs.MemberCuts.{IsMemberCutFrom, IsMemberCut, front_object}
use Rattle.json_seams.specs.Modes.{mode_after}
use Rattle.children_reader.specs.Collected.{object_behind, IsPartUpTo}
use Rattle.json_spelling.specs.CommaSearch.{IsCommaCut}
use Rattle.json_spelling.proofs.CutPlaces.{window, window_size}
use Rattle.children_reader.specs.Piecewise.{FindsBehind, read_to, IsReadTo}

pub finds_first : FindsBehind [] between 0
finds_first = record { bounded = omega arith; cuts = λ bytes at is. subst (IsMemberCut bytes) (let e : at ≡ 0 + at = omega arith in e) is }

pub finds_more : (text more : List ℕ) (mode next : Mode) (depth behind : ℕ) → behind ≤ depth + length more
    → ((bytes : List ℕ) (at : ℕ) → IsMemberCutFrom next behind bytes at → IsMemberCutFrom mode depth (more ++ bytes) (length more + at))
    → FindsBehind text mode depth → FindsBehind (text ++ more) next behind
finds_more text more mode next depth behind few goes before = record {
  bounded = omega (arith, few, before.bounded, length-append text more);
  cuts = λ bytes at is.
      let found = before.cuts (more ++ bytes) (length more + at) (goes bytes at is) in
      let place : length text + (length more + at) ≡ length (text ++ more) + at = omega (arith, length-append text more) in
      subst (IsMemberCut (text ++ more ++ bytes)) place (subst (λ t. IsMemberCut t (length text + (length more + at))) (sym (append_assoc text more bytes)) found);
}

-- what stands at a place up to another, and then the window there
pub window_more : (at end stop : ℕ) (json : List ℕ) → at ≤ end → end ≤ stop → take (end - at) (drop at json) ++ window end stop json ≡ take (stop - at) (drop at json)
window_more at end stop json first ahead =
    let size : (end - at) + (stop - end) ≡ stop - at = omega arith in
    let place : at + (end - at) ≡ end = omega arith in
    let rest : drop (end - at) (drop at json) ≡ drop end json = drop-drop (end - at) at json ∙ ap (λ n. drop n json) place in
    ap (λ r. take (end - at) (drop at json) ++ take (stop - end) r) (sym rest) ∙ sym (take-add (end - at) (stop - end) (drop at json)) ∙ ap (λ n. take n (drop at json)) size

pub read_more : (at end stop : ℕ) (json : List ℕ) → at ≤ end → end ≤ stop → read_to at end json ++ window end stop json ≡ read_to at stop json
read_more at end stop json first ahead = ap (λ t. 123 ∷ t) (window_more at end stop json first ahead)

-- at the beginning
pub read_none : (json : List ℕ) (at : ℕ) (mode : Mode) (depth : ℕ) → depth ≤ 1 → ((bytes : List ℕ) (place : ℕ) → IsMemberCutFrom mode depth bytes place → IsMemberCut (123 ∷ bytes) (1 + place)) → at ≤ length json
    → IsReadTo json at at (read_to at at json) mode depth
read_none json at mode depth few goes within =
    let none : at - at ≡ 0 = omega arith in
    let finds : FindsBehind (123 ∷ []) mode depth = record { bounded = few; cuts = goes } in
    record { ahead = omega arith; within = within; same = refl; finds = subst (λ n. FindsBehind (123 ∷ take n (drop at json)) mode depth) (sym none) finds }

pub read_on : (json text more : List ℕ) (at end stop : ℕ) (mode next now : Mode) (depth behind : ℕ) → end ≤ stop → stop ≤ length json → more ≡ text ++ window end stop json
    → next ≡ now → behind ≡ bracket_depth mode depth (window end stop json) → bracket_depth mode depth (window end stop json) ≤ depth + length (window end stop json)
    → ((bytes : List ℕ) (place : ℕ) → IsMemberCutFrom now (bracket_depth mode depth (window end stop json)) bytes place → IsMemberCutFrom mode depth (window end stop json ++ bytes) (length (window end stop json) + place))
    → IsReadTo json at end text mode depth → IsReadTo json at stop more next behind
read_on json text more at end stop mode next now depth behind ahead within same modes depths few goes before =
    let seen = window end stop json in
    let first = before.ahead in
    let finds = finds_more text seen mode now depth (bracket_depth mode depth seen) few goes before.finds in
    record {
      ahead = omega arith;
      within = within;
      same = same ∙ ap (λ t. t ++ seen) before.same ∙ read_more at end stop json first ahead;
      finds = subst (λ t. FindsBehind t next behind) (sym same) (subst (λ m. FindsBehind (text ++ seen) m behind) (sym modes) (subst (FindsBehind (text ++ seen) now) (sym depths) finds));
    }

-- what is used of cuts among the first bytes
pub record FrontLaws : Type 0 where
  pub in_front : (front back : List ℕ) (at : ℕ) → at < length front → IsMemberCut front at → IsMemberCut (front ++ back) at
  pub same : (front back : List ℕ) (at : ℕ) → at < length front → front_object (front ++ back) at ≡ front_object front at

-- up to a cut
pub cut_there : FrontLaws → (json text more : List ℕ) (at end stop cut : ℕ) (mode : Mode) (depth : ℕ) → end ≤ stop → stop ≤ length json → IsMemberCutFrom mode depth (window end stop json) cut
    → more ≡ (text ++ take cut (window end stop json)) ++ 125 ∷ [] → IsReadTo json at end text mode depth → IsPartUpTo json at more (Some (end + cut + 1))
cut_there laws json text more at end stop cut mode depth ahead within is same before =
    let first = before.ahead in
    let seen = window end stop json in
    let found = is.comma.within in
    let size = window_size end stop json ahead within in
    let front = text ++ seen in
    let back = drop (stop - at) (drop at json) in
    let whole : front ++ back ≡ object_behind at json =
    ap (λ t. t ++ seen ++ back) before.same ∙ ap (λ t. t ++ back) (read_more at end stop json first ahead) ∙ ap (λ t. 123 ∷ t) (take-append-drop (stop - at) (drop at json)) in
    let long : length text ≡ 1 + (end - at) = ap length before.same ∙ omega (arith, length-take-le (end - at) (drop at json) (omega (arith, length-drop at json))) in
    let place : length text + cut ≡ end + cut + 1 - at = omega arith in
    let inside : length text + cut < length front = omega (arith, length-append text seen) in
    let cut_front = before.finds.cuts seen cut is in
    let parts = laws.same front back (length text + cut) inside in
    let kept : take (length text + cut) front ≡ text ++ take cut seen = take-append-add text seen cut in (
      omega arith,
      omega arith,
      subst (IsMemberCut (object_behind at json)) place (subst (λ t. IsMemberCut t (length text + cut)) whole (laws.in_front front back (length text + cut) inside cut_front)),
      same ∙ ap (λ t. t ++ 125 ∷ []) (sym kept) ∙ sym parts ∙ ap (λ t. front_object t (length text + cut)) whole ∙ ap (front_object (object_behind at json)) place,
    )

-- ---- a piece

-- the first bytes of a window are a window
window_front : (end stop n : ℕ) (json : List ℕ) → n ≤ length (window end stop json) → end ≤ stop → stop ≤ length json → take n (window end stop json) ≡ window end (end + n) json
window_front end stop n json few ahead within =
    let size = window_size end stop json ahead within in
    take-take n (stop - end) (drop end json) (omega (arith, size)) ∙ ap (λ m. take m (drop end json)) (let e : n ≡ end + n - end = omega arith in e)

module _ (json text : List ℕ) (at start end : ℕ) (mode : Mode) (depth : ℕ) (seen : IsReadTo json at end (read_to at end json) mode depth) (first : at ≤ start) (ahead : start ≤ end) where
  -- up to a comma between members in the next window, and a brace
  pub piece_cut : FrontLaws → (stop cut : ℕ) → end ≤ stop → stop ≤ length json → IsMemberCutFrom mode depth (window end stop json) cut → text ≡ window start (end + cut) json ++ 125 ∷ []
      → IsPartUpTo json at (read_to at start json ++ text) (Some (end + cut + 1))
  piece_cut laws stop cut on within is same =
      let inside = is.comma.within in
      let seen_window = take cut (window end stop json) in
      let front : read_to at start json ++ window start (end + cut) json ≡ read_to at end json ++ seen_window =
      read_more at start (end + cut) json first (omega arith) ∙ sym (read_more at end (end + cut) json (omega arith) (omega arith))
      ∙ ap (λ t. read_to at end json ++ t) (sym (window_front end stop cut json (omega (arith, inside)) on within)) in
      let joined : read_to at start json ++ text ≡ (read_to at end json ++ seen_window) ++ 125 ∷ [] =
      ap (λ t. read_to at start json ++ t) same ∙ sym (append_assoc (read_to at start json) (window start (end + cut) json) (125 ∷ [])) ∙ ap (λ t. t ++ 125 ∷ []) front in
      cut_there laws json (read_to at end json) (read_to at start json ++ text) at end stop cut mode depth on within is joined seen

-- the rest
pub piece_last : (json text : List ℕ) (at start : ℕ) → at ≤ start → start ≤ length json → text ≡ window start (length json) json → IsPartUpTo json at (read_to at start json ++ text) None
piece_last json text at start first within same =
    ap (λ t. read_to at start json ++ t) same ∙ read_more at start (length json) json first within ∙ ap (λ t. 123 ∷ t) (take_all (length json - at) (drop at json) (omega (arith, length-drop at json)))

-- up to a comma outside strings
pub piece_to_comma : (json text : List ℕ) (start comma : ℕ) → (is : IsCommaCut json start comma) → text ≡ window start comma json → take (comma + 1 - start) (drop start json) ≡ text ++ 44 ∷ []
piece_to_comma json text start comma is same =
    let ahead = is.ahead in
    let size : comma + 1 - start ≡ comma - start + 1 = omega arith in
    ap (λ n. take n (drop start json)) size ∙ take_more (drop start json) (comma - start) 0 is.comma.within ∙ ap₂ (λ t x. t ++ x ∷ []) (sym same) is.comma.comma

-- a part may go on behind a window
pub looked_to : (json : List ℕ) (at end stop place : ℕ) (mode next : Mode) (depth behind : ℕ) → end ≤ stop → stop ≤ length json → place ≡ stop → next ≡ mode_after mode (window end stop json) → behind ≡ bracket_depth mode depth (window end stop json)
    → bracket_depth mode depth (window end stop json) ≤ depth + length (window end stop json)
    → ((bytes : List ℕ) (at : ℕ) → IsMemberCutFrom (mode_after mode (window end stop json)) (bracket_depth mode depth (window end stop json)) bytes at → IsMemberCutFrom mode depth (window end stop json ++ bytes) (length (window end stop json) + at))
    → IsReadTo json at end (read_to at end json) mode depth → IsReadTo json at place (read_to at place json) next behind
looked_to json at end stop place mode next depth behind ahead within same modes depths few goes before =
    let first = before.ahead in
    subst (λ n. IsReadTo json at n (read_to at n json) next behind) (sym same)
    (read_on json (read_to at end json) (read_to at stop json) at end stop mode next (mode_after mode (window end stop json)) depth behind ahead within (sym (read_more at end stop json first ahead)) modes depths few goes before)
