-- What came is cut into replies in one way.
use Rattle.std.proofs.Common.{◌≡◌, ◌≤◌, ℕ, zero, suc, List, [], ◌∷◌, ◌++◌, length, drop, sym, ap, subst, ◌∙◌, append-nil, append_assoc, arith, Option, Some, None}
use Rattle.std.specs.Prelude.{slice_get}
use Rattle.std.proofs.lemmas.List.{length-append}
use Rattle.std.proofs.Math.Seq.{drop-append_seam}
use Rattle.resp.specs.Spelled.{SpellsReply, SpellsAll, IsBegun}
use Rattle.resp.specs.declared.reply.Reply.{Reply}
use Rattle.ask_desk.specs.declared.ask.Ask.{Ask}
use Rattle.ask_desk.specs.CameIn.{reply_limits, IsPart}
use Rattle.ask_desk.specs.Dialogue.{Dialogue, IsInOrder, IsBehind, unanswered}
use Rattle.ask_desk.specs.Asks.{next_due}
use Rattle.ask_desk.proofs.Lines.{begun_nothing}

-- bytes spell one reply, and no reply begins another
abbrev pub OneReply : Type 0
OneReply = (one two : Reply) (front back other rest : List ℕ) → SpellsReply reply_limits one front → SpellsReply reply_limits two other → front ++ back ≡ other ++ rest → (one ≡ two) × (length front ≡ length other)

same_rest : (front other back rest : List ℕ) → length front ≡ length other → front ++ back ≡ other ++ rest → back ≡ rest
same_rest front other back rest long is =
    sym (drop-append_seam front back) ∙ ap (drop (length front)) is ∙ ap (λ n. drop n (other ++ rest)) long ∙ drop-append_seam other rest

same_first : (a b : List ℕ) (x y : List ℕ) (r s : List ℕ) (f g : List ℕ) → f ≡ a ++ x → g ≡ b ++ y → f ++ r ≡ g ++ s → a ++ (x ++ r) ≡ b ++ (y ++ s)
same_first a b x y r s f g one two is = sym (append_assoc a x r) ∙ ap (λ (l : List ℕ). l ++ r) (sym one) ∙ is ∙ ap (λ (l : List ℕ). l ++ s) two ∙ append_assoc b y s

pub same_place : OneReply → (xs ys : List Reply) (f g r s : List ℕ) → SpellsAll (SpellsReply reply_limits) xs f → SpellsAll (SpellsReply reply_limits) ys g → f ++ r ≡ g ++ s
    → (place : ℕ) (one two : Reply) → slice_get xs place ≡ Some one → slice_get ys place ≡ Some two → one ≡ two
same_place law [] ys f g r s left right is place one two here there = absurd cc
same_place law (x ∷ xs) [] f g r s left right is place one two here there = absurd cc
same_place law (x ∷ xs) (y ∷ ys) f g r s left right is zero one two here there =
    let cut = same_first left.0 right.0 left.1 right.1 r s f g left.4 right.4 is in
    let same : x ≡ y = (law x y left.0 (left.1 ++ r) right.0 (right.1 ++ s) left.2 right.2 cut).0 in
    let first : x ≡ one = cc in
    let second : y ≡ two = cc in
    sym first ∙ same ∙ second
same_place law (x ∷ xs) (y ∷ ys) f g r s left right is (suc place) one two here there =
    let cut = same_first left.0 right.0 left.1 right.1 r s f g left.4 right.4 is in
    let long = (law x y left.0 (left.1 ++ r) right.0 (right.1 ++ s) left.2 right.2 cut).1 in
    same_place law xs ys left.1 right.1 r s left.3 right.3 (same_rest left.0 right.0 (left.1 ++ r) (right.1 ++ s) long cut) place one two here there

-- what is begun has no whole reply in front
none_whole : OneReply → (part front rest : List ℕ) (answer : Reply) → IsBegun (SpellsReply reply_limits) part → SpellsReply reply_limits answer front → part ≡ front ++ rest → ⊥
none_whole law part front rest answer begun spelled is =
    let tail : List ℕ = begun.next ∷ begun.rest in
    let cut : front ++ (rest ++ tail) ≡ (part ++ tail) ++ [] = sym (append_assoc front rest tail) ∙ ap (λ (l : List ℕ). l ++ tail) (sym is) ∙ sym (append-nil (part ++ tail)) in
    let long = (law answer begun.value front (rest ++ tail) (part ++ tail) [] spelled begun.spelled cut).1 in
    omega (arith, long, ap length is, length-append part tail, length-append front rest)

pub no_more : OneReply → (xs ys : List Reply) (f g part s : List ℕ) → SpellsAll (SpellsReply reply_limits) xs f → SpellsAll (SpellsReply reply_limits) ys g → IsBegun (SpellsReply reply_limits) part → f ++ part ≡ g ++ s → length ys ≤ length xs
no_more law xs [] f g part s left right begun is = omega arith
no_more law [] (y ∷ ys) f g part s left right begun is =
    absurd (none_whole law part right.0 (right.1 ++ s) y begun right.2 (ap (λ (l : List ℕ). l ++ part) (sym left) ∙ is ∙ ap (λ (l : List ℕ). l ++ s) right.4 ∙ append_assoc right.0 right.1 s))
no_more law (x ∷ xs) (y ∷ ys) f g part s left right begun is =
    let cut = same_first left.0 right.0 left.1 right.1 part s f g left.4 right.4 is in
    let long = (law x y left.0 (left.1 ++ part) right.0 (right.1 ++ s) left.2 right.2 cut).1 in
    omega (arith, no_more law xs ys left.1 right.1 part s left.3 right.3 begun (same_rest left.0 right.0 (left.1 ++ part) (right.1 ++ s) long cut))

part_begun : (due : Option Ask) (part : List ℕ) → IsPart due part → IsBegun (SpellsReply reply_limits) part
part_begun None part h = subst (IsBegun (SpellsReply reply_limits)) (sym h) begun_nothing
part_begun (Some ask) part h = h.0

pub left_begun : (d : Dialogue) (o : IsInOrder d) → d.fault ≡ None → IsBegun (SpellsReply reply_limits) o.part
left_begun d o none = part_begun (next_due d.left (unanswered d)) o.part (subst (λ f. IsBehind f (next_due d.left (unanswered d)) o.part) none o.left)
