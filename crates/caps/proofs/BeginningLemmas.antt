-- How texts begin.
use Rattle.std.proofs.Common.{◌≡◌, ℕ, Bool, true, false, ◌||◌, nat_eq, List, [], ◌∷◌, ◌++◌, length, take, drop, codes, Option, Some, None, cond, refl, ap, sym, ◌∙◌}
use Rattle.std.specs.List.{AllByRecursion, find}
use Rattle.std.specs.Cmp.Lexicographic.{pointwise}
use Rattle.std.proofs.lemmas.Slice.Eq.{bytes_eq-Decides}
use Rattle.std.proofs.lemmas.List.{take-append-drop}
use Rattle.caps.specs.Beginnings.{begins_with, beginning, kinds, is_mutable}
use Rattle.caps.specs.declared.kind.Kind.{Kind}
use Rattle.caps.specs.declared.kind.Kind.TheVariants.{ReadFile, LiteralFile, ReadDirectory, LiteralDirectory, VerifyFile, VerifyDirectory}

-- the kind of a text
abbrev pub kind_of : List ℕ → Option Kind
kind_of text = find (λ kind. begins_with text (beginning kind)) kinds

pub kind_of-beginning : (kind : Kind) (rest : List ℕ) → kind_of (beginning kind ++ rest) ≡ Some kind
unfolding begins_with
kind_of-beginning ReadFile rest = refl
kind_of-beginning LiteralFile rest = refl
kind_of-beginning ReadDirectory rest = refl
kind_of-beginning LiteralDirectory rest = refl
kind_of-beginning VerifyFile rest = refl
kind_of-beginning VerifyDirectory rest = refl

pub begins_with-beginning : (kind : Kind) (rest : List ℕ) → begins_with (beginning kind ++ rest) (beginning kind) ≡ true
unfolding begins_with
begins_with-beginning ReadFile rest = refl
begins_with-beginning LiteralFile rest = refl
begins_with-beginning ReadDirectory rest = refl
begins_with-beginning LiteralDirectory rest = refl
begins_with-beginning VerifyFile rest = refl
begins_with-beginning VerifyDirectory rest = refl

pub drop-beginning : (kind : Kind) (rest : List ℕ) → drop (length (beginning kind)) (beginning kind ++ rest) ≡ rest
drop-beginning ReadFile rest = refl
drop-beginning LiteralFile rest = refl
drop-beginning ReadDirectory rest = refl
drop-beginning LiteralDirectory rest = refl
drop-beginning VerifyFile rest = refl
drop-beginning VerifyDirectory rest = refl

pub is_mutable-beginning : (kind : Kind) (rest : List ℕ) → is_mutable (beginning kind ++ rest) ≡ false
unfolding is_mutable begins_with
is_mutable-beginning ReadFile rest = refl
is_mutable-beginning LiteralFile rest = refl
is_mutable-beginning ReadDirectory rest = refl
is_mutable-beginning LiteralDirectory rest = refl
is_mutable-beginning VerifyFile rest = refl
is_mutable-beginning VerifyDirectory rest = refl

-- a text that begins so is the beginning and what follows
pub begins : (text start : List ℕ) → begins_with text start ≡ true → text ≡ start ++ drop (length start) text
unfolding begins_with
begins text start e =
    sym (take-append-drop (length start) text)
    ∙ ap (λ s. s ++ drop (length start) text) (sym ((bytes_eq-Decides start (take (length start) text)).0 e))

-- what a search says of what it found
abbrev pub Found : (Kind → Bool) → List Kind → Option Kind → Type 0
Found test all (Some kind) = test kind ≡ true
Found test all None = AllByRecursion (λ kind. test kind ≡ false) all

found_by : (test : Kind → Bool) (first : Kind) (others : List Kind) (b : Bool) → test first ≡ b → (o : Option Kind) → Found test others o
    → Found test (first ∷ others) (cond b (Some first) o)
found_by test first others true e o f = e
found_by test first others false e (Some kind) f = f
found_by test first others false e None f = (e, f)

pub found : (test : Kind → Bool) (all : List Kind) → Found test all (find test all)
found test [] = tt
found test (first ∷ others) = found_by test first others (test first) refl (find test others) (found test others)

-- what is said of all kinds is said of each
pub each_kind : (test : Kind → Bool) → AllByRecursion (λ kind. test kind ≡ false) kinds → (kind : Kind) → test kind ≡ false
each_kind test all ReadFile = all.0
each_kind test all LiteralFile = all.1.0
each_kind test all ReadDirectory = all.1.1.0
each_kind test all LiteralDirectory = all.1.1.1.0
each_kind test all VerifyFile = all.1.1.1.1.0
each_kind test all VerifyDirectory = all.1.1.1.1.1.0

-- the other way round: a text that does not begin so
pub begins_not : (text start : List ℕ) → pointwise nat_eq (take (length start) text) start ≡ false → begins_with text start ≡ false
unfolding begins_with
begins_not text start e = by_test (pointwise nat_eq start (take (length start) text)) refl
  where
    by_test : (b : Bool) → pointwise nat_eq start (take (length start) text) ≡ b → pointwise nat_eq start (take (length start) text) ≡ false
    by_test true is_so =
        let same : start ≡ take (length start) text = (bytes_eq-Decides start (take (length start) text)).0 is_so in
        let turned : pointwise nat_eq (take (length start) text) start ≡ true = (bytes_eq-Decides (take (length start) text) start).1 (sym same) in
        cc
    by_test false is_not = is_not

pub rest_after : (text start rest : List ℕ) → pointwise nat_eq (take (length start) text) start ≡ true → rest ≡ drop (length start) text
    → text ≡ start ++ rest
rest_after text start rest e r =
    sym (take-append-drop (length start) text)
    ∙ ap (λ s. s ++ drop (length start) text) ((bytes_eq-Decides (take (length start) text) start).0 e)
    ∙ ap (λ s. start ++ s) (sym r)

-- six tests, one for each kind
pub no_kind : (text : List ℕ) → begins_with text (codes "URI:CHK:") ≡ false → begins_with text (codes "URI:LIT:") ≡ false
    → begins_with text (codes "URI:DIR2-CHK:") ≡ false → begins_with text (codes "URI:DIR2-LIT:") ≡ false
    → begins_with text (codes "URI:CHK-Verifier:") ≡ false → begins_with text (codes "URI:DIR2-CHK-Verifier:") ≡ false
    → (kind : Kind) → begins_with text (beginning kind) ≡ false
no_kind text a b c d e f ReadFile = a
no_kind text a b c d e f LiteralFile = b
no_kind text a b c d e f ReadDirectory = c
no_kind text a b c d e f LiteralDirectory = d
no_kind text a b c d e f VerifyFile = e
no_kind text a b c d e f VerifyDirectory = f

-- one of three beginnings
abbrev pub three : List ℕ → List ℕ → List ℕ → List ℕ → Bool
three text a b c = begins_with text a || (begins_with text b || begins_with text c)

twelve : (a b c d e f g h i j k l : Bool)
    → (a || (b || (c || (d || (e || (f || (g || (h || (i || (j || (k || (l || false))))))))))))
    ≡ ((a || (b || c)) || ((d || (e || f)) || ((g || (h || i)) || (j || (k || l)))))
twelve true b c d e f g h i j k l = refl
twelve false true c d e f g h i j k l = refl
twelve false false true d e f g h i j k l = refl
twelve false false false true e f g h i j k l = refl
twelve false false false false true f g h i j k l = refl
twelve false false false false false true g h i j k l = refl
twelve false false false false false false true h i j k l = refl
twelve false false false false false false false true i j k l = refl
twelve false false false false false false false false true j k l = refl
twelve false false false false false false false false false true k l = refl
twelve false false false false false false false false false false true l = refl
twelve false false false false false false false false false false false true = refl
twelve false false false false false false false false false false false false = refl

abbrev pub ssk : List ℕ → Bool
ssk text = three text (codes "URI:SSK:") (codes "URI:SSK-RO:") (codes "URI:SSK-Verifier:")

abbrev pub mdmf : List ℕ → Bool
mdmf text = three text (codes "URI:MDMF:") (codes "URI:MDMF-RO:") (codes "URI:MDMF-Verifier:")

abbrev pub dir2 : List ℕ → Bool
dir2 text = three text (codes "URI:DIR2:") (codes "URI:DIR2-RO:") (codes "URI:DIR2-Verifier:")

abbrev pub dir2_mdmf : List ℕ → Bool
dir2_mdmf text = three text (codes "URI:DIR2-MDMF:") (codes "URI:DIR2-MDMF-RO:") (codes "URI:DIR2-MDMF-Verifier:")

pub is_mutable-by_three : (text : List ℕ) → is_mutable text ≡
    (three text (codes "URI:SSK:") (codes "URI:SSK-RO:") (codes "URI:SSK-Verifier:")
    || (three text (codes "URI:MDMF:") (codes "URI:MDMF-RO:") (codes "URI:MDMF-Verifier:")
    || (three text (codes "URI:DIR2:") (codes "URI:DIR2-RO:") (codes "URI:DIR2-Verifier:")
    || three text (codes "URI:DIR2-MDMF:") (codes "URI:DIR2-MDMF-RO:") (codes "URI:DIR2-MDMF-Verifier:"))))
unfolding is_mutable
is_mutable-by_three text =
    twelve
    (begins_with text (codes "URI:SSK:"))
    (begins_with text (codes "URI:SSK-RO:"))
    (begins_with text (codes "URI:SSK-Verifier:"))
    (begins_with text (codes "URI:MDMF:"))
    (begins_with text (codes "URI:MDMF-RO:"))
    (begins_with text (codes "URI:MDMF-Verifier:"))
    (begins_with text (codes "URI:DIR2:"))
    (begins_with text (codes "URI:DIR2-RO:"))
    (begins_with text (codes "URI:DIR2-Verifier:"))
    (begins_with text (codes "URI:DIR2-MDMF:"))
    (begins_with text (codes "URI:DIR2-MDMF-RO:"))
    (begins_with text (codes "URI:DIR2-MDMF-Verifier:"))

first_yes : (m a b c d : Bool) → m ≡ (a || (b || (c || d))) → a ≡ true → true ≡ m
first_yes m a b c d e h = sym (e ∙ rw h refl)

second_yes : (m a b c d : Bool) → m ≡ (a || (b || (c || d))) → a ≡ false → b ≡ true → true ≡ m
second_yes m a b c d e h k = sym (e ∙ rw (h, k) refl)

third_yes : (m a b c d : Bool) → m ≡ (a || (b || (c || d))) → a ≡ false → b ≡ false → c ≡ true → true ≡ m
third_yes m a b c d e h k l = sym (e ∙ rw (h, k, l) refl)

fourth : (m a b c d r : Bool) → m ≡ (a || (b || (c || d))) → a ≡ false → b ≡ false → c ≡ false → r ≡ d → r ≡ m
fourth m a b c d r e h k l s = s ∙ sym (e ∙ rw (h, k, l) refl)

pub mutable_first : (text : List ℕ) → ssk text ≡ true → true ≡ is_mutable text
mutable_first text a = first_yes (is_mutable text) (ssk text) (mdmf text) (dir2 text) (dir2_mdmf text) (is_mutable-by_three text) a

pub mutable_second : (text : List ℕ) → ssk text ≡ false → mdmf text ≡ true → true ≡ is_mutable text
mutable_second text a b = second_yes (is_mutable text) (ssk text) (mdmf text) (dir2 text) (dir2_mdmf text) (is_mutable-by_three text) a b

pub mutable_third : (text : List ℕ) → ssk text ≡ false → mdmf text ≡ false → dir2 text ≡ true → true ≡ is_mutable text
mutable_third text a b c = third_yes (is_mutable text) (ssk text) (mdmf text) (dir2 text) (dir2_mdmf text) (is_mutable-by_three text) a b c

pub mutable_fourth : (text : List ℕ) (r : Bool) → ssk text ≡ false → mdmf text ≡ false → dir2 text ≡ false → r ≡ dir2_mdmf text → r ≡ is_mutable text
mutable_fourth text r a b c d =
    fourth (is_mutable text) (ssk text) (mdmf text) (dir2 text) (dir2_mdmf text) r (is_mutable-by_three text) a b c d
