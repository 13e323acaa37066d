-- How cap texts begin.
use Rattle.std.specs.Prelude.{ℕ, Bool, nat_eq, List, [], ◌∷◌, codes}
use Rattle.std.specs.List.{starts_with, list_any}
use Rattle.caps.specs.declared.kind.Kind.{Kind}
use Rattle.caps.specs.declared.kind.Kind.TheVariants.{ReadFile, LiteralFile, ReadDirectory, LiteralDirectory, VerifyFile, VerifyDirectory}

-- whether a text begins so
unfoldable pub begins_with : List ℕ → List ℕ → Bool
begins_with text beginning = starts_with nat_eq text beginning

abbrev pub kinds : List Kind
kinds = ReadFile ∷ LiteralFile ∷ ReadDirectory ∷ LiteralDirectory ∷ VerifyFile ∷ VerifyDirectory ∷ []

-- how the texts of a kind begin
abbrev pub beginning : Kind → List ℕ
beginning ReadFile = codes "URI:CHK:"
beginning LiteralFile = codes "URI:LIT:"
beginning ReadDirectory = codes "URI:DIR2-CHK:"
beginning LiteralDirectory = codes "URI:DIR2-LIT:"
beginning VerifyFile = codes "URI:CHK-Verifier:"
beginning VerifyDirectory = codes "URI:DIR2-CHK-Verifier:"

-- how the texts begin that name what can change
abbrev pub mutable_beginnings : List (List ℕ)
mutable_beginnings =
    codes "URI:SSK:" ∷ codes "URI:SSK-RO:" ∷ codes "URI:SSK-Verifier:"
    ∷ codes "URI:MDMF:" ∷ codes "URI:MDMF-RO:" ∷ codes "URI:MDMF-Verifier:"
    ∷ codes "URI:DIR2:" ∷ codes "URI:DIR2-RO:" ∷ codes "URI:DIR2-Verifier:"
    ∷ codes "URI:DIR2-MDMF:" ∷ codes "URI:DIR2-MDMF-RO:" ∷ codes "URI:DIR2-MDMF-Verifier:" ∷ []

unfoldable pub is_mutable : List ℕ → Bool
is_mutable text = list_any (λ beginning. begins_with text beginning) mutable_beginnings
