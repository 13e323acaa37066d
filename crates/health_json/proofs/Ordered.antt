-- The compact text of a value is read back, with the keys of each object in the order of their bytes.
use Rattle.std.proofs.Common.{◌≡◌, suc, ◌<◌, ◌≤◌, ◌^◌, max, List, [], ◌∷◌, ◌++◌, Option, Some, option_map, option_and_then, refl, sym, ap, ap₂, subst, ◌∙◌, append_assoc, append-nil, arith}
use Rattle.std.specs.Prelude.{⊤}
use Rattle.json.specs.Token.{Token}
use Rattle.json.specs.Lex.{tokens}
use Rattle.json.specs.Print.{ArePrintable}
use Rattle.json.specs.Json as json
use Rattle.json.specs.Tree as tree
use Rattle.json.proofs.Printed.Decimals.{IsNumber-decimal}
use Rattle.json.proofs.Printed.Tokens.{tokens-print}
use Rattle.json.proofs.Printed.Trees.{value-json_tokens}
use Rattle.serde_json.specs.Data.{Num, unsigned, negative, float, Data, null, boolean, number, string, array, object, Items, no_items, item, Members, no_members, member, put, depth, items_depth, members_depth}
use Rattle.serde_json.specs.Read.{number_of, of_json, of_items, of_members, max_depth, read}
use Rattle.serde_json.specs.Written.{number_text, outline, items_outline, members_outline, compact_text}
use Rattle.serde_json.proofs.Numbers.{number_of-decimal}
use Rattle.serde_json.proofs.Texts.{print-outline}
use Rattle.health_json.specs.Values.{in_key_order, items_in_key_order, members_in_key_order}

-- its numbers are whole ones of 64 bits
abbrev pub IsWholeNum : Num → Type 0
IsWholeNum (unsigned n) = n < 2 ^ 64
IsWholeNum (negative z) = ⊥
IsWholeNum (float x) = ⊥

abbrev mutual
  pub IsWhole : Data → Type 0
  IsWhole null = ⊤
  IsWhole (boolean b) = ⊤
  IsWhole (number n) = IsWholeNum n
  IsWhole (string s) = ⊤
  IsWhole (array ds) = ItemsAreWhole ds
  IsWhole (object ms) = MembersAreWhole ms

  pub ItemsAreWhole : Items → Type 0
  ItemsAreWhole no_items = ⊤
  ItemsAreWhole (item d ds) = IsWhole d × ItemsAreWhole ds

  pub MembersAreWhole : Members → Type 0
  MembersAreWhole no_members = ⊤
  MembersAreWhole (member k d ms) = IsWhole d × MembersAreWhole ms

number_read : (n : Num) → IsWholeNum n → number_of (number_text n) ≡ Some n
number_read (unsigned n) s = number_of-decimal n s
number_read (negative z) s = absurd s
number_read (float x) s = absurd s

mutual
  outline_read : (d : Data) → IsWhole d → of_json (outline d) ≡ Some (in_key_order d)
  outline_read null s = refl
  outline_read (boolean b) s = refl
  outline_read (number n) s = ap (option_map number) (number_read n s)
  outline_read (string t) s = refl
  outline_read (array ds) s = ap (option_map array) (items_read ds s)
  outline_read (object ms) s = ap (option_map object) (members_read ms no_members s)

  items_read : (ds : Items) → ItemsAreWhole ds → of_items (items_outline ds) ≡ Some (items_in_key_order ds)
  items_read no_items s = refl
  items_read (item d ds) s = rw (outline_read d s.0, items_read ds s.1)

  members_read : (ms found : Members) → MembersAreWhole ms → of_members (members_outline ms) found ≡ Some (members_in_key_order ms found)
  members_read no_members found s = refl
  members_read (member k d ms) found s = rw (outline_read d s.0) (members_read ms (put k (in_key_order d) found) s.1)

mutual
  outline_depth : (d : Data) → tree.depth (outline d) ≡ depth d
  outline_depth null = refl
  outline_depth (boolean b) = refl
  outline_depth (number n) = refl
  outline_depth (string t) = refl
  outline_depth (array ds) = ap suc (items_outline_depth ds)
  outline_depth (object ms) = ap suc (members_outline_depth ms)

  items_outline_depth : (ds : Items) → tree.items_depth (items_outline ds) ≡ items_depth ds
  items_outline_depth no_items = refl
  items_outline_depth (item d ds) = ap₂ max (outline_depth d) (items_outline_depth ds)

  members_outline_depth : (ms : Members) → tree.members_depth (members_outline ms) ≡ members_depth ms
  members_outline_depth no_members = refl
  members_outline_depth (member k d ms) = ap₂ max (outline_depth d) (members_outline_depth ms)

number_printable : (n : Num) (ts : List Token) → IsWholeNum n → ArePrintable ts → ArePrintable (Token.number (number_text n) ∷ ts)
unfolding ArePrintable
number_printable (unsigned n) ts s more = (IsNumber-decimal n s, more)
number_printable (negative z) ts s more = absurd s
number_printable (float x) ts s more = absurd s

mutual
  unfolding ArePrintable

  printable : (d : Data) (ts : List Token) → IsWhole d → ArePrintable ts → ArePrintable (tree.json_tokens (outline d) ++ ts)
  printable null ts s more = (tt, more)
  printable (boolean b) ts s more = (tt, more)
  printable (number n) ts s more = number_printable n ts s more
  printable (string t) ts s more = (tt, more)
  printable (array ds) ts s more = (tt, items_printable ds ts s more)
  printable (object ms) ts s more = (tt, members_printable ms ts s more)

  items_printable : (ds : Items) (ts : List Token) → ItemsAreWhole ds → ArePrintable ts → ArePrintable (tree.items_tokens (items_outline ds) ++ ts)
  items_printable no_items ts s more = (tt, more)
  items_printable (item d ds) ts s more =
      subst ArePrintable (sym (append_assoc (tree.json_tokens (outline d)) (tree.items_tokens (items_outline ds)) ts)) (printable d _ s.0 (items_printable ds ts s.1 more))

  members_printable : (ms : Members) (ts : List Token) → MembersAreWhole ms → ArePrintable ts → ArePrintable (tree.members_tokens (members_outline ms) ++ ts)
  members_printable no_members ts s more = (tt, more)
  members_printable (member k d ms) ts s more =
      (tt, subst ArePrintable (sym (append_assoc (tree.json_tokens (outline d)) (tree.members_tokens (members_outline ms)) ts)) (printable d _ s.0 (members_printable ms ts s.1 more)))

whole_printable : (d : Data) → IsWhole d → ArePrintable (tree.json_tokens (outline d))
unfolding ArePrintable
whole_printable d s = subst ArePrintable (append-nil (tree.json_tokens (outline d))) (printable d [] s tt)

-- what the tokens that were read are
abbrev of_tokens : Option (json.Json × List Token) → Option Data
of_tokens o = option_and_then of_json (option_and_then (λ p. json.if_last p.0 p.1) o)

pub ordered_read : (d : Data) → IsWhole d → depth d ≤ 127 → read (compact_text d) ≡ Some (in_key_order d)
ordered_read d s shallow =
    let same : tokens (compact_text d) ≡ tree.json_tokens (outline d) = ap tokens (sym (print-outline d)) ∙ tokens-print _ (whole_printable d s) in
    let flat = outline_depth d in
    ap of_tokens (ap (json.value max_depth) (same ∙ sym (append-nil _)) ∙ value-json_tokens (outline d) max_depth [] (omega (arith, flat, shallow)))
    ∙ outline_read d s
