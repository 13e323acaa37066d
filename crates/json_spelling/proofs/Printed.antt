-- The compact text of a sound value is read back.
use Rattle.std.proofs.Common.{◌≡◌, ℕ, suc, ◌≤◌, max, pos, negsuc, List, [], ◌∷◌, ◌++◌, false, Option, Some, option_map, option_and_then, Greater, nat_cmp, refl, sym, ap, ap₂, subst, ◌∙◌, append_assoc, append-nil, arith}
use Rattle.std.proofs.lemmas.Bool.{or_parts}
use Rattle.std.proofs.lemmas.Cmp.{nat_list_cmp_total}
use Rattle.std.specs.Cmp.Lexicographic.{slice_cmp}
use Rattle.std.specs.Ordering.{ordering_reverse}
use Rattle.std.specs.Prelude.{⊤}
use Rattle.json.specs.Token.{Token}
use Rattle.json.specs.Lex.{tokens}
use Rattle.json.specs.Print.{ArePrintable}
use Rattle.json.specs.Json as json
use Rattle.json.specs.Tree as tree
use Rattle.json.proofs.Printed.Decimals.{IsNumber-decimal, IsNumber-signed_decimal}
use Rattle.json.proofs.Printed.Tokens.{tokens-print}
use Rattle.json.proofs.Printed.Trees.{value-json_tokens}
use Rattle.serde_json.specs.Data.{Num, unsigned, negative, float, Data, null, boolean, number, string, array, object, Items, no_items, item, Members, no_members, member, put, depth, items_depth, members_depth}
use Rattle.serde_json.specs.Find.{is_float}
use Rattle.serde_json.specs.Read.{number_of, of_json, of_items, of_members, max_depth, read}
use Rattle.serde_json.specs.Written.{number_text, outline, items_outline, members_outline, has_float, items_have_float, members_have_float, compact_text}
use Rattle.serde_json.proofs.Numbers.{number_of-decimal, number_of-negative}
use Rattle.serde_json.proofs.Texts.{print-outline}
use Rattle.json_spelling.specs.Sound.{IsSoundNum, IsBelowAll, IsSound, ItemsAreSound, MembersAreSound}

number_read : (n : Num) → IsSoundNum n → is_float n ≡ false → number_of (number_text n) ≡ Some n
number_read (unsigned n) s h = number_of-decimal n s
number_read (negative (pos n)) s h = absurd s
number_read (negative (negsuc n)) s h = number_of-negative n s
number_read (float x) s h = absurd cc

-- the members, with others after them
abbrev followed : Members → Members → Members
followed no_members ms = ms
followed (member k d rest) ms = member k d (followed rest ms)

-- each key of the first is below each key of the second
abbrev AreBelow : Members → Members → Type 0
AreBelow no_members ms = ⊤
AreBelow (member k d rest) ms = IsBelowAll k ms × AreBelow rest ms

put_last : (found : Members) (k : List ℕ) (d : Data) (ms : Members) → AreBelow found (member k d ms) → put k d found ≡ followed found (member k d no_members)
put_last no_members k d ms b = refl
put_last (member l e rest) k d ms b =
    let above : slice_cmp nat_cmp k l ≡ Greater = nat_list_cmp_total.antisymm k l ∙ ap ordering_reverse b.0.0 in
    rw above (ap (member l e) (put_last rest k d ms b.1))

below_rest : (found : Members) (k : List ℕ) (d : Data) (ms : Members) → AreBelow found (member k d ms) → IsBelowAll k ms → AreBelow (followed found (member k d no_members)) ms
below_rest no_members k d ms b first = (first, tt)
below_rest (member l e rest) k d ms b first = (b.0.1, below_rest rest k d ms b.1 first)

followed_one : (found : Members) (k : List ℕ) (d : Data) (ms : Members) → followed (followed found (member k d no_members)) ms ≡ followed found (member k d ms)
followed_one no_members k d ms = refl
followed_one (member l e rest) k d ms = ap (member l e) (followed_one rest k d ms)

followed_none : (found : Members) → followed found no_members ≡ found
followed_none no_members = refl
followed_none (member l e rest) = ap (member l e) (followed_none rest)

mutual
  outline_read : (d : Data) → IsSound d → has_float d ≡ false → of_json (outline d) ≡ Some d
  outline_read null s h = refl
  outline_read (boolean b) s h = refl
  outline_read (number n) s h = ap (option_map number) (number_read n s h)
  outline_read (string t) s h = refl
  outline_read (array ds) s h = ap (option_map array) (items_read ds s h)
  outline_read (object ms) s h = ap (option_map object) (members_read ms no_members s h tt)

  items_read : (ds : Items) → ItemsAreSound ds → items_have_float ds ≡ false → of_items (items_outline ds) ≡ Some ds
  items_read no_items s h = refl
  items_read (item d ds) s h = let p = or_parts (has_float d) _ h in rw (outline_read d s.0 p.0, items_read ds s.1 p.1)

  members_read : (ms found : Members) → MembersAreSound ms → members_have_float ms ≡ false → AreBelow found ms → of_members (members_outline ms) found ≡ Some (followed found ms)
  members_read no_members found s h b = ap Some (sym (followed_none found))
  members_read (member k d ms) found s h b =
      let p = or_parts (has_float d) _ h in
      let rest = members_read ms (followed found (member k d no_members)) s.2 p.1 (below_rest found k d ms b s.1) in
      rw (outline_read d s.0 p.0) (ap (of_members (members_outline ms)) (put_last found k d ms b) ∙ rest ∙ ap Some (followed_one found k d ms))

mutual
  outline_depth : (d : Data) → tree.depth (outline d) ≡ depth d
  outline_depth null = refl
  outline_depth (boolean b) = refl
  outline_depth (number n) = refl
  outline_depth (string t) = refl
  outline_depth (array ds) = ap suc (items_outline_depth ds)
  outline_depth (object ms) = ap suc (members_outline_depth ms)

  items_outline_depth : (ds : Items) → tree.items_depth (items_outline ds) ≡ items_depth ds
  items_outline_depth no_items = refl
  items_outline_depth (item d ds) = ap₂ max (outline_depth d) (items_outline_depth ds)

  members_outline_depth : (ms : Members) → tree.members_depth (members_outline ms) ≡ members_depth ms
  members_outline_depth no_members = refl
  members_outline_depth (member k d ms) = ap₂ max (outline_depth d) (members_outline_depth ms)

number_printable : (n : Num) (ts : List Token) → IsSoundNum n → is_float n ≡ false → ArePrintable ts → ArePrintable (Token.number (number_text n) ∷ ts)
unfolding ArePrintable
number_printable (unsigned n) ts s h more = (IsNumber-decimal n s, more)
number_printable (negative (pos n)) ts s h more = absurd s
number_printable (negative (negsuc n)) ts s h more = (IsNumber-signed_decimal (negsuc n) s, more)
number_printable (float x) ts s h more = absurd cc

mutual
  unfolding ArePrintable

  printable : (d : Data) (ts : List Token) → IsSound d → has_float d ≡ false → ArePrintable ts → ArePrintable (tree.json_tokens (outline d) ++ ts)
  printable null ts s h more = (tt, more)
  printable (boolean b) ts s h more = (tt, more)
  printable (number n) ts s h more = number_printable n ts s h more
  printable (string t) ts s h more = (tt, more)
  printable (array ds) ts s h more = (tt, items_printable ds ts s h more)
  printable (object ms) ts s h more = (tt, members_printable ms ts s h more)

  items_printable : (ds : Items) (ts : List Token) → ItemsAreSound ds → items_have_float ds ≡ false → ArePrintable ts → ArePrintable (tree.items_tokens (items_outline ds) ++ ts)
  items_printable no_items ts s h more = (tt, more)
  items_printable (item d ds) ts s h more =
      let p = or_parts (has_float d) _ h in
      subst ArePrintable (sym (append_assoc (tree.json_tokens (outline d)) (tree.items_tokens (items_outline ds)) ts)) (printable d _ s.0 p.0 (items_printable ds ts s.1 p.1 more))

  members_printable : (ms : Members) (ts : List Token) → MembersAreSound ms → members_have_float ms ≡ false → ArePrintable ts → ArePrintable (tree.members_tokens (members_outline ms) ++ ts)
  members_printable no_members ts s h more = (tt, more)
  members_printable (member k d ms) ts s h more =
      let p = or_parts (has_float d) _ h in
      (tt, subst ArePrintable (sym (append_assoc (tree.json_tokens (outline d)) (tree.members_tokens (members_outline ms)) ts)) (printable d _ s.0 p.0 (members_printable ms ts s.2 p.1 more)))

whole_printable : (d : Data) → IsSound d → has_float d ≡ false → ArePrintable (tree.json_tokens (outline d))
unfolding ArePrintable
whole_printable d s h = subst ArePrintable (append-nil (tree.json_tokens (outline d))) (printable d [] s h tt)

-- what the tokens that were read are
abbrev whole : Option (json.Json × List Token) → Option Data
whole o = option_and_then of_json (option_and_then (λ p. json.if_last p.0 p.1) o)

pub printed : (d : Data) → IsSound d → has_float d ≡ false → depth d ≤ 127 → read (compact_text d) ≡ Some d
printed d s h shallow =
    let same : tokens (compact_text d) ≡ tree.json_tokens (outline d) = ap tokens (sym (print-outline d)) ∙ tokens-print _ (whole_printable d s h) in
    let flat = outline_depth d in
    ap whole (ap (json.value max_depth) (same ∙ sym (append-nil _)) ∙ value-json_tokens (outline d) max_depth [] (omega (arith, flat, shallow))) ∙ outline_read d s h
