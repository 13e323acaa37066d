-- Commands.
use Rattle.std.proofs.Common.{◌≡◌, ℕ, ◌+◌, ◌≤◌, ◌<◌, ◌^◌, List, [], ◌∷◌, ◌++◌, length, Bor, refl, sym, ap, subst, ◌∙◌, arith, append-nil, append_assoc, length-append}
use Rattle.std.specs.Prelude.{decimal, map}
use Rattle.std.specs.List.{flat_map, AllByRecursion}
use Rattle.std.proofs.lemmas.Fmt.{decimal_is_IsNumeral, length-decimal-le}
use Rattle.std.proofs.lemmas.List.{length-map}
use Rattle.std.proofs.lemmas.Grind.{flat_map-append}
use Rattle.resp.specs.declared.limits.Limits.{Limits}
use Rattle.resp.specs.declared.reply.Item.TheVariants as item
use Rattle.resp.specs.declared.reply.Element.TheVariants as element
use Rattle.resp.specs.declared.reply.Reply.TheVariants as reply
use Rattle.resp.specs.Command.{line_end, line, bulk, command}
use Rattle.resp.specs.Spelled.{Writes, SpellsAll, SpellsElement, SpellsReply}

pub command_is : (words : List (Bor (List ℕ))) (bytes : List ℕ) → bytes ≡ line 42 (decimal (length words)) ++ flat_map bulk (map (λ word. word.now) words)
    → bytes ≡ command (map (λ word. word.now) words)
unfolding command
command_is words bytes e = e ∙ rw length-map refl

-- a last word behind the line that has its length
glued : (count words line last : List ℕ) → count ++ words ++ line ++ last ++ line_end ≡ count ++ (words ++ (line ++ last ++ line_end ++ []))
glued count words line last = simp (append_assoc, append-nil) refl

pub head_is : (words : List (Bor (List ℕ))) (bytes last : List ℕ) (len : ℕ)
    → bytes ≡ line 42 (decimal (length words + 1)) ++ flat_map bulk (map (λ word. word.now) words) ++ line 36 (decimal len) → length last ≡ len
    → bytes ++ last ++ line_end ≡ command (map (λ word. word.now) words ++ last ∷ [])
unfolding command
head_is words bytes last len e long =
    ap (λ l. l ++ last ++ line_end) e ∙ glued (line 42 (decimal (length words + 1))) (flat_map bulk (map (λ word. word.now) words)) (line 36 (decimal len)) last
    ∙ rw (length-append, length-map, flat_map-append, long) refl

-- a number that is printed is read as that number
prints : (limits : Limits) (most n : ℕ) → 20 ≤ limits.line → n ≤ most → n < 2 ^ 32 → Writes limits most (decimal n) n
prints limits most n line fits small =
    let d = decimal_is_IsNumeral n (omega (arith, small)) in
    let short : length (decimal n) ≤ 20 = length-decimal-le 20 n (omega arith) (omega (arith, small)) (omega (arith, small)) in
    (d.0, omega (arith, short, line), d.1, fits)

bulks_spell : (limits : Limits) (words : List (List ℕ)) → 20 ≤ limits.line → limits.bulk < 2 ^ 32 → AllByRecursion (λ word. length word ≤ limits.bulk) words
    → SpellsAll (SpellsElement limits) (map (λ word. element.One (item.Bulk word)) words) (flat_map bulk words)
bulks_spell limits [] line small all = refl
bulks_spell limits (w ∷ ws) line small all =
    (bulk w, flat_map bulk ws, (decimal (length w), prints limits limits.bulk (length w) line all.0 (omega (arith, all.0, small)), refl), bulks_spell limits ws line small all.1, refl)

pub command_spells : (limits : Limits) (words : List (List ℕ)) → 20 ≤ limits.line → limits.bulk < 2 ^ 32 → limits.elements < 2 ^ 32 → length words ≤ limits.elements
    → AllByRecursion (λ word. length word ≤ limits.bulk) words
    → SpellsReply limits (reply.Several (map (λ word. element.One (item.Bulk word)) words)) (command words)
unfolding command
command_spells limits words line_room small some count all =
    let counted : length (map (λ word. element.One (item.Bulk word)) words) ≡ length words = rw length-map refl in (
      decimal (length words),
      flat_map bulk words,
      subst (λ n. Writes limits limits.elements (decimal (length words)) n) (sym counted) (prints limits limits.elements (length words) line_room count (omega (arith, count, some))),
      bulks_spell limits words line_room small all,
      refl,
    )
