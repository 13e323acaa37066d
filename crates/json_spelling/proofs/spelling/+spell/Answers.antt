use Rattle.std.proofs.Common.{◌≡◌, ◌-◌, ◌<◌, ◌≤◌, [], ◌∷◌, ◌++◌, length, false, true, Some, None, option_map, is_some, string_bytes, refl, sym, ap, ap₂, ◌∙◌, subst, arith, rules}
use Rattle.std.proofs.lemmas.Result.{IfOk-weaker}
use Rattle.json.specs.Json.{parse_map, after_end_array, read_key, items, members, value}
use Rattle.json.specs.Reads.{token_of}
use Rattle.json.proofs.Printed.Utf8.{IsUtf8-are_ascii}
use Rattle.json.proofs.Grammar.{value_is, read_key-shorter}
use Rattle.serde_json.specs.Data.{null, boolean, number, string, array, object, no_items, item, no_members, member, put}
use Rattle.serde_json.specs.Read.{of_json, of_items, of_members, converted}
use Rattle.serde_json.specs.Written.{comma_if}
use Rattle.json_spelling.specs.Spelled.{SpellsValue, AreSpelled, rises, entries_levels}
use Rattle.json_spelling.proofs.ReadData.{next_item, no_item, last_item, next_member, no_member, no_key, last_member, null_read, boolean_read, string_read, number_read, number_refused, array_opened, object_opened}
use Rattle.json_spelling.proofs.OnePass.{beside_all, beside_more, beside_none, opened_extent, one_item, parse_map_twice, parse_map_none, items_opened, items_closed, still_last, members_opened, risen_member, risen_utf8, gathered, gathered_levels, put_text, spelled_extent, spelled_utf8, item_utf8, opened_utf8}
use Rattle.json_spelling.proofs.spelling.+spell.Goals as goal

pub gather_members-members-init : goal.gather_members-members-init
gather_members-members-init t c =
    let none : AreSpelled c.new-found.result.entries no_members = subst (λ es. AreSpelled es no_members) (sym c.new-found.ensures.empty) tt in
    let flat : entries_levels c.new-found.result.entries ≤ c.args.depth = subst (λ es. entries_levels es ≤ c.args.depth) (sym c.new-found.ensures.empty) (omega arith) in
    (length c.args.reader.now, omega arith, no_members, refl, none, omega arith, flat)

pub gather_members-returns-in_err-name-clause-err : goal.gather_members-returns-in_err-name-clause-err
gather_members-returns-in_err-name-clause-err t c not_json =
    let l = c.members in
    let i = l.invariant in
    i.3 ∙ no_key (value c.args.depth) i.0 l.reader i.2 c.in_err-name.ensures.value

pub gather_members-returns-in_err-extent-clause-err : goal.gather_members-returns-in_err-extent-clause-err
gather_members-returns-in_err-extent-clause-err t c not_json =
    let l = c.members in
    let i = l.invariant in
    let k = c.in-Some.name.now in
    let s = c.next_key.new.self in
    let named : read_key l.reader ≡ Some (Some k, s) = grind arith in
    let less = read_key-shorter l.reader (Some k) s named in
    i.3 ∙ no_member (value c.args.depth) i.0 l.reader k s i.2 (omega (arith, i.1, less)) named (c.spell_value.ensures.err (grind arith))

pub gather_members-members-preserved : goal.gather_members-members-preserved
gather_members-members-preserved t c =
    let l = c.members in
    let i = l.invariant in
    let k = c.in-Some.name.now in
    let s = c.next_key.new.self in
    let r = c.spell_value.new.reader in
    let named : read_key l.reader ≡ Some (Some k, s) = grind arith in
    let less = read_key-shorter l.reader (Some k) s named in
    let lesser = c.in_ok-extent.ensures.shorter in
    let done = c.in_ok-extent.ensures.ok in
    let copied : string_bytes c.in_ok-key.key ≡ k = search rules in
    let are = gathered l.found.entries _ i.2 c.in_ok-key.key _ done.0 k _ c.in_ok-insert.ensures.entries copied i.4 c.new-text.ensures.items done.2 done.3 done.4 in
    let levels = gathered_levels l.found.entries _ c.in_ok-key.key _ c.args.depth c.in_ok-insert.ensures.entries i.6 c.in_ok-extent.ensures.levels in (
      i.0 - 1,
      omega (arith, i.1, less, lesser),
      put k done.0 i.2,
      i.3 ∙ next_member (value c.args.depth) i.0 l.reader k s r done.0 i.2 (omega (arith, i.1, less)) named done.1,
      are,
      omega (arith, i.5, less, lesser),
      levels,
    )

pub gather_members-returns-clause-ok : goal.gather_members-returns-clause-ok
gather_members-returns-clause-ok t c =
    let l = c.members in
    let i = l.invariant in
    (i.2, i.3 ∙ last_member (value c.args.depth) i.0 l.reader c.next_key.new.self i.2 i.1 (grind arith), i.4)

pub spell_items-items-init : goal.spell_items-items-init
spell_items-items-init t c =
    let all = converted of_items (items (value c.args.depth) (length c.args.reader.now) c.args.reader.now) in
    let pushed : c.push.new.self.items ≡ c.args.out.now.items ++ 91 ∷ [] = search rules in
    (length c.args.reader.now, omega arith, λ ds. ds, parse_map_none all, λ rest. items_opened c.args.out.now.items c.push.new.self.items rest pushed, λ rest. beside_all c.flat-extent.result c.flat-extent.ensures _ _, λ rest utf8. utf8, omega arith, omega arith)

pub spell_items-returns-in_err-item-clause-err : goal.spell_items-returns-in_err-item-clause-err
spell_items-returns-in_err-item-clause-err t c not_json =
    let l = c.items in
    let i = l.invariant in
    let going : (after_end_array l.reader ≡ None) × (c.take_end_array.new.self ≡ l.reader) = grind arith in
    let refused : converted of_json (value c.args.depth c.take_end_array.new.self) ≡ None = c.spell_value.ensures.err (grind arith) in
    i.3 ∙ ap (parse_map i.2) (no_item (value c.args.depth) i.0 l.reader going.0 (rw (← going.1) refused))

pub spell_items-items-preserved : goal.spell_items-items-preserved
spell_items-items-preserved t c =
    let l = c.items in
    let i = l.invariant in
    let going : (after_end_array l.reader ≡ None) × (c.take_end_array.new.self ≡ l.reader) = grind arith in
    let lesser = c.in_ok-item.ensures.shorter in
    let done = c.in_ok-item.ensures.ok in
    let d = done.0 in
    let r = c.spell_value.new.reader in
    let less : length r < length l.reader = rw (← going.1) lesser in
    let read : converted of_json (value c.args.depth l.reader) ≡ Some (d, r) = rw (← going.1) done.1 in (
      i.0 - 1,
      omega (arith, i.1, less),
      λ rest. i.2 (item d rest),
      i.3 ∙ ap (parse_map i.2) (next_item (value c.args.depth) i.0 l.reader r d (omega (arith, i.1, less)) going.0 read) ∙ parse_map_twice i.2 (item d) _,
      λ rest. one_item c.args.out.now.items l.out.items l.later d rest _ _ _ (i.4 (item d rest)) c.in_ok-separate.ensures done.2,
      λ rest. beside_more l.extent c.in_ok-item.item c.beside-extent.result _ _ _ _ _ _ (i.5 (item d rest)) done.3 c.beside-extent.ensures,
      λ rest utf8. i.6 (item d rest) (item_utf8 l.later d rest done.4 utf8),
      omega (arith, i.7, less),
      omega (arith, i.8, c.in_ok-item.ensures.levels, c.beside-extent.ensures.0),
    )

pub spell_items-returns-clause-ok : goal.spell_items-returns-clause-ok
spell_items-returns-clause-ok t c =
    let l = c.items in
    let i = l.invariant in
    let pushed : c.push-2.new.self.items ≡ l.out.items ++ 93 ∷ [] = search rules in (
      i.2 no_items,
      i.3 ∙ ap (parse_map i.2) (last_item (value c.args.depth) i.0 l.reader c.take_end_array.new.self i.1 (grind arith)),
      items_closed c.args.out.now.items l.out.items _ l.later (i.2 no_items) (i.4 no_items) pushed,
      beside_none l.extent _ _ (i.5 no_items),
      i.6 no_items (IsUtf8-are_ascii (93 ∷ []) refl),
    )

pub spell_members-returns-in_ok-put_members-in-Any-clause-ok : goal.spell_members-returns-in_ok-put_members-in-Any-clause-ok
spell_members-returns-in_ok-put_members-in-Any-clause-ok t c =
    let got = c.in_ok-found-in-Any.ensures.ok in
    let es = c.in_ok-found-in-Any.found.entries in
    let put = c.in_ok-put_members-in-Any.ensures in (
      got.0,
      got.1,
      put_text _ _ es got.0 got.2 put.text,
      spelled_extent _ es got.0 got.2 put.extent,
      spelled_utf8 false es got.0 got.2,
    )

pub spell_value-returns-in_err-token-clause-err : goal.spell_value-returns-in_err-token-clause-err
spell_value-returns-in_err-token-clause-err t c not_json =
    let empty : c.args.reader.now ≡ [] = grind arith in
    ap (converted of_json) (ap (value c.args.depth) empty ∙ value_is c.args.depth [])

pub spell_token-returns-then-depth-eq0-clause-err : goal.spell_token-returns-then-depth-eq0-clause-err
unfolding value
spell_token-returns-then-depth-eq0-clause-err t c not_json =
    let none : c.args.depth ≡ 0 = omega arith in
    ap (converted of_json) (ap₂ value none (ap (λ k. token_of k ∷ c.args.reader.now) c.in-BeginArray.is))

pub spell_token-returns-then-depth-eq0-2-clause-err : goal.spell_token-returns-then-depth-eq0-2-clause-err
unfolding value
spell_token-returns-then-depth-eq0-2-clause-err t c not_json =
    let none : c.args.depth ≡ 0 = omega arith in
    ap (converted of_json) (ap₂ value none (ap (λ k. token_of k ∷ c.args.reader.now) c.in-BeginObject.is))

pub spell_token-returns-in_err-extent-in-BeginArray-clause-err : goal.spell_token-returns-in_err-extent-in-BeginArray-clause-err
spell_token-returns-in_err-extent-in-BeginArray-clause-err t c not_json =
    let opened = ap (λ k. converted of_json (value c.args.depth (token_of k ∷ c.args.reader.now))) c.in-BeginArray.is ∙ array_opened c.args.depth c.args.reader.now (omega arith) in
    opened ∙ ap (parse_map array) (c.spell_items.ensures.err (grind arith))

pub spell_token-returns-in_err-extent-in-BeginObject-clause-err : goal.spell_token-returns-in_err-extent-in-BeginObject-clause-err
spell_token-returns-in_err-extent-in-BeginObject-clause-err t c not_json =
    let opened = ap (λ k. converted of_json (value c.args.depth (token_of k ∷ c.args.reader.now))) c.in-BeginObject.is ∙ object_opened c.args.depth c.args.reader.now (omega arith) in
    opened ∙ ap (parse_map object) (c.spell_members.ensures.err (grind arith))

pub spell_token-returns-in_ok-put-in-Null-clause-ok : goal.spell_token-returns-in_ok-put-in-Null-clause-ok
spell_token-returns-in_ok-put-in-Null-clause-ok t c =
    let read = ap (λ k. converted of_json (value c.args.depth (token_of k ∷ c.args.reader.now))) c.in-Null.is ∙ null_read c.args.depth c.args.reader.now in
    (null, read, c.in_ok-put-in-Null.ensures.written, c.flat.ensures, c.in_ok-put-in-Null.ensures.utf8)

pub spell_token-returns-in_ok-put-in-Bool-clause-ok : goal.spell_token-returns-in_ok-put-in-Bool-clause-ok
spell_token-returns-in_ok-put-in-Bool-clause-ok t c =
    let read = ap (λ k. converted of_json (value c.args.depth (token_of k ∷ c.args.reader.now))) c.in-Bool.is ∙ boolean_read c.args.depth c.args.reader.now c.in-Bool.b in
    (boolean c.in-Bool.b, read, c.in_ok-put-in-Bool.ensures.written, c.flat-in-Bool.ensures, c.in_ok-put-in-Bool.ensures.utf8)

pub spell_token-returns-in_ok-put-in-String-clause-ok : goal.spell_token-returns-in_ok-put-in-String-clause-ok
spell_token-returns-in_ok-put-in-String-clause-ok t c =
    let read = ap (λ k. converted of_json (value c.args.depth (token_of k ∷ c.args.reader.now))) c.in-String.is ∙ string_read c.args.depth c.args.reader.now c.in-String.text.now in
    (string c.in-String.text.now, read, c.in_ok-put-in-String.ensures.written, c.flat-in-String.ensures, c.in_ok-put-in-String.ensures.utf8)

pub spell_token-returns-in-Number-clause-ok : goal.spell_token-returns-in-Number-clause-ok
spell_token-returns-in-Number-clause-ok t c =
    let first = ap (λ k. converted of_json (value c.args.depth (token_of k ∷ c.args.reader.now))) c.in-Number.is in
    IfOk-weaker c.spell_number.result _ (SpellsValue c.args.depth (token_of c.args.token ∷ c.args.reader.now) c.args.reader.now c.args.out.now.items c.spell_number.new.out.items)
    (λ extent e. (number e.0, first ∙ number_read c.args.depth c.args.reader.now c.in-Number.text.now e.0 e.1, e.2, e.3, e.4))
    c.spell_number.ensures.ok

pub spell_token-returns-in-Number-clause-levels : goal.spell_token-returns-in-Number-clause-levels
spell_token-returns-in-Number-clause-levels t c = IfOk-weaker c.spell_number.result _ _ (λ extent none. omega (arith, none)) c.spell_number.ensures.levels

pub spell_token-returns-in-Number-clause-err : goal.spell_token-returns-in-Number-clause-err
spell_token-returns-in-Number-clause-err t c not_json =
    let first = ap (λ k. converted of_json (value c.args.depth (token_of k ∷ c.args.reader.now))) c.in-Number.is in
    first ∙ number_refused c.args.depth c.args.reader.now c.in-Number.text.now (c.spell_number.ensures.err not_json)

pub spell_token-returns-in_ok-extent-in-BeginArray-clause-ok : goal.spell_token-returns-in_ok-extent-in-BeginArray-clause-ok
spell_token-returns-in_ok-extent-in-BeginArray-clause-ok t c =
    let opened = ap (λ k. converted of_json (value c.args.depth (token_of k ∷ c.args.reader.now))) c.in-BeginArray.is ∙ array_opened c.args.depth c.args.reader.now (omega arith) in
    let done = c.in_ok-extent-in-BeginArray.ensures.ok in
    (array done.0, opened ∙ ap (parse_map array) done.1, done.2, opened_extent _ _ _ _ done.3 c.opened.ensures, opened_utf8 91 _ refl done.4)

pub spell_token-returns-in_ok-extent-in-BeginObject-clause-ok : goal.spell_token-returns-in_ok-extent-in-BeginObject-clause-ok
spell_token-returns-in_ok-extent-in-BeginObject-clause-ok t c =
    let opened = ap (λ k. converted of_json (value c.args.depth (token_of k ∷ c.args.reader.now))) c.in-BeginObject.is ∙ object_opened c.args.depth c.args.reader.now (omega arith) in
    let done = c.in_ok-extent-in-BeginObject.ensures.ok in
    (object done.0, opened ∙ ap (parse_map object) done.1, done.2, opened_extent _ _ _ _ done.3 c.opened-in-BeginObject.ensures, opened_utf8 123 _ refl done.4)

pub spell_token-returns-in-EndObject-clause-err : goal.spell_token-returns-in-EndObject-clause-err
spell_token-returns-in-EndObject-clause-err t c not_json =
    let none : value c.args.depth (token_of c.args.token ∷ c.args.reader.now) ≡ None = rw (value_is c.args.depth (token_of c.args.token ∷ c.args.reader.now)) (grind arith) in
    ap (converted of_json) none

pub spell_rising-members-init : goal.spell_rising-members-init
spell_rising-members-init t c =
    let pushed : c.push.new.self.items ≡ c.args.out.now.items ++ 123 ∷ [] = search rules in
    (length c.args.reader.now, omega arith, λ ms. ms, refl, λ rest. members_opened c.args.out.now.items c.push.new.self.items rest pushed, λ rest. beside_all c.flat-extent.result c.flat-extent.ensures _ _, λ rest utf8. utf8, λ k d rest above. refl, omega arith, omega arith)

pub spell_rising-returns-in_err-name-clause-err : goal.spell_rising-returns-in_err-name-clause-err
spell_rising-returns-in_err-name-clause-err t c not_json =
    let l = c.members in
    let i = l.invariant in
    i.3 ∙ no_key (value c.args.depth) i.0 l.reader (i.2 no_members) c.in_err-name.ensures.value

pub spell_rising-returns-in_err-member-clause-err : goal.spell_rising-returns-in_err-member-clause-err
spell_rising-returns-in_err-member-clause-err t c not_json =
    let l = c.members in
    let i = l.invariant in
    let k = c.in-Some.name.now in
    let s = c.next_key.new.self in
    let named : read_key l.reader ≡ Some (Some k, s) = grind arith in
    let less = read_key-shorter l.reader (Some k) s named in
    i.3 ∙ no_member (value c.args.depth) i.0 l.reader k s (i.2 no_members) (omega (arith, i.1, less)) named (c.spell_value.ensures.err (grind arith))

pub spell_rising-members-preserved : goal.spell_rising-members-preserved
spell_rising-members-preserved t c =
    let l = c.members in
    let i = l.invariant in
    let k = c.in-Some.name.now in
    let s = c.next_key.new.self in
    let r = c.spell_value.new.reader in
    let named : read_key l.reader ≡ Some (Some k, s) = grind arith in
    let less = read_key-shorter l.reader (Some k) s named in
    let lesser = c.in_ok-member.ensures.shorter in
    let done = c.in_ok-member.ensures.ok in
    let d = done.0 in
    let last = option_map (λ name. name.now) l.last in
    let above : rises last k ≡ true = sym c.rises.ensures ∙ c.if-not-rises.false in
    let put_last : put k d (i.2 no_members) ≡ i.2 (member k d no_members) = i.7 k d no_members above in (
      i.0 - 1,
      omega (arith, i.1, less, lesser),
      λ rest. i.2 (member k d rest),
      i.3 ∙ next_member (value c.args.depth) i.0 l.reader k s r d (i.2 no_members) (omega (arith, i.1, less)) named done.1
          ∙ ap (λ ms. converted (λ j. of_members j ms) (members (value c.args.depth) (i.0 - 1) r)) put_last,
      λ rest. risen_member l.out.items (is_some l.last) k d rest _ _ _ _ (i.4 (member k d rest)) (c.in_ok-separate.ensures ∙ ap (λ b. l.out.items ++ comma_if b) c.is_some.ensures) c.in_ok-put.ensures.written done.2,
      λ rest. beside_more l.extent c.in_ok-member.member c.beside-extent.result _ _ _ _ _ _ (i.5 (member k d rest)) done.3 c.beside-extent.ensures,
      λ rest utf8. i.6 (member k d rest) (risen_utf8 (is_some l.last) k d rest c.in_ok-put.ensures.utf8 done.4 utf8),
      still_last i.2 last k d i.7 above,
      omega (arith, i.8, less, lesser),
      omega (arith, i.9, c.in_ok-member.ensures.levels, c.beside-extent.ensures.0),
    )

pub spell_rising-returns-clause-ok : goal.spell_rising-returns-clause-ok
spell_rising-returns-clause-ok t c =
    let l = c.members in
    let i = l.invariant in
    let pushed : c.push-2.new.self.items ≡ l.out.items ++ 125 ∷ [] = search rules in (
      i.2 no_members,
      i.3 ∙ last_member (value c.args.depth) i.0 l.reader c.next_key.new.self (i.2 no_members) i.1 (grind arith),
      pushed ∙ sym (i.4 no_members),
      beside_none l.extent _ _ (i.5 no_members),
      i.6 no_members (IsUtf8-are_ascii (125 ∷ []) refl),
    )
