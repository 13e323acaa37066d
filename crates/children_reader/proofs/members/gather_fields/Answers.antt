use Rattle.std.proofs.Common.{◌≡◌, ◌-◌, length, Some, ◌∙◌, refl, arith}
use Rattle.json.specs.Json.{read_key, value}
use Rattle.json.proofs.Grammar.{read_key-shorter}
use Rattle.serde_json.specs.Data.{no_members, put}
use Rattle.json_spelling.proofs.ReadData.{next_member, no_member, no_key, last_member}
use Rattle.children_reader.proofs.members.gather_fields.Goals as goal

pub returns-in_err-name-clause-err : goal.returns-in_err-name-clause-err
returns-in_err-name-clause-err c not_json =
    let l = c.members in
    let i = l.invariant in
    i.3 ∙ no_key (value c.args.depth) i.0 l.reader i.2 c.in_err-name.ensures.value

pub returns-in_err-field-clause-err : goal.returns-in_err-field-clause-err
returns-in_err-field-clause-err c not_json =
    let l = c.members in
    let i = l.invariant in
    let k = c.in-Some.name.now in
    let s = c.next_key.new.self in
    let named : read_key l.reader ≡ Some (Some k, s) = grind arith in
    let less = read_key-shorter l.reader (Some k) s named in
    i.3 ∙ no_member (value c.args.depth) i.0 l.reader k s i.2 (omega (arith, i.1, less)) named (c.read_field.ensures.err (grind arith))

pub members-preserved : goal.members-preserved
members-preserved c =
    let l = c.members in
    let i = l.invariant in
    let k = c.in-Some.name.now in
    let s = c.next_key.new.self in
    let r = c.read_field.new.reader in
    let named : read_key l.reader ≡ Some (Some k, s) = grind arith in
    let less = read_key-shorter l.reader (Some k) s named in
    let lesser = c.in_ok-field.ensures.shorter in
    let done = c.in_ok-field.ensures.ok in (
      i.0 - 1,
      omega (arith, i.1, less, lesser),
      put k done.0 i.2,
      i.3 ∙ next_member (value c.args.depth) i.0 l.reader k s r done.0 i.2 (omega (arith, i.1, less)) named done.1,
      c.put.ensures done.0 i.2 done.2 i.4,
      omega (arith, i.5, less, lesser),
    )

pub returns-clause-ok : goal.returns-clause-ok
returns-clause-ok c =
    let l = c.members in
    let i = l.invariant in
    (i.2, i.3 ∙ last_member (value c.args.depth) i.0 l.reader c.next_key.new.self i.2 i.1 (grind arith), i.4)

pub members-init : goal.members-init
members-init c = (length c.args.reader.now, omega arith, no_members, refl, c.none-fields.ensures, omega arith)
