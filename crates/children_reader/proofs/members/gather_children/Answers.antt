use Rattle.std.proofs.Common.{◌≡◌, ◌-◌, length, Some, string_bytes, sym, ◌∙◌, refl, subst, arith, rules}
use Rattle.json.specs.Json.{read_key, value}
use Rattle.json.proofs.Grammar.{read_key-shorter}
use Rattle.serde_json.specs.Data.{Members, no_members, put}
use Rattle.children_reader.specs.Collected.{AreEntered}
use Rattle.children_reader.proofs.PutMembers.{put_next}
use Rattle.json_spelling.proofs.ReadData.{next_member, no_member, no_key, last_member}
use Rattle.children_reader.proofs.members.gather_children.Goals as goal

pub members-init : goal.members-init
members-init c =
    let none = λ (before : Members). (let put : AreEntered c.new-found.result.items before before = subst (λ es. AreEntered es before before) (sym c.new-found.ensures.items) refl in put) in
    (length c.args.reader.now, omega arith, λ before. (before, refl, none before), omega arith)

pub returns-in_err-name-clause-err : goal.returns-in_err-name-clause-err
returns-in_err-name-clause-err c not_json =
    let l = c.members in
    let i = l.invariant in
    let start = i.2 no_members in
    start.1 ∙ no_key (value c.args.depth) i.0 l.reader start.0 c.in_err-name.ensures.value

pub returns-in_err-node-clause-err : goal.returns-in_err-node-clause-err
returns-in_err-node-clause-err c not_json =
    let l = c.members in
    let i = l.invariant in
    let start = i.2 no_members in
    let k = c.in-Some.name.now in
    let s = c.next_key.new.self in
    let named : read_key l.reader ≡ Some (Some k, s) = grind arith in
    let less = read_key-shorter l.reader (Some k) s named in
    start.1 ∙ no_member (value c.args.depth) i.0 l.reader k s start.0 (omega (arith, i.1, less)) named (c.read_node.ensures.err (grind arith))

pub members-preserved : goal.members-preserved
members-preserved c =
    let l = c.members in
    let i = l.invariant in
    let k = c.in-Some.name.now in
    let s = c.next_key.new.self in
    let r = c.read_node.new.reader in
    let named : read_key l.reader ≡ Some (Some k, s) = grind arith in
    let less = read_key-shorter l.reader (Some k) s named in
    let lesser = c.in_ok-node.ensures.shorter in
    let done = c.in_ok-node.ensures.ok in
    let key = c.in_ok-key.key in
    let outcome = c.in_ok-outcome.outcome in
    let copied : string_bytes key ≡ k = search rules in
    let is = c.in_ok-outcome.ensures done.0 done.2 in (
      i.0 - 1,
      omega (arith, i.1, less, lesser),
      λ before. (let start = i.2 before in (
        put k done.0 start.0,
        start.1 ∙ next_member (value c.args.depth) i.0 l.reader k s r done.0 start.0 (omega (arith, i.1, less)) named done.1,
        put_next l.found.items c.push.new.self.items before start.0 key k outcome done.0 c.in_ok-push.ensures.items copied is start.2,
      )),
      omega (arith, i.3, less, lesser),
    )

pub returns-clause-ok : goal.returns-clause-ok
returns-clause-ok c =
    let l = c.members in
    let i = l.invariant in
    λ before. (let start = i.2 before in
    (start.0, start.1 ∙ last_member (value c.args.depth) i.0 l.reader c.next_key.new.self start.0 i.1 (grind arith), start.2))
