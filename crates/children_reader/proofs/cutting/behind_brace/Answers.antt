use Rattle.std.proofs.Common.{◌≡◌, ◌==◌, true, false, refl, get_or, sym, ◌∙◌, ne_eqb}
use Rattle.json.specs.Word.{is_space}
use Rattle.children_reader.proofs.Braces.{no_space, space_more, brace_behind, other_first, only_space}
use Rattle.children_reader.proofs.cutting.behind_brace.Goals as goal

pub loop-i-init : goal.loop-i-init
loop-i-init c = no_space c.args.json.now

pub returns-then-byte-eq123-clause-some : goal.returns-then-byte-eq123-clause-some
returns-then-byte-eq123-clause-some c = brace_behind c.args.json.now c.loop-i.i c.loop-i-test.true c.if-byte-eq123.true c.loop-i.invariant

pub returns-then-not-is_space-clause-none : goal.returns-then-not-is_space-clause-none
returns-then-not-is_space-clause-none c none =
    let k = get_or c.args.json.now c.loop-i.i 0 in
    let other : is_space k ≡ false = sym c.is_space.ensures ∙ c.if-not-is_space.true in
    let apart : (k == 123) ≡ false = ne_eqb k 123 c.if-byte-eq123.false in
    other_first c.objects_begin_with_a_brace.ensures.first c.args.json.now c.loop-i.i k c.loop-i-test.true refl other apart c.loop-i.invariant

pub loop-i-preserved : goal.loop-i-preserved
loop-i-preserved c =
    let k = get_or c.args.json.now c.loop-i.i 0 in
    let blank : is_space k ≡ true = sym c.is_space.ensures ∙ c.if-not-is_space.false in
    space_more c.args.json.now c.loop-i.i k c.loop-i-test.true refl blank c.loop-i.invariant

pub returns-clause-none : goal.returns-clause-none
returns-clause-none c none = only_space c.objects_begin_with_a_brace.ensures.first c.args.json.now c.loop-i.i c.loop-i-test.false c.loop-i.invariant
