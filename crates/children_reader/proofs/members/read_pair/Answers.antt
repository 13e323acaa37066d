use Rattle.std.proofs.Common.{◌≡◌, ◌<◌, length, None, Some, sym, ◌∙◌, arith}
use Rattle.json.specs.Json.{after_end_array, value, items}
use Rattle.serde_json.specs.Data.{no_items, item}
use Rattle.serde_json.specs.Read.{of_json, of_items, converted}
use Rattle.children_reader.proofs.ReadChildren.{none_in, one_in, one_bad, two_in, two_bad, rest_in, rest_bad, nothing_in, one_no_pair, more_there, pair_text, pair_other}
use Rattle.children_reader.proofs.members.read_pair.Goals as goal

pub returns-then-take_end_array-clause-ok : goal.returns-then-take_end_array-clause-ok
returns-then-take_end_array-clause-ok c = (no_items, none_in c.args.depth c.args.reader.now c.take_end_array.new.self (grind arith), nothing_in)

pub returns-in_err-text-clause-err : goal.returns-in_err-text-clause-err
returns-in_err-text-clause-err c not_json =
    let ts = c.args.reader.now in
    let going : (after_end_array ts ≡ None) × (c.take_end_array.new.self ≡ ts) = grind arith in
    one_bad c.args.depth ts going.0 (rw (← going.1) (c.pass_by_kind.ensures.err (grind arith)))

pub returns-then-take_end_array-2-clause-ok : goal.returns-then-take_end_array-2-clause-ok
returns-then-take_end_array-2-clause-ok c =
    let k = c.args.depth in
    let ts = c.args.reader.now in
    let us = c.pass_by_kind.new.reader in
    let going : (after_end_array ts ≡ None) × (c.take_end_array.new.self ≡ ts) = grind arith in
    let kind = c.in_ok-text.ensures.ok in
    let first : converted of_json (value k ts) ≡ Some (kind.0, us) = rw (← going.1) kind.1 in
    let less : length us < length ts = rw (← going.1) c.in_ok-text.ensures.shorter in
    (item kind.0 no_items, one_in k ts kind.0 us going.0 first less c.take_end_array-2.new.self (grind arith), one_no_pair kind.0)

pub returns-in_err-fields-clause-err : goal.returns-in_err-fields-clause-err
returns-in_err-fields-clause-err c not_json =
    let k = c.args.depth in
    let ts = c.args.reader.now in
    let us = c.pass_by_kind.new.reader in
    let going : (after_end_array ts ≡ None) × (c.take_end_array.new.self ≡ ts) = grind arith in
    let kind = c.in_ok-text.ensures.ok in
    let first : converted of_json (value k ts) ≡ Some (kind.0, us) = rw (← going.1) kind.1 in
    let less : length us < length ts = rw (← going.1) c.in_ok-text.ensures.shorter in
    let on : (after_end_array us ≡ None) × (c.take_end_array-2.new.self ≡ us) = grind arith in
    let bad : converted of_json (value k us) ≡ None = rw (← on.1) (c.read_object.ensures.err (grind arith)) in
    two_bad k ts kind.0 us going.0 first less on.0 bad

pub returns-in_err-spell_items-clause-err : goal.returns-in_err-spell_items-clause-err
returns-in_err-spell_items-clause-err c not_json =
    let k = c.args.depth in
    let ts = c.args.reader.now in
    let us = c.pass_by_kind.new.reader in
    let vs = c.read_object.new.reader in
    let going : (after_end_array ts ≡ None) × (c.take_end_array.new.self ≡ ts) = grind arith in
    let kind = c.in_ok-text.ensures.ok in
    let first : converted of_json (value k ts) ≡ Some (kind.0, us) = rw (← going.1) kind.1 in
    let less : length us < length ts = rw (← going.1) c.in_ok-text.ensures.shorter in
    let on : (after_end_array us ≡ None) × (c.take_end_array-2.new.self ≡ us) = grind arith in
    let got = c.in_ok-fields.ensures.ok in
    let second : converted of_json (value k us) ≡ Some (got.0, vs) = rw (← on.1) got.1 in
    let lesser : length vs < length us = rw (← on.1) c.in_ok-fields.ensures.shorter in
    let there : c.take_end_array-3.new.self ≡ vs = grind arith in
    let bad : converted of_items (items (value k) (length vs) vs) ≡ None = rw (← there) (c.spell_items.ensures.err (grind arith)) in
    rest_bad k ts kind.0 us going.0 first less got.0 vs on.0 second lesser bad

pub returns-then-not-take_end_array-clause-ok : goal.returns-then-not-take_end_array-clause-ok
returns-then-not-take_end_array-clause-ok c =
    let k = c.args.depth in
    let ts = c.args.reader.now in
    let us = c.pass_by_kind.new.reader in
    let vs = c.read_object.new.reader in
    let new = c.spell_items.new.reader in
    let going : (after_end_array ts ≡ None) × (c.take_end_array.new.self ≡ ts) = grind arith in
    let kind = c.in_ok-text.ensures.ok in
    let first : converted of_json (value k ts) ≡ Some (kind.0, us) = rw (← going.1) kind.1 in
    let less : length us < length ts = rw (← going.1) c.in_ok-text.ensures.shorter in
    let on : (after_end_array us ≡ None) × (c.take_end_array-2.new.self ≡ us) = grind arith in
    let got = c.in_ok-fields.ensures.ok in
    let second : converted of_json (value k us) ≡ Some (got.0, vs) = rw (← on.1) got.1 in
    let lesser : length vs < length us = rw (← on.1) c.in_ok-fields.ensures.shorter in
    let there : (after_end_array vs ≡ None) × (c.take_end_array-3.new.self ≡ vs) = grind arith in
    let done = c.in_ok-spell_items.ensures.ok in
    let rest : converted of_items (items (value k) (length vs) vs) ≡ Some (done.0, new) = rw (← there.1) done.1 in
    (item kind.0 (item got.0 done.0), rest_in k ts kind.0 us going.0 first less got.0 vs on.0 second lesser done.0 new rest, more_there k (length vs) vs new kind.0 got.0 done.0 there.0 rest)

pub returns-then-not-text-clause-ok : goal.returns-then-not-text-clause-ok
returns-then-not-text-clause-ok c =
    let k = c.args.depth in
    let ts = c.args.reader.now in
    let us = c.pass_by_kind.new.reader in
    let vs = c.read_object.new.reader in
    let going : (after_end_array ts ≡ None) × (c.take_end_array.new.self ≡ ts) = grind arith in
    let kind = c.in_ok-text.ensures.ok in
    let first : converted of_json (value k ts) ≡ Some (kind.0, us) = rw (← going.1) kind.1 in
    let less : length us < length ts = rw (← going.1) c.in_ok-text.ensures.shorter in
    let on : (after_end_array us ≡ None) × (c.take_end_array-2.new.self ≡ us) = grind arith in
    let got = c.in_ok-fields.ensures.ok in
    let second : converted of_json (value k us) ≡ Some (got.0, vs) = rw (← on.1) got.1 in
    let lesser : length vs < length us = rw (← on.1) c.in_ok-fields.ensures.shorter in
    let new = c.take_end_array-3.new.self in
    let over : after_end_array vs ≡ Some new = grind arith in
    (item kind.0 (item got.0 no_items), two_in k ts kind.0 us going.0 first less got.0 vs on.0 second lesser new over, pair_other kind.0 got.0 (sym kind.2 ∙ c.if-not-text.true))

pub returns-clause-ok : goal.returns-clause-ok
returns-clause-ok c =
    let k = c.args.depth in
    let ts = c.args.reader.now in
    let us = c.pass_by_kind.new.reader in
    let vs = c.read_object.new.reader in
    let going : (after_end_array ts ≡ None) × (c.take_end_array.new.self ≡ ts) = grind arith in
    let kind = c.in_ok-text.ensures.ok in
    let first : converted of_json (value k ts) ≡ Some (kind.0, us) = rw (← going.1) kind.1 in
    let less : length us < length ts = rw (← going.1) c.in_ok-text.ensures.shorter in
    let on : (after_end_array us ≡ None) × (c.take_end_array-2.new.self ≡ us) = grind arith in
    let got = c.in_ok-fields.ensures.ok in
    let second : converted of_json (value k us) ≡ Some (got.0, vs) = rw (← on.1) got.1 in
    let lesser : length vs < length us = rw (← on.1) c.in_ok-fields.ensures.shorter in
    let new = c.take_end_array-3.new.self in
    let over : after_end_array vs ≡ Some new = grind arith in
    (item kind.0 (item got.0 no_items), two_in k ts kind.0 us going.0 first less got.0 vs on.0 second lesser new over, pair_text kind.0 got.0 c.in_ok-fields.fields (sym kind.2 ∙ c.if-not-text.false) got.2)
