use Rattle.std.proofs.Common.{◌≡◌, ◌<◌, ℕ, [], length, get_or, sym, ap, subst, ◌∙◌, arith, Vec, Global}
use Rattle.std.specs.Cmp.Lexicographic.{same_text, other_text}
use Rattle.std.proofs.lemmas.List.{get_or-map, length-map}
use Rattle.share_repair.proofs.making.is_among.Goals as goal

pub returns-then-at-made-clause-yes : goal.returns-then-at-made-clause-yes
returns-then-at-made-clause-yes c e =
    let made = c.args.made.now in
    let r = c.index-made-at.result in
    let below : c.args.number < length made = (let a = c.from-at.ensures in let t = c.if-at-made.true in omega arith) in (
      omega (arith, length-map made (λ share. share.items)),
      get_or-map (λ share. share.items) made c.args.number r [] below
          ∙ ap (λ (v : Vec ℕ Global). v.items) (sym (subst (λ n. r ≡ get_or made n r) c.from-at.ensures c.index-made-at.is))
          ∙ sym c.as_slice.ensures.value ∙ same_text c.as_slice.result.now c.args.bytes.now (sym e ∙ c.eq.ensures),
    )

pub returns-then-at-made-clause-no : goal.returns-then-at-made-clause-no
returns-then-at-made-clause-no c e one =
    let made = c.args.made.now in
    let r = c.index-made-at.result in
    let below : c.args.number < length made = (let a = c.from-at.ensures in let t = c.if-at-made.true in omega arith) in
    other_text c.as_slice.result.now c.args.bytes.now (sym e ∙ c.eq.ensures)
    (c.as_slice.ensures.value
    ∙ ap (λ (v : Vec ℕ Global). v.items) (subst (λ n. r ≡ get_or made n r) c.from-at.ensures c.index-made-at.is)
    ∙ sym (get_or-map (λ share. share.items) made c.args.number r [] below)
    ∙ one.1)
