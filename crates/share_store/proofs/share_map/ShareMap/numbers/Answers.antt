use Rattle.std.proofs.Common.{◌≡◌, ◌∙◌, ℕ, List, IfOk, ap, sym, subst}
use Rattle.std.specs.Option.{option_copied}
use Rattle.share_store.proofs.Levels.{numbers_are, numbers_at}
use Rattle.share_store.proofs.share_map.ShareMap.numbers.Goals as goal

pub returns-in-None : goal.returns-in-None
returns-in-None g c =
    let m = c.args.self.now in
    c.new.ensures.items ∙ ap (numbers_at g.B.ShareValue.bytes_in) (ap option_copied (sym c.in-None.is) ∙ c.get.ensures.value)
    ∙ sym (numbers_are g.B.ShareValue.bytes_in m.indexes m.kept c.args.index.now)

pub returns-in-Some : goal.returns-in-Some
returns-in-Some g c =
    let m = c.args.self.now in
    let is = ap (numbers_at g.B.ShareValue.bytes_in) (ap option_copied (sym c.in-Some.is) ∙ c.get.ensures.value) ∙ sym (numbers_are g.B.ShareValue.bytes_in m.indexes m.kept c.args.index.now) in
    subst (λ (ns : List ℕ). IfOk c.rising.result (λ rising. rising.items ≡ ns)) is c.rising.ensures
