use Rattle.std.proofs.Common.{refl, rules}
use Rattle.std.specs.Option.{option_copied}
use Rattle.std.proofs.lemmas.Fn.{filter_same}
use Rattle.ask_desk.specs.Past.{due_in}
use Rattle.ask_desk.proofs.Pasts.{forgotten_next}
use Rattle.ask_desk.proofs.Afters.{after_forsaken, front_is, first_forsaken}
use Rattle.ask_desk.proofs.desk.Desk.forsake.Goals as goal

pub returns : goal.returns
returns c = λ past a.
    let desk = c.args.self.now in
    let owner = c.args.owner in
    let awaited = c.disown.new.asks.items in
    let front = front_is c.front.result awaited _ c.front.ensures.variant c.front.ensures.lookup c.disown.new.asks.ok.0 in
    after_forsaken past desk (record desk { waiting = c.retain.new.self; awaited = c.disown.new.asks; reader = c.forget.new.self; kept = c.drop_all_of.new.self }) owner a refl
    (filter_same _ _ _ (λ x b f' k. search rules) _ _ c.retain.ensures.filtered) c.disown.ensures refl refl c.drop_all_of.ensures.own c.drop_all_of.ensures.others
    (λ part h. forgotten_next owner (due_in past) c.is_nobodys.result desk.reader c.forget.new.self part c.forget.ensures.blank c.forget.ensures.held
    (first_forsaken past desk owner awaited (option_copied c.front.result) c.is_nobodys.result a c.disown.ensures front c.is_nobodys.ensures) h)
