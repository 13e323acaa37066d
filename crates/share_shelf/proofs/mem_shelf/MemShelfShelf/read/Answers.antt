use Rattle.std.proofs.Common.{ap, sym, ◌∙◌, Some}
use Rattle.std.specs.Option.{option_map}
use Rattle.std.specs.FinMap.{get, empty}
use Rattle.std.specs.Rc.{rc_slice_items}
use Rattle.share_store.specs.Shares.{Shares}
use Rattle.share_shelf.specs.Kept.{told_of, after_changes}
use Rattle.share_shelf.proofs.Moments.{is_kept, had_now}
use Rattle.share_shelf.proofs.mem_shelf.MemShelfShelf.read.Goals as goal

pub returns-in-None-clause-found : goal.returns-in-None-clause-found
returns-in-None-clause-found c honest m keeps =
    let is = is_kept (told_of c.args.self.now.changes.items) m keeps ∙ sym c.args.self.now.told in
    ap (option_map (λ bytes. rc_slice_items bytes.now)) (sym c.in-None.is) ∙ c.get.ensures ∙ ap (λ (n : Shares). get n (c.args.index, c.args.number)) (sym is)

pub returns-in_ok-clone-in-Some-clause-found : goal.returns-in_ok-clone-in-Some-clause-found
returns-in_ok-clone-in-Some-clause-found c honest m keeps =
    let is = is_kept (told_of c.args.self.now.changes.items) m keeps ∙ sym c.args.self.now.told in
    ap Some (c.in_ok-clone-in-Some.ensures.cases) ∙ ap (option_map (λ bytes. rc_slice_items bytes.now)) (sym c.in-Some.is) ∙ c.get.ensures ∙ ap (λ (n : Shares). get n (c.args.index, c.args.number)) (sym is)

pub returns-in-None-clause-given : goal.returns-in-None-clause-given
returns-in-None-clause-given c honest =
    let told = told_of c.args.self.now.changes.items in (
      after_changes told empty,
      had_now told,
      ap (option_map (λ bytes. rc_slice_items bytes.now)) (sym c.in-None.is) ∙ c.get.ensures ∙ ap (λ (n : Shares). get n (c.args.index, c.args.number)) c.args.self.now.told,
    )

pub returns-in_ok-clone-in-Some-clause-given : goal.returns-in_ok-clone-in-Some-clause-given
returns-in_ok-clone-in-Some-clause-given c honest =
    let told = told_of c.args.self.now.changes.items in (
      after_changes told empty,
      had_now told,
      ap Some (c.in_ok-clone-in-Some.ensures.cases) ∙ ap (option_map (λ bytes. rc_slice_items bytes.now)) (sym c.in-Some.is) ∙ c.get.ensures
          ∙ ap (λ (n : Shares). get n (c.args.index, c.args.number)) c.args.self.now.told,
    )
