use Rattle.std.proofs.Common.{map, ap, sym, subst, List, length, ◌≡◌, ◌≤◌, refl, IfOk, unwrap_or, []}
use Rattle.std.specs.Option.{option_map}
use Rattle.std.proofs.lemmas.Result.{on_ok_weaker, on_err_weaker}
use Rattle.share_store.specs.Toggle.{toggled}
use Rattle.grid.specs.Standing.{standing}
use Rattle.grid.specs.GridState.{GridState, IsHonest, StoreState, stood}
use Rattle.grid.specs.Changes.{spoiled}
use Rattle.grid.proofs.Raising.{leaves_raised, spoiled_raised, told_raised, change_stamped, held_raised}
use Rattle.grid.specs.Views.{TellOn}
use Rattle.grid.proofs.Views.{tell_on_none, tell_on_raised}
use Rattle.grid.proofs.server_grid.Grid.spoil.Goals as goal
use Rattle.std.specs.Prelude.{◌↔◌, IsErrOf, nat_lt}
use Rattle.grid.specs.declared.fault.GridFault.TheVariants.{NoServer}
use Rattle.grid.specs.Leaves.{Leaves}
use Rattle.grid.specs.Stamped.{IsStamped}
use Rattle.grid.specs.Histories.{TellsOfChange}
use Rattle.grid.proofs.Histories.{tells_none}
use Rattle.grid.proofs.Turns.{leaves_none, stamped_none}
use Rattle.grid.proofs.Downs.{down_raised}

pub returns-clause-ok : goal.returns-clause-ok
returns-clause-ok g c all =
    let is = c.in_ok-raise.ensures.ok in
    on_ok_weaker c.spoil_at.result (spoiled_raised c.spoil_at.new.self c.args.index is c.args.server (c.args.index, c.args.number) c.args.place) (c.spoil_at.ensures.ok (subst IsHonest (sym is) all))

pub returns-clause-stamped : goal.returns-clause-stamped
returns-clause-stamped g c =
    let is = c.in_ok-raise.ensures.ok in
    change_stamped c.spoil_at.new.self c.args.index is c.args.number c.args.server (λ stood. option_map (λ bytes. toggled bytes c.args.place) stood) c.spoil_at.result _
    (λ p. (spoiled_raised c.spoil_at.new.self c.args.index is c.args.server (c.args.index, c.args.number) c.args.place p).stands) c.spoil_at.ensures.stamps c.spoil_at.ensures.ok c.spoil_at.ensures.err

pub returns-clause-history : goal.returns-clause-history
returns-clause-history g c = told_raised c.args.self.now c.raise.new.self c.spoil_at.new.self c.args.index c.in_ok-raise.ensures.ok (λ stores. spoiled c.args.server (c.args.index, c.args.number) c.args.place (standing (map (λ t. t.shares) stores))) c.spoil_at.ensures.history

pub returns-clause-told : goal.returns-clause-told
returns-clause-told g c = tell_on_raised c.args.self.now c.raise.new.self c.spoil_at.new.self (ap (λ (g : GridState). g.stores) c.in_ok-raise.ensures.ok) c.spoil_at.ensures.told

pub returns-then-server-len-clause-told : goal.returns-then-server-len-clause-told
returns-then-server-len-clause-told g c = tell_on_none c.args.self.now

pub returns-in_err-raise-clause-told : goal.returns-in_err-raise-clause-told
returns-in_err-raise-clause-told g c = subst (TellOn c.args.self.now) (sym c.in_err-raise.ensures.err) (tell_on_none c.args.self.now)

pub returns-clause-leaves : goal.returns-clause-leaves
returns-clause-leaves g c = leaves_raised c.args.self.now c.raise.new.self c.spoil_at.new.self (ap (λ (g : GridState). g.stores) c.in_ok-raise.ensures.ok) c.spoil_at.ensures.leaves

pub returns-clause-err : goal.returns-clause-err
returns-clause-err g c all =
    let is = c.in_ok-raise.ensures.ok in
    on_err_weaker c.spoil_at.result (held_raised c.spoil_at.new.self c.args.index is) (c.spoil_at.ensures.err (subst IsHonest (sym is) all))

pub returns-clause-toggled : goal.returns-clause-toggled
returns-clause-toggled g c all =
    let is = c.in_ok-raise.ensures.ok in
    subst (λ (g : GridState). IfOk c.spoil_at.result (λ toggled. toggled ≡ nat_lt c.args.place (length (unwrap_or (stood g c.args.server (c.args.index, c.args.number)) [])))) is (c.spoil_at.ensures.toggled (subst IsHonest (sym is) all))

pub returns-clause-no_server : goal.returns-clause-no_server
returns-clause-no_server g c =
    subst (λ (ts : List StoreState). IsErrOf c.spoil_at.result NoServer ↔ (length ts ≤ c.args.server)) (ap (λ (g : GridState). g.stores) c.in_ok-raise.ensures.ok) c.spoil_at.ensures.no_server

pub returns-clause-down : goal.returns-clause-down
returns-clause-down g c = down_raised c.args.self.now c.raise.new.self c.spoil_at.new.self c.spoil_at.result (ap (λ (g : GridState). g.stores) c.in_ok-raise.ensures.ok) c.spoil_at.ensures.down

pub returns-then-server-len-clause-leaves : goal.returns-then-server-len-clause-leaves
returns-then-server-len-clause-leaves g c = leaves_none c.args.self.now

pub returns-then-server-len-clause-stamped : goal.returns-then-server-len-clause-stamped
returns-then-server-len-clause-stamped g c = stamped_none c.args.self.now

pub returns-then-server-len-clause-history : goal.returns-then-server-len-clause-history
returns-then-server-len-clause-history g c all = tells_none (spoiled c.args.server (c.args.index, c.args.number) c.args.place (stood c.args.self.now)) c.args.self.now c.args.self.now refl

pub returns-in_err-raise-clause-leaves : goal.returns-in_err-raise-clause-leaves
returns-in_err-raise-clause-leaves g c = subst (Leaves c.args.self.now) (sym c.in_err-raise.ensures.err) (leaves_none c.args.self.now)

pub returns-in_err-raise-clause-stamped : goal.returns-in_err-raise-clause-stamped
returns-in_err-raise-clause-stamped g c = subst (IsStamped c.args.self.now) (sym c.in_err-raise.ensures.err) (stamped_none c.args.self.now)

pub returns-in_err-raise-clause-history : goal.returns-in_err-raise-clause-history
returns-in_err-raise-clause-history g c all = subst (λ (n : GridState). TellsOfChange (spoiled c.args.server (c.args.index, c.args.number) c.args.place (stood c.args.self.now)) c.args.self.now n) (sym c.in_err-raise.ensures.err) (tells_none (spoiled c.args.server (c.args.index, c.args.number) c.args.place (stood c.args.self.now)) c.args.self.now c.args.self.now refl)
