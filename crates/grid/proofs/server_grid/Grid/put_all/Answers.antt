use Rattle.std.proofs.Common.{◌∙◌, ◌≡◌, ◌<◌, sym, ap, subst, map, take, length, List, get_or, [], arith, refl}
use Rattle.std.proofs.lemmas.List.{length-map}
use Rattle.std.proofs.lemmas.Option.{slice_get-get_or}
use Rattle.std.proofs.lemmas.Result.{on_ok_weaker}
use Rattle.std.specs.Rc.{rc_slice_items}
use Rattle.grid.specs.declared.fault.GridFault.TheVariants.{NoMemory}
use Rattle.grid.specs.Standing.{standing}
use Rattle.grid.specs.GridState.{GridState, StoreState, stood, IsHonest}
use Rattle.grid.specs.Changed.{ArePut, PutStopsAt}
use Rattle.grid.specs.NewBytes.{HasRoom}
use Rattle.grid.proofs.Puts.{put_none, passed_on}
use Rattle.grid.specs.Placement.{placed, server_of}
use Rattle.grid.proofs.Raising.{SameBut, none_there, put_raised, stops_raised, told_raised, raise_stamped, same_but_placed, by_fault, if_err_weaker, leaves_raised}
use Rattle.grid.specs.Views.{AllTell, SomeStood, TellOn}
use Rattle.grid.proofs.SomeStood.{stood_raised}
use Rattle.grid.proofs.Views.{tell_on_none, tell_on_raised}
use Rattle.grid.proofs.server_grid.Grid.put_all.Goals as goal
use Rattle.grid.specs.Leaves.{Leaves}
use Rattle.grid.specs.Stamped.{IsStamped}
use Rattle.grid.specs.Histories.{TellsOfChange}
use Rattle.grid.proofs.Histories.{tells_none}
use Rattle.grid.proofs.Turns.{leaves_none, stamped_none}
use Rattle.grid.proofs.Downs.{down_raised}

pub returns-then-shares-eq0-clause-ok : goal.returns-then-shares-eq0-clause-ok
returns-then-shares-eq0-clause-ok g c all =
    let none : length c.args.shares.now ≡ 0 = omega arith in
    subst (λ l. ArePut c.args.index (map rc_slice_items l) c.args.self.now c.args.self.now) (sym (none_there c.args.shares.now none)) (put_none c.args.index [] c.args.self.now)

pub returns-in_err-raise-clause-err : goal.returns-in_err-raise-clause-err
returns-in_err-raise-clause-err g c =
    let shares = map rc_slice_items c.args.shares.now in
    let old = c.args.self.now in
    let some : 0 < length shares = omega (arith, length-map c.args.shares.now rc_slice_items) in
    passed_on _ NoMemory _ c.from_residual.ensures.1
    (record {
      n = 0;
      share = get_or shares 0 [];
      at = slice_get-get_or shares 0 [] some;
      put = λ all. subst (ArePut c.args.index (take 0 shares) old) (sym c.in_err-raise.ensures.err) (put_none c.args.index shares old);
      refusal = tt;
      full = λ s is. cc;
      none_stood = λ all s is. cc;
      down = λ s is. cc;
    })

pub returns-clause-err : goal.returns-clause-err
returns-clause-err g c =
    if_err_weaker c.put_each.result _ _ (stops_raised c.put_each.new.self c.args.index c.in_ok-raise.ensures.ok (map rc_slice_items c.args.shares.now)) c.put_each.ensures.err

pub returns-clause-stamped : goal.returns-clause-stamped
returns-clause-stamped g c =
    let is = c.in_ok-raise.ensures.ok in
    let old = c.args.self.now in
    let mid = c.raise.new.self in
    let new = c.put_each.new.self in
    let shares = map rc_slice_items c.args.shares.now in
    raise_stamped old new c.args.index (c.put_each.ensures.stamps ∙ ap (λ (g : GridState). g.stamps) is)
    (λ all. (let honest : IsHonest mid = subst IsHonest (sym is) all in
    by_fault (SameBut c.args.index (stood old) (stood new)) (ArePut c.args.index shares mid new) (PutStopsAt c.args.index shares mid new) c.put_each.result
    (c.put_each.ensures.ok honest) c.put_each.ensures.err
    (λ p. same_but_placed (length old.stores) c.args.index shares (stood old) (stood new) (put_raised new c.args.index is shares p).stands)
    (λ e p. same_but_placed (length old.stores) c.args.index (take p.n shares) (stood old) (stood new) (put_raised new c.args.index is (take p.n shares) (p.put honest)).stands)))

pub returns-clause-history : goal.returns-clause-history
returns-clause-history g c =
    told_raised c.args.self.now c.raise.new.self c.put_each.new.self c.args.index c.in_ok-raise.ensures.ok
    (λ stores. placed (length stores) c.args.index (map rc_slice_items c.args.shares.now) (standing (map (λ t. t.shares) stores))) c.put_each.ensures.history

pub returns-clause-ok : goal.returns-clause-ok
returns-clause-ok g c all =
    let is = c.in_ok-raise.ensures.ok in
    on_ok_weaker c.put_each.result (put_raised c.put_each.new.self c.args.index is (map rc_slice_items c.args.shares.now)) (c.put_each.ensures.ok (subst IsHonest (sym is) all))

pub returns-clause-told : goal.returns-clause-told
returns-clause-told g c = tell_on_raised c.args.self.now c.raise.new.self c.put_each.new.self (ap (λ (g : GridState). g.stores) c.in_ok-raise.ensures.ok) c.put_each.ensures.told

pub returns-then-shares-eq0-clause-told : goal.returns-then-shares-eq0-clause-told
returns-then-shares-eq0-clause-told g c = tell_on_none c.args.self.now

pub returns-in_err-raise-clause-told : goal.returns-in_err-raise-clause-told
returns-in_err-raise-clause-told g c = subst (TellOn c.args.self.now) (sym c.in_err-raise.ensures.err) (tell_on_none c.args.self.now)

pub returns-clause-stood : goal.returns-clause-stood
returns-clause-stood g c all =
    let is = c.in_ok-raise.ensures.ok in
    let old = c.args.self.now in
    let mid = c.raise.new.self in
    let new = c.put_each.new.self in
    let same : mid.stores ≡ old.stores = ap (λ (g : GridState). g.stores) is in
    on_ok_weaker c.put_each.result
    (λ each i lt.
    subst (λ (ts : List StoreState). SomeStood old new (server_of (length ts) c.args.index i) (c.args.index, i)) same
    (stood_raised old mid new (server_of (length mid.stores) c.args.index i) (c.args.index, i) same (each i lt)))
    (c.put_each.ensures.stood (subst AllTell (sym is) all))

pub returns-then-shares-eq0-clause-stood : goal.returns-then-shares-eq0-clause-stood
returns-then-shares-eq0-clause-stood g c all i lt = absurd (omega arith)

pub returns-clause-leaves : goal.returns-clause-leaves
returns-clause-leaves g c = leaves_raised c.args.self.now c.raise.new.self c.put_each.new.self (ap (λ (g : GridState). g.stores) c.in_ok-raise.ensures.ok) c.put_each.ensures.leaves

pub returns-clause-down : goal.returns-clause-down
returns-clause-down g c = down_raised c.args.self.now c.raise.new.self c.put_each.new.self c.put_each.result (ap (λ (g : GridState). g.stores) c.in_ok-raise.ensures.ok) c.put_each.ensures.down

pub returns-clause-never_full : goal.returns-clause-never_full
returns-clause-never_full g c all room =
    let is = c.in_ok-raise.ensures.ok in
    c.put_each.ensures.never_full (subst IsHonest (sym is) all) (subst (λ (g : GridState). HasRoom g c.args.index (map rc_slice_items c.args.shares.now)) (sym is) room)

pub returns-then-shares-eq0-clause-leaves : goal.returns-then-shares-eq0-clause-leaves
returns-then-shares-eq0-clause-leaves g c = leaves_none c.args.self.now

pub returns-then-shares-eq0-clause-stamped : goal.returns-then-shares-eq0-clause-stamped
returns-then-shares-eq0-clause-stamped g c = stamped_none c.args.self.now

pub returns-then-shares-eq0-clause-history : goal.returns-then-shares-eq0-clause-history
returns-then-shares-eq0-clause-history g c all = tells_none (placed (length c.args.self.now.stores) c.args.index (map rc_slice_items c.args.shares.now) (stood c.args.self.now)) c.args.self.now c.args.self.now refl

pub returns-in_err-raise-clause-leaves : goal.returns-in_err-raise-clause-leaves
returns-in_err-raise-clause-leaves g c = subst (Leaves c.args.self.now) (sym c.in_err-raise.ensures.err) (leaves_none c.args.self.now)

pub returns-in_err-raise-clause-stamped : goal.returns-in_err-raise-clause-stamped
returns-in_err-raise-clause-stamped g c = subst (IsStamped c.args.self.now) (sym c.in_err-raise.ensures.err) (stamped_none c.args.self.now)

pub returns-in_err-raise-clause-history : goal.returns-in_err-raise-clause-history
returns-in_err-raise-clause-history g c all = subst (λ (n : GridState). TellsOfChange (placed (length c.args.self.now.stores) c.args.index (map rc_slice_items c.args.shares.now) (stood c.args.self.now)) c.args.self.now n) (sym c.in_err-raise.ensures.err) (tells_none (placed (length c.args.self.now.stores) c.args.index (map rc_slice_items c.args.shares.now) (stood c.args.self.now)) c.args.self.now c.args.self.now refl)
