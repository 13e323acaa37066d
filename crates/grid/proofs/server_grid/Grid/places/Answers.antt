use Rattle.std.proofs.Common.{◌≡◌, ◌∙◌, ◌<◌, ◌+◌, ◌++◌, length, ℕ, suc, List, [], None, refl, ap, sym, subst, arith, map}
use Rattle.std.proofs.lemmas.List.{map-append}
use Rattle.share_store.specs.Shares.{Shares}
use Rattle.grid.specs.GridState.{maps_of, failures_at}
use Rattle.share_store.specs.NumberedShares.{AllBut}
use Rattle.grid.specs.Found.{found_in, found_below, entries_at, found_place}
use Rattle.share_store.proofs.Missing.{more_may_miss, all_but_both, none_missing}
use Rattle.grid.proofs.Turns.{leaves_none, leaves_both, unchanged_none, unchanged_then}
use Rattle.grid.proofs.Views.{SeesBelow, tell_on_none, tell_on_both, still_none, still_both, seen_none, seen_next}
use Rattle.grid.proofs.server_grid.Grid.places.Goals as goal

pub loop-server-init : goal.loop-server-init
loop-server-init g c = record {
  leaves = leaves_none c.args.self.now;
  stamps = refl;
  unchanged = λ all. unchanged_none c.args.self.now;
  stand_still = still_none c.args.self.now;
  told = tell_on_none c.args.self.now;
  found = λ all. ([], c.new-places.ensures.items, refl);
  seen = λ all. ([], c.new-places.ensures.items, seen_none c.args.index None c.args.self.now c.args.self.now all (tell_on_none c.args.self.now));
}

pub loop-server-preserved : goal.loop-server-preserved
loop-server-preserved g c =
    let inv = c.loop-server.invariant in
    let one = c.in_ok-places_at.ensures in
    let old = c.args.self.now in
    let mid = c.loop-server.self in
    let new = c.places_at.new.self in
    let server = c.loop-server.server in
    record {
      leaves = leaves_both old mid new inv.leaves one.leaves;
      stamps = one.stamps ∙ inv.stamps;
      unchanged = unchanged_then inv.leaves inv.unchanged one.unchanged;
      stand_still = still_both old mid new inv.stand_still one.stand_still;
      told = tell_on_both old mid new inv.told one.told;
      found = λ all.
          let P : ℕ × ℕ × List ℕ → Type 0 = λ f. failures_at old f.0 < failures_at mid f.0 in
          let M : ℕ × ℕ × List ℕ → Type 0 = λ f. failures_at mid f.0 < failures_at new f.0 in
          let Q : ℕ × ℕ × List ℕ → Type 0 = λ f. failures_at old f.0 < failures_at new f.0 in
          let before = found_below (maps_of old) c.args.index server in
          let here = found_in server c.args.index (entries_at (maps_of old) server) in
          let so_far = inv.found all in
          let more = one.found (inv.leaves.honest all) in
          let found_here : AllBut M here more.0 = subst (λ (maps : List Shares). AllBut M (found_in server c.args.index (entries_at maps server)) more.0) (inv.unchanged all).maps more.2 in
          let next : suc server ≡ server + 1 = omega arith in (
            so_far.0 ++ more.0,
            more.1 ∙ ap (λ l. l ++ map found_place more.0) so_far.1 ∙ sym (map-append found_place so_far.0 more.0),
            subst (λ n. AllBut Q (found_below (maps_of old) c.args.index n) (so_far.0 ++ more.0)) next
                (all_but_both Q before here so_far.0 more.0
                (more_may_miss P Q before so_far.0 (λ f lt. omega (arith, lt, one.leaves.rises f.0)) so_far.2)
                (more_may_miss M Q here more.0 (λ f lt. omega (arith, lt, inv.leaves.rises f.0)) found_here)),
          );
      seen = λ all.
          let so_far = inv.seen all in
          let more = one.seen (inv.told.all all) in (
            so_far.0 ++ more.0,
            more.1 ∙ ap (λ l. l ++ map found_place more.0) so_far.1 ∙ sym (map-append found_place so_far.0 more.0),
            seen_next c.args.index None old mid new server so_far.0 more.0 inv.leaves one.leaves inv.told inv.stand_still one.told so_far.2 more.2,
          );
    }

pub returns-in_err-places_at-clause-leaves : goal.returns-in_err-places_at-clause-leaves
returns-in_err-places_at-clause-leaves g c = leaves_both c.args.self.now c.loop-server.self c.places_at.new.self c.loop-server.invariant.leaves c.in_err-places_at.ensures.leaves

pub returns-in_err-places_at-clause-unchanged : goal.returns-in_err-places_at-clause-unchanged
returns-in_err-places_at-clause-unchanged g c = unchanged_then c.loop-server.invariant.leaves c.loop-server.invariant.unchanged c.in_err-places_at.ensures.unchanged

pub returns-in_err-places_at-clause-stand_still : goal.returns-in_err-places_at-clause-stand_still
returns-in_err-places_at-clause-stand_still g c = still_both c.args.self.now c.loop-server.self c.places_at.new.self c.loop-server.invariant.stand_still c.in_err-places_at.ensures.stand_still

pub returns-in_err-places_at-clause-told : goal.returns-in_err-places_at-clause-told
returns-in_err-places_at-clause-told g c = tell_on_both c.args.self.now c.loop-server.self c.places_at.new.self c.loop-server.invariant.told c.in_err-places_at.ensures.told

pub returns-clause-found : goal.returns-clause-found
returns-clause-found g c all =
    let old = c.args.self.now in
    let found = c.loop-server.invariant.found all in
    let missed : ℕ × ℕ × List ℕ → Type 0 = λ f. failures_at old f.0 < failures_at c.loop-server.self f.0 in
    let whole : c.loop-server.server ≡ length old.stores = omega (arith, c.loop-server-test.false, c.loop-server.auto.server-end, c.servers-server-end.ensures.servers) in
    (found.0, found.1, subst (λ n. AllBut missed (found_below (maps_of old) c.args.index n) found.0) whole found.2)

pub returns-clause-seen : goal.returns-clause-seen
returns-clause-seen g c all =
    let seen = c.loop-server.invariant.seen all in
    let whole : c.loop-server.server ≡ length c.args.self.now.stores = omega (arith, c.loop-server-test.false, c.loop-server.auto.server-end, c.servers-server-end.ensures.servers) in
    (seen.0, seen.1, subst (λ n. SeesBelow c.args.index None c.args.self.now c.loop-server.self n seen.0) whole seen.2)

pub returns-clause-all : goal.returns-clause-all
returns-clause-all g c all calm =
    let old = c.args.self.now in
    let new = c.loop-server.self in
    let found = c.loop-server.invariant.found all in
    let never : (f : ℕ × ℕ × List ℕ) → failures_at old f.0 < failures_at new f.0 → ⊥ = λ f lt. omega (arith, lt, calm f.0) in
    let whole : c.loop-server.server ≡ length old.stores = omega (arith, c.loop-server-test.false, c.loop-server.auto.server-end, c.servers-server-end.ensures.servers) in
    found.1
    ∙ ap (map found_place) (none_missing (λ f. failures_at old f.0 < failures_at new f.0) (found_below (maps_of old) c.args.index c.loop-server.server) found.0 never found.2)
    ∙ ap (λ n. map found_place (found_below (maps_of old) c.args.index n)) whole
