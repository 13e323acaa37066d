use Rattle.std.proofs.Common.{◌≡◌, ◌∙◌, ◌<◌, ◌+◌, ◌++◌, length, ℕ, suc, List, [], refl, ap, sym, subst, arith, map, Some}
use Rattle.std.specs.Rc.{rc_slice_items}
use Rattle.share_store.specs.Shares.{Shares}
use Rattle.grid.specs.GridState.{stood, maps_of, failures_at}
use Rattle.share_store.specs.NumberedShares.{AllBut, below_limit}
use Rattle.grid.specs.Found.{found_in, found_below, entries_at, found_bytes}
use Rattle.grid.proofs.Gather.{all_stand}
use Rattle.share_store.proofs.Missing.{more_may_miss, all_but_both, none_missing, given_too}
use Rattle.grid.proofs.Turns.{leaves_both, unchanged_then}
use Rattle.share_store.proofs.Within.{within_none, within_append, all_within}
use Rattle.grid.proofs.Views.{SeesBelow, tell_on_both, still_both, seen_none, seen_next}
use Rattle.grid.proofs.server_grid.Grid.gather_within.Goals as goal

abbrev number : ℕ × ℕ × List ℕ → ℕ
number f = f.1

pub loop-server-init : goal.loop-server-init
loop-server-init g c =
    let told = c.prefetch_all.ensures in
    let P : ℕ × ℕ × List ℕ → Type 0 = λ f. failures_at c.args.self.now f.0 < failures_at c.prefetch_all.new.self f.0 in
    let none : map (found_bytes rc_slice_items) c.new-found.result.items ≡ [] = ap (map (found_bytes rc_slice_items)) c.new-found.ensures.items in
    record {
      leaves = told.leaves;
      stamps = told.stamps;
      unchanged = told.unchanged;
      stand_still = told.stand_still;
      told = told.told;
      found = λ all.
          subst (λ (given : List (ℕ × ℕ × List ℕ)). AllBut P (below_limit number c.args.limit []) given) (sym none)
          (subst (λ (low : List (ℕ × ℕ × List ℕ)). AllBut P low []) (sym (within_none number c.args.limit)) refl);
      seen = λ all. subst (SeesBelow c.args.index c.args.limit c.args.self.now c.prefetch_all.new.self 0) (sym none) (seen_none c.args.index c.args.limit c.args.self.now c.prefetch_all.new.self all told.told);
    }

pub loop-server-preserved : goal.loop-server-preserved
loop-server-preserved g c =
    let inv = c.loop-server.invariant in
    let one = c.in_ok-gather_at.ensures in
    let old = c.args.self.now in
    let mid = c.loop-server.self in
    let new = c.gather_at.new.self in
    let server = c.loop-server.server in
    record {
      leaves = leaves_both old mid new inv.leaves one.leaves;
      stamps = one.stamps ∙ inv.stamps;
      unchanged = unchanged_then inv.leaves inv.unchanged one.unchanged;
      stand_still = still_both old mid new inv.stand_still one.stand_still;
      told = tell_on_both old mid new inv.told one.told;
      found = λ all.
          let P : ℕ × ℕ × List ℕ → Type 0 = λ f. failures_at old f.0 < failures_at mid f.0 in
          let M : ℕ × ℕ × List ℕ → Type 0 = λ f. failures_at mid f.0 < failures_at new f.0 in
          let Q : ℕ × ℕ × List ℕ → Type 0 = λ f. failures_at old f.0 < failures_at new f.0 in
          let before = found_below (maps_of old) c.args.index server in
          let here = found_in server c.args.index (entries_at (maps_of old) server) in
          let so_far = map (found_bytes rc_slice_items) c.loop-server.found.items in
          let more = one.found (inv.leaves.honest all) in
          let found_here : AllBut M (below_limit number c.args.limit here) more.0 = subst (λ (maps : List Shares). AllBut M (below_limit number c.args.limit (found_in server c.args.index (entries_at maps server))) more.0) (inv.unchanged all).maps more.2 in
          let next : suc server ≡ server + 1 = omega arith in
          let now_found = map (found_bytes rc_slice_items) c.gather_at.new.found.items in
          let low_before = below_limit number c.args.limit before in
          let low_here = below_limit number c.args.limit here in
          subst (λ n. AllBut Q (below_limit number c.args.limit (found_below (maps_of old) c.args.index n)) now_found) next
          (subst (λ l. AllBut Q l now_found) (sym (within_append number c.args.limit before here))
          (subst (AllBut Q (low_before ++ low_here)) (sym more.1)
          (all_but_both Q low_before low_here so_far more.0
          (more_may_miss P Q low_before so_far (λ f lt. omega (arith, lt, one.leaves.rises f.0)) (inv.found all))
          (more_may_miss M Q low_here more.0 (λ f lt. omega (arith, lt, inv.leaves.rises f.0)) found_here))));
      seen = λ all.
          let more = one.seen (inv.told.all all) in
          subst (SeesBelow c.args.index c.args.limit old new (server + 1)) (sym more.1)
          (seen_next c.args.index c.args.limit old mid new server (map (found_bytes rc_slice_items) c.loop-server.found.items) more.0 inv.leaves one.leaves inv.told inv.stand_still one.told (inv.seen all) more.2);
    }

pub returns-in_err-gather_at-clause-leaves : goal.returns-in_err-gather_at-clause-leaves
returns-in_err-gather_at-clause-leaves g c = leaves_both c.args.self.now c.loop-server.self c.gather_at.new.self c.loop-server.invariant.leaves c.in_err-gather_at.ensures.leaves

pub returns-in_err-gather_at-clause-unchanged : goal.returns-in_err-gather_at-clause-unchanged
returns-in_err-gather_at-clause-unchanged g c = unchanged_then c.loop-server.invariant.leaves c.loop-server.invariant.unchanged c.in_err-gather_at.ensures.unchanged

pub returns-in_err-gather_at-clause-stand_still : goal.returns-in_err-gather_at-clause-stand_still
returns-in_err-gather_at-clause-stand_still g c = still_both c.args.self.now c.loop-server.self c.gather_at.new.self c.loop-server.invariant.stand_still c.in_err-gather_at.ensures.stand_still

pub returns-in_err-gather_at-clause-told : goal.returns-in_err-gather_at-clause-told
returns-in_err-gather_at-clause-told g c = tell_on_both c.args.self.now c.loop-server.self c.gather_at.new.self c.loop-server.invariant.told c.in_err-gather_at.ensures.told

pub returns-clause-found : goal.returns-clause-found
returns-clause-found g c all =
    let old = c.args.self.now in
    let missed : ℕ × ℕ × List ℕ → Type 0 = λ f. failures_at old f.0 < failures_at c.loop-server.self f.0 in
    let whole : c.loop-server.server ≡ length old.stores = omega (arith, c.loop-server-test.false, c.loop-server.auto.server-end, c.servers-server-end.ensures.servers) in
    subst (λ n. AllBut missed (below_limit number c.args.limit (found_below (maps_of old) c.args.index n)) (map (found_bytes rc_slice_items) c.loop-server.found.items)) whole (c.loop-server.invariant.found all)

pub returns-clause-seen : goal.returns-clause-seen
returns-clause-seen g c all =
    let whole : c.loop-server.server ≡ length c.args.self.now.stores = omega (arith, c.loop-server-test.false, c.loop-server.auto.server-end, c.servers-server-end.ensures.servers) in
    subst (λ n. SeesBelow c.args.index c.args.limit c.args.self.now c.loop-server.self n (map (found_bytes rc_slice_items) c.loop-server.found.items)) whole (c.loop-server.invariant.seen all)

pub returns-clause-all : goal.returns-clause-all
returns-clause-all g c all calm =
    let old = c.args.self.now in
    let new = c.loop-server.self in
    let found = map (found_bytes rc_slice_items) c.loop-server.found.items in
    let never : (f : ℕ × ℕ × List ℕ) → failures_at old f.0 < failures_at new f.0 → ⊥ = λ f lt. omega (arith, lt, calm f.0) in
    let whole : c.loop-server.server ≡ length old.stores = omega (arith, c.loop-server-test.false, c.loop-server.auto.server-end, c.servers-server-end.ensures.servers) in
    none_missing (λ f. failures_at old f.0 < failures_at new f.0) (below_limit number c.args.limit (found_below (maps_of old) c.args.index c.loop-server.server)) found never (c.loop-server.invariant.found all)
    ∙ ap (λ n. below_limit number c.args.limit (found_below (maps_of old) c.args.index n)) whole

pub returns-clause-stands : goal.returns-clause-stands
returns-clause-stands g c all =
    let old = c.args.self.now in
    let new = c.loop-server.self in
    given_too (λ f. failures_at old f.0 < failures_at new f.0) (λ f. stood old f.0 (c.args.index, f.1) ≡ Some f.2) (below_limit number c.args.limit (found_below (maps_of old) c.args.index c.loop-server.server)) (map (found_bytes rc_slice_items) c.loop-server.found.items)
    (all_within (λ f. stood old f.0 (c.args.index, f.1) ≡ Some f.2) number c.args.limit (found_below (maps_of old) c.args.index c.loop-server.server) (all_stand (maps_of old) c.args.index c.loop-server.server)) (c.loop-server.invariant.found all)
