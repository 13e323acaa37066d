use Rattle.std.proofs.Common.{◌≡◌, ◌<◌, ◌∙◌, ℕ, List, Option, refl, sym, ap, subst, map}
use Rattle.std.proofs.lemmas.Result.{on_ok_weaker}
use Rattle.std.proofs.lemmas.Simd.{map-map}
use Rattle.std.specs.FinMap.{entries}
use Rattle.std.specs.Rc.{rc_slice_items}
use Rattle.share_store.specs.Shares.{Shares, ShareEntry}
use Rattle.share_store.specs.Numbers.{of_index}
use Rattle.share_store.specs.NumberedShares.{AllBut, below_limit, numbered_bytes, shares_for}
use Rattle.share_store.proofs.Missing.{all_but_map}
use Rattle.share_store.proofs.Within.{within_map}
use Rattle.grid.specs.Found.{found_in, of_server}
use Rattle.grid.proofs.server_grid.gather_in.Goals as goal

-- of the shares that stand in a store, these were given, but where it failed: so they were as a server's
as_server : (server : ℕ) (index : List ℕ) (limit : Option ℕ) (failed : Type 0) (shares : Shares) (given : List (ℕ × List ℕ))
    → AllBut (λ (_ : ℕ × List ℕ). failed) (below_limit (λ (s : ℕ × List ℕ). s.0) limit (shares_for shares index)) given
    → AllBut (λ (f : ℕ × ℕ × List ℕ). (f.0 ≡ server) × failed) (below_limit (λ (f : ℕ × ℕ × List ℕ). f.1) limit (found_in server index (entries shares))) (map (of_server server) given)
as_server server index limit failed shares given found =
    let Q : ℕ × ℕ × List ℕ → Type 0 = λ f. (f.0 ≡ server) × failed in
    let whole = shares_for shares index in
    let rows_are : map (of_server server) (below_limit (λ (s : ℕ × List ℕ). s.0) limit whole) ≡ below_limit (λ (f : ℕ × ℕ × List ℕ). f.1) limit (found_in server index (entries shares)) =
    sym (within_map (λ (f : ℕ × ℕ × List ℕ). f.1) (of_server server) limit whole)
    ∙ ap (below_limit (λ (f : ℕ × ℕ × List ℕ). f.1) limit) (map-map (of_server server) (λ (e : ShareEntry). (e.0.1, e.1)) (of_index index (entries shares))) in
    subst (λ l. AllBut Q l (map (of_server server) given)) rows_are
    (all_but_map (λ (_ : ℕ × List ℕ). failed) Q (of_server server) (below_limit (λ (s : ℕ × List ℕ). s.0) limit whole) given (λ s missed. (refl, missed)) found)

pub returns-clause-found : goal.returns-clause-found
returns-clause-found g c honest =
    let store = g.S.Store in
    let old = c.args.store.now in
    let failed : Type 0 = store.failures old < store.failures c.gather.new.self in
    let given = map (numbered_bytes rc_slice_items) c.in_ok-shares.shares.items in
    on_ok_weaker c.add_shares.result
    (λ is. (map (of_server c.args.server) given, is, as_server c.args.server c.args.index c.args.limit failed (store.shares old) given (c.in_ok-shares.ensures.found honest)))
    c.add_shares.ensures

pub returns-clause-seen : goal.returns-clause-seen
returns-clause-seen g c shared =
    let store = g.S.Store in
    let failed : Type 0 = store.failures c.args.store.now < store.failures c.gather.new.self in
    let given = map (numbered_bytes rc_slice_items) c.in_ok-shares.shares.items in
    let sight = c.in_ok-shares.ensures.seen shared in
    on_ok_weaker c.add_shares.result
    (λ is. (map (of_server c.args.server) given, is, (sight.0, sight.1, as_server c.args.server c.args.index c.args.limit failed sight.0 given sight.2)))
    c.add_shares.ensures
