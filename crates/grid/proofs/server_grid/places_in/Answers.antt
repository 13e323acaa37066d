use Rattle.std.proofs.Common.{◌≡◌, ◌<◌, ◌∙◌, ◌++◌, ℕ, List, [], refl, sym, ap, map}
use Rattle.std.proofs.lemmas.Result.{on_ok_weaker}
use Rattle.std.proofs.lemmas.Simd.{map-map}
use Rattle.std.specs.FinMap.{entries}
use Rattle.share_store.specs.Shares.{Shares, ShareEntry}
use Rattle.share_store.specs.Numbers.{of_index, numbers_for}
use Rattle.share_store.specs.NumberedShares.{AllBut}
use Rattle.share_store.specs.Shared.{SeesAmid}
use Rattle.share_store.proofs.Amid.{seen_first}
use Rattle.share_store.proofs.Gathering.{rises_or_stays}
use Rattle.share_store.proofs.Missing.{all_missing, all_but_map}
use Rattle.grid.specs.Found.{found_in, found_place}
use Rattle.grid.proofs.Gather.{row, all_but_none}
use Rattle.grid.proofs.server_grid.places_in.Goals as goal

-- the place of a number
abbrev placed : ℕ → ℕ → ℕ × ℕ
placed server number = (server, number)

-- what is told of the numbers under an index says where shares stand, less some where the store failed
abbrev PlacesOf : ℕ → List ℕ → Type 0 → List ℕ → Shares → Type 0
PlacesOf server index failed numbers shares = (given : List (ℕ × ℕ × List ℕ)) × (map (placed server) numbers ≡ map found_place given)
    × AllBut (λ f. (f.0 ≡ server) × failed) (found_in server index (entries shares)) given

none_told : (server : ℕ) (index : List ℕ) (failed : Type 0) (numbers : List ℕ) (shares : Shares) → numbers ≡ [] → failed → PlacesOf server index failed numbers shares
none_told server index failed numbers shares none fails =
    let there : List ShareEntry = of_index index (entries shares) in
    ([], ap (map (placed server)) none, all_but_map (λ _. failed) (λ f. (f.0 ≡ server) × failed) (row server) there [] (λ e _. (refl, fails)) (all_missing (λ _. failed) there (λ _. fails)))

all_told : (server : ℕ) (index : List ℕ) (failed : Type 0) (numbers : List ℕ) (shares : Shares) → numbers ≡ numbers_for shares index → PlacesOf server index failed numbers shares
all_told server index failed numbers shares all =
    let there : List ShareEntry = of_index index (entries shares) in
    let rows = found_in server index (entries shares) in
    (rows, ap (map (placed server)) all ∙ map-map (placed server) (λ (e : ShareEntry). e.0.1) there ∙ sym (map-map found_place (row server) there), all_but_none (λ f. (f.0 ≡ server) × failed) rows)

pub returns-clause-found : goal.returns-clause-found
returns-clause-found g c honest =
    let store = g.S.Store in
    let old = c.args.store.now in
    let new = c.numbers.new.self in
    let numbers = c.in_ok-numbers.numbers.items in
    let asked = c.in_ok-numbers.ensures in
    let failed : Type 0 = store.failures old < store.failures new in
    let given = rises_or_stays (store.failures old) (store.failures new) asked.looked.rises (PlacesOf c.args.server c.args.index failed numbers (store.shares old))
    (λ rose. none_told c.args.server c.args.index failed numbers (store.shares old) (asked.failed rose) rose)
    (λ calm. all_told c.args.server c.args.index failed numbers (store.shares old) (asked.found honest calm)) in
    on_ok_weaker c.add_places.result
    (λ is. (given.0, is ∙ ap (λ l. c.args.places.now.items ++ l) given.1, given.2))
    c.add_places.ensures

pub returns-clause-seen : goal.returns-clause-seen
returns-clause-seen g c shared =
    let store = g.S.Store in
    let old = c.args.store.now in
    let new = c.numbers.new.self in
    let numbers = c.in_ok-numbers.numbers.items in
    let asked = c.in_ok-numbers.ensures in
    let failed : Type 0 = store.failures old < store.failures new in
    let sight : SeesAmid (store.history old) (store.history new) (PlacesOf c.args.server c.args.index failed numbers) =
    rises_or_stays (store.failures old) (store.failures new) asked.looked.rises _
    (λ rose. (shared.last, seen_first shared (asked.told shared).1, none_told c.args.server c.args.index failed numbers shared.last (asked.failed rose) rose))
    (λ calm. let s = asked.seen shared calm in (s.0, s.1, all_told c.args.server c.args.index failed numbers s.0 s.2)) in
    let given = sight.2 in
    on_ok_weaker c.add_places.result
    (λ is. (given.0, is ∙ ap (λ l. c.args.places.now.items ++ l) given.1, (sight.0, sight.1, given.2)))
    c.add_places.ensures
