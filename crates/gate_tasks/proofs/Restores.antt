-- What stands where an image was restored.
use Rattle.std.proofs.Common.{◌≡◌, ℕ, ◌+◌, zero, suc, List, [], ◌∷◌, length, All, refl, sym, ap, subst, ◌∙◌, arith}
use Rattle.std.specs.Prelude.{map, replicate, IsTrue}
use Rattle.std.proofs.lemmas.List.{length-map, length-replicate}
use Rattle.share_store.specs.Shares.{Shares, bytes_of}
use Rattle.share_store.specs.declared.mem_store.MemStore.{MemStore}
use Rattle.grid.specs.GridState.{StoreState, GridState, maps_of, stood, room_at, held_at, size_at, IsHonest}
use Rattle.grid.specs.Standing.{at_server, standing}
use Rattle.grid.specs.Rows.{rows_of}
use Rattle.grid.specs.ImageReading.{image_said}
use Rattle.grid.specs.Leaves.{Leaves}
use Rattle.chk_file.specs.Marks.{shown}
use Rattle.chk_file.specs.World.{World}
use Rattle.gate_core.specs.Items.{items}
use Rattle.gate_core.specs.ConnectionState.{State}
use Rattle.gate_core.specs.Came.{Opening, Came, Starts}
use Rattle.gate_tasks.specs.Stores.{fresh}
use Rattle.gate_tasks.specs.Replies.{room_of, IsOpenedBy}
use Rattle.gate_tasks.specs.declared.command.Grid.{Grid}
use Rattle.gate_tasks.proofs.StoreLists.{state_of, all_honest, room_is}

-- ---- stores

-- what a store in memory holds are the bytes of what stands in it
pub held_is : (stores : List MemStore) (s : ℕ) → at_server (λ (t : StoreState). t.held) (map state_of stores) s ≡ at_server (λ (t : StoreState). bytes_of t.shares) (map state_of stores) s
held_is [] s = refl
held_is (x ∷ stores) zero = x.summed
held_is (x ∷ stores) (suc s) = held_is stores s

none_held : (n room s : ℕ) → at_server (λ (t : StoreState). t.held) (replicate n (fresh room)) s ≡ 0
none_held zero room s = refl
none_held (suc n) room zero = refl
none_held (suc n) room (suc s) = none_held n room s

size_is : (stores : List StoreState) (s : ℕ) → at_server bytes_of (map (λ (t : StoreState). t.shares) stores) s ≡ at_server (λ (t : StoreState). bytes_of t.shares) stores s
size_is [] s = refl
size_is (t ∷ stores) zero = refl
size_is (t ∷ stores) (suc s) = size_is stores s

-- ---- an opening

-- as many stores with the same rows hold the same shares
abbrev pub ToldByRows : Type 0
ToldByRows = (ms ns : List Shares) → length ms ≡ length ns → rows_of ms ≡ rows_of ns → ms ≡ ns

module _ (grid : Grid) (image : List ℕ) (before : GridState) (g : State) (law : ToldByRows) (made : before.stores ≡ replicate grid.servers (fresh grid.room)) (leaves : Leaves before g.grid)
    (read : IsHonest before → rows_of (maps_of g.grid) ≡ (image_said grid.servers image).rows) (summed : (s : ℕ) → held_at g.grid s ≡ size_at g.grid s)
    (starts : (w : World) → stood g.grid ≡ shown w.marks → Starts w g) where
  honest : IsHonest before
  honest = subst (λ (stores : List StoreState). All (λ (t : StoreState). IsTrue t.honest) stores) (sym made) (all_honest grid.servers grid.room)

  servers_are : length (maps_of g.grid) ≡ grid.servers
  servers_are = length-map g.grid.stores (λ t. t.shares) ∙ leaves.servers ∙ ap (λ (stores : List StoreState). length stores) made ∙ length-replicate grid.servers (fresh grid.room)

  -- the image tells what stands
  maps_are : (opening : Opening) (opened : IsOpenedBy grid image opening) → opened.maps ≡ maps_of g.grid
  maps_are opening opened = law opened.maps (maps_of g.grid) (opened.servers ∙ sym servers_are) (opened.rows ∙ sym (read honest))

  -- and what room is left
  rooms_are : (opening : Opening) (opened : IsOpenedBy grid image opening) (s : ℕ) → room_at g.grid s ≡ opening.rooms s
  rooms_are opening opened s =
      let size : at_server bytes_of opened.maps s ≡ size_at g.grid s = ap (λ (ms : List Shares). at_server bytes_of ms s) (maps_are opening opened) ∙ size_is g.grid.stores s in
      let had : room_at before s ≡ room_of grid s = ap (λ (stores : List StoreState). at_server (λ (t : StoreState). t.room) stores s) made ∙ room_is grid.servers grid.room s in
      let none : held_at before s ≡ 0 = ap (λ (stores : List StoreState). at_server (λ (t : StoreState). t.held) stores s) made ∙ none_held grid.servers grid.room s in
      left_over (room_at g.grid s) (held_at g.grid s) (size_at g.grid s) (room_at before s) (held_at before s) (room_of grid s) (opening.rooms s) (at_server bytes_of opened.maps s)
      (leaves.sums honest s) (summed s) had none size (opened.room s)
    where
      left_over : (room held size was had given left brought : ℕ) → room + held ≡ was + had → held ≡ size → was ≡ given → had ≡ 0 → brought ≡ size → left + brought ≡ given → room ≡ left
      left_over room held size was had given left brought a b c d e f = omega (arith, a, b, c, d, e, f)

  pub came_restored : (opening : Opening) → IsOpenedBy grid image opening → Came opening g []
  unfolding items
  came_restored opening opened =
      let stand : stood g.grid ≡ shown opening.world.marks = ap standing (sym (maps_are opening opened)) ∙ opened.stand in
      let came = starts opening.world stand (leaves.honest honest) in
      record {
        servers = came.servers;
        stores = record { honest = came.stores.honest; stand = came.stores.stand; room = rooms_are opening opened };
        each = came.each;
        bytes = came.bytes;
      }
