use Rattle.std.proofs.Common.{◌≡◌, ◌<◌, ◌+◌, ◌++◌, ◌∷◌, [], ℕ, List, Vec, Global, length, map, take, get_or, sym, ap, ◌∙◌, arith}
use Rattle.std.proofs.Math.ListN.{set}
use Rattle.std.specs.List.{range_with_len}
use Rattle.std.specs.Rc.{rc_slice_items}
use Rattle.std.proofs.lemmas.List.{length-map, map-append, map-set, get_or-map, map_more}
use Rattle.std.proofs.lemmas.Simd.{map-map}
use Rattle.file_shares.specs.Row.{ServerShare}
use Rattle.file_shares.specs.Gathered.{found_string, Found, places_of, of_number, by_number}
use Rattle.file_shares.proofs.ByNumber.{row_at, length-rows, rows_past, rows_more}
use Rattle.file_shares.proofs.rows.Rows.new.Goals as goal
use Rattle.file_shares.proofs.rows.Rows.new.Goals.{then-number-n+in_ok-push, else-number-n}

abbrev row_of : Vec (ℕ × List ℕ) Global → List ServerShare
row_of row = places_of row.items

abbrev place_of : ℕ × List ℕ → ServerShare
place_of place = (place.0, place.1)

pub index_mut-row-requires : goal.index_mut-row-requires
index_mut-row-requires c =
    let fs : List Found = map (found_string rc_slice_items) (take c.loop-server.server-index c.args.found.now) in
    let a = length-map c.loop-server.rows.items row_of in
    let b = ap length c.loop-server.invariant in
    let d = length-rows c.args.n fs in
    let o = c.loop-server.rows.ok.0 in
    omega arith

pub loop-server-init : goal.loop-server-init
loop-server-init c =
    sym (map-map places_of (λ (row : Vec (ℕ × List ℕ) Global). row.items) c.in_ok-rows.rows.items)
    ∙ ap (map places_of) c.in_ok-rows.ensures
    ∙ map-map places_of (λ (_ : ℕ). []) (range_with_len 0 c.args.n)

pub loop-server-preserved : goal.loop-server-preserved
loop-server-preserved c =
    let at : ℕ = c.loop-server.server-index in
    let gathered = c.args.found.now in
    let item = c.loop-server-item.result in
    let n : ℕ = c.args.n in
    let fs : List Found = map (found_string rc_slice_items) (take at gathered) in
    let more : fs ++ found_string rc_slice_items item ∷ [] ≡ map (found_string rc_slice_items) (take (at + 1) gathered) =
    ap (λ x. fs ++ found_string rc_slice_items x ∷ []) c.loop-server-item.is ∙ sym (map_more (found_string rc_slice_items) gathered at item c.loop-server-test.true) in
    elim c.if-number-n.branch [
      | then-number-n+in_ok-push w ↦
          let m : ℕ = item.1 in
          let below : m < n = w.if-number-n.true in
          let old = w.index_mut-row.result.now in
          let inside : m < length c.loop-server.rows.items = (let a = length-map c.loop-server.rows.items row_of in let b = ap length c.loop-server.invariant in let d = length-rows n fs in omega arith) in
          let stood : row_of old ≡ of_number m fs =
          ap row_of w.index_mut-row.ensures.value ∙ sym (get_or-map row_of c.loop-server.rows.items m old [] inside)
          ∙ ap (λ (rows : List (List ServerShare)). get_or rows m []) c.loop-server.invariant ∙ row_at n m fs below in
          let row : row_of w.push.new.self ≡ of_number m fs ++ (item.0, rc_slice_items item.2) ∷ [] =
          ap places_of w.in_ok-push.ensures.items ∙ map-append place_of old.items ((item.0, w.new.result) ∷ [])
          ∙ (λ i. stood i ++ (item.0, w.new.ensures i) ∷ []) in
          ap (λ v. map row_of v.items) w.rows-is
          ∙ map-set row_of c.loop-server.rows.items m w.push.new.self
          ∙ (λ i. set (c.loop-server.invariant i) m (row i))
          ∙ rows_more n fs (found_string rc_slice_items item) below
          ∙ ap (by_number n) more
      | else-number-n w ↦
          ap (λ v. map row_of v.items) w.rows-is ∙ c.loop-server.invariant
          ∙ sym (rows_past n fs (found_string rc_slice_items item) w.if-number-n.false)
          ∙ ap (by_number n) more
    ]
