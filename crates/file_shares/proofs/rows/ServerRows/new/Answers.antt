use Rattle.std.proofs.Common.{◌≡◌, ◌<◌, ◌+◌, ◌++◌, ◌∷◌, [], ℕ, List, Vec, Global, length, map, take, get_or, sym, ap, ◌∙◌, arith}
use Rattle.std.proofs.Math.ListN.{set}
use Rattle.std.proofs.lemmas.List.{length-map, map-set, get_or-map, take_more}
use Rattle.file_shares.specs.Gathered.{servers_of, servers_by_number}
use Rattle.file_shares.proofs.ByNumber.{servers_at, length-servers, servers_past, servers_more}
use Rattle.file_shares.proofs.rows.ServerRows.new.Goals as goal
use Rattle.file_shares.proofs.rows.ServerRows.new.Goals.{then-number-n+in_ok-push, else-number-n}

abbrev row_of : Vec ℕ Global → List ℕ
row_of row = row.items

pub index_mut-row-requires : goal.index_mut-row-requires
index_mut-row-requires c =
    let ps : List (ℕ × ℕ) = take c.loop-server.server-index c.args.places.now in
    let a = length-map c.loop-server.rows.items row_of in
    let b = ap length c.loop-server.invariant in
    let d = length-servers c.args.n ps in
    let o = c.loop-server.rows.ok.0 in
    omega arith

pub loop-server-preserved : goal.loop-server-preserved
loop-server-preserved c =
    let at : ℕ = c.loop-server.server-index in
    let told = c.args.places.now in
    let item : ℕ × ℕ = get_or told at (0, 0) in
    let n : ℕ = c.args.n in
    let ps : List (ℕ × ℕ) = take at told in
    let more : ps ++ item ∷ [] ≡ take (at + 1) told = sym (take_more told at (0, 0) c.loop-server-test.true) in
    elim c.if-number-n.branch [
      | then-number-n+in_ok-push w ↦
          let m : ℕ = item.1 in
          let below : m < n = w.if-number-n.true in
          let old = w.index_mut-row.result.now in
          let inside : m < length c.loop-server.rows.items = (let a = length-map c.loop-server.rows.items row_of in let b = ap length c.loop-server.invariant in let d = length-servers n ps in omega arith) in
          let stood : row_of old ≡ servers_of m ps =
          ap row_of w.index_mut-row.ensures.value ∙ sym (get_or-map row_of c.loop-server.rows.items m old [] inside)
          ∙ ap (λ (rows : List (List ℕ)). get_or rows m []) c.loop-server.invariant ∙ servers_at n m ps below in
          let row : row_of w.push.new.self ≡ servers_of m ps ++ item.0 ∷ [] = w.in_ok-push.ensures.items ∙ ap (λ (l : List ℕ). l ++ item.0 ∷ []) stood in
          ap (λ v. map row_of v.items) w.rows-is
          ∙ map-set row_of c.loop-server.rows.items m w.push.new.self
          ∙ (λ i. set (c.loop-server.invariant i) m (row i))
          ∙ servers_more n ps item below
          ∙ ap (servers_by_number n) more
      | else-number-n w ↦
          ap (λ v. map row_of v.items) w.rows-is ∙ c.loop-server.invariant
          ∙ sym (servers_past n ps item w.if-number-n.false)
          ∙ ap (servers_by_number n) more
    ]
