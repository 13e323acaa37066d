-- Where an image is read with a fault, something is wrong there.
use Rattle.std.proofs.Common.{◌≡◌, ◌<◌, ◌≤◌, ◌+◌, ℕ, zero, suc, List, [], ◌∷◌, ◌++◌, length, take, drop, All, Option, Some, None, Result, Ok, Err, Bool, true, false, not, nat_lt, ◌==◌, min, if◌then◌else◌, refl, sym, ap, ◌∙◌, arith, append_assoc, length-append, length-take-le, take-append-drop, eqb-true}
use Rattle.std.specs.List.{flat_map}
use Rattle.std.proofs.lemmas.Bool.{ltb-true, ltb-false, eq-eqb}
use Rattle.std.specs.Int.{from_be_bytes, w32}
use Rattle.std.proofs.lemmas.List.{length-take, length-drop, take-take}
use Rattle.grid.specs.Rows.{Row}
use Rattle.grid.specs.RowOrder.{RowKey, row_key, comes_after, in_order}
use Rattle.grid.specs.Layout.{name, layout_said, wide, front as front_size, row_front, u32_at, count_at}
use Rattle.grid.specs.Image.{row_head, row_bytes}
use Rattle.grid.specs.ImageHeads.{head_key, shares_said, head_said}
use Rattle.grid.specs.ImageReading.{RowsRead, rows_said, said_as, image_said, from_said, with_row, stopped, preceded, said_row}
use Rattle.grid.specs.ImageLaws.{IsInRange}
use Rattle.grid.specs.ImageFaults.{FrontFault, key_at, IsPlaced, HeadFault, RestFault, ImageFault}
use Rattle.grid.specs.ImageFaults.FrontFault.{other_name, servers_cut, other_servers, shares_cut}
use Rattle.grid.specs.ImageFaults.HeadFault.{server_cut, no_server, index_cut, number_cut, out_of_order, high_number, length_cut, no_bytes}
use Rattle.grid.specs.ImageFaults.RestFault.{bad_head, cut_share, too_many}
use Rattle.grid.specs.ImageFaults.ImageFault.{bad_front, bad_rest}
use Rattle.grid.specs.declared.image_fields.RowHead.{RowHead}
use Rattle.grid.specs.declared.image_layout.Layout.{Layout}
use Rattle.grid.proofs.Layouts.{name_of, no_name, wide_some, Low, low_from, low_drop, low_take}
use Rattle.grid.proofs.RowFacts.{AllRows, all_from}
use Rattle.grid.proofs.ReadExact.{good_head, head_joined, head_in_range, both, image_joined}

-- ---- the tests of the fields

module _ {T : Type 0} (P : Type 0) where
  -- a test that refuses, or the others after it
  where_so : (b : Bool) (e at : ℕ) (r : Result T ℕ) → (if b then Err e else r) ≡ Err at → (b ≡ true → at ≡ e → P) → (b ≡ false → r ≡ Err at → P) → P
  where_so true e at r h here later = here refl (cc)
  where_so false e at r h here later = later refl h

  where_not : (b : Bool) (e at : ℕ) (r : Result T ℕ) → (if not b then Err e else r) ≡ Err at → (b ≡ false → at ≡ e → P) → (b ≡ true → r ≡ Err at → P) → P
  where_not true e at r h here later = later refl h
  where_not false e at r h here later = here refl (cc)

head_fault : (layout : Layout) (servers : ℕ) (last : Option RowKey) (bytes : List ℕ) (offset : ℕ) → head_said layout servers last bytes ≡ Err offset → HeadFault layout servers last bytes offset
head_fault layout servers last bytes offset said =
    where_so _ (nat_lt (length bytes) 4) 0 offset _ said (λ is at. server_cut at (ltb-true (length bytes) 4 is))
    (λ isnt said.
    let long4 : 4 ≤ length bytes = ltb-false (length bytes) 4 isnt in
    where_not _ (nat_lt (u32_at bytes 0) servers) 0 offset _ said (λ isnt at. no_server at long4 (ltb-false (u32_at bytes 0) servers isnt))
    (λ is said.
    let server : u32_at bytes 0 < servers = ltb-true (u32_at bytes 0) servers is in
    where_so _ (nat_lt (length bytes) 20) 4 offset _ said (λ is at. index_cut at long4 server (ltb-true (length bytes) 20 is))
    (λ isnt said.
    let long20 : 20 ≤ length bytes = ltb-false (length bytes) 20 isnt in
    where_so _ (nat_lt (length bytes) 24) 20 offset _ said (λ is at. number_cut at long20 server (ltb-true (length bytes) 24 is))
    (λ isnt said.
    let long24 : 24 ≤ length bytes = ltb-false (length bytes) 24 isnt in
    where_not _ (comes_after last (key_at bytes)) 0 offset _ said (λ isnt at. out_of_order at long24 server isnt)
    (λ is said.
    let placed : IsPlaced servers last bytes = record { whole = long24; server = server; after = is } in
    where_not _ (nat_lt (u32_at bytes 20) 256) 20 offset _ said (λ isnt at. high_number at placed (ltb-false (u32_at bytes 20) 256 isnt))
    (λ is said.
    let small : u32_at bytes 20 < 256 = ltb-true (u32_at bytes 20) 256 is in
    where_so _ (nat_lt (length bytes) (row_front layout)) 24 offset _ said (λ is at. length_cut at placed small (ltb-true (length bytes) (row_front layout) is))
    (λ isnt said.
    let whole : row_front layout ≤ length bytes = ltb-false (length bytes) (row_front layout) isnt in
    where_so _ (count_at layout bytes 24 == 0) 24 offset _ said (λ is at. no_bytes at placed small whole (eqb-true (count_at layout bytes 24) 0 is))
    (λ isnt said.
    let made : RowHead = record { server = u32_at bytes 0; index = take 16 (drop 4 bytes); number = u32_at bytes 20; length = count_at layout bytes 24 } in
    let never : Ok made ≡ Err offset = said in
    cc))))))))

-- what stands in the bytes behind the name, where so many of them are looked at
behind_at : (bytes : List ℕ) (n : ℕ) → 4 ≤ n → u32_at (take n (drop 8 bytes)) 0 ≡ u32_at bytes 8
unfolding u32_at
behind_at bytes n le = ap (from_be_bytes w32) (take-take 4 n (drop 8 bytes) le)

front_fault : (layout : Layout) (servers : ℕ) (bytes : List ℕ) (place : ℕ) → take 8 bytes ≡ name layout → shares_said layout servers (take (4 + wide layout) (drop 8 bytes)) ≡ Err place → FrontFault servers bytes place
front_fault layout servers bytes place named said =
    let front = take (4 + wide layout) (drop 8 bytes) in
    let size : length front ≡ min (4 + wide layout) (length (drop 8 bytes)) = length-take (4 + wide layout) (drop 8 bytes) in
    let behind = length-drop 8 bytes in
    let at8 : u32_at front 0 ≡ u32_at bytes 8 = behind_at bytes (4 + wide layout) (omega arith) in
    where_so _ (nat_lt (length front) 4) 8 place _ said (λ is at. servers_cut layout at named (omega (arith, ltb-true (length front) 4 is, wide_some layout)))
    (λ isnt said.
    let long12 : 12 ≤ length bytes = omega (arith, ltb-false (length front) 4 isnt, wide_some layout) in
    where_not _ (u32_at front 0 == servers) 8 place _ said
    (λ isnt at. other_servers layout at named long12 (λ same. let h : true ≡ false = sym (eq-eqb (u32_at front 0) servers (at8 ∙ same)) ∙ isnt in cc))
    (λ is said.
    where_so _ (nat_lt (length front) (4 + wide layout)) 12 place _ said
    (λ is' at. shares_cut layout at named long12 (sym at8 ∙ eqb-true (u32_at front 0) servers is) (omega (arith, ltb-true (length front) (4 + wide layout) is')))
    (λ isnt said.
    let never : Ok (count_at layout front 4) ≡ Err place = said in
    cc)))

-- ---- rows

record StopsIn (layout : Layout) (n servers : ℕ) (last : Option RowKey) (place : ℕ) (bytes : List ℕ) (rows : List Row) (fault : ℕ) : Type 0 where
  rest : List ℕ
  at : ℕ
  there : fault ≡ place + at
  joined : bytes ≡ flat_map (row_bytes layout) rows ++ rest
  ranged : AllRows (IsInRange layout servers) rows
  ordered : in_order last rows ≡ true
  why : RestFault layout n servers last rows rest at

-- one row more in front
one_before : (layout : Layout) (n servers : ℕ) (last : Option RowKey) (row : Row) (rows : List Row) (rest : List ℕ) (at : ℕ) → RestFault layout n servers (Some (row_key row)) rows rest at → RestFault layout (suc n) servers last (row ∷ rows) rest (length (row_bytes layout row) + at)
one_before layout n servers last row rows rest at (bad_head offset is few fault) =
    bad_head offset (omega (arith, length-append (row_bytes layout row) (flat_map (row_bytes layout) rows))) (omega arith) fault
one_before layout n servers last row rows rest at (cut_share is few placed small whole cut) =
    cut_share (omega (arith, length-append (row_bytes layout row) (flat_map (row_bytes layout) rows))) (omega arith) placed small whole cut
one_before layout n servers last row rows rest at (too_many is all some) =
    too_many (omega (arith, length-append (row_bytes layout row) (flat_map (row_bytes layout) rows))) (omega arith) some

row_before : (layout : Layout) (n servers : ℕ) (last : Option RowKey) (place : ℕ) (bytes : List ℕ) (fault : ℕ) (head : RowHead) (rows : List Row) → Low bytes → head_said layout servers last (take (row_front layout) bytes) ≡ Ok head → head.length ≤ length (drop (row_front layout) bytes)
    → StopsIn layout n servers (Some (head_key head)) (place + row_front layout + head.length) (drop head.length (drop (row_front layout) bytes)) rows fault → StopsIn layout (suc n) servers last place bytes (said_row head (take head.length (drop (row_front layout) bytes)) ∷ rows) fault
row_before layout n servers last place bytes fault head rows low said enough more =
    let front = take (row_front layout) bytes in
    let body = drop (row_front layout) bytes in
    let own = take head.length body in
    let row = said_row head own in
    let good = good_head layout servers last front head said in
    let low_front = low_take (row_front layout) bytes low in
    let long : length front ≡ row_front layout = omega (arith, good.long, length-take (row_front layout) bytes) in
    let size : length own ≡ head.length = length-take-le head.length body enough in
    let joined : front ≡ row_head layout row = head_joined layout servers last front own head low_front long good size in
    let head_size : length (row_head layout row) ≡ row_front layout = ap length (sym joined) ∙ long in
    let row_size : length (row_bytes layout row) ≡ length (row_head layout row) + length own = length-append (row_head layout row) own in
    record {
      rest = more.rest;
      at = length (row_bytes layout row) + more.at;
      there = omega (arith, more.there, row_size, head_size, size);
      joined = sym (take-append-drop (row_front layout) bytes)
          ∙ ap (λ l. l ++ body) joined
          ∙ ap (λ l. row_head layout row ++ l) (sym (take-append-drop head.length body) ∙ ap (λ l. own ++ l) more.joined)
          ∙ sym (append_assoc (row_head layout row) own (flat_map (row_bytes layout) rows ++ more.rest))
          ∙ sym (append_assoc (row_bytes layout row) (flat_map (row_bytes layout) rows) more.rest);
      ranged = (head_in_range layout servers last front own head low_front long good size, more.ranged);
      ordered = both (comes_after last (row_key row)) (in_order (Some (row_key row)) rows) good.after more.ordered;
      why = one_before layout n servers last row rows more.rest more.at more.why;
    }

-- a row whose own bytes are cut off
cut_row : (layout : Layout) (n servers : ℕ) (last : Option RowKey) (place : ℕ) (bytes : List ℕ) (fault : ℕ) (head : RowHead) → head_said layout servers last (take (row_front layout) bytes) ≡ Ok head → length (drop (row_front layout) bytes) < head.length → fault ≡ place + row_front layout → StopsIn layout (suc n) servers last place bytes [] fault
cut_row layout n servers last place bytes fault head said cut is =
    let front = take (row_front layout) bytes in
    let good = good_head layout servers last front head said in
    let key : head_key head ≡ key_at front = λ i. (good.server i, (good.index i, good.number i)) in
    let size : head.length ≡ count_at layout front 24 = good.size in
    record {
      rest = bytes;
      at = row_front layout;
      there = is;
      joined = refl;
      ranged = tt;
      ordered = refl;
      why = cut_share (omega arith) (omega arith)
          (record { whole = omega (arith, good.long); server = omega (arith, good.server, good.in_range); after = sym (ap (comes_after last) key) ∙ good.after })
          (omega (arith, good.number, good.small))
          (omega (arith, good.long, length-take (row_front layout) bytes))
          (omega (arith, cut, size, good.long, length-take (row_front layout) bytes, length-drop (row_front layout) bytes));
    }

some_same : (a b : ℕ) → Some a ≡ Some b → b ≡ a
some_same a b h = cc

row_stopped : (layout : Layout) (n servers : ℕ) (last : Option RowKey) (place : ℕ) (bytes : List ℕ) (fault : ℕ) (r : Result RowHead ℕ) (next : RowHead → RowsRead) → Low bytes → head_said layout servers last (take (row_front layout) bytes) ≡ r
    → ((head : RowHead) → (next head).fault ≡ Some fault → StopsIn layout n servers (Some (head_key head)) (place + row_front layout + head.length) (drop head.length (drop (row_front layout) bytes)) (next head).rows fault)
    → (with_row layout r place (drop (row_front layout) bytes) next).fault ≡ Some fault → StopsIn layout (suc n) servers last place bytes (with_row layout r place (drop (row_front layout) bytes) next).rows fault
row_stopped layout n servers last place bytes fault (Err offset) next low said rest is =
    record {
      rest = bytes;
      at = offset;
      there = some_same (place + offset) fault is;
      joined = refl;
      ranged = tt;
      ordered = refl;
      why = bad_head offset (omega arith) (omega arith) (head_fault layout servers last (take (row_front layout) bytes) offset said);
    }
row_stopped layout n servers last place bytes fault (Ok head) next low said rest is = by_test (nat_lt (length (drop (row_front layout) bytes)) head.length) refl is
  where
    by_test : (b : Bool) → nat_lt (length (drop (row_front layout) bytes)) head.length ≡ b → (if b then stopped (place + row_front layout) else preceded (said_row head (take head.length (drop (row_front layout) bytes)) ∷ []) (next head)).fault ≡ Some fault
        → StopsIn layout (suc n) servers last place bytes (if b then stopped (place + row_front layout) else preceded (said_row head (take head.length (drop (row_front layout) bytes)) ∷ []) (next head)).rows fault
    by_test true cut at = cut_row layout n servers last place bytes fault head said (ltb-true (length (drop (row_front layout) bytes)) head.length cut) (some_same (place + row_front layout) fault at)
    by_test false whole at = row_before layout n servers last place bytes fault head (next head).rows low said (ltb-false (length (drop (row_front layout) bytes)) head.length whole) (rest head at)

rows_stopped : (layout : Layout) (n servers : ℕ) (last : Option RowKey) (place : ℕ) (bytes : List ℕ) (fault : ℕ) → Low bytes → (rows_said layout n servers last place bytes).fault ≡ Some fault → StopsIn layout n servers last place bytes (rows_said layout n servers last place bytes).rows fault
rows_stopped layout zero servers last place [] fault low is = cc
rows_stopped layout zero servers last place (b ∷ bytes) fault low is =
    let at : fault ≡ place = some_same place fault is in
    record { rest = b ∷ bytes; at = 0; there = omega arith; joined = refl; ranged = tt; ordered = refl; why = too_many refl refl (omega arith) }
rows_stopped layout (suc n) servers last place bytes fault low is =
    row_stopped layout n servers last place bytes fault (head_said layout servers last (take (row_front layout) bytes)) (λ head. rows_said layout n servers (Some (head_key head)) (place + row_front layout + head.length) (drop head.length (drop (row_front layout) bytes))) low refl
    (λ head more. rows_stopped layout n servers (Some (head_key head)) (place + row_front layout + head.length) (drop head.length (drop (row_front layout) bytes)) fault (low_drop head.length (drop (row_front layout) bytes) (low_drop (row_front layout) bytes low)) more) is

-- ---- the whole image

by_front : (layout : Layout) (servers : ℕ) (bytes : List ℕ) (place : ℕ) (r : Result ℕ ℕ) → Low bytes → take 8 bytes ≡ name layout → shares_said layout servers (take (4 + wide layout) (drop 8 bytes)) ≡ r
    → (from_said layout r servers (drop (4 + wide layout) (drop 8 bytes))).fault ≡ Some place → ImageFault servers bytes (from_said layout r servers (drop (4 + wide layout) (drop 8 bytes))).rows place
by_front layout servers bytes place (Err at) low named said is = bad_front (front_fault layout servers bytes place named (said ∙ ap Err (sym (some_same at place is)))) refl
by_front layout servers bytes place (Ok count) low named said is =
    let body = drop (4 + wide layout) (drop 8 bytes) in
    let low_body = low_drop (4 + wide layout) (drop 8 bytes) (low_drop 8 bytes low) in
    let stop = rows_stopped layout count servers None (front_size layout) body place low_body is in
    bad_rest layout count stop.at body stop.rest
    (image_joined layout servers bytes count low named said)
    stop.there
    (record { joined = stop.joined; in_range = all_from (IsInRange layout servers) (rows_said layout count servers None (front_size layout) body).rows stop.ranged; ordered = stop.ordered })
    stop.why

by_layout : (servers : ℕ) (bytes : List ℕ) (place : ℕ) (o : Option Layout) → Low bytes → layout_said (take 8 bytes) ≡ o → (said_as o servers (drop 8 bytes)).fault ≡ Some place → ImageFault servers bytes (said_as o servers (drop 8 bytes)).rows place
by_layout servers bytes place None low said is = bad_front (other_name (some_same 0 place is) (no_name (take 8 bytes) said)) refl
by_layout servers bytes place (Some layout) low said is =
    by_front layout servers bytes place (shares_said layout servers (take (4 + wide layout) (drop 8 bytes))) low (name_of (take 8 bytes) layout said) refl is

pub first_fault : (servers : ℕ) (bytes : List ℕ) (place : ℕ) → All (λ b. b < 256) bytes → (image_said servers bytes).fault ≡ Some place → ImageFault servers bytes (image_said servers bytes).rows place
first_fault servers bytes place all is = by_layout servers bytes place (layout_said (take 8 bytes)) (low_from bytes all) refl is
