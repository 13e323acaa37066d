-- Bytes that are read without a fault are the image of what was read.
use Rattle.std.proofs.Common.{◌≡◌, ◌<◌, ◌≤◌, ◌+◌, ℕ, zero, suc, List, [], ◌∷◌, ◌++◌, length, take, drop, All, Option, Some, None, Result, Ok, Err, Bool, true, false, not, nat_lt, ◌==◌, ◌&&◌, if◌then◌else◌, refl, sym, ap, subst, ◌∙◌, arith, append_assoc, length-take-le, take-append-drop, eqb-true}
use Rattle.std.specs.List.{flat_map}
use Rattle.std.proofs.lemmas.Bool.{ltb-true, ltb-false}
use Rattle.std.proofs.lemmas.Bool.Decides.{nat_tests}
use Rattle.std.proofs.lemmas.List.{length-take, length-drop, take_all}
use Rattle.std.proofs.Math.Seq.{take-add}
use Rattle.grid.specs.Rows.{Row}
use Rattle.grid.specs.RowOrder.{RowKey, row_key, comes_after, in_order}
use Rattle.grid.specs.Layout.{name, layout_said, wide, front as front_size, row_front, be32, u32_at, count_bytes, count_at}
use Rattle.grid.specs.Image.{image_head, row_head, row_bytes}
use Rattle.grid.specs.ImageHeads.{head_key, shares_said, head_said}
use Rattle.grid.specs.ImageReading.{RowsRead, rows_said, said_as, image_said, from_said, with_row, stopped, preceded, said_row}
use Rattle.grid.specs.ImageLaws.{IsInRange, IsImage}
use Rattle.grid.specs.declared.image_fields.RowHead.{RowHead}
use Rattle.grid.specs.declared.image_layout.Layout.{Layout}
use Rattle.grid.proofs.Layouts.{name_of, wide_some, Low, low_from, low_drop, low_take, be32-number_at, bytes-count_at, number_fits, count_fits}
use Rattle.grid.proofs.RowFacts.{AllRows, all_from}

-- ---- what the tests of a head say where it is good

module _ {T : Type 0} where
  unless : (b : Bool) (e : ℕ) (r : Result T ℕ) (x : T) → (if b then Err e else r) ≡ Ok x → (b ≡ false) × (r ≡ Ok x)
  unless true e r x h = cc
  unless false e r x h = (refl, h)

  only : (b : Bool) (e : ℕ) (r : Result T ℕ) (x : T) → (if not b then Err e else r) ≡ Ok x → (b ≡ true) × (r ≡ Ok x)
  only true e r x h = (refl, h)
  only false e r x h = cc

pub record GoodHead (layout : Layout) (servers : ℕ) (last : Option RowKey) (bytes : List ℕ) (head : RowHead) : Type 0 where
  pub long : row_front layout ≤ length bytes
  pub server : head.server ≡ u32_at bytes 0
  pub index : head.index ≡ take 16 (drop 4 bytes)
  pub number : head.number ≡ u32_at bytes 20
  pub size : head.length ≡ count_at layout bytes 24
  pub in_range : head.server < servers
  pub after : comes_after last (head_key head) ≡ true
  pub small : head.number < 256
  pub some : 0 < head.length

pub good_head : (layout : Layout) (servers : ℕ) (last : Option RowKey) (bytes : List ℕ) (head : RowHead) → head_said layout servers last bytes ≡ Ok head → GoodHead layout servers last bytes head
good_head layout servers last bytes head said =
    let t0 = unless (nat_lt (length bytes) 4) 0 _ head said in
    let t1 = only (nat_lt (u32_at bytes 0) servers) 0 _ head t0.1 in
    let t2 = unless (nat_lt (length bytes) 20) 4 _ head t1.1 in
    let t3 = unless (nat_lt (length bytes) 24) 20 _ head t2.1 in
    let t4 = only (comes_after last (u32_at bytes 0, (take 16 (drop 4 bytes), u32_at bytes 20))) 0 _ head t3.1 in
    let t5 = only (nat_lt (u32_at bytes 20) 256) 20 _ head t4.1 in
    let t6 = unless (nat_lt (length bytes) (row_front layout)) 24 _ head t5.1 in
    let t7 = unless (count_at layout bytes 24 == 0) 24 _ head t6.1 in
    let made : RowHead = record { server = u32_at bytes 0; index = take 16 (drop 4 bytes); number = u32_at bytes 20; length = count_at layout bytes 24 } in
    let last_step : Ok made ≡ Ok head = t7.1 in
    let is : made ≡ head = cc in
    subst (GoodHead layout servers last bytes) is (record {
      long = ltb-false (length bytes) (row_front layout) t6.0;
      server = refl;
      index = refl;
      number = refl;
      size = refl;
      in_range = ltb-true (u32_at bytes 0) servers t1.0;
      after = t4.0;
      small = ltb-true (u32_at bytes 20) 256 t5.0;
      some = positive (count_at layout bytes 24) t7.0;
    })
  where
    positive : (k : ℕ) → (k == 0) ≡ false → 0 < k
    positive k h = grind (arith, nat_tests)

-- the bytes before a share's own by their fields
by_fields : (layout : Layout) (front : List ℕ) → length front ≡ row_front layout → front ≡ ((take 4 front ++ take 16 (drop 4 front)) ++ take 4 (drop 20 front)) ++ take (wide layout) (drop 24 front)
by_fields layout front long =
    let rest : take (wide layout) (drop 24 front) ≡ drop 24 front = take_all (wide layout) (drop 24 front) (omega (arith, length-drop 24 front)) in
    sym (take-append-drop 24 front)
    ∙ ap (λ l. l ++ drop 24 front) (take-add 20 4 front ∙ ap (λ l. l ++ take 4 (drop 20 front)) (take-add 4 16 front))
    ∙ ap (λ l. ((take 4 front ++ take 16 (drop 4 front)) ++ take 4 (drop 20 front)) ++ l) (sym rest)

pub head_joined : (layout : Layout) (servers : ℕ) (last : Option RowKey) (front own : List ℕ) (head : RowHead) → Low front → length front ≡ row_front layout → GoodHead layout servers last front head → length own ≡ head.length
    → front ≡ row_head layout (said_row head own)
head_joined layout servers last front own head low long good size =
    by_fields layout front long
    ∙ ap (λ l. ((l ++ take 16 (drop 4 front)) ++ take 4 (drop 20 front)) ++ take (wide layout) (drop 24 front)) (sym (be32-number_at front 0 low (omega arith)) ∙ ap be32 (sym good.server))
    ∙ ap (λ l. ((be32 head.server ++ l) ++ take 4 (drop 20 front)) ++ take (wide layout) (drop 24 front)) (sym good.index)
    ∙ ap (λ l. ((be32 head.server ++ head.index) ++ l) ++ take (wide layout) (drop 24 front)) (sym (be32-number_at front 20 low (omega arith)) ∙ ap be32 (sym good.number))
    ∙ ap (λ l. ((be32 head.server ++ head.index) ++ be32 head.number) ++ l) (sym (bytes-count_at layout front 24 low (omega arith)) ∙ ap (count_bytes layout) (sym good.size ∙ sym size))

-- ---- rows

pub record ReadExactly (layout : Layout) (n servers : ℕ) (last : Option RowKey) (bytes : List ℕ) (rows : List Row) : Type 0 where
  pub joined : bytes ≡ flat_map (row_bytes layout) rows
  pub counted : length rows ≡ n
  pub ranged : AllRows (IsInRange layout servers) rows
  pub ordered : in_order last rows ≡ true

pub both : (a b : Bool) → a ≡ true → b ≡ true → a && b ≡ true
both a b p q = rw (p, q) refl

-- a row with a good head is in range
pub head_in_range : (layout : Layout) (servers : ℕ) (last : Option RowKey) (front own : List ℕ) (head : RowHead) → Low front → length front ≡ row_front layout → GoodHead layout servers last front head → length own ≡ head.length
    → IsInRange layout servers (said_row head own)
head_in_range layout servers last front own head low long good size =
    record {
      server = good.in_range;
      index = ap length good.index ∙ length-take-le 16 (drop 4 front) (omega (arith, length-drop 4 front));
      number = good.small;
      some = omega (arith, good.some);
      short = omega (arith, count_fits layout front 24 low, good.size, size);
    }

-- a row whose head is good and whose own bytes are there
row_joined : (layout : Layout) (n servers : ℕ) (last : Option RowKey) (bytes : List ℕ) (head : RowHead) (rows : List Row) → Low bytes → head_said layout servers last (take (row_front layout) bytes) ≡ Ok head → head.length ≤ length (drop (row_front layout) bytes)
    → ReadExactly layout n servers (Some (head_key head)) (drop head.length (drop (row_front layout) bytes)) rows → ReadExactly layout (suc n) servers last bytes (said_row head (take head.length (drop (row_front layout) bytes)) ∷ rows)
row_joined layout n servers last bytes head rows low said enough more =
    let front = take (row_front layout) bytes in
    let body = drop (row_front layout) bytes in
    let own = take head.length body in
    let row = said_row head own in
    let good = good_head layout servers last front head said in
    let low_front = low_take (row_front layout) bytes low in
    let long : length front ≡ row_front layout = omega (arith, good.long, length-take (row_front layout) bytes) in
    let size : length own ≡ head.length = length-take-le head.length body enough in
    record {
      joined = sym (take-append-drop (row_front layout) bytes)
          ∙ ap (λ l. l ++ body) (head_joined layout servers last front own head low_front long good size)
          ∙ ap (λ l. row_head layout row ++ l) (sym (take-append-drop head.length body) ∙ ap (λ l. own ++ l) more.joined)
          ∙ sym (append_assoc (row_head layout row) own (flat_map (row_bytes layout) rows));
      counted = omega (arith, more.counted);
      ranged = (head_in_range layout servers last front own head low_front long good size, more.ranged);
      ordered = both (comes_after last (row_key row)) (in_order (Some (row_key row)) rows) good.after more.ordered;
    }

row_exactly : (layout : Layout) (n servers : ℕ) (last : Option RowKey) (place : ℕ) (bytes : List ℕ) (r : Result RowHead ℕ) (next : RowHead → RowsRead) → Low bytes → head_said layout servers last (take (row_front layout) bytes) ≡ r
    → ((head : RowHead) → (next head).fault ≡ None → ReadExactly layout n servers (Some (head_key head)) (drop head.length (drop (row_front layout) bytes)) (next head).rows)
    → (with_row layout r place (drop (row_front layout) bytes) next).fault ≡ None → ReadExactly layout (suc n) servers last bytes (with_row layout r place (drop (row_front layout) bytes) next).rows
row_exactly layout n servers last place bytes (Err offset) next low said rest none = cc
row_exactly layout n servers last place bytes (Ok head) next low said rest none = by_test (nat_lt (length (drop (row_front layout) bytes)) head.length) refl none
  where
    by_test : (b : Bool) → nat_lt (length (drop (row_front layout) bytes)) head.length ≡ b → (if b then stopped (place + row_front layout) else preceded (said_row head (take head.length (drop (row_front layout) bytes)) ∷ []) (next head)).fault ≡ None
        → ReadExactly layout (suc n) servers last bytes (if b then stopped (place + row_front layout) else preceded (said_row head (take head.length (drop (row_front layout) bytes)) ∷ []) (next head)).rows
    by_test true is fault = cc
    by_test false is good = row_joined layout n servers last bytes head (next head).rows low said (ltb-false (length (drop (row_front layout) bytes)) head.length is) (rest head good)

rows_exactly : (layout : Layout) (n servers : ℕ) (last : Option RowKey) (place : ℕ) (bytes : List ℕ) → Low bytes → (rows_said layout n servers last place bytes).fault ≡ None → ReadExactly layout n servers last bytes (rows_said layout n servers last place bytes).rows
rows_exactly layout zero servers last place [] low none = record { joined = refl; counted = refl; ranged = tt; ordered = refl }
rows_exactly layout zero servers last place (b ∷ bytes) low none = cc
rows_exactly layout (suc n) servers last place bytes low none =
    row_exactly layout n servers last place bytes (head_said layout servers last (take (row_front layout) bytes)) (λ head. rows_said layout n servers (Some (head_key head)) (place + row_front layout + head.length) (drop head.length (drop (row_front layout) bytes))) low refl
    (λ head good. rows_exactly layout n servers (Some (head_key head)) (place + row_front layout + head.length) (drop head.length (drop (row_front layout) bytes)) (low_drop head.length (drop (row_front layout) bytes) (low_drop (row_front layout) bytes low)) good) none

-- ---- the whole image

-- the bytes between the name and the shares, where they are good
pub record GoodFront (layout : Layout) (servers : ℕ) (bytes : List ℕ) (count : ℕ) : Type 0 where
  pub long : 4 + wide layout ≤ length bytes
  pub said : u32_at bytes 0 ≡ servers
  pub counted : count_at layout bytes 4 ≡ count

pub good_front : (layout : Layout) (servers : ℕ) (bytes : List ℕ) (count : ℕ) → shares_said layout servers bytes ≡ Ok count → GoodFront layout servers bytes count
good_front layout servers bytes count said =
    let t1 = unless (nat_lt (length bytes) 4) 8 _ count said in
    let t2 = only (u32_at bytes 0 == servers) 8 _ count t1.1 in
    let t3 = unless (nat_lt (length bytes) (4 + wide layout)) 12 _ count t2.1 in
    let last_step : Ok (count_at layout bytes 4) ≡ Ok count = t3.1 in
    record {
      long = ltb-false (length bytes) (4 + wide layout) t3.0;
      said = eqb-true (u32_at bytes 0) servers t2.0;
      counted = cc;
    }

front_joined : (layout : Layout) (servers : ℕ) (front : List ℕ) (count : ℕ) → Low front → length front ≡ 4 + wide layout → GoodFront layout servers front count → front ≡ be32 servers ++ count_bytes layout count
front_joined layout servers front count low long good =
    let rest : take (wide layout) (drop 4 front) ≡ drop 4 front = take_all (wide layout) (drop 4 front) (omega (arith, length-drop 4 front)) in
    sym (take-append-drop 4 front)
    ∙ ap (λ l. take 4 front ++ l) (sym rest)
    ∙ ap (λ l. l ++ take (wide layout) (drop 4 front)) (sym (be32-number_at front 0 low (omega (arith, wide_some layout))) ∙ ap be32 good.said)
    ∙ ap (λ l. be32 servers ++ l) (sym (bytes-count_at layout front 4 low (omega arith)) ∙ ap (count_bytes layout) good.counted)

-- the bytes before the shares, where they are good, and those behind them
pub image_joined : (layout : Layout) (servers : ℕ) (bytes : List ℕ) (count : ℕ) → Low bytes → take 8 bytes ≡ name layout → shares_said layout servers (take (4 + wide layout) (drop 8 bytes)) ≡ Ok count
    → bytes ≡ image_head layout servers count ++ drop (4 + wide layout) (drop 8 bytes)
image_joined layout servers bytes count low named said =
    let behind = drop 8 bytes in
    let front = take (4 + wide layout) behind in
    let rest = drop (4 + wide layout) behind in
    let good = good_front layout servers front count said in
    let long : length front ≡ 4 + wide layout = omega (arith, good.long, length-take (4 + wide layout) behind) in
    sym (take-append-drop 8 bytes)
    ∙ ap (λ l. l ++ behind) named
    ∙ ap (λ l. name layout ++ l) (sym (take-append-drop (4 + wide layout) behind) ∙ ap (λ l. l ++ rest) (front_joined layout servers front count (low_take (4 + wide layout) behind (low_drop 8 bytes low)) long good))
    ∙ sym (append_assoc (name layout) (be32 servers ++ count_bytes layout count) rest)
    ∙ ap (λ l. l ++ rest) (sym (append_assoc (name layout) (be32 servers) (count_bytes layout count)))

-- what is read is what stands there, and an image can hold it
by_front : (layout : Layout) (servers : ℕ) (bytes : List ℕ) (r : Result ℕ ℕ) → Low bytes → take 8 bytes ≡ name layout → shares_said layout servers (take (4 + wide layout) (drop 8 bytes)) ≡ r
    → (from_said layout r servers (drop (4 + wide layout) (drop 8 bytes))).fault ≡ None → IsImage servers (from_said layout r servers (drop (4 + wide layout) (drop 8 bytes))).rows bytes
by_front layout servers bytes (Err place) low named said none = cc
by_front layout servers bytes (Ok count) low named said none =
    let behind = drop 8 bytes in
    let front = take (4 + wide layout) behind in
    let rest = drop (4 + wide layout) behind in
    let rows = (rows_said layout count servers None (front_size layout) rest).rows in
    let low_behind = low_drop 8 bytes low in
    let low_front = low_take (4 + wide layout) behind low_behind in
    let good = good_front layout servers front count said in
    let more = rows_exactly layout count servers None (front_size layout) rest (low_drop (4 + wide layout) behind low_behind) none in
    record {
      layout = layout;
      named = named;
      whole = image_joined layout servers bytes count low named said
          ∙ ap (λ l. image_head layout servers count ++ l) more.joined
          ∙ ap (λ n. image_head layout servers n ++ flat_map (row_bytes layout) rows) (sym more.counted);
      held = record {
        servers_fit = omega (arith, number_fits front 0 low_front, good.said);
        few = omega (arith, count_fits layout front 4 low_front, good.counted, more.counted);
        in_range = all_from (IsInRange layout servers) rows more.ranged;
        ordered = more.ordered;
      };
    }

by_layout : (servers : ℕ) (bytes : List ℕ) (o : Option Layout) → Low bytes → layout_said (take 8 bytes) ≡ o → (said_as o servers (drop 8 bytes)).fault ≡ None → IsImage servers (said_as o servers (drop 8 bytes)).rows bytes
by_layout servers bytes None low said none = cc
by_layout servers bytes (Some layout) low said none =
    by_front layout servers bytes (shares_said layout servers (take (4 + wide layout) (drop 8 bytes))) low (name_of (take 8 bytes) layout said) refl none

pub read_exactly : (servers : ℕ) (bytes : List ℕ) → All (λ b. b < 256) bytes → (image_said servers bytes).fault ≡ None → IsImage servers (image_said servers bytes).rows bytes
read_exactly servers bytes all none = by_layout servers bytes (layout_said (take 8 bytes)) (low_from bytes all) refl none
