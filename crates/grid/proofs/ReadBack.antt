-- The image of rows is read as those rows.
use Rattle.std.proofs.Common.{◌≡◌, ◌<◌, ◌+◌, ◌^◌, ℕ, zero, List, [], ◌∷◌, ◌++◌, length, take, drop, All, Option, Some, None, Result, Ok, Err, Bool, true, false, not, nat_lt, ◌==◌, ◌&&◌, if◌then◌else◌, refl, ap, ◌∙◌, arith, append_assoc, length-append, take_at, drop_at, eq-eqb}
use Rattle.std.specs.List.{flat_map}
use Rattle.std.proofs.lemmas.Bool.{lt-ltb, le-ltb}
use Rattle.std.proofs.lemmas.Bool.Decides.{nat_tests}
use Rattle.std.proofs.lemmas.List.Elements.{All-tail}
use Rattle.grid.specs.Rows.{Row}
use Rattle.grid.specs.RowOrder.{RowKey, row_key, comes_after, in_order}
use Rattle.grid.specs.Layout.{name, layout_said, wide, front, row_front, be32, u32_at, count_bytes, count_at, count_limit}
use Rattle.grid.specs.Image.{image_in, row_head, row_bytes}
use Rattle.grid.specs.ImageHeads.{head_key, shares_said, head_said}
use Rattle.grid.specs.ImageReading.{RowsRead, rows_said, said_as, image_said, from_said, with_row, stopped, preceded, said_row}
use Rattle.grid.specs.ImageLaws.{IsInRange, CanBeWritten}
use Rattle.grid.specs.declared.image_fields.RowHead.{RowHead}
use Rattle.grid.specs.declared.image_layout.Layout.{Layout}
use Rattle.grid.proofs.Layouts.{length-name, named_back, length-be32, length-count, number_behind, count_last}

-- the tests of the bytes before a share's own, in their order
abbrev head_tested : Bool → Bool → Bool → Bool → Bool → Bool → Bool → Bool → RowHead → Result RowHead ℕ
head_tested b0 b1 b2 b3 b4 b5 b6 b7 head =
    if b0 then Err 0 else if not b1 then Err 0 else if b2 then Err 4 else if b3 then Err 20 else if not b4 then Err 0 else if not b5 then Err 20 else if b6 then Err 24 else if b7 then Err 24 else Ok head

-- the tests of the bytes between an image's name and its shares
abbrev front_tested : Bool → Bool → Bool → ℕ → Result ℕ ℕ
front_tested b0 b1 b2 count = if b0 then Err 8 else if not b1 then Err 8 else if b2 then Err 12 else Ok count

-- what the bytes before a share's own say, by their fields
said_by_fields : (layout : Layout) (servers : ℕ) (last : Option RowKey) (bytes : List ℕ) (s n l : ℕ) (i : List ℕ) → length bytes ≡ row_front layout → u32_at bytes 0 ≡ s → take 16 (drop 4 bytes) ≡ i → u32_at bytes 20 ≡ n → count_at layout bytes 24 ≡ l
    → s < servers → comes_after last (s, (i, n)) ≡ true → n < 256 → 0 < l → head_said layout servers last bytes ≡ Ok (record { server = s; index = i; number = n; length = l })
said_by_fields layout servers last bytes s n l i long e0 e4 e20 e24 lt after small some =
    by_tests (nat_lt (length bytes) 4) (nat_lt (u32_at bytes 0) servers) (nat_lt (length bytes) 20) (nat_lt (length bytes) 24)
    (comes_after last (u32_at bytes 0, (take 16 (drop 4 bytes), u32_at bytes 20))) (nat_lt (u32_at bytes 20) 256) (nat_lt (length bytes) (row_front layout)) (count_at layout bytes 24 == 0)
    (u32_at bytes 0) (u32_at bytes 20) (count_at layout bytes 24) (take 16 (drop 4 bytes))
    (le-ltb (length bytes) 4 (omega arith)) (lt-ltb (u32_at bytes 0) servers (omega arith)) (le-ltb (length bytes) 20 (omega arith)) (le-ltb (length bytes) 24 (omega arith))
    (ap (λ k. comes_after last (k, (take 16 (drop 4 bytes), u32_at bytes 20))) e0 ∙ ap (λ k. comes_after last (s, (k, u32_at bytes 20))) e4 ∙ ap (λ k. comes_after last (s, (i, k))) e20 ∙ after)
    (lt-ltb (u32_at bytes 20) 256 (omega arith)) (le-ltb (length bytes) (row_front layout) (omega arith)) (by_number (count_at layout bytes 24) (omega arith))
    ∙ ap (λ k. Ok (record { server = k; index = take 16 (drop 4 bytes); number = u32_at bytes 20; length = count_at layout bytes 24 })) e0
    ∙ ap (λ k. Ok (record { server = s; index = k; number = u32_at bytes 20; length = count_at layout bytes 24 })) e4
    ∙ ap (λ k. Ok (record { server = s; index = i; number = k; length = count_at layout bytes 24 })) e20
    ∙ ap (λ k. Ok (record { server = s; index = i; number = n; length = k })) e24
  where
    by_number : (k : ℕ) → 0 < k → (k == 0) ≡ false
    by_number k lt = grind (arith, nat_tests)

    by_tests : (b0 b1 b2 b3 b4 b5 b6 b7 : Bool) (v0 v1 v2 : ℕ) (v3 : List ℕ) → b0 ≡ false → b1 ≡ true → b2 ≡ false → b3 ≡ false → b4 ≡ true → b5 ≡ true → b6 ≡ false → b7 ≡ false →
        head_tested b0 b1 b2 b3 b4 b5 b6 b7 (record { server = v0; index = v3; number = v1; length = v2 }) ≡ Ok (record { server = v0; index = v3; number = v1; length = v2 })
    by_tests b0 b1 b2 b3 b4 b5 b6 b7 v0 v1 v2 v3 p0 p1 p2 p3 p4 p5 p6 p7 = rw (p0, p1, p2, p3, p4, p5, p6, p7) refl

-- a row's head says its fields
head_back : (layout : Layout) (servers : ℕ) (last : Option RowKey) (row : Row) → servers < 2 ^ 32 → IsInRange layout servers row → comes_after last (row_key row) ≡ true
    → head_said layout servers last (row_head layout row) ≡ Ok (record { server = row.0; index = row.1.0.0; number = row.1.0.1; length = length row.1.1 })
head_back layout servers last row fits range after =
    let s = be32 row.0 in
    let i = row.1.0.0 in
    let n = be32 row.1.0.1 in
    let l = count_bytes layout (length row.1.1) in
    let s4 = length-be32 row.0 in
    let n4 = length-be32 row.1.0.1 in
    let l4 = length-count layout (length row.1.1) in
    let si : length (s ++ i) ≡ 20 = omega (arith, length-append s i, range.index) in
    let sin : length ((s ++ i) ++ n) ≡ 24 = omega (arith, length-append (s ++ i) n) in
    let whole : length (((s ++ i) ++ n) ++ l) ≡ row_front layout = omega (arith, length-append ((s ++ i) ++ n) l) in
    let behind : ((s ++ i) ++ n) ++ l ≡ s ++ (i ++ (n ++ l)) = append_assoc (s ++ i) n l ∙ append_assoc s i (n ++ l) in
    said_by_fields layout servers last (row_head layout row) row.0 row.1.0.1 (length row.1.1) i whole
    (ap (λ b. u32_at b 0) behind ∙ number_behind [] (i ++ (n ++ l)) row.0 0 refl (omega (arith, range.server)))
    (ap (λ b. take 16 (drop 4 b)) behind ∙ ap (take 16) (drop_at s (i ++ (n ++ l)) 4 s4) ∙ take_at i (n ++ l) 16 range.index)
    (ap (λ b. u32_at b 20) (append_assoc (s ++ i) n l) ∙ number_behind (s ++ i) l row.1.0.1 20 si (omega (arith, range.number)))
    (count_last layout ((s ++ i) ++ n) (length row.1.1) 24 sin range.short)
    range.server after range.number range.some

length-row_head : (layout : Layout) (row : Row) → length row.1.0.0 ≡ 16 → length (row_head layout row) ≡ row_front layout
length-row_head layout row index =
    omega (
      arith,
      length-append ((be32 row.0 ++ row.1.0.0) ++ be32 row.1.0.1) (count_bytes layout (length row.1.1)),
      length-append (be32 row.0 ++ row.1.0.0) (be32 row.1.0.1),
      length-append (be32 row.0) row.1.0.0,
      length-be32 row.0,
      length-be32 row.1.0.1,
      length-count layout (length row.1.1),
    )

left : (a b : Bool) → a && b ≡ true → a ≡ true
left true b h = refl
left false b h = h

right : (a b : Bool) → a && b ≡ true → b ≡ true
right true b h = h
right false b h = cc

rows_back : (layout : Layout) (servers : ℕ) (last : Option RowKey) (place : ℕ) (rows : List Row) → servers < 2 ^ 32 → All (IsInRange layout servers) rows → in_order last rows ≡ true
    → rows_said layout (length rows) servers last place (flat_map (row_bytes layout) rows) ≡ record { rows = rows; fault = None }
rows_back layout servers last place [] fits range ordered = refl
rows_back layout servers last place (row ∷ rows) fits range ordered =
    let own = row.1.1 in
    let rest = flat_map (row_bytes layout) rows in
    let here : IsInRange layout servers row = range zero row (omega arith) in
    let head : RowHead = record { server = row.0; index = row.1.0.0; number = row.1.0.1; length = length own } in
    let next : RowHead → List ℕ → RowsRead = λ h body. rows_said layout (length rows) servers (Some (head_key h)) (place + row_front layout + h.length) (drop h.length body) in
    let long = length-row_head layout row here.index in
    let after = left (comes_after last (row_key row)) _ ordered in
    let all : row_bytes layout row ++ rest ≡ row_head layout row ++ (own ++ rest) = append_assoc (row_head layout row) own rest in
    let enough : nat_lt (length (own ++ rest)) (length own) ≡ false = le-ltb (length (own ++ rest)) (length own) (omega (arith, length-append own rest)) in
    ap (λ b. with_row layout (head_said layout servers last (take (row_front layout) b)) place (drop (row_front layout) b) (λ h. next h (drop (row_front layout) b))) all
    ∙ ap (λ f. with_row layout (head_said layout servers last f) place (drop (row_front layout) (row_head layout row ++ (own ++ rest))) (λ h. next h (drop (row_front layout) (row_head layout row ++ (own ++ rest))))) (take_at (row_head layout row) (own ++ rest) (row_front layout) long)
    ∙ ap (λ b. with_row layout (head_said layout servers last (row_head layout row)) place b (λ h. next h b)) (drop_at (row_head layout row) (own ++ rest) (row_front layout) long)
    ∙ ap (λ r. with_row layout r place (own ++ rest) (λ h. next h (own ++ rest))) (head_back layout servers last row fits here after)
    ∙ ap (λ b. if b then stopped (place + row_front layout) else preceded (said_row head (take (length own) (own ++ rest)) ∷ []) (next head (own ++ rest))) enough
    ∙ ap (λ b. preceded (said_row head b ∷ []) (next head (own ++ rest))) (take_at own rest (length own) refl)
    ∙ ap (λ b. preceded (row ∷ []) (rows_said layout (length rows) servers (Some (row_key row)) (place + row_front layout + length own) b)) (drop_at own rest (length own) refl)
    ∙ ap (preceded (row ∷ [])) (rows_back layout servers (Some (row_key row)) (place + row_front layout + length own) rows fits (All-tail (IsInRange layout servers) row rows range) (right (comes_after last (row_key row)) _ ordered))

-- the bytes between the name and the shares
behind_name : Layout → ℕ → ℕ → List ℕ
behind_name layout servers count = be32 servers ++ count_bytes layout count

length-behind : (layout : Layout) (servers count : ℕ) → length (behind_name layout servers count) ≡ 4 + wide layout
unfolding behind_name
length-behind layout servers count = omega (arith, length-append (be32 servers) (count_bytes layout count), length-be32 servers, length-count layout count)

count_back : (layout : Layout) (servers count : ℕ) → servers < 2 ^ 32 → count < count_limit layout → shares_said layout servers (behind_name layout servers count) ≡ Ok count
unfolding behind_name
count_back layout servers count fits few =
    let bytes = be32 servers ++ count_bytes layout count in
    let long : length bytes ≡ 4 + wide layout = length-behind layout servers count in
    let e0 : u32_at bytes 0 ≡ servers = number_behind [] (count_bytes layout count) servers 0 refl fits in
    let e4 : count_at layout bytes 4 ≡ count = count_last layout (be32 servers) count 4 (length-be32 servers) few in
    by_tests (nat_lt (length bytes) 4) (u32_at bytes 0 == servers) (nat_lt (length bytes) (4 + wide layout)) (count_at layout bytes 4)
    (le-ltb (length bytes) 4 (omega arith)) (eq-eqb (u32_at bytes 0) servers e0) (le-ltb (length bytes) (4 + wide layout) (omega arith))
    ∙ ap Ok e4
  where
    by_tests : (b0 b1 b2 : Bool) (v : ℕ) → b0 ≡ false → b1 ≡ true → b2 ≡ false → front_tested b0 b1 b2 v ≡ Ok v
    by_tests b0 b1 b2 v p0 p1 p2 = rw (p0, p1, p2) refl

pub read_back : (layout : Layout) (servers : ℕ) (rows : List Row) → CanBeWritten layout servers rows → image_said servers (image_in layout servers rows) ≡ record { rows = rows; fault = None }
unfolding behind_name
read_back layout servers rows can =
    let count = length rows in
    let behind = behind_name layout servers count in
    let rest = flat_map (row_bytes layout) rows in
    let long : length behind ≡ 4 + wide layout = length-behind layout servers count in
    let all : image_in layout servers rows ≡ name layout ++ (behind ++ rest) =
    ap (λ l. l ++ rest) (append_assoc (name layout) (be32 servers) (count_bytes layout count)) ∙ append_assoc (name layout) behind rest in
    ap (image_said servers) all
    ∙ ap (λ f. said_as (layout_said f) servers (drop 8 (name layout ++ (behind ++ rest)))) (take_at (name layout) (behind ++ rest) 8 (length-name layout))
    ∙ ap (λ b. said_as (layout_said (name layout)) servers b) (drop_at (name layout) (behind ++ rest) 8 (length-name layout))
    ∙ ap (λ o. said_as o servers (behind ++ rest)) (named_back layout)
    ∙ ap (λ f. from_said layout (shares_said layout servers f) servers (drop (4 + wide layout) (behind ++ rest))) (take_at behind rest (4 + wide layout) long)
    ∙ ap (λ b. from_said layout (shares_said layout servers behind) servers b) (drop_at behind rest (4 + wide layout) long)
    ∙ ap (λ r. from_said layout r servers rest) (count_back layout servers count can.servers_fit can.few)
    ∙ rows_back layout servers None (front layout) rows can.servers_fit can.in_range can.ordered
