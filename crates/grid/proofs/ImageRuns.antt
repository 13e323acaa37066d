-- A reading of an image, row by row.
use Rattle.std.proofs.Common.{◌≡◌, ◌<◌, ◌+◌, ℕ, suc, List, [], ◌∷◌, ◌++◌, length, take, drop, Option, Some, None, IfSome, slice_get, Result, Ok, Err, IsErrAnd, true, refl, sym, ap, subst, ◌∙◌, arith, append_assoc, append-nil}
use Rattle.std.specs.Ordering.{is_lt}
use Rattle.std.specs.declared.cmp.Ordering.{Ordering}
use Rattle.std.specs.declared.cmp.Ordering.TheVariants.{Less, Equal, Greater}
use Rattle.std.specs.Cmp.{IsTotalOrder, nat_cmp_total, then_total, on_total}
use Rattle.grid.specs.Rows.{Row}
use Rattle.grid.specs.RowOrder.{RowKey, row_cmp, row_key, comes_after, AllBefore}
use Rattle.grid.specs.Layout.{layout_said, wide, front as front_size, row_front}
use Rattle.grid.specs.ImageHeads.{head_key, shares_said}
use Rattle.grid.specs.ImageReading.{RowsRead, rows_said, said_in, said_as, image_said, from_said, stopped, preceded, said_row}
use Rattle.grid.specs.ImageSteps.{SaysRow, Reads}
use Rattle.std.specs.Io.KnownBytes.{IsAtEnd}
use Rattle.grid.specs.Refusals.{IsPartRefusal, IsPutRefusal, IsReaderRefusal}
use Rattle.grid.specs.declared.image_fields.RowHead.{RowHead}
use Rattle.grid.specs.declared.image_layout.Layout.{Layout}
use Rattle.grid.specs.declared.fault.GridFault.{GridFault}
use Rattle.grid.specs.declared.fault.GridFault.TheVariants.{Full, BadImage}
use Rattle.share_store.specs.MapLaws.{key_cmp_total}
use Rattle.grid.proofs.RowPuts.{before_both}

pub row_cmp_total : IsTotalOrder row_cmp
row_cmp_total = then_total (on_total (λ k. k.0) nat_cmp_total) (on_total (λ k. k.1) key_cmp_total)

is_less : (r : Ordering) → is_lt r ≡ true → r ≡ Less
is_less Less h = refl
is_less Equal h = cc
is_less Greater h = cc

before_later : (rows : List Row) (k l : RowKey) → row_cmp k l ≡ Less → AllBefore rows k → AllBefore rows l
before_later [] k l less h = tt
before_later (row ∷ rows) k l less h = (row_cmp_total.trans (row_key row) k l h.0 less, before_later rows k l less h.1)

-- So far these rows were read, and so many are left to be read.
pub record SoFar (all : RowsRead) (layout : Layout) (left servers : ℕ) (last : Option RowKey) (place : ℕ) (now : Option (List ℕ)) (good : Type 0) (held : List Row) : Type 0 where
  pub first : List Row
  pub bytes : List ℕ
  pub told : now ≡ Some bytes
  pub says : all ≡ preceded first (rows_said layout left servers last place bytes)
  pub stand : good → held ≡ first
  pub before : (key : RowKey) → comes_after last key ≡ true → AllBefore first key

-- before the first row
pub starts : (r : Option (List ℕ)) (layout : Layout) (n count servers place : ℕ) (good : Type 0) (held : List Row) → n ≡ count → place ≡ front_size layout → (good → held ≡ []) →
    IfSome r (λ bytes. SoFar (rows_said layout count servers None (front_size layout) bytes) layout n servers None place r good held)
starts None layout n count servers place good held same here none = tt
starts (Some bytes) layout n count servers place good held same here none = record {
  first = [];
  bytes = bytes;
  told = refl;
  says = ap (λ k. rows_said layout k servers None (front_size layout) bytes) (sym same) ∙ ap (λ p. rows_said layout n servers None p bytes) (sym here);
  stand = none;
  before = λ key after. tt;
}

module _ (all : List ℕ → RowsRead) (layout : Layout) (servers : ℕ) (good : Type 0) where
  says_more : (r1 r2 : Option (List ℕ)) (whole : RowsRead) (n m place next : ℕ) (last : Option RowKey) (held new : List Row) (head : RowHead) (own : List ℕ) → n ≡ suc m → next ≡ place + row_front layout + head.length
      → comes_after last (head_key head) ≡ true → (good → AllBefore held (head_key head) → new ≡ held ++ said_row head own ∷ []) → SoFar whole layout n servers last place r1 good held
      → (bytes : List ℕ) → r1 ≡ Some bytes → SaysRow layout servers last place bytes r2 head own → SoFar whole layout m servers (Some (head_key head)) next r2 good new
  says_more r1 r2 whole n m place next last held new head own same stands after put s bytes at row =
      let told : Some s.bytes ≡ Some bytes = sym s.told ∙ at in
      let is : s.bytes ≡ bytes = cc in
      let before : AllBefore s.first (head_key head) = s.before (head_key head) after in
      record {
        first = s.first ++ said_row head own ∷ [];
        bytes = row.rest;
        told = row.told;
        says = s.says
            ∙ ap (λ b. preceded s.first (rows_said layout n servers last place b)) is
            ∙ ap (λ k. preceded s.first (rows_said layout k servers last place bytes)) same
            ∙ ap (preceded s.first) (row.says m)
            ∙ ap (λ l. record { rows = l; fault = (rows_said layout m servers (Some (head_key head)) (place + row_front layout + head.length) row.rest).fault })
            (sym (append_assoc s.first (said_row head own ∷ []) (rows_said layout m servers (Some (head_key head)) (place + row_front layout + head.length) row.rest).rows))
            ∙ ap (λ p. preceded (s.first ++ said_row head own ∷ []) (rows_said layout m servers (Some (head_key head)) p row.rest)) (sym stands);
        stand = λ g. put g (subst (λ l. AllBefore l (head_key head)) (sym (s.stand g)) before) ∙ ap (λ l. l ++ said_row head own ∷ []) (s.stand g);
        before = λ key later.
            let less = is_less _ later in
            before_both s.first (said_row head own ∷ []) key (before_later s.first (head_key head) key less before) (less, tt);
      }

  -- one more row was read and put
  pub goes_on : (r0 r1 r2 : Option (List ℕ)) (n m place next : ℕ) (last : Option RowKey) (held new : List Row) (head : RowHead) (own : List ℕ) → n ≡ suc m → next ≡ place + row_front layout + head.length
      → comes_after last (head_key head) ≡ true → (good → AllBefore held (head_key head) → new ≡ held ++ said_row head own ∷ [])
      → IfSome r0 (λ bytes. SoFar (all bytes) layout n servers last place r1 good held) → IfSome r1 (λ bytes. SaysRow layout servers last place bytes r2 head own)
      → IfSome r0 (λ bytes. SoFar (all bytes) layout m servers (Some (head_key head)) next r2 good new)
  goes_on None r1 r2 n m place next last held new head own same stands after put s row = tt
  goes_on (Some bytes) None r2 n m place next last held new head own same stands after put s row = let no = s.told in cc
  goes_on (Some bytes) (Some now) r2 n m place next last held new head own same stands after put s row =
      says_more (Some now) r2 (all bytes) n m place next last held new head own same stands after put s now refl row

  -- a row could not be read
  pub stops_reading : (r0 r1 r2 : Option (List ℕ)) (n m place : ℕ) (last : Option RowKey) (held : List Row) (room : ℕ → ℕ) (error : GridFault) → n ≡ suc m → IsPartRefusal error
      → ((p : ℕ) → error ≡ BadImage p → IfSome r1 (λ bytes. (k : ℕ) → rows_said layout (suc k) servers last place bytes ≡ stopped p))
      → IfSome r0 (λ bytes. SoFar (all bytes) layout n servers last place r1 good held) → IfSome r0 (λ bytes. Reads (all bytes) (Err error) room good held r2)
  stops_reading None r1 r2 n m place last held room error same part bad s = tt
  stops_reading (Some bytes) None r2 n m place last held room error same part bad s = let no = s.told in cc
  stops_reading (Some bytes) (Some now) r2 n m place last held room error same part bad s =
      let told : Some s.bytes ≡ Some now = sym s.told in
      let is : s.bytes ≡ now = cc in
      record {
        no_fault = tt;
        end = tt;
        rows = λ g. tt;
        bad_image = λ p named.
            let cause : error ≡ BadImage p = cc in
            let stops : all bytes ≡ preceded s.first (stopped p) =
            s.says
            ∙ ap (λ b. preceded s.first (rows_said layout n servers last place b)) is
            ∙ ap (λ k. preceded s.first (rows_said layout k servers last place now)) same
            ∙ ap (preceded s.first) (bad p cause m) in
            (ap (λ (r : RowsRead). r.fault) stops, λ g. s.stand g ∙ sym (append-nil s.first) ∙ ap (λ (r : RowsRead). r.rows) (sym stops));
        full = λ server named. let cause : error ≡ Full server = cc in absurd (subst IsPartRefusal cause part);
        err = λ g. record {
          others = (rows_said layout n servers last place s.bytes).rows;
          joined = ap (λ (r : RowsRead). r.rows) s.says ∙ ap (λ l. l ++ (rows_said layout n servers last place s.bytes).rows) (sym (s.stand g));
        };
      }

  take-append : (xs ys : List Row) → take (length xs) (xs ++ ys) ≡ xs
  take-append [] ys = refl
  take-append (x ∷ xs) ys = ap (λ l. x ∷ l) (take-append xs ys)

  at_behind : (xs ys : List Row) (x : Row) → slice_get (xs ++ x ∷ ys) (length xs) ≡ Some x
  at_behind [] ys x = refl
  at_behind (z ∷ xs) ys x = at_behind xs ys x

  -- a row could not be put
  pub stops_putting : (r0 r1 r2 : Option (List ℕ)) (n m place : ℕ) (last : Option RowKey) (held new : List Row) (head : RowHead) (own : List ℕ) (room : ℕ → ℕ) (error : GridFault) → n ≡ suc m
      → IsPutRefusal error → ((server : ℕ) → error ≡ Full server → (server ≡ head.server) × (room server < length own)) → (good → new ≡ held)
      → IfSome r0 (λ bytes. SoFar (all bytes) layout n servers last place r1 good held) → IfSome r1 (λ bytes. SaysRow layout servers last place bytes r2 head own)
      → IfSome r0 (λ bytes. Reads (all bytes) (Err error) room good new r2)
  stops_putting None r1 r2 n m place last held new head own room error same part full kept s row = tt
  stops_putting (Some bytes) None r2 n m place last held new head own room error same part full kept s row = let no = s.told in cc
  stops_putting (Some bytes) (Some now) r2 n m place last held new head own room error same part full kept s row =
      let told : Some s.bytes ≡ Some now = sym s.told in
      let is : s.bytes ≡ now = cc in
      let rest = (rows_said layout m servers (Some (head_key head)) (place + row_front layout + head.length) row.rest).rows in
      let joined : (all bytes).rows ≡ s.first ++ said_row head own ∷ rest =
      ap (λ (r : RowsRead). r.rows) s.says
      ∙ ap (λ b. s.first ++ (rows_said layout n servers last place b).rows) is
      ∙ ap (λ k. s.first ++ (rows_said layout k servers last place now).rows) same
      ∙ ap (λ (r : RowsRead). s.first ++ r.rows) (row.says m) in
      record {
        no_fault = tt;
        end = tt;
        rows = λ g. tt;
        bad_image = λ p named. let cause : error ≡ BadImage p = cc in absurd (subst IsPutRefusal cause part);
        full = λ server named.
            let cause : error ≡ Full server = cc in
            record {
              place = length s.first;
              row = said_row head own;
              at = ap (λ l. slice_get l (length s.first)) joined ∙ at_behind s.first rest (said_row head own);
              here = sym (full server cause).0;
              longer = (full server cause).1;
              before = λ g. kept g ∙ s.stand g ∙ sym (ap (take (length s.first)) joined ∙ take-append s.first (said_row head own ∷ rest));
            };
        err = λ g. record {
          others = said_row head own ∷ rest;
          joined = joined ∙ ap (λ l. l ++ said_row head own ∷ rest) (sym (kept g ∙ s.stand g));
        };
      }

  -- the image doesn't end behind its last row
  pub stops_at_end : (r0 r1 r2 : Option (List ℕ)) (n place : ℕ) (last : Option RowKey) (held : List Row) (room : ℕ → ℕ) (error : GridFault) → n ≡ 0 → IsPartRefusal error
      → ((p : ℕ) → error ≡ BadImage p → (p ≡ place) × IfSome r1 (λ bytes. 0 < length bytes))
      → IfSome r0 (λ bytes. SoFar (all bytes) layout n servers last place r1 good held) → IfSome r0 (λ bytes. Reads (all bytes) (Err error) room good held r2)
  stops_at_end None r1 r2 n place last held room error none part bad s = tt
  stops_at_end (Some bytes) None r2 n place last held room error none part bad s = let no = s.told in cc
  stops_at_end (Some bytes) (Some now) r2 n place last held room error none part bad s =
      let told : Some s.bytes ≡ Some now = sym s.told in
      let is : s.bytes ≡ now = cc in
      record {
        no_fault = tt;
        end = tt;
        rows = λ g. tt;
        bad_image = λ p named.
            let cause : error ≡ BadImage p = cc in
            let more = bad p cause in
            let stops : all bytes ≡ preceded s.first (stopped place) =
            s.says
            ∙ ap (λ b. preceded s.first (rows_said layout n servers last place b)) is
            ∙ ap (λ k. preceded s.first (rows_said layout k servers last place now)) none
            ∙ ap (preceded s.first) (too_many now more.1) in
            (ap (λ (r : RowsRead). r.fault) stops ∙ ap Some (sym more.0), λ g. s.stand g ∙ sym (append-nil s.first) ∙ ap (λ (r : RowsRead). r.rows) (sym stops));
        full = λ server named. let cause : error ≡ Full server = cc in absurd (subst IsPartRefusal cause part);
        err = λ g. record {
          others = (rows_said layout n servers last place s.bytes).rows;
          joined = ap (λ (r : RowsRead). r.rows) s.says ∙ ap (λ l. l ++ (rows_said layout n servers last place s.bytes).rows) (sym (s.stand g));
        };
      }
    where
      too_many : (l : List ℕ) → 0 < length l → rows_said layout 0 servers last place l ≡ stopped place
      too_many [] lt = absurd (omega arith)
      too_many (b ∷ l) lt = refl

  -- the whole image was read
  pub ends : (r0 r1 r2 : Option (List ℕ)) (n place : ℕ) (last : Option RowKey) (held : List Row) (room : ℕ → ℕ) → n ≡ 0 → IfSome r1 (λ bytes. (bytes ≡ []) × (r2 ≡ Some []))
      → IfSome r0 (λ bytes. SoFar (all bytes) layout n servers last place r1 good held) → IfSome r0 (λ bytes. Reads (all bytes) (Ok tt) room good held r2)
  ends None r1 r2 n place last held room none end s = tt
  ends (Some bytes) None r2 n place last held room none end s = let no = s.told in cc
  ends (Some bytes) (Some now) r2 n place last held room none end s =
      let told : Some s.bytes ≡ Some now = sym s.told in
      let is : s.bytes ≡ [] = (let same : s.bytes ≡ now = cc in same ∙ end.0) in
      let whole : all bytes ≡ record { rows = s.first ++ []; fault = None } =
      s.says
      ∙ ap (λ b. preceded s.first (rows_said layout n servers last place b)) is
      ∙ ap (λ k. preceded s.first (rows_said layout k servers last place [])) none in
      record {
        no_fault = ap (λ (r : RowsRead). r.fault) whole;
        end = subst IsAtEnd (sym end.1) refl;
        rows = λ g. s.stand g ∙ sym (append-nil s.first) ∙ ap (λ (r : RowsRead). r.rows) (sym whole);
        bad_image = λ p named. cc;
        full = λ server named. cc;
        err = λ g. tt;
      }

-- an error that `?` passed on
pub reads_passed : (r0 r2 : Option (List ℕ)) (all : List ℕ → RowsRead) (room : ℕ → ℕ) (good : Type 0) (held : List Row) (result : Result (Unit {0}) GridFault) (error : GridFault) → IsErrAnd result (λ e. e ≡ error)
    → IfSome r0 (λ bytes. Reads (all bytes) (Err error) room good held r2) → IfSome r0 (λ bytes. Reads (all bytes) result room good held r2)
reads_passed r0 r2 all room good held (Ok x) error same reads = absurd same
reads_passed r0 r2 all room good held (Err e) error same reads = subst (λ f. IfSome r0 (λ bytes. Reads (all bytes) (Err f) room good held r2)) (sym same) reads

-- ---- the bytes before the rows

-- the first bytes named a layout
pub named : (r0 r1 : Option (List ℕ)) (servers : ℕ) (front : List ℕ) (P : RowsRead → Type 0) (layout : Layout) → IfSome r0 (λ bytes. (front ≡ take 8 bytes) × (r1 ≡ Some (drop 8 bytes))) → layout_said front ≡ Some layout
    → IfSome r1 (λ bytes. P (said_in layout servers bytes)) → IfSome r0 (λ bytes. P (image_said servers bytes))
named None r1 servers front P layout came said rest = tt
named (Some bytes) None servers front P layout came said rest = let no = came.1 in cc
named (Some bytes) (Some now) servers front P layout came said rest =
    let told : Some now ≡ Some (drop 8 bytes) = came.1 in
    let is : now ≡ drop 8 bytes = cc in
    subst P
    (ap (said_in layout servers) is
    ∙ ap (λ o. said_as o servers (drop 8 bytes)) (sym said)
    ∙ ap (λ f. said_as (layout_said f) servers (drop 8 bytes)) came.0)
    rest

-- the first bytes name none
pub not_named : (r0 r1 : Option (List ℕ)) (servers : ℕ) (front : List ℕ) → IfSome r0 (λ bytes. (front ≡ take 8 bytes) × (r1 ≡ Some (drop 8 bytes))) → layout_said front ≡ None → IfSome r0 (λ bytes. image_said servers bytes ≡ stopped 0)
not_named None r1 servers front came said = tt
not_named (Some bytes) r1 servers front came said = ap (λ f. said_as (layout_said f) servers (drop 8 bytes)) (sym came.0) ∙ ap (λ o. said_as o servers (drop 8 bytes)) said

-- the bytes behind the name said how many rows there are
pub counted : (r0 r1 : Option (List ℕ)) (layout : Layout) (servers : ℕ) (front : List ℕ) (P : RowsRead → Type 0) (count : ℕ) → IfSome r0 (λ bytes. (front ≡ take (4 + wide layout) bytes) × (r1 ≡ Some (drop (4 + wide layout) bytes)))
    → shares_said layout servers front ≡ Ok count → IfSome r1 (λ bytes. P (rows_said layout count servers None (front_size layout) bytes)) → IfSome r0 (λ bytes. P (said_in layout servers bytes))
counted None r1 layout servers front P count came said rest = tt
counted (Some bytes) None layout servers front P count came said rest = let no = came.1 in cc
counted (Some bytes) (Some now) layout servers front P count came said rest =
    let behind = drop (4 + wide layout) bytes in
    let told : Some now ≡ Some behind = came.1 in
    let is : now ≡ behind = cc in
    subst P
    (ap (rows_said layout count servers None (front_size layout)) is
    ∙ ap (λ r. from_said layout r servers behind) (sym said)
    ∙ ap (λ f. from_said layout (shares_said layout servers f) servers behind) came.0)
    rest

-- the bytes behind the name have a fault
pub not_counted : (r0 r1 : Option (List ℕ)) (layout : Layout) (servers : ℕ) (front : List ℕ) (place : ℕ) → IfSome r0 (λ bytes. (front ≡ take (4 + wide layout) bytes) × (r1 ≡ Some (drop (4 + wide layout) bytes)))
    → shares_said layout servers front ≡ Err place → IfSome r0 (λ bytes. said_in layout servers bytes ≡ stopped place)
not_counted None r1 layout servers front place came said = tt
not_counted (Some bytes) r1 layout servers front place came said =
    ap (λ f. from_said layout (shares_said layout servers f) servers (drop (4 + wide layout) bytes)) (sym came.0) ∙ ap (λ r. from_said layout r servers (drop (4 + wide layout) bytes)) said

-- the fault stands before the rows
pub bad_front : (r0 r2 : Option (List ℕ)) (all : List ℕ → RowsRead) (place : ℕ) (room : ℕ → ℕ) (good : Type 0) (held : List Row) → (good → held ≡ []) → IfSome r0 (λ bytes. all bytes ≡ stopped place)
    → IfSome r0 (λ bytes. Reads (all bytes) (Err (BadImage place)) room good held r2)
bad_front None r2 all place room good held none is = tt
bad_front (Some bytes) r2 all place room good held none is =
    record {
      no_fault = tt;
      end = tt;
      rows = λ g. tt;
      bad_image = λ p named. (ap (λ (r : RowsRead). r.fault) is ∙ (let same : place ≡ p = cc in ap Some same), λ g. none g ∙ ap (λ (r : RowsRead). r.rows) (sym is));
      full = λ server named. cc;
      err = λ g. record { others = []; joined = ap (λ (r : RowsRead). r.rows) is ∙ sym (append-nil []) ∙ ap (λ l. l ++ []) (sym (none g)) };
    }

-- the first bytes could not be read
pub no_front : (r0 r2 : Option (List ℕ)) (all : List ℕ → RowsRead) (error : GridFault) (room : ℕ → ℕ) (good : Type 0) (held : List Row) → (good → held ≡ []) → IsReaderRefusal error
    → IfSome r0 (λ bytes. Reads (all bytes) (Err error) room good held r2)
no_front None r2 all error room good held none part = tt
no_front (Some bytes) r2 all error room good held none part = record {
  no_fault = tt;
  end = tt;
  rows = λ g. tt;
  bad_image = λ p named. let cause : error ≡ BadImage p = cc in absurd (subst IsReaderRefusal cause part);
  full = λ server named. let cause : error ≡ Full server = cc in absurd (subst IsReaderRefusal cause part);
  err = λ g. record { others = (all bytes).rows; joined = ap (λ l. l ++ (all bytes).rows) (sym (none g)) };
}

-- what follows from what is known of the reader's bytes
pub told_too : (o : Option (List ℕ)) (P Q : List ℕ → Type 0) → IfSome o P → ((bytes : List ℕ) → P bytes → Q bytes) → IfSome o Q
told_too None P Q h f = tt
told_too (Some bytes) P Q h f = f bytes h

-- the same under a stronger premise
pub reads_under : {said : RowsRead} {result : Result (Unit {0}) GridFault} {room : ℕ → ℕ} (good better : Type 0) {held : List Row} {after : Option (List ℕ)} → (better → good) → Reads said result room good held after → Reads said result room better held after
reads_under good better f reads = record {
  no_fault = reads.no_fault;
  end = reads.end;
  rows = λ b. reads.rows (f b);
  bad_image = λ place is. ((reads.bad_image place is).0, λ b. (reads.bad_image place is).1 (f b));
  full = λ server is.
      let row = reads.full server is in
      record { place = row.place; row = row.row; at = row.at; here = row.here; longer = row.longer; before = λ b. row.before (f b) };
  err = λ b. reads.err (f b);
}
