-- A row that was read, by what the image says.
use Rattle.std.proofs.Common.{◌≡◌, ◌<◌, ◌≤◌, ◌+◌, ℕ, suc, List, [], ◌∷◌, length, take, drop, Option, Some, None, IfSome, Ok, Err, true, false, nat_lt, if◌then◌else◌, sym, ap, subst, ◌∙◌, arith}
use Rattle.std.proofs.lemmas.Bool.{lt-ltb, le-ltb}
use Rattle.grid.specs.RowOrder.{RowKey}
use Rattle.grid.specs.Layout.{row_front}
use Rattle.grid.specs.ImageHeads.{head_key, head_said}
use Rattle.grid.specs.ImageReading.{RowsRead, rows_said, with_row, stopped, preceded, said_row}
use Rattle.grid.specs.ImageSteps.{SaysRow}
use Rattle.grid.specs.declared.image_fields.RowHead.{RowHead}
use Rattle.grid.specs.declared.image_layout.Layout.{Layout}

module _ (layout : Layout) (servers : ℕ) (last : Option RowKey) (place : ℕ) where
  abbrev next_said : ℕ → List ℕ → RowHead → RowsRead
  next_said n left head = rows_said layout n servers (Some (head_key head)) (place + row_front layout + head.length) (drop head.length (drop (row_front layout) left))

  pub says_row : (r0 r1 r2 : Option (List ℕ)) (front own : List ℕ) (head : RowHead) → IfSome r0 (λ left. (front ≡ take (row_front layout) left) × (r1 ≡ Some (drop (row_front layout) left))) → head_said layout servers last front ≡ Ok head
      → IfSome r1 (λ left. (head.length ≤ length left) × (own ≡ take head.length left) × (r2 ≡ Some (drop head.length left))) → IfSome r0 (λ left. SaysRow layout servers last place left r2 head own)
  says_row None r1 r2 front own head came said told = tt
  says_row (Some left) None r2 front own head came said told = let no = came.1 in cc
  says_row (Some left) (Some body) r2 front own head came said told =
      let told_body : Some body ≡ Some (drop (row_front layout) left) = came.1 in
      let is_body : body ≡ drop (row_front layout) left = cc in
      let whole : nat_lt (length (drop (row_front layout) left)) head.length ≡ false = le-ltb (length (drop (row_front layout) left)) head.length (omega (arith, told.0, ap length is_body)) in
      record {
        rest = drop head.length (drop (row_front layout) left);
        told = told.2 ∙ ap (λ l. Some (drop head.length l)) is_body;
        says = λ n.
            ap (λ f. with_row layout (head_said layout servers last f) place (drop (row_front layout) left) (next_said n left)) (sym came.0)
            ∙ ap (λ r. with_row layout r place (drop (row_front layout) left) (next_said n left)) said
            ∙ ap (λ b. if b then stopped (place + row_front layout) else preceded (said_row head (take head.length (drop (row_front layout) left)) ∷ []) (next_said n left head)) whole
            ∙ ap (λ l. preceded (said_row head l ∷ []) (next_said n left head)) (sym (told.1 ∙ ap (take head.length) is_body));
      }

  pub bad_head : (r0 r1 : Option (List ℕ)) (front : List ℕ) (offset : ℕ) → IfSome r0 (λ left. (front ≡ take (row_front layout) left) × (r1 ≡ Some (drop (row_front layout) left))) → head_said layout servers last front ≡ Err offset
      → IfSome r0 (λ left. (n : ℕ) → rows_said layout (suc n) servers last place left ≡ stopped (place + offset))
  bad_head None r1 front offset came said = tt
  bad_head (Some left) r1 front offset came said = λ n.
      ap (λ f. with_row layout (head_said layout servers last f) place (drop (row_front layout) left) (next_said n left)) (sym came.0)
      ∙ ap (λ r. with_row layout r place (drop (row_front layout) left) (next_said n left)) said

  pub cut_off : (r0 r1 : Option (List ℕ)) (front : List ℕ) (head : RowHead) → IfSome r0 (λ left. (front ≡ take (row_front layout) left) × (r1 ≡ Some (drop (row_front layout) left))) → head_said layout servers last front ≡ Ok head
      → IfSome r1 (λ left. length left < head.length) → IfSome r0 (λ left. (n : ℕ) → rows_said layout (suc n) servers last place left ≡ stopped (place + row_front layout))
  cut_off None r1 front head came said short = tt
  cut_off (Some left) None front head came said short = let no = came.1 in cc
  cut_off (Some left) (Some body) front head came said short =
      let told_body : Some body ≡ Some (drop (row_front layout) left) = came.1 in
      let is_body : body ≡ drop (row_front layout) left = cc in
      let cut : nat_lt (length (drop (row_front layout) left)) head.length ≡ true = lt-ltb (length (drop (row_front layout) left)) head.length (omega (arith, short, ap length is_body)) in
      λ n.
      ap (λ f. with_row layout (head_said layout servers last f) place (drop (row_front layout) left) (next_said n left)) (sym came.0)
      ∙ ap (λ r. with_row layout r place (drop (row_front layout) left) (next_said n left)) said
      ∙ ap (λ b. if b then stopped (place + row_front layout) else preceded (said_row head (take head.length (drop (row_front layout) left)) ∷ []) (next_said n left head)) cut

-- what came is the front of what the reader had
pub front_of : (r0 r1 : Option (List ℕ)) (size came : ℕ) (buffer : List ℕ) → length buffer ≡ size → IfSome r0 (λ left. (take came buffer ≡ take (length buffer) left) × (r1 ≡ Some (drop (length buffer) left)))
    → IfSome r0 (λ left. (take came buffer ≡ take size left) × (r1 ≡ Some (drop size left)))
front_of r0 r1 size came buffer same told = subst (λ n. IfSome r0 (λ left. (take came buffer ≡ take n left) × (r1 ≡ Some (drop n left)))) same told
