-- A crash cuts off the uploads of a call, one after the other.
use Rattle.std.proofs.Common.{◌≡◌, ◌⊎◌, inl, inr, ℕ, ◌==◌, ◌&&◌, nat_lt, List, [], ◌∷◌, ◌++◌, length, take, Option, Some, None, slice_get, if◌then◌else◌, unwrap_or, refl, sym, ap, subst, ◌∙◌, append_assoc}
use Rattle.std.specs.List.{AllByRecursion, Contains}
use Rattle.std.specs.Ordering.{eq_by_cmp, nat_cmp}
use Rattle.std.specs.Cmp.Lexicographic.{slice_cmp}
use Rattle.std.specs.FinMap.{get}
use Rattle.std.proofs.lemmas.List.{append_cancel_left, append-nil, length-map}
use Rattle.std.proofs.lemmas.List.Elements.{All-from_recursion, All-contains, Contains-append_cases}
use Rattle.share_store.specs.Shares.{Shares, ShareKey}
use Rattle.grid.specs.Standing.{Standing, standing}
use Rattle.grid.specs.GridState.{StoreState, GridState, maps_of, stood, history_at}
use Rattle.grid.specs.Histories.{IsBetween, TellsOfChange}
use Rattle.grid.specs.Placement.{server_of, placed}
use Rattle.grid.proofs.Histories.{placed_part}
use Rattle.restarts.specs.LeftIn.{WasLeft, AreLeftIn}

-- ---- steps

-- the storage index and the shares of an item's upload, if it has one
abbrev pub Step : Type 0
Step = Option (List ℕ × List (List ℕ))

-- The first shares of an upload were put, and the stores tell of no more than the upload of all of them.
pub record IsBegun (index : List ℕ) (shares : List (List ℕ)) (old new : GridState) : Type 0 where
  pub m : ℕ
  pub stands : stood new ≡ placed (length old.stores) index (take m shares) (stood old)
  pub tells : TellsOfChange (placed (length old.stores) index shares (stood old)) old new
  pub servers : length new.stores ≡ length old.stores

-- the same shares stand, and no store tells of anything else
pub record IsStill (old new : GridState) : Type 0 where
  pub maps : maps_of new ≡ maps_of old
  pub histories : (s : ℕ) → history_at new s ≡ history_at old s

-- what an item leaves of the grid, as far as it was carried out
abbrev pub IsBegunBy : Step → GridState → GridState → Type 0
IsBegunBy None old new = IsStill old new
IsBegunBy (Some upload) old new = IsBegun upload.0 upload.1 old new

-- the same of a call's items, one after the other
abbrev pub AreBegunBy : List Step → GridState → GridState → Type 0
AreBegunBy [] old new = new ≡ old
AreBegunBy (x ∷ more) old new = (middle : GridState) × (IsBegunBy x old middle × AreBegunBy more middle new)

-- what stands after an item
abbrev pub after_step : ℕ → Step → Standing → Standing
after_step count None c = c
after_step count (Some upload) c = placed count upload.0 upload.1 c

-- At each place there stands what stood before an item, or what stands after it.
abbrev pub IsCut : ℕ → Step → Standing → Standing → Type 0
IsCut count x c e = (s : ℕ) (q : ShareKey) → (e s q ≡ c s q) ⊎ (e s q ≡ after_step count x c s q)

-- the same of items, one after the other
abbrev pub AreCut : ℕ → List Step → Standing → Standing → Type 0
AreCut count [] c d = d ≡ c
AreCut count (x ∷ xs) c d = (e : Standing) × (IsCut count x c e × AreCut count xs e d)

-- ---- lists

pub told : {X : Type 0} (P : X → Type 0) (xs : List X) (x : X) → AllByRecursion P xs → Contains xs x → P x
told P xs x all is = All-contains P xs x (All-from_recursion P xs all) is

none_in : (x : Shares) → Contains [] x → ⊥
none_in x is = told (λ _. ⊥) [] x tt is

-- ---- one place

-- what is put at a place depends on what stands there alone
placed_there : (count : ℕ) (index : List ℕ) (shares : List (List ℕ)) (c e : Standing) (s : ℕ) (q : ShareKey) → c s q ≡ e s q → placed count index shares c s q ≡ placed count index shares e s q
placed_there count index shares c e s q same =
    ap (λ o. if eq_by_cmp (slice_cmp nat_cmp) q.0 index && nat_lt q.1 (length shares) && s == server_of count index q.1 then Some (unwrap_or o (unwrap_or (slice_get shares q.1) [])) else o) same

-- ---- the stores' histories

-- what the later items leave has all that was told before
extended : (steps : List Step) (g new : GridState) (s : ℕ) (before : List Shares) → AreBegunBy steps g new → history_at g s ≡ Some before
    → (more : List Shares) × (history_at new s ≡ Some (before ++ more))
extended [] g new s before same at = ([], ap (λ (h : GridState). history_at h s) same ∙ at ∙ ap Some (sym (append-nil before)))
extended (None ∷ steps) g new s before (middle, (still, rest)) at = extended steps middle new s before rest (still.histories s ∙ at)
extended (Some upload ∷ steps) g new s before (middle, (begun, rest)) at =
    let here = begun.tells s before at in
    let later = extended steps middle new s (before ++ here.0) rest here.1.0 in
    (here.0 ++ later.0, later.1 ∙ ap Some (append_assoc before here.0 later.0))

-- ---- one server

-- It has stopped, at what the crash left, or goes on.
abbrev IsAt : GridState → GridState → Standing → Standing → ℕ → Type 0
IsAt g new e d s = ((key : ShareKey) → d s key ≡ e s key) ⊎ (((key : ShareKey) → e s key ≡ stood g s key) × WasLeft g new d s)

-- what the server has after an item
record Next (count : ℕ) (x : Step) (middle new : GridState) (e d : Standing) (s : ℕ) : Type 0 where
  row : ShareKey → Option (List ℕ)
  cut : (q : ShareKey) → (row q ≡ e s q) ⊎ (row q ≡ after_step count x e s q)
  is_at : ((key : ShareKey) → d s key ≡ row key) ⊎ (((key : ShareKey) → row key ≡ stood middle s key) × WasLeft middle new d s)

-- a server that goes on, at an upload of which the first shares were put
module _ (count : ℕ) (upload : List ℕ × List (List ℕ)) (g middle new : GridState) (e d : Standing) (s : ℕ) (servers : length g.stores ≡ count) (begun : IsBegunBy (Some upload) g middle)
    (same : (key : ShareKey) → e s key ≡ stood g s key) where
  -- by what stood in the grid
  by_grid : (q : ShareKey) (o : Option (List ℕ)) → (o ≡ stood g s q) ⊎ (o ≡ placed (length g.stores) upload.0 upload.1 (stood g) s q)
      → (o ≡ e s q) ⊎ (o ≡ placed count upload.0 upload.1 e s q)
  by_grid q o (inl stays) = inl (stays ∙ sym (same q))
  by_grid q o (inr put) = inr (put ∙ ap (λ n. placed n upload.0 upload.1 (stood g) s q) servers ∙ sym (placed_there count upload.0 upload.1 e (stood g) s q (same q)))

  begun_there : (q : ShareKey) → (stood middle s q ≡ stood g s q) ⊎ (stood middle s q ≡ placed (length g.stores) upload.0 upload.1 (stood g) s q)
  begun_there q = subst (λ (f : Standing). (f s q ≡ stood g s q) ⊎ (f s q ≡ placed (length g.stores) upload.0 upload.1 (stood g) s q)) (sym begun.stands) (placed_part (length g.stores) upload.0 upload.1 begun.m (stood g) s q)

  -- the crash came later
  goes_on : WasLeft middle new d s → Next count (Some upload) middle new e d s
  goes_on left = record { row = stood middle s; cut = λ q. by_grid q (stood middle s q) (begun_there q); is_at = inr (λ key. refl, left) }

  -- it came in this item, or later
  by_time : (before here later : List Shares) (c : Shares) → ((key : ShareKey) → d s key ≡ get c key) → history_at middle s ≡ Some (before ++ here) → history_at new s ≡ Some ((before ++ here) ++ later)
      → AllByRecursion (IsBetween (stood g) (placed (length g.stores) upload.0 upload.1 (stood g)) s) here
      → Contains here c ⊎ Contains later c → Next count (Some upload) middle new e d s
  by_time before here later c left middle_at new_at all (inl in_here) =
      let between = told (IsBetween (stood g) (placed (length g.stores) upload.0 upload.1 (stood g)) s) here c all in_here in
      record { row = get c; cut = λ q. by_grid q (get c q) (between q); is_at = inl left }
  by_time before here later c left middle_at new_at all (inr in_later) = goes_on (inr (inr (before ++ here, (later, (c, (middle_at, (new_at, (in_later, left))))))))

next : (count : ℕ) (x : Step) (steps : List Step) (g middle new : GridState) (e d : Standing) (s : ℕ) → length g.stores ≡ count → IsBegunBy x g middle → AreBegunBy steps middle new
    → IsAt g new e d s → Next count x middle new e d s
next count x steps g middle new e d s servers begun rest (inl stopped) =
    record { row = e s; cut = λ q. inl refl; is_at = inl stopped }
next count x steps g middle new e d s servers begun rest (inr (same, inl stays)) =
    record { row = e s; cut = λ q. inl refl; is_at = inl (λ key. stays key ∙ sym (same key)) }
next count None steps g middle new e d s servers still rest (inr (same, inr (inl ends))) =
    record { row = e s; cut = λ q. inl refl; is_at = inr (λ key. same key ∙ ap (λ maps. standing maps s key) (sym still.maps), inr (inl ends)) }
next count None steps g middle new e d s servers still rest (inr (same, inr (inr (before, (more, (c, (at, (new_at, (is, left))))))))) =
    record {
      row = e s;
      cut = λ q. inl refl;
      is_at = inr (λ key. same key ∙ ap (λ maps. standing maps s key) (sym still.maps), inr (inr (before, (more, (c, (still.histories s ∙ at, (new_at, (is, left))))))));
    }
next count (Some upload) steps g middle new e d s servers begun rest (inr (same, inr (inl ends))) = goes_on count upload g middle new e d s servers begun same (inr (inl ends))
next count (Some upload) steps g middle new e d s servers begun rest (inr (same, inr (inr (before, (more, (c, (at, (new_at, (is, left))))))))) =
    let here = begun.tells s before at in
    let later = extended steps middle new s (before ++ here.0) rest here.1.0 in
    let joined : Some (before ++ more) ≡ Some (before ++ (here.0 ++ later.0)) = sym new_at ∙ later.1 ∙ ap Some (append_assoc before here.0 later.0) in
    let split : more ≡ here.0 ++ later.0 = append_cancel_left before more (here.0 ++ later.0) (cc) in
    by_time count upload g middle new e d s servers begun same before here.0 later.0 c left here.1.0 later.1 here.1.1 (Contains-append_cases here.0 later.0 c (subst (λ l. Contains l c) split is))

-- ---- all of them

as_many : (x : Step) (g middle : GridState) → IsBegunBy x g middle → length middle.stores ≡ length g.stores
as_many None g middle still =
    sym (length-map middle.stores (λ (t : StoreState). t.shares)) ∙ ap length still.maps ∙ length-map g.stores (λ (t : StoreState). t.shares)
as_many (Some upload) g middle begun = begun.servers

ended : (g new : GridState) (e d : Standing) (s : ℕ) → new ≡ g → IsAt g new e d s → (q : ShareKey) → d s q ≡ e s q
ended g new e d s over (inl stopped) q = stopped q
ended g new e d s over (inr (same, inl stays)) q = stays q ∙ sym (same q)
ended g new e d s over (inr (same, inr (inl now))) q = now q ∙ ap (λ (h : GridState). stood h s q) over ∙ sym (same q)
ended g new e d s over (inr (same, inr (inr (before, (more, (c, (at, (new_at, (is, left))))))))) q =
    let joined : Some (before ++ more) ≡ Some (before ++ []) = sym new_at ∙ ap (λ (h : GridState). history_at h s) over ∙ at ∙ ap Some (sym (append-nil before)) in
    let nothing : more ≡ [] = append_cancel_left before more [] (cc) in
    absurd (none_in c (subst (λ l. Contains l c) nothing is))

go_on : (count : ℕ) (steps : List Step) (g new : GridState) (e d : Standing) → length g.stores ≡ count → AreBegunBy steps g new → ((s : ℕ) → IsAt g new e d s) → AreCut count steps e d
go_on count [] g new e d servers over at =
    let point : (s : ℕ) (q : ShareKey) → d s q ≡ e s q = λ s q. ended g new e d s over (at s) q in
    λ j s q. point s q j
go_on count (x ∷ steps) g new e d servers (middle, (begun, rest)) at =
    let each : (s : ℕ) → Next count x middle new e d s = λ s. next count x steps g middle new e d s servers begun rest (at s) in
    let row : Standing = λ s. (each s).row in
    (row, (λ s q. (each s).cut q, go_on count steps middle new row d (as_many x g middle begun ∙ servers) rest (λ s. (each s).is_at)))

pub cut_steps : (count : ℕ) (steps : List Step) (old new : GridState) (d : Standing) → length old.stores ≡ count → AreBegunBy steps old new → AreLeftIn old new d
    → AreCut count steps (stood old) d
cut_steps count steps old new d servers begun left = go_on count steps old new (stood old) d servers begun (λ s. inr (λ key. refl, left s))

-- an item that changes nothing is cut off where none is
pub cut_still : (count : ℕ) (steps : List Step) (c d : Standing) → AreCut count (steps ++ None ∷ []) c d → AreCut count steps c d
cut_still count [] c d (e, (cut, is)) = is ∙ (λ j s q. point s q (cut s q) j)
  where
    point : (s : ℕ) (q : ShareKey) → (e s q ≡ c s q) ⊎ (e s q ≡ c s q) → e s q ≡ c s q
    point s q (inl same) = same
    point s q (inr same) = same
cut_still count (x ∷ steps) c d (e, (cut, rest)) = (e, (cut, cut_still count steps e d rest))

pub begun-append : (xs : List Step) (x : Step) (old middle new : GridState) → AreBegunBy xs old middle → IsBegunBy x middle new → AreBegunBy (xs ++ x ∷ []) old new
begun-append [] x old middle new same begun = (new, (subst (λ g. IsBegunBy x g new) same begun, refl))
begun-append (y ∷ xs) x old middle new (between, (first, rest)) begun = (between, (first, begun-append xs x between middle new rest begun))
