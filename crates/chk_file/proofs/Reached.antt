-- What is gathered where some stores fail is a row that is reached.
use Rattle.std.proofs.Common.{◌≡◌, ◌⊎◌, inl, inr, ℕ, zero, suc, ◌+◌, ◌<◌, ◌≤◌, List, [], ◌∷◌, length, map, Bool, true, false, cond, Option, Some, None, refl, sym, ap, subst, ◌∙◌, arith}
use Rattle.std.specs.Prelude.{◌==◌, nat_lt, option_and_then, filter}
use Rattle.std.specs.Option.{option_map}
use Rattle.std.specs.List.{range_with_len, filter_map, cons_option}
use Rattle.std.specs.FinMap.{get}
use Rattle.std.proofs.lemmas.Bool.{eqb-true, eq-eqb, ne_eqb, lt-ltb, le-ltb}
use Rattle.std.proofs.lemmas.Option.{slice_get_past}
use Rattle.share_store.specs.Shares.{Shares}
use Rattle.share_store.specs.NumberedShares.{AllBut}
use Rattle.grid.specs.Found.{found_below}
use Rattle.grid.specs.FoundLaws.{FoundLaws}
use Rattle.grid.specs.GridState.{GridState, failures_at}
use Rattle.grid.specs.Standing.{standing}
use Rattle.file_shares.specs.Row.{ShareTable, most_servers, ServerShare, places}
use Rattle.chk_file.specs.Reached.{IsReachedIn}
use Rattle.file_shares.specs.Gathered.{Found, of_number}
use Rattle.file_shares.proofs.Tools.{none_past}

-- ---- all but some

module _ {A : Type 0} (Miss : A → Type 0) where
  -- of those that pass a test
  pub AllBut-filter : (t : A → Bool) (all given : List A) → AllBut Miss all given → AllBut Miss (filter t all) (filter t given)
  AllBut-filter t [] given is = ap (filter t) is
  AllBut-filter t (x ∷ all) given (inl (miss, more)) = skipped (t x) (AllBut-filter t all given more)
    where
      skipped : (b : Bool) → AllBut Miss (filter t all) (filter t given) → AllBut Miss (cond b (x ∷ filter t all) (filter t all)) (filter t given)
      skipped true others = inl (miss, others)
      skipped false others = others
  AllBut-filter t (x ∷ all) given (inr (rest, is, more)) =
      subst (λ ys. AllBut Miss (filter t (x ∷ all)) (filter t ys)) (sym is) (kept (t x) (AllBut-filter t all rest more))
    where
      kept : (b : Bool) → AllBut Miss (filter t all) (filter t rest) → AllBut Miss (cond b (x ∷ filter t all) (filter t all)) (cond b (x ∷ filter t rest) (filter t rest))
      kept true others = inr (filter t rest, refl, others)
      kept false others = others

  -- and of what is made of them
  pub AllBut-map : {B : Type 0} (Lost : B → Type 0) (f : A → B) → ((x : A) → Miss x → Lost (f x)) → (all given : List A) → AllBut Miss all given → AllBut Lost (map f all) (map f given)
  AllBut-map Lost f lost [] given is = ap (map f) is
  AllBut-map Lost f lost (x ∷ all) given (inl (miss, more)) = inl (lost x miss, AllBut-map Lost f lost all given more)
  AllBut-map Lost f lost (x ∷ all) given (inr (rest, is, more)) = inr (map f rest, ap (map f) is, AllBut-map Lost f lost all rest more)

  -- where none is missed all are given
  AllBut-all : (all : List A) → AllBut Miss all all
  AllBut-all [] = refl
  AllBut-all (x ∷ all) = inr (all, refl, AllBut-all all)

-- ---- the shares of a number

abbrev placed_at : (ℕ → Option (List ℕ)) → ℕ → Option ServerShare
placed_at g server = option_map (λ s. (server, s)) (g server)

-- where nothing else is different, what is made of later numbers is the same
later_alike : (f g : ℕ → Option (List ℕ)) (from a n : ℕ) → from < a → ((i : ℕ) → from < i → f i ≡ g i) → filter_map (placed_at f) (range_with_len a n) ≡ filter_map (placed_at g) (range_with_len a n)
later_alike f g from a zero past each = refl
later_alike f g from a (suc n) past each =
    let here = ap (option_map {U = ServerShare} (λ s. (a, s))) (each a past) in let more = later_alike f g from (a + 1) n (omega arith) each in λ i. cons_option (here i) (more i)

module _ (Miss : ℕ → Type 0) where
  -- given was what these say of so many servers, of which each says what it has or is missed
  record Picked (g : ℕ → Option (List ℕ)) (a n : ℕ) (given : List ServerShare) : Type 0 where
    pub has : ℕ → Option (List ℕ)
    pub each : (server : ℕ) → (has server ≡ g server) ⊎ (Miss server × (has server ≡ None))
    pub is : given ≡ filter_map (placed_at has) (range_with_len a n)

  -- one server's answer before those of the later ones
  abbrev first_has : ℕ → Option (List ℕ) → (ℕ → Option (List ℕ)) → ℕ → Option (List ℕ)
  first_has a own more server = cond (server == a) own (more server)

  has_here : (a : ℕ) (own : Option (List ℕ)) (more : ℕ → Option (List ℕ)) → first_has a own more a ≡ own
  has_here a own more = ap (λ b. cond b own (more a)) (eq-eqb a a refl)

  has_later : (a : ℕ) (own : Option (List ℕ)) (more : ℕ → Option (List ℕ)) (i : ℕ) → a < i → first_has a own more i ≡ more i
  has_later a own more i past = ap (λ b. cond b own (more i)) (ne_eqb i a (λ e. omega arith))

  each_has : (g : ℕ → Option (List ℕ)) (a : ℕ) (own : Option (List ℕ)) (more : ℕ → Option (List ℕ)) → ((own ≡ g a) ⊎ (Miss a × (own ≡ None)))
      → ((server : ℕ) → (more server ≡ g server) ⊎ (Miss server × (more server ≡ None)))
      → (server : ℕ) → (first_has a own more server ≡ g server) ⊎ (Miss server × (first_has a own more server ≡ None))
  each_has g a own more here later server = by_case (server == a) refl
    where
      by_case : (b : Bool) → (server == a) ≡ b → (cond b own (more server) ≡ g server) ⊎ (Miss server × (cond b own (more server) ≡ None))
      by_case true same = subst (λ s. (own ≡ g s) ⊎ (Miss s × (own ≡ None))) (sym (eqb-true server a same)) here
      by_case false other = later server

  joined : (g : ℕ → Option (List ℕ)) (a n : ℕ) (own : Option (List ℕ)) (rest : List ServerShare) → ((own ≡ g a) ⊎ (Miss a × (own ≡ None))) → Picked g (a + 1) n rest
      → Picked g a (suc n) (cons_option (option_map (λ s. (a, s)) own) rest)
  joined g a n own rest here more = record {
    has = first_has a own more.has;
    each = each_has g a own more.has here more.each;
    is =
        ap (cons_option (option_map {U = ServerShare} (λ s. (a, s)) own)) (more.is ∙ sym (later_alike (first_has a own more.has) more.has a (a + 1) n (omega arith) (has_later a own more.has)))
        ∙ ap (λ o. cons_option (option_map {U = ServerShare} (λ s. (a, s)) o) (filter_map (placed_at (first_has a own more.has)) (range_with_len (a + 1) n))) (sym (has_here a own more.has));
  }

  picked : (g : ℕ → Option (List ℕ)) (a n : ℕ) (given : List ServerShare) → AllBut (λ (place : ServerShare). Miss place.0) (filter_map (placed_at g) (range_with_len a n)) given → Picked g a n given
  picked g a zero given is = record { has = g; each = λ server. inl refl; is = is }
  picked g a (suc n) given all = by_case (g a) refl (λ ps more. picked g (a + 1) n ps more) all
    where
      by_case : (o : Option (List ℕ)) → g a ≡ o
          → ((ps : List ServerShare) → AllBut (λ (place : ServerShare). Miss place.0) (filter_map (placed_at g) (range_with_len (a + 1) n)) ps → Picked g (a + 1) n ps)
          → AllBut (λ (place : ServerShare). Miss place.0) (cons_option (option_map (λ s. (a, s)) o) (filter_map (placed_at g) (range_with_len (a + 1) n))) given → Picked g a (suc n) given
      by_case None none later more = joined g a n None given (inl (sym none)) (later given more)
      by_case (Some s) some later (inl (miss, more)) = joined g a n None given (inr (miss, refl)) (later given more)
      by_case (Some s) some later (inr (rest, is, more)) = subst (Picked g a (suc n)) (sym is) (joined g a n (Some s) rest (inl (sym some)) (later rest more))

-- ---- a row of all numbers

abbrev Failed : GridState → GridState → ℕ → Type 0
Failed old new server = failures_at old server < failures_at new server

abbrev stands_at : List Shares → List ℕ → ℕ → ℕ → Option (List ℕ)
stands_at maps index number server = standing maps server (index, number)

-- all that stands of a number at so many servers
abbrev all_at : List Shares → ℕ → List ℕ → ℕ → List ServerShare
all_at maps servers index number = filter_map (placed_at (stands_at maps index number)) (range_with_len 0 servers)

-- a row that was reached of what stands in these maps, in which this stands of each number
record IsListed (maps : List Shares) (old new : GridState) (index : List ℕ) (lists : ℕ → List ServerShare) : Type 0 where
  pub row : ShareTable
  pub reached : IsReachedIn (standing maps) old new index row
  pub is : (number : ℕ) → lists number ≡ places row number

module _ (maps : List Shares) (old new : GridState) (index : List ℕ) (few : length old.stores ≤ 256) (long : length maps ≡ length old.stores) (lists : ℕ → List ServerShare)
    (all : (number : ℕ) → AllBut (λ (place : ServerShare). Failed old new place.0) (all_at maps (length old.stores) index number) (lists number)) where
  of_each : (number : ℕ) → Picked (Failed old new) (stands_at maps index number) 0 (length old.stores) (lists number)
  of_each number = picked (Failed old new) (stands_at maps index number) 0 (length old.stores) (lists number) (all number)

  -- past the last server nothing stands
  none_there : (number server : ℕ) → length old.stores ≤ server → (of_each number).has server ≡ None
  none_there number server past = by_case ((of_each number).each server)
    where
      by_case : ((of_each number).has server ≡ stands_at maps index number server) ⊎ (Failed old new server × ((of_each number).has server ≡ None)) → (of_each number).has server ≡ None
      by_case (inl same) = same ∙ ap (λ (o : Option Shares). option_and_then (λ shares. get shares (index, number)) o) (slice_get_past maps server (omega arith))
      by_case (inr (failed, none)) = none

  lists_are_reached : IsListed maps old new index lists
  unfolding most_servers
  lists_are_reached = record {
    row = λ server number. (of_each number).has server;
    reached = record { each = λ server number. (of_each number).each server };
    is = λ number.
        (of_each number).is
        ∙ sym (none_past (placed_at (of_each number).has) (length old.stores) 256 few (λ server past. ap (option_map {U = ServerShare} (λ s. (server, s))) (none_there number server past)));
  }

-- a row that was reached, and what was gathered is what stands in it
pub record IsGathered (maps : List Shares) (old new : GridState) (index : List ℕ) (found : List Found) : Type 0 where
  pub row : ShareTable
  pub reached : IsReachedIn (standing maps) old new index row
  pub is : (number : ℕ) → of_number number found ≡ places row number

module _ (laws : FoundLaws) (maps : List Shares) (old new : GridState) (index : List ℕ) (found : List Found) where
  -- of a number of which all are among these
  of_list : (among : List Found) → AllBut (λ (f : Found). Failed old new f.0) among found → (number : ℕ)
      → filter (λ (f : Found). f.1 == number) among ≡ filter (λ (f : Found). f.1 == number) (found_below maps index (length old.stores))
      → AllBut (λ (place : ServerShare). Failed old new place.0) (all_at maps (length old.stores) index number) (of_number number found)
  of_list among all number same =
      subst (λ (ps : List ServerShare). AllBut (λ (place : ServerShare). Failed old new place.0) ps (of_number number found))
      (ap (map {B = ServerShare} (λ (f : Found). (f.0, f.2))) same ∙ laws.of_number maps index (length old.stores) number)
      (AllBut-map (λ (f : Found). Failed old new f.0) (λ (place : ServerShare). Failed old new place.0) (λ f. (f.0, f.2)) (λ f failed. failed)
      (filter (λ (f : Found). f.1 == number) among) (filter (λ (f : Found). f.1 == number) found)
      (AllBut-filter (λ (f : Found). Failed old new f.0) (λ (f : Found). f.1 == number) among found all))

  pub gathered_is_reached : length old.stores ≤ 256 → length maps ≡ length old.stores
      → AllBut (λ (f : Found). failures_at old f.0 < failures_at new f.0) (found_below maps index (length old.stores)) found → IsGathered maps old new index found
  gathered_is_reached few long all =
      let it : IsListed maps old new index (λ number. of_number number found) =
      lists_are_reached maps old new index few long (λ number. of_number number found) (λ number. of_list (found_below maps index (length old.stores)) all number refl) in
      record { row = it.row; reached = it.reached; is = it.is }

-- ---- a row of which low numbers alone were gathered

low_kept : (number limit : ℕ) → nat_lt number limit ≡ true → (fs : List Found)
    → filter (λ (f : Found). f.1 == number) (filter (λ (f : Found). nat_lt f.1 limit) fs) ≡ filter (λ (f : Found). f.1 == number) fs
low_kept number limit low [] = refl
low_kept number limit low (f ∷ fs) = by_case (nat_lt f.1 limit) refl (low_kept number limit low fs)
  where
    by_case : (b : Bool) → nat_lt f.1 limit ≡ b
        → filter (λ (g : Found). g.1 == number) (filter (λ (g : Found). nat_lt g.1 limit) fs) ≡ filter (λ (g : Found). g.1 == number) fs
        → filter (λ (g : Found). g.1 == number) (cond b (f ∷ filter (λ (g : Found). nat_lt g.1 limit) fs) (filter (λ (g : Found). nat_lt g.1 limit) fs))
        ≡ cond (f.1 == number) (f ∷ filter (λ (g : Found). g.1 == number) fs) (filter (λ (g : Found). g.1 == number) fs)
    by_case true is more = ap (λ gs. cond (f.1 == number) (f ∷ gs) gs) more
    by_case false is more =
        let other : f.1 ≡ number → ⊥ = λ e. (let h : true ≡ false = sym low ∙ ap (λ m. nat_lt m limit) (sym e) ∙ is in cc) in
        more ∙ sym (ap (λ b. cond b (f ∷ filter (λ (g : Found). g.1 == number) fs) (filter (λ (g : Found). g.1 == number) fs)) (ne_eqb f.1 number other))

high_dropped : (number limit : ℕ) → nat_lt number limit ≡ false → (fs : List Found) → filter (λ (f : Found). f.1 == number) (filter (λ (f : Found). nat_lt f.1 limit) fs) ≡ []
high_dropped number limit high [] = refl
high_dropped number limit high (f ∷ fs) = by_case (nat_lt f.1 limit) refl (high_dropped number limit high fs)
  where
    by_case : (b : Bool) → nat_lt f.1 limit ≡ b → filter (λ (g : Found). g.1 == number) (filter (λ (g : Found). nat_lt g.1 limit) fs) ≡ []
        → filter (λ (g : Found). g.1 == number) (cond b (f ∷ filter (λ (g : Found). nat_lt g.1 limit) fs) (filter (λ (g : Found). nat_lt g.1 limit) fs)) ≡ []
    by_case true is more =
        let other : f.1 ≡ number → ⊥ = λ e. (let h : true ≡ false = sym is ∙ ap (λ m. nat_lt m limit) e ∙ high in cc) in
        ap
        (λ b. cond b (f ∷ filter (λ (g : Found). g.1 == number) (filter (λ (g : Found). nat_lt g.1 limit) fs)) (filter (λ (g : Found). g.1 == number) (filter (λ (g : Found). nat_lt g.1 limit) fs)))
        (ne_eqb f.1 number other)
        ∙ more
    by_case false is more = more

-- a row that was reached, and what was gathered is what stands in it of the numbers below a limit
pub record IsGatheredBelow (limit : ℕ) (maps : List Shares) (old new : GridState) (index : List ℕ) (found : List Found) : Type 0 where
  pub row : ShareTable
  pub reached : IsReachedIn (standing maps) old new index row
  pub is : (number : ℕ) → number < limit → of_number number found ≡ places row number
  pub past : (number : ℕ) → limit ≤ number → of_number number found ≡ []

module _ (laws : FoundLaws) (limit : ℕ) (maps : List Shares) (old new : GridState) (index : List ℕ) (found : List Found) (few : length old.stores ≤ 256) (long : length maps ≡ length old.stores)
    (all : AllBut (λ (f : Found). failures_at old f.0 < failures_at new f.0) (filter (λ (f : Found). nat_lt f.1 limit) (found_below maps index (length old.stores))) found) where
  abbrev low_found : List Found
  low_found = filter (λ (f : Found). nat_lt f.1 limit) (found_below maps index (length old.stores))

  -- what was gathered of a low number, and all that stands of any other
  abbrev low_or_all : ℕ → List ServerShare
  low_or_all number = cond (nat_lt number limit) (of_number number found) (all_at maps (length old.stores) index number)

  all_but_low : (number : ℕ) → AllBut (λ (place : ServerShare). Failed old new place.0) (all_at maps (length old.stores) index number) (low_or_all number)
  all_but_low number = by_case (nat_lt number limit) refl
    where
      by_case : (b : Bool) → nat_lt number limit ≡ b → AllBut (λ (place : ServerShare). Failed old new place.0) (all_at maps (length old.stores) index number) (cond b (of_number number found) (all_at maps (length old.stores) index number))
      by_case true is = of_list laws maps old new index found low_found all number (low_kept number limit is (found_below maps index (length old.stores)))
      by_case false is = AllBut-all (λ (place : ServerShare). Failed old new place.0) (all_at maps (length old.stores) index number)

  none_high : (number : ℕ) → limit ≤ number → of_number number found ≡ []
  none_high number past =
      ap (map {B = ServerShare} (λ (f : Found). (f.0, f.2)))
      (subst (λ (fs : List Found). AllBut (λ (f : Found). Failed old new f.0) fs (filter (λ (f : Found). f.1 == number) found))
      (high_dropped number limit (le-ltb number limit past) (found_below maps index (length old.stores)))
      (AllBut-filter (λ (f : Found). Failed old new f.0) (λ (f : Found). f.1 == number) low_found found all))

  pub low_is_reached : IsGatheredBelow limit maps old new index found
  low_is_reached =
      let it : IsListed maps old new index low_or_all = lists_are_reached maps old new index few long low_or_all all_but_low in
      record {
        row = it.row;
        reached = it.reached;
        is = λ number low. sym (ap (λ b. cond b (of_number number found) (all_at maps (length old.stores) index number)) (lt-ltb number limit low)) ∙ it.is number;
        past = none_high;
      }
