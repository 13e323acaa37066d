-- What runs keep of a world, and how its marks follow what stands in a grid.
use Rattle.std.proofs.Common.{◌≡◌, ℕ, ◌<◌, ◌≤◌, List, [], ◌∷◌, length, Bool, true, false, not, cond, Option, Some, None, refl, sym, ap, subst, ◌∙◌, arith}
use Rattle.std.specs.Prelude.{◌==◌, ◌&&◌, nat_eq, nat_lt, All, filter, slice_get, unwrap_or}
use Rattle.std.specs.Option.{option_map}
use Rattle.std.specs.Ordering.{eq_by_cmp, nat_cmp, is_eq}
use Rattle.std.specs.declared.cmp.Ordering.{Ordering}
use Rattle.std.specs.declared.cmp.Ordering.TheVariants.{Less, Equal, Greater}
use Rattle.std.specs.Cmp.Lexicographic.{slice_cmp, pointwise, bytes_decides, nat_list_cmp_total}
use Rattle.std.proofs.lemmas.Bool.{and_parts, eqb-true, eq-eqb, ltb-true, lt-ltb}
use Rattle.std.proofs.lemmas.Bool.Decides.{nat_tests}
use Rattle.std.proofs.lemmas.Option.{slice_get-get_or, same_Some}
use Rattle.std.proofs.lemmas.List.Elements.{All-nil, All-cons, All-filter}
use Rattle.std.proofs.lemmas.List.FromFn.{length-map-range_with_len, get_or-map-range_with_len}
use Rattle.std.proofs.lemmas.Cmp.{eq_by_cmp_equiv}
use Rattle.std.proofs.lemmas.Map.Lookups.{exact_bytes}
use Rattle.tag_hash.specs.Collisions.{NoCollision}
use Rattle.tag_hash.specs.Use.{Use}
use Rattle.share_store.specs.Shares.{ShareKey, key_cmp}
use Rattle.share_store.specs.MapLaws.{key_cmp_exact}
use Rattle.share_store.specs.Toggle.{toggled}
use Rattle.share_store.specs.Toggles.{is_toggled, switched, TogglesLaws}
use Rattle.grid.specs.Standing.{Standing}
use Rattle.grid.specs.Placement.{server_of, placed}
use Rattle.grid.specs.Changes.{without, spoiled}
use Rattle.caps.specs.Fields.{ReadValue}
use Rattle.caps.specs.StorageIndex.{index_of}
use Rattle.chk_file.specs.Upload.{Upload, fields, index, share_of, shares_of, IsUpload}
use Rattle.file_shares.specs.Fit.{fit}
use Rattle.chk_file.specs.Marks.{Mark, Marks, MarkRow, untouched, stands, marks_of, shown, shown_row, put_marks, lost_mark, spoiled_at, spoiled_mark}
use Rattle.chk_file.specs.World.{World, empty, same_fields, with_file, after_upload, after_lose, after_spoil}
use Rattle.chk_file.specs.Held.{held_of, held_in, uploaded_bytes}
use Rattle.chk_file.specs.Sound.{IsFileAt, IsMarkAt, IsSoundWorld, IsCovered}
use Rattle.file_shares.proofs.Tools.{true_or_false}
use Rattle.chk_file.proofs.Keys.{IsRowOf}

-- ---- what stands after each change

one_list : (xs : List ℕ) → eq_by_cmp (slice_cmp nat_cmp) xs xs ≡ true
one_list xs = (eq_by_cmp_equiv nat_list_cmp_total).refl xs

mapped_if : {X Y : Type 0} (h : X → Y) (b : Bool) (one other : Option X) → option_map h (cond b one other) ≡ cond b (option_map h one) (option_map h other)
mapped_if h true one other = refl
mapped_if h false one other = refl

unwrapped : {X Y : Type 0} (h : X → Y) (o : Option X) (x : X) → option_map h (Some (unwrap_or o x)) ≡ Some (unwrap_or (option_map h o) (h x))
unwrapped h None x = refl
unwrapped h (Some y) x = refl

share_there : (u : Upload) (i : ℕ) → i < u.n → unwrap_or (slice_get (shares_of u) i) [] ≡ share_of u i
share_there u i below =
    let long : length (shares_of u) ≡ u.n = length-map-range_with_len (share_of u) 0 u.n in
    ap (λ (o : Option (List ℕ)). unwrap_or o []) (slice_get-get_or (shares_of u) i [] (omega arith)) ∙ get_or-map-range_with_len (share_of u) 0 u.n i i [] below (omega arith)

put_place : TogglesLaws → (servers : ℕ) (u : Upload) (marks : Marks) (s : ℕ) (q : ShareKey) → shown (put_marks servers u marks) s q ≡ placed servers (index u) (shares_of u) (shown marks) s q
put_place laws servers u marks s q =
    let here = eq_by_cmp (slice_cmp nat_cmp) q.0 (index u) in
    let turn = s == server_of servers (index u) q.1 in
    let long : length (shares_of u) ≡ u.n = length-map-range_with_len (share_of u) 0 u.n in
    let old = marks s q in
    let stood = shown marks s q in
    mapped_if (stands q.1) (here && nat_lt q.1 u.n && turn) (Some (unwrap_or old (untouched u))) old
    ∙ true_or_false (nat_lt q.1 u.n) _
    (λ below.
    let new : option_map (stands q.1) (Some (unwrap_or old (untouched u))) ≡ Some (unwrap_or stood (unwrap_or (slice_get (shares_of u) q.1) [])) =
    unwrapped (stands q.1) old (untouched u)
    ∙ ap (λ b. Some (unwrap_or stood b)) (laws.none (share_of u q.1) ∙ sym (share_there u q.1 (ltb-true q.1 u.n below))) in
    ap (λ (o : Option (List ℕ)). cond (here && nat_lt q.1 u.n && turn) o stood) new
    ∙ ap (λ n. cond (here && nat_lt q.1 n && turn) (Some (unwrap_or stood (unwrap_or (slice_get (shares_of u) q.1) []))) stood) (sym long))
    (λ past.
    let off : (o : Option (List ℕ)) (n : ℕ) → nat_lt q.1 n ≡ false → cond (here && nat_lt q.1 n && turn) o stood ≡ stood = λ o n e.
    ap (λ b. cond (here && b && turn) o stood) e ∙ never here turn o stood in
    off (option_map (stands q.1) (Some (unwrap_or old (untouched u)))) u.n past
    ∙ sym (off (Some (unwrap_or stood (unwrap_or (slice_get (shares_of u) q.1) []))) (length (shares_of u)) (ap (nat_lt q.1) long ∙ past)))
  where
    never : (a b : Bool) (o stood : Option (List ℕ)) → cond (a && false && b) o stood ≡ stood
    never true b o stood = refl
    never false b o stood = refl

-- a share of each number stands once they were put
pub placed_there : (servers : ℕ) (u : Upload) (before : Standing) (i : ℕ) → i < u.n
    → placed servers (index u) (shares_of u) before (server_of servers (index u) i) (index u, i) ≡ Some (unwrap_or (before (server_of servers (index u) i) (index u, i)) (share_of u i))
placed_there servers u before i below =
    let long : length (shares_of u) ≡ u.n = length-map-range_with_len (share_of u) 0 u.n in
    let server = server_of servers (index u) i in
    let old = before server (index u, i) in
    ap (λ b. cond (b && nat_lt i (length (shares_of u)) && server == server) (Some (unwrap_or old (unwrap_or (slice_get (shares_of u) i) []))) old) (one_list (index u))
    ∙ ap (λ b. cond (b && server == server) (Some (unwrap_or old (unwrap_or (slice_get (shares_of u) i) []))) old) (lt-ltb i (length (shares_of u)) (omega arith))
    ∙ ap (λ b. cond b (Some (unwrap_or old (unwrap_or (slice_get (shares_of u) i) []))) old) (eq-eqb server server refl)
    ∙ ap (λ b. Some (unwrap_or old b)) (share_there u i below)

pub shown-put : TogglesLaws → (servers : ℕ) (u : Upload) (marks : Marks) → shown (put_marks servers u marks) ≡ placed servers (index u) (shares_of u) (shown marks)
shown-put laws servers u marks = λ j s q. put_place laws servers u marks s q j

pub shown-lost : (server : ℕ) (key : ShareKey) (marks : Marks) → shown (lost_mark server key marks) ≡ without server key (shown marks)
shown-lost server key marks = λ j s q. mapped_if (stands q.1) (s == server && eq_by_cmp key_cmp q key) None (marks s q) j

-- a bit of a share that stands is changed exactly where its place is switched
stands-spoiled : TogglesLaws → (i place : ℕ) (mark : Mark) → stands i (spoiled_at i place mark) ≡ toggled (stands i mark) place
stands-spoiled laws i place mark =
    let share : List ℕ = share_of mark.upload i in
    let long : length (stands i mark) ≡ length share = laws.keeps_length mark.toggles share in
    true_or_false (nat_lt place (length share)) _
    (λ inside.
    ap (λ b. stands i (cond b (record { upload = mark.upload; toggles = switched place mark.toggles }) mark)) inside
    ∙ sym (laws.switches mark.toggles share place (ltb-true place (length share) inside)))
    (λ past.
    ap (λ b. stands i (cond b (record { upload = mark.upload; toggles = switched place mark.toggles }) mark)) past
    ∙ sym (laws.beyond (stands i mark) place (let behind : length share ≤ place = not_below place (length share) past in omega arith)))
  where
    not_below : (a b : ℕ) → nat_lt a b ≡ false → b ≤ a
    not_below a b e = grind (arith, nat_tests)

spoiled_mapped : TogglesLaws → (i place : ℕ) (o : Option Mark) → option_map (stands i) (option_map (spoiled_at i place) o) ≡ option_map (λ bytes. toggled bytes place) (option_map (stands i) o)
spoiled_mapped laws i place None = refl
spoiled_mapped laws i place (Some mark) = ap Some (stands-spoiled laws i place mark)

pub shown-spoiled : TogglesLaws → (server : ℕ) (key : ShareKey) (place : ℕ) (marks : Marks) → shown (spoiled_mark server key place marks) ≡ spoiled server key place (shown marks)
shown-spoiled laws server key place marks =
    let point : (s : ℕ) (q : ShareKey) → shown (spoiled_mark server key place marks) s q ≡ spoiled server key place (shown marks) s q = λ s q.
    mapped_if (stands q.1) (s == server && eq_by_cmp key_cmp q key) (option_map (spoiled_at q.1 place) (marks s q)) (marks s q)
    ∙ ap (λ (o : Option (List ℕ)). cond (s == server && eq_by_cmp key_cmp q key) o (shown marks s q)) (spoiled_mapped laws q.1 place (marks s q)) in
    λ j s q. point s q j

-- ---- each change keeps a world sound

same_name : (f g : ReadValue) → same_fields f g ≡ true → g ≡ f
same_name f g e =
    let halves = and_parts (pointwise nat_eq f.key g.key && pointwise nat_eq f.ueb g.ueb) ((f.k == g.k) && ((f.n == g.n) && (f.size == g.size))) e in
    let texts = and_parts (pointwise nat_eq f.key g.key) (pointwise nat_eq f.ueb g.ueb) halves.0 in
    let numbers = and_parts (f.k == g.k) ((f.n == g.n) && (f.size == g.size)) halves.1 in
    let more = and_parts (f.n == g.n) (f.size == g.size) numbers.1 in
    let key = sym ((bytes_decides f.key g.key).0 texts.0) in
    let ueb = sym ((bytes_decides f.ueb g.ueb).0 texts.1) in
    let k = sym (eqb-true f.k g.k numbers.0) in
    let n = sym (eqb-true f.n g.n more.0) in
    let size = sym (eqb-true f.size g.size more.1) in
    λ i. record { key = key i; ueb = ueb i; k = k i; n = n i; size = size i }

if_put : {X : Type 0} (P : X → Type 0) (here : Bool) (o : Option X) (x : X) → (here ≡ true → P x) → ((y : X) → o ≡ Some y → P y) → (y : X) → cond here (Some (unwrap_or o x)) o ≡ Some y → P y
if_put P true None x new old y e = subst P (same_Some x y e) (new refl)
if_put P true (Some z) x new old y e = old y e
if_put P false o x new old y e = old y e

if_lost : {X : Type 0} (P : X → Type 0) (here : Bool) (o : Option X) → ((y : X) → o ≡ Some y → P y) → (y : X) → cond here None o ≡ Some y → P y
if_lost P true o old y e = cc
if_lost P false o old y e = old y e

if_changed : {X : Type 0} (P : X → Type 0) (f : X → X) (here : Bool) (o : Option X) → ((x : X) → P x → P (f x)) → ((y : X) → o ≡ Some y → P y) → (y : X) → cond here (option_map f o) o ≡ Some y → P y
if_changed P f true None step old y e = cc
if_changed P f true (Some z) step old y e = subst P (same_Some (f z) y e) (step z (old z refl))
if_changed P f false o step old y e = old y e

equal_lists : (xs ys : List ℕ) → eq_by_cmp (slice_cmp nat_cmp) xs ys ≡ true → xs ≡ ys
equal_lists xs ys e = exact_bytes xs ys (is_equal (slice_cmp nat_cmp xs ys) e)
  where
    is_equal : (o : Ordering) → is_eq o ≡ true → o ≡ Equal
    is_equal Less e = cc
    is_equal Equal e = refl
    is_equal Greater e = cc

inside_switched : (bound place : ℕ) (toggles : List ℕ) (there : Bool) → place < bound → All (λ p. p < bound) toggles → All (λ p. p < bound) (cond there (filter (λ p. not (p == place)) toggles) (place ∷ toggles))
inside_switched bound place toggles true within h = All-filter (λ p. not (p == place)) (λ p. p < bound) toggles h
inside_switched bound place toggles false within h = All-cons (λ p. p < bound) place toggles within h

spoiled_when : (si : List ℕ) (i place : ℕ) (mark : Mark) (within : Bool) → (within ≡ true → place < length (share_of mark.upload i)) → IsMarkAt si i mark
    → IsMarkAt si i (cond within (record { upload = mark.upload; toggles = switched place mark.toggles }) mark)
spoiled_when si i place mark true within h = record {
  placed = h.placed;
  upload = h.upload;
  below = h.below;
  inside = inside_switched (length (share_of mark.upload i)) place mark.toggles (is_toggled mark.toggles place) (within refl) h.inside;
}
spoiled_when si i place mark false within h = h

pub sound-empty : IsSoundWorld empty
sound-empty = record { files = λ f u e. cc; marks = λ server si number mark e. cc }

abbrev with_upload : ℕ → Upload → World → World
with_upload servers u w = record { files = with_file u w.files; marks = put_marks servers u w.marks }

module _ (servers : ℕ) (u : Upload) (w : World) (is : IsUpload u) (sound : IsSoundWorld w) where
  sound_with : IsSoundWorld (with_upload servers u w)
  sound_with = record {
    files = λ f v e. if_put (IsFileAt f) (same_fields f (fields u)) (w.files f) u (λ same. record { named = same_name f (fields u) same; upload = is }) (sound.files f) v e;
    marks = λ server si number mark e.
        let here = eq_by_cmp (slice_cmp nat_cmp) si (index u) in
        let turn = server == server_of servers (index u) number in
        if_put (IsMarkAt si number) (here && nat_lt number u.n && turn) (w.marks server (si, number)) (untouched u)
        (λ put.
        let outer = and_parts (here && nat_lt number u.n) turn put in
        let inner = and_parts here (nat_lt number u.n) outer.0 in
        record { placed = sym (equal_lists si (index u) inner.0); upload = is; below = ltb-true number u.n inner.1; inside = All-nil (λ place. place < length (share_of u number)) })
        (sound.marks server si number) mark e;
  }

  pub sound-upload : IsSoundWorld (after_upload servers u w)
  sound-upload =
      true_or_false (nat_lt 55 (length u.bytes)) _
      (λ long. subst (λ b. IsSoundWorld (cond b (with_upload servers u w) w)) (sym long) sound_with)
      (λ short. subst (λ b. IsSoundWorld (cond b (with_upload servers u w) w)) (sym short) sound)

pub sound-lose : (server : ℕ) (key : ShareKey) (w : World) → IsSoundWorld w → IsSoundWorld (after_lose server key w)
sound-lose server key w sound = record {
  files = sound.files;
  marks = λ s si number mark e. if_lost (IsMarkAt si number) (s == server && eq_by_cmp key_cmp (si, number) key) (w.marks s (si, number)) (sound.marks s si number) mark e;
}

pub sound-spoil : (server : ℕ) (key : ShareKey) (place : ℕ) (w : World) → IsSoundWorld w → IsSoundWorld (after_spoil server key place w)
sound-spoil server key place w sound = record {
  files = sound.files;
  marks = λ s si number mark e.
      if_changed (IsMarkAt si number) (spoiled_at number place) (s == server && eq_by_cmp key_cmp (si, number) key) (w.marks s (si, number))
      (λ m h. spoiled_when si number place m (nat_lt place (length (share_of m.upload number))) (λ within. ltb-true place (length (share_of m.upload number)) within) h)
      (sound.marks s si number) mark e;
}

-- ---- a cap of a world

abbrev pub RowHeld : Type 0
RowHeld = (uses : List Use) (u : Upload) (marks : MarkRow) → NoCollision uses → IsRowOf uses u marks → fit (shown_row marks) (fields u) ≡ held_of u marks

module _ (row_held : RowHeld) (uses : List Use) (w : World) (apart : NoCollision uses) (sound : IsSoundWorld w) where
  at_upload : (u : Upload) → w.files (fields u) ≡ Some u → IsUpload u → IsCovered uses w (fields u) → fit (shown_row (marks_of w.marks (index u))) (fields u) ≡ held_of u (marks_of w.marks (index u))
  at_upload u file is covered =
      row_held uses u (marks_of w.marks (index u)) apart
      (record {
        upload = is;
        own = covered.files (fields u) u file refl;
        placed = λ server number mark e. sound.marks server (index u) number mark e;
        put = λ server number mark e. covered.marks server number mark e;
        stood = covered.stood;
      })

  at_file : (f : ReadValue) (o : Option Upload) → w.files f ≡ o → IsCovered uses w f → fit (shown_row (marks_of w.marks (index_of f.key))) f ≡ held_in o (marks_of w.marks (index_of f.key)) f
  at_file f None file covered = refl
  at_file f (Some u) file covered =
      let known = sound.files f u file in
      subst (λ (g : ReadValue). fit (shown_row (marks_of w.marks (index_of g.key))) g ≡ held_of u (marks_of w.marks (index_of g.key))) known.named
      (at_upload u (subst (λ (g : ReadValue). w.files g ≡ Some u) (sym known.named) file) known.upload (subst (IsCovered uses w) (sym known.named) covered))

  pub fit_is_held_at : (f : ReadValue) → IsCovered uses w f → fit (shown_row (marks_of w.marks (index_of f.key))) f ≡ uploaded_bytes w f
  fit_is_held_at f covered = at_file f (w.files f) refl covered

-- ---- one item changes its own index alone

no_list : (xs ys : List ℕ) → (xs ≡ ys → ⊥) → eq_by_cmp (slice_cmp nat_cmp) xs ys ≡ false
no_list xs ys other = true_or_false (eq_by_cmp (slice_cmp nat_cmp) xs ys) _ (λ yes. absurd (other (equal_lists xs ys yes))) (λ no. no)

no_key : (si : List ℕ) (number : ℕ) (key : ShareKey) → (si ≡ key.0 → ⊥) → eq_by_cmp key_cmp (si, number) key ≡ false
no_key si number key other = true_or_false (eq_by_cmp key_cmp (si, number) key) _ (λ yes. absurd (other (ap (λ (k : ShareKey). k.0) (equal_keys (si, number) key yes)))) (λ no. no)
  where
    is_equal : (o : Ordering) → is_eq o ≡ true → o ≡ Equal
    is_equal Less e = cc
    is_equal Equal e = refl
    is_equal Greater e = cc

    equal_keys : (a b : ShareKey) → eq_by_cmp key_cmp a b ≡ true → a ≡ b
    equal_keys a b e = key_cmp_exact a b (is_equal (key_cmp a b) e)

off_first : {X : Type 0} (b c : Bool) (x y : X) → b ≡ false → cond (b && c) x y ≡ y
off_first true c x y e = cc
off_first false c x y e = refl

off_middle : {X : Type 0} (a b : Bool) (x y : X) → b ≡ false → cond (a && b) x y ≡ y
off_middle true b x y e = ap (λ t. cond t x y) e
off_middle false b x y e = refl

put_elsewhere : (servers : ℕ) (u : Upload) (marks : Marks) (si : List ℕ) → (si ≡ index u → ⊥) → marks_of (put_marks servers u marks) si ≡ marks_of marks si
put_elsewhere servers u marks si other =
    let point : (s i : ℕ) → marks_of (put_marks servers u marks) si s i ≡ marks_of marks si s i = λ s i.
    let here = eq_by_cmp (slice_cmp nat_cmp) si (index u) in
    let none : (here && nat_lt i u.n) ≡ false = ap (λ b. b && nat_lt i u.n) (no_list si (index u) other) in
    off_first (here && nat_lt i u.n) (s == server_of servers (index u) i) (Some (unwrap_or (marks s (si, i)) (untouched u))) (marks s (si, i)) none in
    λ j s i. point s i j

pub upload_elsewhere : (servers : ℕ) (u : Upload) (w : World) (si : List ℕ) → (si ≡ index u → ⊥) → marks_of (after_upload servers u w).marks si ≡ marks_of w.marks si
upload_elsewhere servers u w si other =
    true_or_false (nat_lt 55 (length u.bytes)) _
    (λ long. ap (λ b. marks_of (cond b (with_upload servers u w) w).marks si) long ∙ put_elsewhere servers u w.marks si other)
    (λ short. ap (λ b. marks_of (cond b (with_upload servers u w) w).marks si) short)

pub file_elsewhere : (servers : ℕ) (u : Upload) (w : World) (f : ReadValue) → (index_of f.key ≡ index u → ⊥) → (after_upload servers u w).files f ≡ w.files f
file_elsewhere servers u w f other =
    let no_file : same_fields f (fields u) ≡ false =
    true_or_false (same_fields f (fields u)) _ (λ yes. absurd (other (ap (λ (g : ReadValue). index_of g.key) (sym (same_name f (fields u) yes))))) (λ no. no) in
    true_or_false (nat_lt 55 (length u.bytes)) _
    (λ long. ap (λ b. (cond b (with_upload servers u w) w).files f) long ∙ ap (λ b. cond b (Some (unwrap_or (w.files f) u)) (w.files f)) no_file)
    (λ short. ap (λ b. (cond b (with_upload servers u w) w).files f) short)

pub lose_elsewhere : (server : ℕ) (key : ShareKey) (w : World) (si : List ℕ) → (si ≡ key.0 → ⊥) → marks_of (after_lose server key w).marks si ≡ marks_of w.marks si
lose_elsewhere server key w si other =
    let point : (s i : ℕ) → marks_of (after_lose server key w).marks si s i ≡ marks_of w.marks si s i = λ s i.
    off_middle (s == server) (eq_by_cmp key_cmp (si, i) key) None (w.marks s (si, i)) (no_key si i key other) in
    λ j s i. point s i j

pub spoil_elsewhere : (server : ℕ) (key : ShareKey) (place : ℕ) (w : World) (si : List ℕ) → (si ≡ key.0 → ⊥) → marks_of (after_spoil server key place w).marks si ≡ marks_of w.marks si
spoil_elsewhere server key place w si other =
    let point : (s i : ℕ) → marks_of (after_spoil server key place w).marks si s i ≡ marks_of w.marks si s i = λ s i.
    off_middle (s == server) (eq_by_cmp key_cmp (si, i) key) (option_map (spoiled_at i place) (w.marks s (si, i))) (w.marks s (si, i)) (no_key si i key other) in
    λ j s i. point s i j
