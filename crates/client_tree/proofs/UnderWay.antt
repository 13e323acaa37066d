-- Files that are on their way, and stored below children once they are there.
use Rattle.std.proofs.Common.{◌≡◌, ℕ, ◌<◌, List, [], ◌∷◌, ◌++◌, length, refl, sym, ap, ◌∙◌, subst, inl, inr, ⊎_elim, append-nil, arith, Ok, Err}
use Rattle.std.specs.Prelude.{Contains, Result, OnOk}
use Rattle.std.proofs.lemmas.List.Elements.{Contains-append_left, Contains-append_right, Contains-append_cases, Contains-push, Contains-push_cases}
use Rattle.caps.specs.declared.cap.Cap.{Cap}
use Rattle.cap_binding.specs.Binds.{AreFileOf}
use Rattle.client_tree.specs.Runs.{File, AreGroups, Passes}
use Rattle.client_tree.specs.Parts.{part_bytes}
use Rattle.client_tree.specs.Stored.{stored_name, IsStoredAt, IsStoredFile, IsStoredBelow, HasChildren}
use Rattle.client_tree.specs.Known.{IsIdle, IsKnownBelow, IsKnownFile, IsKnownChild}
use Rattle.client_tree.specs.UnderWay.{IsInHand, StaysInHand}
use Rattle.client_tree.specs.declared.children.Child.{Child}
use Rattle.client_tree.specs.declared.window.Waiting.{Waiting}
use Rattle.client_tree.proofs.Below.{groups_more, one_group, both_groups, stored_above, one_more_stored}
use Rattle.client_tree.proofs.Known.{passed_beside, idle_more, idle_kept, known_more, known_behind, known_last, known_above, known_step}
use Rattle.client_tree.proofs.Running.{both_passed, passed_then_rested}

-- below more children
pub below_more : (children more : List Child) (path : List (List ℕ)) (files : List File) → IsStoredBelow children path files → IsStoredBelow (children ++ more) path files
below_more children more path files below = record {
  child = below.child;
  among = Contains-append_left children more below.child below.among;
  stored = below.stored;
  bound = below.bound;
}

-- below those that come behind others
below_behind : (children more : List Child) (path : List (List ℕ)) (files : List File) → IsStoredBelow more path files → IsStoredBelow (children ++ more) path files
below_behind children more path files below = record {
  child = below.child;
  among = Contains-append_right children more below.child below.among;
  stored = below.stored;
  bound = below.bound;
}

-- what is below two rows of children is stored under a directory that has both
pub both_above : (cap : Cap) (children more all : List Child) (path : List (List ℕ)) (files others : List File) → all ≡ children ++ more → HasChildren all cap
    → AreGroups (IsStoredBelow children path) files → AreGroups (IsStoredBelow more path) others → AreGroups (IsStoredFile cap path) (files ++ others)
both_above cap children more all path files others same has one other =
    let has_both : HasChildren (children ++ more) cap = subst (λ (cs : List Child). HasChildren cs cap) same has in
    both_groups (IsStoredFile cap path) files others
    (groups_more (IsStoredBelow children path) (IsStoredFile cap path) files
    (λ group below. stored_above cap (children ++ more) path group has_both (below_more children more path group below)) one)
    (groups_more (IsStoredBelow more path) (IsStoredFile cap path) others
    (λ group below. stored_above cap (children ++ more) path group has_both (below_behind children more path group below)) other)

-- one file at once below the last child
pub last_below : (children : List Child) (child : Child) (path : List (List ℕ)) (files : List File) → child.stored ≡ stored_name child.name
    → IsStoredAt child.cap (path ++ child.name ∷ []) files → IsStoredBelow (children ++ child ∷ []) path files
last_below children child path files stored at = record {
  child = child;
  among = Contains-push children child;
  stored = stored;
  bound = record {
    names = [];
    end = child.cap;
    led = refl;
    stored = subst (λ (p : List (List ℕ)). IsStoredAt child.cap p files) (sym (append-nil (path ++ child.name ∷ []))) at;
  };
}

-- a file in one piece
one_piece : (cap : Cap) (path : List (List ℕ)) (bytes : List ℕ) (files : List File) → length bytes < part_bytes → AreFileOf cap bytes
    → files ≡ record { path = path; bytes = bytes } ∷ [] → IsStoredAt cap path files
one_piece cap path bytes files short is files_are = record {
  pieces = [];
  end = bytes;
  short = short;
  files_are = files_are;
  stored = inl (subst (λ (bs : List ℕ). AreFileOf cap bs) (sym (append-nil bytes)) is);
}

-- nothing changes
pub stays : (children : List Child) (waiting : List Waiting) → StaysInHand children waiting children waiting
stays children waiting path files kept = kept

-- one change after another
pub stays_on : (children more most : List Child) (waiting left last : List Waiting) → StaysInHand children waiting more left → StaysInHand more left most last → StaysInHand children waiting most last
stays_on children more most waiting left last one other path files kept = other path files (one path files kept)

-- one more child
pub stays_below : (children : List Child) (child : Child) (waiting : List Waiting) → StaysInHand children waiting (children ++ child ∷ []) waiting
stays_below children child waiting path files (inl below) = inl (below_more children (child ∷ []) path files below)
stays_below children child waiting path files (inr waits) = inr waits

-- the same beside one more file on its way
pub waits_beside : (children : List Child) (waiting : List Waiting) (file : Waiting) (path : List (List ℕ)) (files : List File) → IsInHand children waiting path files → IsInHand children (waiting ++ file ∷ []) path files
waits_beside children waiting file path files (inl below) = inl below
waits_beside children waiting file path files (inr waits) =
    inr (record { file = waits.file; among = Contains-append_left waiting (file ∷ []) waits.file waits.among; short = waits.short; files_are = waits.files_are })

-- one more file on its way, beside what changes of the others
pub stays_waiting : (children more : List Child) (waiting left : List Waiting) (file : Waiting) → StaysInHand children waiting more left → StaysInHand children (waiting ++ file ∷ []) more (left ++ file ∷ [])
stays_waiting children more waiting left file still path files (inl below) = waits_beside more left file path files (still path files (inl below))
stays_waiting children more waiting left file still path files (inr waits) =
    ⊎_elim
    (λ (among : Contains waiting waits.file). waits_beside more left file path files
    (still path files (inr (record { file = waits.file; among = among; short = waits.short; files_are = waits.files_are }))))
    (λ (same : file ≡ waits.file). inr (record {
      file = file;
      among = Contains-push left file;
      short = subst (λ (w : Waiting). length w.bytes < part_bytes) (sym same) waits.short;
      files_are = waits.files_are ∙ ap (λ (w : Waiting). record { path = path ++ w.name ∷ []; bytes = w.bytes } ∷ []) (sym same);
    }))
    (Contains-push_cases waiting file waits.file waits.among)

-- the first that is on its way becomes a child
pub stays_settled : (children : List Child) (child : Child) (waiting left : List Waiting) (file : Waiting) → waiting ≡ file ∷ [] ++ left
    → child.name ≡ file.name → child.stored ≡ stored_name child.name → AreFileOf child.cap file.bytes → StaysInHand children waiting (children ++ child ∷ []) left
stays_settled children child waiting left file parts named stored is path files (inl below) = inl (below_more children (child ∷ []) path files below)
stays_settled children child waiting left file parts named stored is path files (inr waits) =
    ⊎_elim
    (λ (among : Contains (file ∷ []) waits.file). inl (settled_file (⊎_elim (λ (no : Contains [] waits.file). absurd (no_member no)) (λ (same : file ≡ waits.file). same)
    (Contains-push_cases [] file waits.file among))))
    (λ (among : Contains left waits.file). inr (record { file = waits.file; among = among; short = waits.short; files_are = waits.files_are }))
    (Contains-append_cases (file ∷ []) left waits.file (subst (λ (ws : List Waiting). Contains ws waits.file) parts waits.among))
  where
    no_member : Contains [] waits.file → ⊥
    no_member found = let lt = found.1 in omega arith

    settled_file : file ≡ waits.file → IsStoredBelow (children ++ child ∷ []) path files
    settled_file same = last_below children child path files stored
        (one_piece child.cap (path ++ child.name ∷ []) file.bytes files
        (subst (λ (w : Waiting). length w.bytes < part_bytes) (sym same) waits.short) is
        (waits.files_are ∙ ap (λ (w : Waiting). record { path = path ++ w.name ∷ []; bytes = w.bytes } ∷ []) (sym same)
        ∙ ap (λ (n : List ℕ). record { path = path ++ n ∷ []; bytes = file.bytes } ∷ []) (sym named)))

-- groups of files that are kept
pub groups_kept : (children more : List Child) (waiting left : List Waiting) (path : List (List ℕ)) (files : List File) → StaysInHand children waiting more left
    → AreGroups (IsInHand children waiting path) files → AreGroups (IsInHand more left path) files
groups_kept children more waiting left path files still are = groups_more (IsInHand children waiting path) (IsInHand more left path) files (still path) are

-- and one more
pub one_more_kept : (children more : List Child) (waiting left : List Waiting) (path : List (List ℕ)) (files group : List File) → StaysInHand children waiting more left
    → AreGroups (IsInHand children waiting path) files → IsInHand more left path group → AreGroups (IsInHand more left path) (files ++ group)
one_more_kept children more waiting left path files group still are kept =
    both_groups (IsInHand more left path) files group (groups_kept children more waiting left path files still are) (one_group (IsInHand more left path) group kept)

-- a file that goes on its way is kept
pub last_kept : (children : List Child) (waiting : List Waiting) (file : Waiting) (path below : List (List ℕ)) → length file.bytes < part_bytes → below ≡ path ++ file.name ∷ []
    → IsInHand children (waiting ++ file ∷ []) path (record { path = below; bytes = file.bytes } ∷ [])
last_kept children waiting file path below short place = inr (record {
  file = file;
  among = Contains-push waiting file;
  short = short;
  files_are = ap (λ (p : List (List ℕ)). record { path = p; bytes = file.bytes } ∷ []) place;
})

-- an outcome of which more is known, where nothing is claimed of a fault
pub on_ok_more : {T E : Type 0} (r : Result T E) (P Q : Type 0) → (P → Q) → OnOk r P → OnOk r Q
on_ok_more (Ok x) P Q more known = more known
on_ok_more (Err e) P Q more known = known

module _ {A : Type 0} (gave : A → File → A → Type 0) (kept : A → A → Type 0) (knew : A → List (List ℕ) → Cap → A → Type 0) where
  -- the files that were in hand, and those of one more name
  pub one_more_put : (known children more : List Child) (waiting left : List Waiting) (path : List (List ℕ)) (first middle asked last : A) → StaysInHand children waiting more left
      → Passes gave (IsIdle kept knew (IsKnownBelow known path)) (AreGroups (IsInHand children waiting path)) first middle → kept middle asked
      → Passes gave kept (IsInHand more left path) asked last → Passes gave (IsIdle kept knew (IsKnownBelow known path)) (AreGroups (IsInHand more left path)) first last
  one_more_put known children more waiting left path first middle asked last still before idle read =
      let rest : A → A → Type 0 = IsIdle kept knew (IsKnownBelow known path) in
      both_passed gave rest (AreGroups (IsInHand children waiting path)) (IsInHand more left path) (AreGroups (IsInHand more left path)) first asked last
      (λ fs group are kept_is. one_more_kept children more waiting left path fs group still are kept_is)
      (passed_then_rested gave rest (AreGroups (IsInHand children waiting path)) (AreGroups (IsInHand children waiting path)) first middle asked (λ fs are. are) before (inl idle))
      (passed_beside gave kept rest (IsInHand more left path) (IsInHand more left path) asked last (idle_kept kept knew (IsKnownBelow known path)) (λ fs are. are) read)

  -- the same where the source knew its cap
  pub one_more_known : (known children : List Child) (child : Child) (waiting : List Waiting) (path file : List (List ℕ)) (name : List ℕ) (first middle last : A) → file ≡ path ++ name ∷ []
      → Passes gave (IsIdle kept knew (IsKnownBelow known path)) (AreGroups (IsInHand children waiting path)) first middle → IsKnownChild knew file name child middle last
      → Passes gave (IsIdle kept knew (IsKnownBelow (known ++ child ∷ []) path)) (AreGroups (IsInHand children waiting path)) first last
  one_more_known known children child waiting path file name first middle last place before is =
      let holds : List File → Type 0 = AreGroups (IsInHand children waiting path) in
      let less : A → A → Type 0 = IsIdle kept knew (IsKnownBelow known path) in
      let rest : A → A → Type 0 = IsIdle kept knew (IsKnownBelow (known ++ child ∷ []) path) in
      passed_then_rested gave rest holds holds first middle last (λ fs are. are)
      (passed_beside gave less rest holds holds first middle
      (idle_more kept knew (IsKnownBelow known path) (IsKnownBelow (known ++ child ∷ []) path) (λ other cap below. known_more known (child ∷ []) path other cap below))
      (λ fs are. are) before)
      (known_step kept knew known child path file name middle last place is)

  -- all of a folder's files, once none is on its way and the source was told of them
  pub all_put : (known done children : List Child) (waiting : List Waiting) (path : List (List ℕ)) (first middle last : A)
      → ((files : List File) → IsInHand children waiting path files → IsStoredBelow done path files)
      → Passes gave (IsIdle kept knew (IsKnownBelow known path)) (AreGroups (IsInHand children waiting path)) first middle → kept middle last
      → Passes gave (IsIdle kept knew (IsKnownBelow (done ++ known) path)) (AreGroups (IsStoredBelow (done ++ known) path)) first last
  all_put known done children waiting path first middle last settled before idle =
      let all : List Child = done ++ known in
      let less : A → A → Type 0 = IsIdle kept knew (IsKnownBelow known path) in
      let rest : A → A → Type 0 = IsIdle kept knew (IsKnownBelow all path) in
      passed_then_rested gave rest (AreGroups (IsStoredBelow all path)) (AreGroups (IsStoredBelow all path)) first middle last (λ fs are. are)
      (passed_beside gave less rest (AreGroups (IsInHand children waiting path)) (AreGroups (IsStoredBelow all path)) first middle
      (idle_more kept knew (IsKnownBelow known path) (IsKnownBelow all path) (λ file cap below. known_behind done known path file cap below))
      (λ fs are. groups_more (IsInHand children waiting path) (IsStoredBelow all path) fs (λ group hand. below_more done known path group (settled group hand)) are) before)
      (inl idle)

  -- the files of a folder and of its folders, under a directory that has both
  pub both_put : (cap : Cap) (children more all : List Child) (path : List (List ℕ)) (first middle last : A) → all ≡ children ++ more → HasChildren all cap
      → Passes gave (IsIdle kept knew (IsKnownBelow children path)) (AreGroups (IsStoredBelow children path)) first middle
      → Passes gave (IsIdle kept knew (IsKnownBelow more path)) (AreGroups (IsStoredBelow more path)) middle last
      → Passes gave (IsIdle kept knew (IsKnownFile cap path)) (AreGroups (IsStoredFile cap path)) first last
  both_put cap children more all path first middle last same has one other =
      let has_both : HasChildren (children ++ more) cap = subst (λ (cs : List Child). HasChildren cs cap) same has in
      let rest : A → A → Type 0 = IsIdle kept knew (IsKnownFile cap path) in
      both_passed gave rest (AreGroups (IsStoredBelow children path)) (AreGroups (IsStoredBelow more path)) (AreGroups (IsStoredFile cap path)) first middle last
      (λ fs others are. both_above cap children more all path fs others same has are)
      (passed_beside gave (IsIdle kept knew (IsKnownBelow children path)) rest (AreGroups (IsStoredBelow children path)) (AreGroups (IsStoredBelow children path)) first middle
      (idle_more kept knew (IsKnownBelow children path) (IsKnownFile cap path)
      (λ file k below. known_above cap (children ++ more) path file k has_both (known_more children more path file k below))) (λ fs are. are) one)
      (passed_beside gave (IsIdle kept knew (IsKnownBelow more path)) rest (AreGroups (IsStoredBelow more path)) (AreGroups (IsStoredBelow more path)) middle last
      (idle_more kept knew (IsKnownBelow more path) (IsKnownFile cap path)
      (λ file k below. known_above cap (children ++ more) path file k has_both (known_behind children more path file k below))) (λ fs are. are) other)

  -- what stands below the folders so far, and what stands below one more
  pub one_more_folder : (children : List Child) (child : Child) (path : List (List ℕ)) (first middle last : A) → child.stored ≡ stored_name child.name
      → Passes gave (IsIdle kept knew (IsKnownBelow children path)) (AreGroups (IsStoredBelow children path)) first middle
      → Passes gave (IsIdle kept knew (IsKnownFile child.cap (path ++ child.name ∷ []))) (AreGroups (IsStoredFile child.cap (path ++ child.name ∷ []))) middle last
      → Passes gave (IsIdle kept knew (IsKnownBelow (children ++ child ∷ []) path)) (AreGroups (IsStoredBelow (children ++ child ∷ []) path)) first last
  one_more_folder children child path first middle last stored before after =
      let all : List Child = children ++ child ∷ [] in
      let rest : A → A → Type 0 = IsIdle kept knew (IsKnownBelow all path) in
      let one : List File → Type 0 = AreGroups (IsStoredBelow children path) in
      let other : List File → Type 0 = AreGroups (IsStoredFile child.cap (path ++ child.name ∷ [])) in
      both_passed gave rest one other (AreGroups (IsStoredBelow all path)) first middle last
      (λ fs more here there. one_more_stored children child path fs more stored here there)
      (passed_beside gave (IsIdle kept knew (IsKnownBelow children path)) rest one one first middle
      (idle_more kept knew (IsKnownBelow children path) (IsKnownBelow all path) (λ file k below. known_more children (child ∷ []) path file k below)) (λ fs are. are) before)
      (passed_beside gave (IsIdle kept knew (IsKnownFile child.cap (path ++ child.name ∷ []))) rest other other middle last
      (idle_more kept knew (IsKnownFile child.cap (path ++ child.name ∷ [])) (IsKnownBelow all path) (λ file k led. known_last children child path file k stored led)) (λ fs are. are) after)

  -- the same, as other names have it
  pub put_moved : (known others children more : List Child) (waiting left : List Waiting) (path : List (List ℕ)) (first middle last : A)
      → others ≡ known → more ≡ children → left ≡ waiting → last ≡ middle
      → Passes gave (IsIdle kept knew (IsKnownBelow known path)) (AreGroups (IsInHand children waiting path)) first middle
      → Passes gave (IsIdle kept knew (IsKnownBelow others path)) (AreGroups (IsInHand more left path)) first last
  put_moved known others children more waiting left path first middle last knowns childs waits moves before =
      subst (λ (ks : List Child). Passes gave (IsIdle kept knew (IsKnownBelow ks path)) (AreGroups (IsInHand more left path)) first last) (sym knowns)
      (subst (λ (cs : List Child). Passes gave (IsIdle kept knew (IsKnownBelow known path)) (AreGroups (IsInHand cs left path)) first last) (sym childs)
      (subst (λ (ws : List Waiting). Passes gave (IsIdle kept knew (IsKnownBelow known path)) (AreGroups (IsInHand children ws path)) first last) (sym waits)
      (subst (λ (s : A). Passes gave (IsIdle kept knew (IsKnownBelow known path)) (AreGroups (IsInHand children waiting path)) first s) (sym moves) before)))
