-- Files that are stored below children.
use Rattle.std.proofs.Common.{◌≡◌, ℕ, List, [], ◌∷◌, ◌++◌, refl, sym, ap, ◌∙◌, subst, append-nil, append_assoc, arith}
use Rattle.std.specs.Prelude.{Contains, flat_map}
use Rattle.std.proofs.lemmas.List.Concat.{flat_map-append}
use Rattle.std.proofs.lemmas.List.Elements.{All-nil, All-append, All-cons, All-weaker, Contains-append_left, Contains-append_right}
use Rattle.caps.specs.declared.cap.Cap.{Cap}
use Rattle.client_core.specs.Way.{IsChildOf}
use Rattle.client_tree.specs.Runs.{File, AreGroups}
use Rattle.client_tree.specs.Stored.{stored_name, IsStoredAt, IsStoredFile, IsStoredBelow, HasChildren}
use Rattle.client_tree.specs.declared.children.Child.{Child}
use Rattle.client_tree.proofs.ChildLemmas.{among_is_child}

-- no groups, one of them, those of which more is known, and those behind others
pub no_groups : (holds : List File → Type 0) → AreGroups holds []
no_groups holds = record { groups = []; each = All-nil holds; joined = refl }

pub one_group : (holds : List File → Type 0) (files : List File) → holds files → AreGroups holds files
one_group holds files is = record { groups = files ∷ []; each = All-cons holds files [] is (All-nil holds); joined = append-nil files }

pub groups_more : (holds other : List File → Type 0) (files : List File) → ((group : List File) → holds group → other group) → AreGroups holds files → AreGroups other files
groups_more holds other files known are = record { groups = are.groups; each = All-weaker holds other known are.groups are.each; joined = are.joined }

pub both_groups : (holds : List File → Type 0) (files more : List File) → AreGroups holds files → AreGroups holds more → AreGroups holds (files ++ more)
both_groups holds files more one other = record {
  groups = one.groups ++ other.groups;
  each = All-append holds one.groups other.groups one.each other.each;
  joined =
      flat_map-append (λ (group : List File). group) one.groups other.groups
      ∙ ap (λ (fs : List File). fs ++ flat_map (λ (group : List File). group) other.groups) one.joined ∙ ap (λ (fs : List File). files ++ fs) other.joined;
}

-- a file that was stored by itself
pub own_stored : (cap : Cap) (path : List (List ℕ)) (files : List File) → IsStoredAt cap path files → AreGroups (IsStoredFile cap path) files
own_stored cap path files stored =
    one_group (IsStoredFile cap path) files
    (record { names = []; end = cap; led = refl; stored = subst (λ (p : List (List ℕ)). IsStoredAt cap p files) (sym (append-nil path)) stored })

-- what was stored below children is stored under a directory that has them
pub stored_above : (cap : Cap) (children : List Child) (path : List (List ℕ)) (files : List File) → HasChildren children cap → IsStoredBelow children path files → IsStoredFile cap path files
stored_above cap children path files has below =
    let child : Child = below.child in
    let is : IsChildOf cap (stored_name child.name) child.cap = among_is_child cap children child has below.among below.stored in
    record {
      names = child.name ∷ below.bound.names;
      end = below.bound.end;
      led = (child.cap, (is, below.bound.led));
      stored = subst (λ (p : List (List ℕ)). IsStoredAt below.bound.end p files) (append_assoc path (child.name ∷ []) below.bound.names) below.bound.stored;
    }

-- the files that were stored below some children, and then those of one more
pub one_more_stored : (children : List Child) (child : Child) (path : List (List ℕ)) (files more : List File) → child.stored ≡ stored_name child.name
    → AreGroups (IsStoredBelow children path) files → AreGroups (IsStoredFile child.cap (path ++ child.name ∷ [])) more → AreGroups (IsStoredBelow (children ++ child ∷ []) path) (files ++ more)
one_more_stored children child path files more stored before after =
    let all : List Child = children ++ child ∷ [] in
    let last : Contains all child = Contains-append_right children (child ∷ []) child (0, omega arith, refl) in
    both_groups (IsStoredBelow all path) files more
    (groups_more (IsStoredBelow children path) (IsStoredBelow all path) files
    (λ f below. record { child = below.child; among = Contains-append_left children (child ∷ []) below.child below.among; stored = below.stored; bound = below.bound }) before)
    (groups_more (IsStoredFile child.cap (path ++ child.name ∷ [])) (IsStoredBelow all path) more
    (λ f bound. record { child = child; among = last; stored = stored; bound = bound }) after)
