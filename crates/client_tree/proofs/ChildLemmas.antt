-- Children of a directory.
use Rattle.std.proofs.Common.{◌≡◌, ℕ, List, Some, sym, ap, ◌∙◌}
use Rattle.std.specs.Prelude.{Contains}
use Rattle.std.proofs.lemmas.List.Elements.{All-contains}
use Rattle.caps.specs.declared.cap.Cap.{Cap}
use Rattle.path_walk.specs.Walk.{cap_named}
use Rattle.client_core.specs.Way.{IsChildOf}
use Rattle.client_tree.specs.Stored.{stored_name, HasChildren}
use Rattle.client_tree.specs.declared.children.Child.{Child}

-- one among the children that a directory has, stored under its own name, is a child of it
pub among_is_child : (cap : Cap) (children : List Child) (child : Child) → HasChildren children cap → Contains children child → child.stored ≡ stored_name child.name
    → IsChildOf cap (stored_name child.name) child.cap
among_is_child cap children child has among stored =
    let named : cap_named child.stored has.entries ≡ Some child.cap =
    All-contains (λ (c : Child). cap_named c.stored has.entries ≡ Some c.cap) children child has.named among in
    record {
      entries = has.entries;
      of_cap = has.of_cap;
      found = ap (λ (n : List ℕ). cap_named n has.entries) (sym stored) ∙ named;
    }
