-- The request that comes first of the items that bytes complete.
use Rattle.std.specs.Prelude.{◌≡◌, ℕ, Bool, List, ◌∷◌}
use Rattle.http_edge.specs.declared.item.Head.{Head}
use Rattle.http_edge.specs.declared.item.Item.{Item}
use Rattle.http_edge.specs.declared.item.Item.TheVariants.{Request}

-- the first item is a request with this head
pub record HasHeadFirst (items : List Item) (head : Head) : Type 0 where
  pub body : List ℕ
  pub close : Bool
  pub more : List Item
  pub is : items ≡ Request head body close ∷ more

-- the first item isn't a request, or there is none
abbrev pub HasNoHeadFirst : List Item → Type 0
HasNoHeadFirst items = (head : Head) → HasHeadFirst items head → ⊥
