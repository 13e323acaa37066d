-- What a call sees of a grid whose stores are honest, or changed by others too.
use Rattle.std.specs.Prelude.{◌≡◌, ◌⊎◌, ℕ, IsTrue, List, [], ◌∷◌, All, IsSome, Some, slice_get}
use Rattle.std.specs.FinMap.{get}
use Rattle.share_store.specs.Shares.{Shares, ShareKey}
use Rattle.share_store.specs.Shared.{IsShared, StoodAmid, IsSeenAmid, TellsOn}
use Rattle.grid.specs.GridState.{StoreState, GridState}

-- each store is honest, or one that others change
abbrev pub AllTell : GridState → Type 0
AllTell grid = All (λ t. IsTrue t.honest ⊎ IsShared t.honest t.history) grid.stores

-- what is seen of a store in a call: of an honest one what stands there, of another each place at a moment of its own
pub record IsViewOf (old new : StoreState) (view : Shares) : Type 0 where
  pub honest : IsTrue old.honest → view ≡ old.shares
  pub shared : IsShared old.honest old.history → IsSeenAmid old.history new.history view

-- server by server
abbrev pub AreViews : List StoreState → List StoreState → List Shares → Type 0
AreViews [] [] [] = Unit {0}
AreViews (old ∷ olds) (new ∷ news) (view ∷ views) = IsViewOf old new view × AreViews olds news views
AreViews olds news views = ⊥

-- this is said of what a call sees
abbrev pub Sees : GridState → GridState → (List Shares → Type 0) → Type 0
Sees old new Says = (views : List Shares) × AreViews old.stores new.stores views × Says views

-- A share stood at a place of a server's store at some moment of a call: in an honest store one stands after it, and one
-- that others change tells of a moment in it when one stood.
pub record SomeStood (old new : GridState) (server : ℕ) (key : ShareKey) : Type 0 where
  pub before : StoreState
  pub after : StoreState
  pub was : slice_get old.stores server ≡ Some before
  pub is : slice_get new.stores server ≡ Some after
  pub honest : IsTrue before.honest → IsSome (get after.shares key)
  pub shared : IsShared before.honest before.history → (c : Shares) × StoodAmid before.history after.history c × IsSome (get c key)

-- each store went from one state to another so, server by server
abbrev pub EachStore : (StoreState → StoreState → Type 0) → List StoreState → List StoreState → Type 0
EachStore Went [] [] = Unit {0}
EachStore Went (old ∷ olds) (new ∷ news) = Went old new × EachStore Went olds news
EachStore Went olds news = ⊥

-- an honest store is honest still; one that others change is one still, and what it told stays
pub record TellsStill (old new : StoreState) : Type 0 where
  pub honest : IsTrue old.honest → IsTrue new.honest
  pub shared : TellsOn (λ (t : StoreState). t.honest) (λ (t : StoreState). t.history) old new

-- no store forgets what it told, and each tells still
pub record TellOn (old new : GridState) : Type 0 where
  pub all : AllTell old → AllTell new
  pub each : EachStore TellsStill old.stores new.stores

-- an honest store is honest still, and what stands in it stays
abbrev pub StandsStill : StoreState → StoreState → Type 0
StandsStill old new = IsTrue old.honest → IsTrue new.honest × (new.shares ≡ old.shares)

-- what stands in the honest stores stays, whatever the others are
abbrev pub StandStill : GridState → GridState → Type 0
StandStill old new = EachStore StandsStill old.stores new.stores

-- an honest store is honest still, and where a share stood in it one stands; for private clauses
abbrev pub KeepsShares : StoreState → StoreState → Type 0
KeepsShares old new = IsTrue old.honest → IsTrue new.honest × ((key : ShareKey) → IsSome (get old.shares key) → IsSome (get new.shares key))
