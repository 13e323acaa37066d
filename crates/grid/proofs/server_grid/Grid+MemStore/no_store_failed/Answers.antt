use Rattle.std.proofs.Common.{◌≡◌, ℕ, List, Bool, Option, Some, None, slice_get, refl, ap, subst, ◌∙◌}
use Rattle.std.specs.Option.{option_map, option_map_or}
use Rattle.std.proofs.lemmas.Option.{slice_get-map}
use Rattle.share_store.specs.History.{History}
use Rattle.share_store.specs.Shares.{Shares}
use Rattle.grid.specs.GridState.{StoreState, GridState, states, failures_at}
use Rattle.grid.proofs.server_grid.Grid+MemStore.no_store_failed.Goals as goal

none_of : {S : Type 0} (f : S → StoreState) (o : Option S) → ((x : S) → (f x).failures ≡ 0) → option_map_or (λ (t : StoreState). t.failures) (option_map f o) 0 ≡ 0
none_of f None none = refl
none_of f (Some x) none = none x

none_failed : {S : Type 0} (shares : S → Shares) (room held : S → ℕ) (honest : S → Bool) (history : S → History) (stores : List S) (s : ℕ) → failures_at (states shares room held (λ _. 0) honest history stores) s ≡ 0
none_failed shares room held honest history stores s =
    ap (λ o. option_map_or (λ (t : StoreState). t.failures) o 0) (slice_get-map (λ store. record { shares = shares store; room = room store; held = held store; failures = 0; honest = honest store; history = history store }) stores s)
    ∙ none_of (λ store. record { shares = shares store; room = room store; held = held store; failures = 0; honest = honest store; history = history store }) (slice_get stores s) (λ x. refl)

pub returns : goal.returns
returns c s = subst (λ (g : GridState). failures_at g s ≡ 0) c.self.view_is (none_failed _ _ _ _ _ c.self.inside.stores.items s)
