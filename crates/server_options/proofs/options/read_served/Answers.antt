use Rattle.std.proofs.Common.{◌≡◌, ℕ, List, map, subst}
use Rattle.std.specs.List.{All}
use Rattle.std.proofs.lemmas.List.Elements.{All-map}
use Rattle.server_options.specs.Folders.{IsStoreFolder}
use Rattle.server_options.specs.Missing.{AreServedWithout, or_missing}
use Rattle.server_options.specs.declared.store_names.StoreWanted.{StoreWanted}
use Rattle.server_options.proofs.AskedLemmas.{of_the_same}
use Rattle.server_options.proofs.options.read_served.Goals as goal

-- the stores, where the paths were given as texts
of_given : {P : Type 0} (text : P → List ℕ) (given : List (List ℕ)) (named stores : List StoreWanted) (missing : List P) → map text missing ≡ given
    → All (λ path. IsStoreFolder named (text path)) missing → stores ≡ map (or_missing (map text missing)) named
    → AreServedWithout given named stores
of_given text given named stores missing texts folders left = record {
  folders = subst (λ paths. All (λ path. IsStoreFolder named path) paths) texts (All-map (λ path. IsStoreFolder named path) text missing folders);
  left = subst (λ paths. stores ≡ map (or_missing paths) named) texts left;
}

pub returns-clause-served : goal.returns-clause-served
returns-clause-served c = record {
  all = c.in_ok-named.named.items;
  given = c.in_ok-named.ensures.given;
  without = of_given (λ path. path.now) _ c.in_ok-named.named.items c.in_ok-stores.stores.items c.in_ok-missing.missing.items c.in_ok-missing.ensures
      (of_the_same (λ named missing. All (λ path. IsStoreFolder named path.now) missing) c.deref.ensures.value c.deref-2.ensures.value
      (c.are_folders_of.ensures c.if-not-are_folders_of.false))
      (of_the_same (λ named missing. c.in_ok-stores.stores.items ≡ map (or_missing (map (λ path. path.now) missing)) named) c.deref-3.ensures.value c.deref-4.ensures.value c.in_ok-stores.ensures);
}
