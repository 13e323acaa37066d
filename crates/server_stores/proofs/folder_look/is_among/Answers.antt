use Rattle.std.proofs.Common.{◌≡◌, ◌≢◌, ◌<◌, ◌+◌, ℕ, List, length, get_or, subst, true}
use Rattle.std.specs.List.{AllWithin}
use Rattle.std.proofs.lemmas.List.{get_or_default}
use Rattle.std.proofs.lemmas.List.Elements.{AllWithin-more}
use Rattle.server_stores.proofs.folder_look.is_among.Goals as goal

-- what holds of the elements before one, and of it
one_more : {X : Type 0} (P : X → Type 0) (xs : List X) (i : ℕ) (x : X) → AllWithin P xs 0 i → i < length xs → P (get_or xs i x)
    → AllWithin P xs 0 (i + 1)
one_more P xs i x before below holds = AllWithin-more P xs 0 i before (λ d. subst P (get_or_default xs i x d below) holds)

pub loop-path-preserved : goal.loop-path-preserved
loop-path-preserved c =
    one_more (λ path. path.now ≢ c.args.folder.now) c.args.paths.now c.loop-path.path-index _ c.loop-path.invariant c.loop-path-test.true
    (λ same. let yes : c.is_path.result ≡ true = c.is_path.ensures.1 same in absurd (cc (yes, c.if-is_path.false)))
