use Rattle.std.proofs.Common.{◌≡◌, ◌∙◌, [], ◌∷◌, ◌||◌, Bool, List, ap, map, refl}
use Rattle.std.specs.List.{list_any}
use Rattle.std.specs.Prelude.{bytes_eq}
use Rattle.server_options.proofs.store_names.is_among.Goals as goal

-- a test of what stands in the elements is one of the list of these
any_in : {X Y : Type 0} (p : Y → Bool) (f : X → Y) (xs : List X) → list_any (λ x. p (f x)) xs ≡ list_any p (map f xs)
any_in p f [] = refl
any_in p f (x ∷ xs) = ap (λ b. p (f x) || b) (any_in p f xs)

pub returns : goal.returns
returns c = c.any_is.ensures ∙ any_in (λ one. bytes_eq one c.args.folder.now) (λ path. path.now) c.args.paths.now
