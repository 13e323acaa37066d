-- What is found under a storage index and what stands there.
use Rattle.std.specs.Prelude.{◌≡◌, ◌<◌, ◌==◌, ℕ, List, map, filter, Some, None, slice_get, Contains}
use Rattle.std.specs.Option.{option_map}
use Rattle.std.specs.List.{filter_map, range_with_len}
use Rattle.share_store.specs.Shares.{Shares}
use Rattle.grid.specs.Standing.{standing}
use Rattle.grid.specs.Found.{found_below}

-- Where the same stands under an index the same is found, and what stands is found. What is found of a number is what
-- stands under it, server by server, so the first one found is at the least server that has one.
pub record FoundLaws : Type 0 where
  pub determined : (ms ns : List Shares) (index : List ℕ) (servers : ℕ) → ((s number : ℕ) → standing ms s (index, number) ≡ standing ns s (index, number)) → found_below ms index servers ≡ found_below ns index servers
  pub complete : (maps : List Shares) (index : List ℕ) (servers s number : ℕ) (bytes : List ℕ) → s < servers → standing maps s (index, number) ≡ Some bytes → Contains {X = ℕ × ℕ × List ℕ} (found_below maps index servers) (s, number, bytes)
  pub of_number : (maps : List Shares) (index : List ℕ) (servers number : ℕ) → map {B = ℕ × List ℕ} (λ f. (f.0, f.2)) (filter (λ f. f.1 == number) (found_below maps index servers))
      ≡ filter_map (λ s. option_map {U = ℕ × List ℕ} (λ bytes. (s, bytes)) (standing maps s (index, number))) (range_with_len 0 servers)
  pub first : (maps : List Shares) (index : List ℕ) (servers number s : ℕ) (f : ℕ × ℕ × List ℕ) → slice_get (filter (λ f. f.1 == number) (found_below maps index servers)) 0 ≡ Some f → s < f.0 → standing maps s (index, number) ≡ None
