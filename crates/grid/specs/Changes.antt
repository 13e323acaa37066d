-- What a change at one place does to what stands. No other place is changed.
use Rattle.std.specs.Prelude.{◌≡◌, ℕ, List, Option, Some, None, unwrap_or, ◌&&◌, ◌==◌, if◌then◌else◌}
use Rattle.std.specs.Option.{option_map}
use Rattle.std.specs.Ordering.{eq_by_cmp}
use Rattle.share_store.specs.Shares.{ShareKey, key_cmp}
use Rattle.share_store.specs.Toggle.{toggled}
use Rattle.grid.specs.Standing.{Standing}

-- with what stands at one place changed
abbrev pub changed_at : ℕ → ShareKey → (Option (List ℕ) → Option (List ℕ)) → Standing → Standing
changed_at server key change before s q =
    if s == server && eq_by_cmp key_cmp q key then change (before s q) else before s q

-- with a share put at one place, where none stood; for private clauses
abbrev pub put_at : ℕ → ShareKey → List ℕ → Standing → Standing
put_at server key bytes before = changed_at server key (λ stood. Some (unwrap_or stood bytes)) before

-- without the share at one place
abbrev pub without : ℕ → ShareKey → Standing → Standing
without server key before = changed_at server key (λ _. None) before

-- with the lowest bit of a byte changed at one place, where there is such a byte
abbrev pub spoiled : ℕ → ShareKey → ℕ → Standing → Standing
spoiled server key place before = changed_at server key (λ stood. option_map (λ bytes. toggled bytes place) stood) before

-- A share that is spoiled twice at one place stands as before.
pub record SpoilLaws : Type 0 where
  pub undoes : (server : ℕ) (key : ShareKey) (place : ℕ) (before : Standing) → spoiled server key place (spoiled server key place before) ≡ before
