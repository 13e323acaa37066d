-- At which calls a store fails that was told so.
use Rattle.std.specs.Prelude.{◌≡◌, ◌+◌, ◌-◌, ◌^◌, ◌==◌, ◌&&◌, ℕ, Bool, not, if◌then◌else◌}
use Rattle.share_store.specs.declared.fail_at.FailAt.{FailAt}

-- which of the calls to come fails, from 1; 0 where none does
abbrev pub failing_call : FailAt → ℕ
failing_call store = store.left

-- whether each one after it fails too
abbrev pub fails_for_good : FailAt → Bool
fails_for_good store = store.for_good

-- how many failed
abbrev pub failed_calls : FailAt → ℕ
failed_calls store = store.failures

-- whether its count of failures is full
abbrev pub is_full : FailAt → Bool
is_full store = failed_calls store == 2 ^ 64 - 1

-- whether the next call fails
abbrev pub fails_next : FailAt → Bool
fails_next store = failing_call store == 1 && not (is_full store)

-- which of the calls after the next one fails
abbrev pub failing_later : FailAt → ℕ
failing_later store =
    if is_full store then failing_call store
    else if failing_call store == 1 && fails_for_good store then 1
    else failing_call store - 1

-- One call came: it failed where it was to fail, and the others are counted on.
pub record IsCalledOnce (old new : FailAt) : Type 0 where
  pub failed : failed_calls new ≡ (if fails_next old then failed_calls old + 1 else failed_calls old)
  pub later : failing_call new ≡ failing_later old
  pub for_good : fails_for_good new ≡ fails_for_good old
