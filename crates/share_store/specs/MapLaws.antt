-- Laws of the maps that stores stand for.
use Rattle.std.specs.Prelude.{◌≡◌, ◌<◌, ◌+◌, ◌^◌, ℕ, Bool, true, List, T}
use Rattle.std.specs.Ordering.{nat_cmp}
use Rattle.std.proofs.Common.{sym, subst, arith}
use Rattle.std.specs.Cmp.{IsTotalOrder, nat_cmp_total, then_total, on_total}
use Rattle.std.specs.Cmp.Lexicographic.{slice_cmp, nat_list_cmp_total}
use Rattle.std.proofs.lemmas.Map.Lookups.{CmpEqualImpliesEq, exact_unsigned, exact_bytes, exact_pairs}
use Rattle.std.specs.FinMap.{from_sorted, is_sorted, entries, entries-from_sorted}
use Rattle.share_store.specs.Shares.{ShareEntry, key_cmp}

pub key_cmp_total : IsTotalOrder key_cmp
key_cmp_total = then_total (on_total (λ k. k.0) nat_list_cmp_total) (on_total (λ k. k.1) nat_cmp_total)

-- keys that compare alike are one
pub key_cmp_exact : CmpEqualImpliesEq key_cmp
key_cmp_exact = exact_pairs (slice_cmp nat_cmp) nat_cmp exact_bytes exact_unsigned

pub is_T : (b : Bool) → b ≡ true → T b
is_T b h = subst T (sym h) tt

-- a map made of sorted entries has those entries
pub entries_kept : (es : List ShareEntry) → is_sorted key_cmp es ≡ true → entries (from_sorted {R = key_cmp} es) ≡ es
entries_kept es h = entries-from_sorted key_cmp es (is_T _ h)

pub held_fits : (room held : ℕ) → room + held < 2 ^ 64 → held < 2 ^ 64
held_fits room held lt = omega arith
