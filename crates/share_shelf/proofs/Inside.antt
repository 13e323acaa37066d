-- A shelf with a shelf in memory inside.
use Rattle.std.proofs.Common.{◌≡◌, ℕ, Result, Some, sym, subst, length}
use Rattle.std.specs.Prelude.{OnOk}
use Rattle.std.specs.FinMap.{empty}
use Rattle.share_store.specs.Shares.{Shares}
use Rattle.share_store.specs.History.{History, GoesOnBy}
use Rattle.share_shelf.specs.Kept.{told_of, states_from, HadBeen}
use Rattle.share_shelf.specs.CrashStates.{Keeps, LeavesOnly, IsChanged, MayBeChanged}
use Rattle.share_shelf.specs.declared.mem_shelf.MemShelf.{MemShelf}

abbrev pub moment_of : MemShelf → ℕ
moment_of shelf = length (told_of shelf.changes.items)

abbrev pub left_of : MemShelf → ℕ → Shares → Type 0
left_of shelf t c = HadBeen (told_of shelf.changes.items) t c

-- a shelf that is the one before keeps what that did
pub keeps_as : (old new : MemShelf) (m : Shares) → new ≡ old → Keeps moment_of left_of old m → Keeps moment_of left_of new m
keeps_as old new m same keeps = subst (λ (s : MemShelf). Keeps moment_of left_of s m) (sym same) keeps

-- and leaves what it did
pub leaves_as : (old mid new : MemShelf) (P : Shares → Type 0) → mid ≡ old → LeavesOnly moment_of left_of mid new P → LeavesOnly moment_of left_of old new P
leaves_as old mid new P same leaves = subst (λ (s : MemShelf). LeavesOnly moment_of left_of s new P) same leaves

-- and is changed as that is
pub each_as : {E : Type 0} (r : Result Unit E) (old mid new : MemShelf) (f : Shares → Shares) → mid ≡ old → OnOk r ((c : Shares) → left_of new (moment_of new) c → IsChanged moment_of left_of mid f c)
    → OnOk r ((c : Shares) → left_of new (moment_of new) c → IsChanged moment_of left_of old f c)
each_as r old mid new f same each = subst (λ (s : MemShelf). OnOk r ((c : Shares) → left_of new (moment_of new) c → IsChanged moment_of left_of s f c)) same each

pub maybe_as : (old mid new : MemShelf) (f : Shares → Shares) → mid ≡ old → LeavesOnly moment_of left_of mid new (MayBeChanged moment_of left_of mid f) → LeavesOnly moment_of left_of old new (MayBeChanged moment_of left_of old f)
maybe_as old mid new f same leaves = subst (λ (s : MemShelf). LeavesOnly moment_of left_of s new (MayBeChanged moment_of left_of s f)) same leaves

abbrev pub history_of : MemShelf → History
history_of shelf = Some (states_from empty (told_of shelf.changes.items))

-- and its history goes on as that one's
pub goes_as : (old mid new : MemShelf) (P : Shares → Type 0) → mid ≡ old → GoesOnBy P (history_of mid) (history_of new) → GoesOnBy P (history_of old) (history_of new)
goes_as old mid new P same goes = subst (λ (s : MemShelf). GoesOnBy P (history_of s) (history_of new)) same goes
