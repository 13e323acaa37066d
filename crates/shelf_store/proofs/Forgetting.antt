-- A look that takes a share out of the index, and what is counted after one.
use Rattle.std.proofs.Common.{◌≡◌, ◌<◌, ◌+◌, Option, None, Some, Result, Ok, Err, ap, subst, ◌∙◌, inr}
use Rattle.std.specs.Prelude.{IfOk, IfSome, IfNone, OnOk, IsErrAnd}
use Rattle.std.specs.FinMap.{get, remove}
use Rattle.std.specs.declared.alloc.AllocError.{AllocError}
use Rattle.share_store.specs.Shares.{Shares, ShareKey}
use Rattle.share_shelf.specs.declared.shelf.Shelf.{Ghosts}
use Rattle.shelf_store.specs.Known.{known, IsAsRoomy}
use Rattle.shelf_store.specs.Looks.{Lent, CountsOnly, CountsNone, Forgets}
use Rattle.shelf_store.specs.Standing.{IsHonest}
use Rattle.shelf_store.specs.declared.share_sizes.ShareSizes.{ShareSizes}
use Rattle.shelf_store.specs.declared.shelf_store.ShelfStore.{ShelfStore}
use Rattle.shelf_store.proofs.Steps.{at_doubt}

-- an error gives nothing
pub err_none : {A E : Type 0} (P : E → Type 0) (Q : A → Type 0) (r : Result A E) → IsErrAnd r P → IfOk r Q
err_none P Q (Ok x) is = absurd is
err_none P Q (Err e) is = tt

pub err_not : {A E : Type 0} (P : E → Type 0) (r : Result A E) → IsErrAnd r P → OnOk r ⊥
err_not P (Ok x) is = absurd is
err_not P (Err e) is = tt

pub ok_no_err : {A E : Type 0} {x : A} {e : E} → ◌≡◌ {A = Result A E} (Ok x) (Err e) → ⊥
ok_no_err is = cc

module _ {X : Type 0} {g : Ghosts X} where
  -- no failure is counted after a look in which the shelf didn't fail, where it isn't honest
  pub none_counted : {A : Type 0} {self mid new : ShelfStore X g} (r : Result (Option A) AllocError) → CountsOnly mid new → (IsHonest self → ⊥) → (g.failures self.shelf < g.failures mid.shelf → ⊥) → CountsNone r self new
  none_counted {self = self} r counts not_honest calm = record {
    counts = λ more. absurd (calm (subst (λ (s : X). g.failures self.shelf < g.failures s) counts.shelf more));
    counts_only = λ h same. absurd (not_honest h);
  }

  -- and then the share is no longer in the index, and nothing is given
  pub forgotten : {self mid new : ShelfStore X g} {key : ShareKey} (r : Result Lent AllocError) → CountsOnly mid new → (IsHonest self → ⊥) → (g.failures self.shelf < g.failures mid.shelf → ⊥) → IfOk r (λ given. given ≡ None)
      → mid.sizes ≡ self.sizes → known new.sizes ≡ remove (known mid.sizes) key → IsAsRoomy mid.sizes new.sizes → Forgets key r self new
  forgotten {self} {mid} {new} {key} r counts not_honest calm none same gone room =
      let left : known new.sizes ≡ remove (known self.sizes) key = gone ∙ ap (λ (i : ShareSizes). remove (known i) key) same in
      record {
        forgets = λ calmly. by_case r none (ap (λ (m : Shares). get m key) left ∙ at_doubt key None (known self.sizes));
        forgets_only = inr left;
        kept_honest = λ h. absurd (not_honest h);
        kept_failed = λ more. absurd (calm (subst (λ (s : X). g.failures self.shelf < g.failures s) counts.shelf more));
        kept_given = not_given r none;
        room = room ∙ ap (λ (i : ShareSizes). i.room + i.held) same;
      }
    where
      by_case : (q : Result Lent AllocError) → IfOk q (λ given. given ≡ None) → get (known new.sizes) key ≡ None → IfOk q (λ bytes. IfNone bytes (get (known new.sizes) key ≡ None))
      by_case (Ok None) is holds = holds
      by_case (Ok (Some b)) is holds = tt
      by_case (Err e) is holds = tt

      not_given : (q : Result Lent AllocError) → IfOk q (λ given. given ≡ None) → IfOk q (λ bytes. IfSome bytes (λ b. new.sizes ≡ self.sizes))
      not_given (Ok None) is = tt
      not_given (Ok (Some b)) is = cc
      not_given (Err e) is = tt
