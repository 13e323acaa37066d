-- What stands once a share was put.
use Rattle.std.proofs.Common.{◌≡◌, Bool, true, false, cond, List, ℕ, Option, Some, None, is_some, refl, sym, ap, ◌∙◌}
use Rattle.std.specs.Prelude.{unwrap_or}
use Rattle.std.specs.Ordering.{eq_by_cmp}
use Rattle.std.specs.FinMap.{get, insert, get-insert}
use Rattle.std.proofs.lemmas.Map.Views.{tells_apart}
use Rattle.share_store.specs.Shares.{Shares, ShareKey, key_cmp}
use Rattle.share_store.specs.MapLaws.{key_cmp_total, key_cmp_exact}
use Rattle.share_store.specs.Put.{put_once}

pub get-put : (m : Shares) (key : ShareKey) (b : List ℕ) (q : ShareKey) → get (put_once m key b) q ≡ cond (eq_by_cmp key_cmp q key) (Some (unwrap_or (get m q) b)) (get m q)
get-put m key b q = by_case (get m key) refl
  where
    tied : eq_by_cmp key_cmp q key ≡ true → get m q ≡ get m key
    tied t = ap (get m) (tells_apart key_cmp_exact q key t)

    there : (t : Bool) (x : List ℕ) → eq_by_cmp key_cmp q key ≡ t → get m key ≡ Some x → get m q ≡ cond t (Some (unwrap_or (get m q) b)) (get m q)
    there true x t is = let at : get m q ≡ Some x = tied t ∙ is in at ∙ ap (λ (o : Option (List ℕ)). Some (unwrap_or o b)) (sym at)
    there false x t is = refl

    fresh : (t : Bool) → eq_by_cmp key_cmp q key ≡ t → get m key ≡ None → cond t (Some b) (get m q) ≡ cond t (Some (unwrap_or (get m q) b)) (get m q)
    fresh true t is = let at : get m q ≡ None = tied t ∙ is in ap (λ (o : Option (List ℕ)). Some (unwrap_or o b)) (sym at)
    fresh false t is = refl

    by_case : (o : Option (List ℕ)) → get m key ≡ o → get (cond (is_some (get m key)) m (insert m key b)) q ≡ cond (eq_by_cmp key_cmp q key) (Some (unwrap_or (get m q) b)) (get m q)
    by_case (Some x) is = ap (λ (o : Option (List ℕ)). get (cond (is_some o) m (insert m key b)) q) is ∙ there (eq_by_cmp key_cmp q key) x refl is
    by_case None is = ap (λ (o : Option (List ℕ)). get (cond (is_some o) m (insert m key b)) q) is ∙ get-insert key_cmp_total m key b q ∙ fresh (eq_by_cmp key_cmp q key) refl is
