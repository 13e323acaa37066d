-- What stands at a key, by the change in doubt.
use Rattle.std.proofs.Common.{◌≡◌, ℕ, Bool, true, false, List, Option, Some, None, Result, Ok, Err, is_some, refl, sym, ap, ◌∙◌}
use Rattle.std.specs.Prelude.{OnOk}
use Rattle.std.specs.Option.{option_map}
use Rattle.std.specs.Ordering.{eq_by_cmp}
use Rattle.std.specs.FinMap.{get}
use Rattle.std.specs.Rc.{rc_slice_items}
use Rattle.std.proofs.lemmas.Map.Views.{tells_apart}
use Rattle.share_store.specs.Shares.{Shares, ShareKey, key_cmp}
use Rattle.share_store.specs.MapLaws.{key_cmp_exact}
use Rattle.shelf_store.specs.Doubt.{in_doubt, as_before}
use Rattle.shelf_store.specs.declared.doubt.Doubt.{Doubt}
use Rattle.shelf_store.proofs.Steps.{at_doubt, off_doubt}

abbrev pub key_of : Doubt → ShareKey
key_of x = (x.index, x.number)

pub same_key : (index : List ℕ) (number : ℕ) (x : Doubt) → (index ≡ x.index) × (number ≡ x.number) → ◌≡◌ {A = ShareKey} (index, number) (key_of x)
same_key index number x is = ap (λ (i : List ℕ). (i, number)) is.0 ∙ ap (λ (n : ℕ). (x.index, n)) is.1

-- at the key in doubt, what stood there before
pub at_known : (doubt : Option Doubt) (x : Doubt) (key : ShareKey) (m : Shares) → doubt ≡ Some x → key ≡ key_of x → get (as_before (in_doubt doubt) m) key ≡ option_map rc_slice_items x.before
at_known doubt x key m is same =
    ap (λ (d : Option Doubt). get (as_before (in_doubt d) m) key) is ∙ ap (get (as_before (in_doubt (Some x)) m)) same ∙ at_doubt (key_of x) (option_map rc_slice_items x.before) m

-- at any other, what stands
pub elsewhere : (doubt : Option Doubt) (key : ShareKey) → ((x : Doubt) → doubt ≡ Some x → key ≡ key_of x → ⊥) → (m : Shares) → get (as_before (in_doubt doubt) m) key ≡ get m key
elsewhere None key other m = refl
elsewhere (Some x) key other m = off_doubt (key_of x) key (option_map rc_slice_items x.before) m (apart (eq_by_cmp key_cmp key (key_of x)) refl)
  where
    apart : (t : Bool) → eq_by_cmp key_cmp key (key_of x) ≡ t → eq_by_cmp key_cmp key (key_of x) ≡ false
    apart true is = absurd (other x refl (tells_apart key_cmp_exact key (key_of x) is))
    apart false is = is

-- a change of another share
pub other_key : (doubt : Option Doubt) (x : Doubt) (index : List ℕ) (number : ℕ) → doubt ≡ Some x → ((index ≡ x.index) × (number ≡ x.number) → ⊥) → (y : Doubt) → doubt ≡ Some y → ◌≡◌ {A = ShareKey} (index, number) (key_of y) → ⊥
other_key doubt x index number is not y at same =
    let both : ◌≡◌ {A = Option Doubt} (Some y) (Some x) = sym at ∙ is in
    let one : y ≡ x = cc in
    not (ap (λ (k : ShareKey). k.0) same ∙ ap (λ (d : Doubt). d.index) one, ap (λ (k : ShareKey). k.1) same ∙ ap (λ (d : Doubt). d.number) one)

pub done_as : {X E : Type 0} (r : Result X E) (P Q : Type 0) → (P → Q) → OnOk r P → OnOk r Q
done_as (Ok x) P Q then h = then h
done_as (Err e) P Q then h = tt

-- the change that puts back what stood
pub changes_back : (doubt : Option Doubt) (x : Doubt) (before : Option (List ℕ)) → doubt ≡ Some x → option_map rc_slice_items x.before ≡ before → (d : Shares) → as_before (Some (key_of x, before)) d ≡ as_before (in_doubt doubt) d
changes_back doubt x before is same d = ap (λ (b : Option (List ℕ)). as_before (Some (key_of x, b)) d) (sym same) ∙ ap (λ (o : Option Doubt). as_before (in_doubt o) d) (sym is)

-- none is in doubt
pub none_in_doubt : (doubt : Option Doubt) → is_some doubt ≡ false → in_doubt doubt ≡ None
none_in_doubt None is = refl
none_in_doubt (Some x) is = cc

pub some_in_doubt : (doubt : Option Doubt) → is_some doubt ≡ true → is_some (in_doubt doubt) ≡ true
some_in_doubt None is = cc
some_in_doubt (Some x) is = refl
