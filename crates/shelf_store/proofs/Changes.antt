-- A change that a store's shelf is told, from the call that asks for it to what comes of it.
use Rattle.std.proofs.Common.{◌≡◌, ◌≤◌, ℕ, Bool, true, is_some, List, Option, Some, None, Result, Ok, Err, refl, sym, ap, subst, ◌∙◌, arith, inl, inr}
use Rattle.std.specs.Prelude.{IsTrue, OnOk}
use Rattle.std.specs.FinMap.{get}
use Rattle.share_store.specs.Shares.{Shares, ShareKey}
use Rattle.share_store.specs.declared.fault.StoreFault.{StoreFault}
use Rattle.share_shelf.specs.CrashStates.{Keeps, IsEither, LeavesOnly, IsQuiet, IsChanged, MayBeChanged}
use Rattle.share_shelf.specs.declared.shelf.Shelf.{Ghosts}
use Rattle.shelf_store.specs.Changed.{PutsBack, CarriesOut}
use Rattle.shelf_store.specs.Doubt.{InDoubt, in_doubt, as_before}
use Rattle.shelf_store.specs.Known.{known}
use Rattle.shelf_store.specs.Looks.{ReadsOnly}
use Rattle.shelf_store.specs.Sizes.{sizes_of}
use Rattle.shelf_store.specs.Standing.{standing, IsHonest}
use Rattle.shelf_store.specs.Step.{IsInStep, Crashes}
use Rattle.shelf_store.specs.declared.doubt.Doubt.{Doubt}
use Rattle.shelf_store.specs.declared.shelf_store.ShelfStore.{ShelfStore}
use Rattle.shelf_store.proofs.Steps.{IsSameBut, put_back, put_back_twice, quiet_keeps, quiet_same, leaves_nothing, leaves_quiet, leaves_more, leaves_both}

module _ {X : Type 0} (g : Ghosts X) where
  -- a shelf that keeps these shares, with no change in doubt
  pub kept_step : (doubt : InDoubt) (new : X) (index n : Shares) → doubt ≡ None → (IsTrue (g.honest new) → Keeps g.moment g.left_since new n) → (IsTrue (g.honest new) → n ≡ g.shares new) → (IsTrue (g.honest new) → sizes_of index ≡ sizes_of n)
      → IsInStep g.moment g.left_since g.honest g.shares doubt new index
  kept_step doubt new index n up kept is sizes =
      let stands : IsTrue (g.honest new) → as_before doubt (g.shares new) ≡ n = λ h. ap (λ (d : InDoubt). as_before d (g.shares new)) up ∙ sym (is h) in
      record {
        sizes = λ h. sizes h ∙ ap sizes_of (sym (stands h));
        left = λ h c left. ap (λ (d : InDoubt). as_before d c) up ∙ kept h c left ∙ sym (stands h);
      }

module _ {X : Type 0} {g : Ghosts X} where
  -- what a crash may leave in a call that began at this store, has this shelf by now and is to make these shares
  abbrev pub CrashesTo : ShelfStore X g → X → Shares → Type 0
  CrashesTo self shelf after = Crashes g.moment g.left_since g.honest g.shares (in_doubt self.doubt) self.shelf shelf (standing self) after

  -- no change is in doubt any more, and nothing else has changed
  pub record IsSettled (self mid : ShelfStore X g) : Type 0 where
    pub up : in_doubt mid.doubt ≡ None
    pub same_honest : g.honest mid.shelf ≡ g.honest self.shelf
    pub same : IsHonest self → standing mid ≡ standing self
    pub left : IsHonest self → LeavesOnly g.moment g.left_since self.shelf mid.shelf (λ c. c ≡ standing self)

  -- then the shelf was told to change the share at this key, where this stood, and is new now
  pub record IsTold (self mid : ShelfStore X g) (new : X) (key : ShareKey) (before : Option (List ℕ)) (change : Shares → Shares) (after : Shares) : Type 0 where
    pub settled : IsSettled self mid
    pub found : IsHonest self → get (standing self) key ≡ before
    pub only_there : (m : Shares) → IsSameBut key m (change m)
    pub makes : IsHonest self → change (standing self) ≡ after
    pub same_honest : g.honest new ≡ g.honest mid.shelf
    pub crash : IsHonest mid → (m : Shares) → Keeps g.moment g.left_since mid.shelf m → LeavesOnly g.moment g.left_since mid.shelf new (IsEither m (change m))
    pub stands : IsHonest mid → g.left_since new (g.moment new) (g.shares new)
    pub narrows : (shelf : X) (t u : ℕ) (c : Shares) → t ≤ u → g.left_since shelf u c → g.left_since shelf t c
    pub keeps : (shelf : X) (m : Shares) → IsTrue (g.honest shelf) → Keeps g.moment g.left_since shelf m → m ≡ g.shares shelf

  -- ---- a crash in the call

  crash_in : (self : ShelfStore X g) {shelf : X} {after : Shares} → g.honest shelf ≡ g.honest self.shelf → (IsHonest self → LeavesOnly g.moment g.left_since self.shelf shelf (IsEither (standing self) after)) → CrashesTo self shelf after
  crash_in self same_honest leaves = record {
    leaves = leaves;
    left = λ h c left. elim ((leaves h).since (g.moment self.shelf) c (omega arith) left) [
      | inl was ↦ inl (self.in_step.left h c was)
      | inr either ↦ elim either [
        | inl is ↦ inl (ap (as_before (in_doubt self.doubt)) is ∙ put_back_twice (in_doubt self.doubt) (g.shares self.shelf))
        | inr is ↦ inr is
      ]
    ];
    same_honest = same_honest;
  }

  -- where nothing was changed
  pub crash_none : (self : ShelfStore X g) {after : Shares} → CrashesTo self self.shelf after
  crash_none self {after} = crash_in self refl (λ h. leaves_nothing g.moment g.left_since self.shelf self.shelf (IsEither (standing self) after) (quiet_same g.moment g.left_since self.shelf))

  -- where the change in doubt was settled, and no more
  pub crash_left : (self : ShelfStore X g) {mid : ShelfStore X g} {after : Shares} → PutsBack self mid → CrashesTo self mid.shelf after
  crash_left self {mid} {after} back = crash_in self back.honest (λ h. leaves_more g.moment g.left_since self.shelf mid.shelf (λ c. c ≡ standing self) (IsEither (standing self) after) (back.crash h) (λ c is. inl is))

  -- and a share was read
  pub crash_read : (self : ShelfStore X g) {set mid : ShelfStore X g} {after : Shares} → PutsBack self set → ReadsOnly set mid → CrashesTo self mid.shelf after
  crash_read self {set} {mid} {after} back reads = crash_in self (reads.read.honest ∙ back.honest) (λ h.
      let left = leaves_quiet g.moment g.left_since self.shelf set.shelf mid.shelf (λ c. c ≡ standing self) (back.crash h) reads.read.quiet in
      leaves_more g.moment g.left_since self.shelf mid.shelf (λ c. c ≡ standing self) (IsEither (standing self) after) left (λ c is. inl is))

  pub read_stands : {self set mid : ShelfStore X g} → PutsBack self set → ReadsOnly set mid → IsHonest self → standing mid ≡ standing self
  read_stands back reads h = reads.stands (subst IsTrue (sym back.honest) h) ∙ back.stands h

  -- where it is counted that the shelf failed
  pub crash_counted : (self : ShelfStore X g) {old new : X} {after : Shares} → new ≡ old → CrashesTo self old after → CrashesTo self new after
  crash_counted self {old} {new} {after} same crashes = subst (λ (s : X). CrashesTo self s after) (sym same) crashes

  -- ---- once no change is in doubt

  pub settled : {self set : ShelfStore X g} → in_doubt set.doubt ≡ None → PutsBack self set → IsSettled self set
  settled up back = record { up = up; same_honest = back.honest; same = back.stands; left = back.crash }

  -- and a share was read
  pub looked : {self set mid : ShelfStore X g} → in_doubt set.doubt ≡ None → PutsBack self set → ReadsOnly set mid → IsSettled self mid
  looked {self} {set} {mid} up back reads = record {
    up = ap in_doubt reads.doubt ∙ up;
    same_honest = reads.read.honest ∙ back.honest;
    same = read_stands back reads;
    left = λ h. leaves_quiet g.moment g.left_since self.shelf set.shelf mid.shelf (λ c. c ≡ standing self) (back.crash h) reads.read.quiet;
  }

  -- a change that is refused
  pub refused : {self new : ShelfStore X g} {asked : Shares → Bool} {change : Shares → Shares} (r : Result Bool StoreFault) → OnOk r ⊥
      → (IsHonest self → standing new ≡ standing self) → CrashesTo self new.shelf (change (standing self)) → CarriesOut asked change r self new
  refused (Ok b) not stands crash = absurd not
  refused (Err x) not stands crash = record { answer = λ h. tt; shares = λ h. tt; err = stands; crash = crash }

  -- ---- what came of the change

  module _ {self mid : ShelfStore X g} {new : X} {key : ShareKey} {before : Option (List ℕ)} {change : Shares → Shares} {after : Shares} (told : IsTold self mid new key before change after) where
    later : IsHonest self → IsHonest mid
    later h = subst IsTrue (sym told.settled.same_honest) h

    earlier : IsTrue (g.honest new) → IsHonest self
    earlier h = subst IsTrue (told.same_honest ∙ told.settled.same_honest) h

    as_known : IsHonest self → sizes_of (known mid.sizes) ≡ sizes_of (standing self)
    as_known h = mid.in_step.sizes (later h) ∙ ap sizes_of (told.settled.same h)

    kept : IsHonest self → Keeps g.moment g.left_since mid.shelf (standing self)
    kept h c left = sym (ap (λ (d : InDoubt). as_before d c) told.settled.up) ∙ mid.in_step.left (later h) c left ∙ told.settled.same h

    leaves : IsHonest self → LeavesOnly g.moment g.left_since mid.shelf new (IsEither (standing self) (change (standing self)))
    leaves h = told.crash (later h) (standing self) (kept h)

    pub crash_told : CrashesTo self new after
    crash_told = crash_in self (told.same_honest ∙ told.settled.same_honest) (λ h.
        let change_leaves : LeavesOnly g.moment g.left_since mid.shelf new (IsEither (standing self) after) = subst (λ (s : Shares). LeavesOnly g.moment g.left_since mid.shelf new (IsEither (standing self) s)) (told.makes h) (leaves h) in
        leaves_both g.moment g.left_since self.shelf mid.shelf new (λ c. c ≡ standing self) (IsEither (standing self) after) (told.settled.left h) change_leaves (λ c is. inl is))

    -- the shelf failed in it: whatever is left, what stood before it is known
    back : IsHonest self → (c : Shares) → g.left_since new (g.moment new) c → as_before (Some (key, before)) c ≡ standing self
    back h c left =
        let as_it_was : c ≡ standing self → as_before (Some (key, before)) c ≡ standing self = λ is. ap (as_before (Some (key, before))) is ∙ put_back key before (standing self) (standing self) (told.found h) (λ q other. refl) in
        elim ((leaves h).since (g.moment mid.shelf) c (omega arith) (told.narrows new (g.moment mid.shelf) (g.moment new) c (leaves h).later left)) [
          | inl was ↦ as_it_was (kept h c was)
          | inr either ↦ elim either [
            | inl is ↦ as_it_was is
            | inr is ↦ ap (as_before (Some (key, before))) is ∙ put_back key before (standing self) (change (standing self)) (told.found h) (told.only_there (standing self))
          ]
        ]

    pub failed_stands : IsHonest self → as_before (Some (key, before)) (g.shares new) ≡ standing self
    failed_stands h = back h (g.shares new) (told.stands (later h))

    pub failed_step : {index : Shares} → index ≡ known mid.sizes → IsInStep g.moment g.left_since g.honest g.shares (Some (key, before)) new index
    failed_step same = record {
      sizes = λ h. ap sizes_of same ∙ as_known (earlier h) ∙ ap sizes_of (sym (failed_stands (earlier h)));
      left = λ h c left. back (earlier h) c left ∙ sym (failed_stands (earlier h));
    }

    -- these shares are kept now
    module _ (n : Shares) (keeps : IsHonest self → Keeps g.moment g.left_since new n) where
      now : IsTrue (g.honest new) → n ≡ g.shares new
      now h = told.keeps new n h (keeps (earlier h))

      now_stands : IsHonest self → as_before (in_doubt mid.doubt) (g.shares new) ≡ n
      now_stands h = ap (λ (d : InDoubt). as_before d (g.shares new)) told.settled.up ∙ sym (now (subst IsTrue (sym told.same_honest) (later h)))

      now_step : {index : Shares} → (IsHonest self → sizes_of index ≡ sizes_of n) → IsInStep g.moment g.left_since g.honest g.shares (in_doubt mid.doubt) new index
      now_step {index} sizes = kept_step g (in_doubt mid.doubt) new index n told.settled.up (λ h. keeps (earlier h)) now (λ h. sizes (earlier h))

    -- it was done
    module _ (done : IsHonest mid → (m : Shares) → Keeps g.moment g.left_since mid.shelf m → Keeps g.moment g.left_since new (change m)) where
      pub done_step : {index : Shares} → ((m : Shares) → get m key ≡ before → sizes_of (known mid.sizes) ≡ sizes_of m → sizes_of index ≡ sizes_of (change m)) → IsInStep g.moment g.left_since g.honest g.shares (in_doubt mid.doubt) new index
      done_step sizes = now_step (change (standing self)) (λ h. done (later h) (standing self) (kept h)) (λ h. sizes (standing self) (told.found h) (as_known h))

      pub done_stands : IsHonest self → as_before (in_doubt mid.doubt) (g.shares new) ≡ after
      done_stands h = now_stands (change (standing self)) (λ k. done (later k) (standing self) (kept k)) h ∙ told.makes h

    -- there was no memory for it
    module _ (quiet : IsQuiet g.moment g.left_since mid.shelf new) where
      still_kept : IsHonest self → Keeps g.moment g.left_since new (standing self)
      still_kept h = quiet_keeps g.moment g.left_since mid.shelf new (standing self) quiet (kept h)

      pub quiet_step : {index : Shares} → index ≡ known mid.sizes → IsInStep g.moment g.left_since g.honest g.shares (in_doubt mid.doubt) new index
      quiet_step same = now_step (standing self) still_kept (λ h. ap sizes_of same ∙ as_known h)

      pub quiet_stands : IsHonest self → as_before (in_doubt mid.doubt) (g.shares new) ≡ standing self
      quiet_stands = now_stands (standing self) still_kept

  -- ---- the change in doubt, taken back

  -- the shelf of the store was told a change that puts back what stood before the one in doubt, and is new now
  pub record IsToldBack (self : ShelfStore X g) (new : X) (change : Shares → Shares) : Type 0 where
    pub back : (m : Shares) → change m ≡ as_before (in_doubt self.doubt) m
    pub same_honest : g.honest new ≡ g.honest self.shelf
    pub crash : IsHonest self → LeavesOnly g.moment g.left_since self.shelf new (MayBeChanged g.moment g.left_since self.shelf change)
    pub stands : IsHonest self → g.left_since new (g.moment new) (g.shares new)
    pub narrows : (shelf : X) (t u : ℕ) (c : Shares) → t ≤ u → g.left_since shelf u c → g.left_since shelf t c

  module _ {self : ShelfStore X g} {new : X} {change : Shares → Shares} (told : IsToldBack self new change) where
    pub back_leaves : IsHonest self → LeavesOnly g.moment g.left_since self.shelf new (λ c. c ≡ standing self)
    back_leaves h = record {
      later = (told.crash h).later;
      since = λ t c le left. elim ((told.crash h).since t c le left) [
        | inl was ↦ inl was
        | inr each ↦ elim each.2 [
          | inl same ↦ inl (told.narrows self.shelf t (g.moment self.shelf) c le (subst (λ (s : Shares). g.left_since self.shelf (g.moment self.shelf) s) (sym same) each.1))
          | inr changed ↦ inr (changed ∙ told.back each.0 ∙ self.in_step.left h each.0 each.1)
        ]
      ];
    }

    -- done or not, what stood before the one in doubt is known
    still_known : IsHonest self → (c : Shares) → g.left_since new (g.moment new) c → as_before (in_doubt self.doubt) c ≡ standing self
    still_known h c left =
        let leaves = back_leaves h in
        elim (leaves.since (g.moment self.shelf) c (omega arith) (told.narrows new (g.moment self.shelf) (g.moment new) c leaves.later left)) [
          | inl was ↦ self.in_step.left h c was
          | inr same ↦ ap (as_before (in_doubt self.doubt)) same ∙ put_back_twice (in_doubt self.doubt) (g.shares self.shelf)
        ]

    pub back_stands : IsHonest self → as_before (in_doubt self.doubt) (g.shares new) ≡ standing self
    back_stands h = still_known h (g.shares new) (told.stands h)

    pub back_step : IsInStep g.moment g.left_since g.honest g.shares (in_doubt self.doubt) new (known self.sizes)
    back_step = record {
      sizes = λ h. let was : IsHonest self = subst IsTrue told.same_honest h in self.in_step.sizes was ∙ ap sizes_of (sym (back_stands was));
      left = λ h c left. let was : IsHonest self = subst IsTrue told.same_honest h in still_known was c left ∙ sym (back_stands was);
    }

    pub back_keeps : IsHonest self → ((c : Shares) → g.left_since new (g.moment new) c → IsChanged g.moment g.left_since self.shelf change c) → Keeps g.moment g.left_since new (standing self)
    back_keeps h done c left = let each : IsChanged g.moment g.left_since self.shelf change c = done c left in each.2 ∙ told.back each.0 ∙ self.in_step.left h each.0 each.1

  -- so it was put back, or tried
  pub told_back : {self new : ShelfStore X g} {change : Shares → Shares} → IsToldBack self new.shelf change → new.doubt ≡ self.doubt → new.sizes ≡ self.sizes
      → g.failures self.shelf ≤ g.failures new.shelf → is_some (in_doubt self.doubt) ≡ true → PutsBack self new
  told_back {self} {new} told doubt index rises some = record {
    crash = back_leaves told;
    stands = λ h. ap (λ (d : Option Doubt). as_before (in_doubt d) (g.shares new.shelf)) doubt ∙ back_stands told h;
    honest = told.same_honest;
    rises_below = rises;
    failed_in_doubt = λ more. ap (λ (d : Option Doubt). is_some (in_doubt d)) doubt ∙ some;
    sizes = index;
  }
