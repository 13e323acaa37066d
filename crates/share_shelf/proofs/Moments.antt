-- What a shelf in memory had been, after one more change.
use Rattle.std.proofs.Common.{◌≡◌, ℕ, zero, suc, ◌+◌, ◌≤◌, Bool, true, false, List, [], ◌∷◌, ◌++◌, length, map, Some, None, refl, sym, ap, ◌∙◌, arith, add-one, inl, inr, length-append}
use Rattle.std.specs.Prelude.{◌⊎◌, take, slice_get, nat_le}
use Rattle.std.proofs.lemmas.List.{take-append-le, take_all}
use Rattle.std.proofs.lemmas.Bool.{leb-true, leb-false}
use Rattle.std.proofs.Math.Seq.{take-length}
use Rattle.std.specs.FinMap.{empty}
use Rattle.std.specs.Option.{option_map}
use Rattle.share_store.specs.Shares.{Shares, ShareKey, ShareEntry}
use Rattle.share_shelf.specs.declared.mem_shelf.Change.{Change}
use Rattle.share_shelf.specs.Kept.{KnownShare, told_by, told_of, with_told, after_changes, HadBeen}
use Rattle.share_shelf.specs.CrashStates.{IsEither}

pub after-push : (told : List KnownShare) (one : KnownShare) (m : Shares) → after_changes (told ++ one ∷ []) m ≡ with_told one (after_changes told m)
after-push [] one m = refl
after-push (x ∷ told) one m = after-push told one (with_told x m)

-- what stands now is what had been last
pub had_now : (told : List KnownShare) → HadBeen told (length told) (after_changes told empty)
had_now told = record { k = length told; from = omega arith; to = omega arith; stood = ap (λ (l : List KnownShare). after_changes l empty) (sym (take-length told)) }

pub had_last : (told : List KnownShare) (c : Shares) → HadBeen told (length told) c → c ≡ after_changes told empty
had_last told c had = had.stood ∙ ap (λ (l : List KnownShare). after_changes l empty) (take_all had.k told had.from)

-- shelves that keep shares hold them
pub is_kept : (told : List KnownShare) (m : Shares) → ((c : Shares) → HadBeen told (length told) c → c ≡ m) → m ≡ after_changes told empty
is_kept told m keeps = sym (keeps (after_changes told empty) (had_now told))

module _ (told : List KnownShare) (one : KnownShare) where
  pushed : after_changes (told ++ one ∷ []) empty ≡ with_told one (after_changes told empty)
  pushed = after-push told one empty

  pub keeps_pushed : (m : Shares) → ((c : Shares) → HadBeen told (length told) c → c ≡ m)
      → (c : Shares) → HadBeen (told ++ one ∷ []) (length (told ++ one ∷ [])) c → c ≡ with_told one m
  keeps_pushed m keeps c had = had_last (told ++ one ∷ []) c had ∙ pushed ∙ ap (with_told one) (sym (is_kept told m keeps))

  pub since_pushed : (m : Shares) → ((c : Shares) → HadBeen told (length told) c → c ≡ m)
      → (t : ℕ) (c : Shares) → t ≤ length told → HadBeen (told ++ one ∷ []) t c → HadBeen told t c ⊎ IsEither m (with_told one m) c
  since_pushed m keeps t c le had = by_case (nat_le had.k (length told)) refl
    where
      by_case : (b : Bool) → nat_le had.k (length told) ≡ b → HadBeen told t c ⊎ IsEither m (with_told one m) c
      by_case true is = inl (record {
        k = had.k;
        from = had.from;
        to = omega (arith, leb-true had.k (length told) is);
        stood = had.stood ∙ ap (λ (l : List KnownShare). after_changes l empty) (take-append-le had.k told (one ∷ []) (omega (arith, leb-true had.k (length told) is)));
      })
      by_case false is =
          let long : length (told ++ one ∷ []) ≤ had.k = omega (arith, leb-false had.k (length told) is, length-append told (one ∷ [])) in
          inr (inr (had.stood ∙ ap (λ (l : List KnownShare). after_changes l empty) (take_all had.k (told ++ one ∷ []) long) ∙ pushed ∙ ap (with_told one) (sym (is_kept told m keeps))))

  -- each of what had been
  pub each_pushed : (c : Shares) → HadBeen (told ++ one ∷ []) (length (told ++ one ∷ [])) c → (d : Shares) × HadBeen told (length told) d × (c ≡ with_told one d)
  each_pushed c had = (after_changes told empty, had_now told, had_last (told ++ one ∷ []) c had ∙ pushed)

  pub since_each : (t : ℕ) (c : Shares) → t ≤ length told → HadBeen (told ++ one ∷ []) t c → HadBeen told t c ⊎ ((d : Shares) × HadBeen told (length told) d × IsEither d (with_told one d) c)
  since_each t c le had = elim (since_pushed (after_changes told empty) (had_last told) t c le had) [
    | inl was ↦ inl was
    | inr either ↦ inr (after_changes told empty, had_now told, either)
  ]

-- once one more change was remembered
pub after_more : (cs : List Change) (change : Change) (m : Shares) → after_changes (told_of (cs ++ change ∷ [])) m ≡ with_told (told_by change) (after_changes (told_of cs) m)
after_more [] change m = refl
after_more (x ∷ cs) change m = after_more cs change (with_told (told_by x) m)

-- one more of the changes
pub more_told : (cs : List Change) (at : ℕ) (change : Change) → slice_get cs at ≡ Some change → take (at + 1) (told_of cs) ≡ take at (told_of cs) ++ told_by change ∷ []
more_told cs at change is = rw add-one (steps cs at is)
  where
    steps : (cs : List Change) (at : ℕ) → slice_get cs at ≡ Some change → take (suc at) (told_of cs) ≡ take at (told_of cs) ++ told_by change ∷ []
    steps [] at is = cc
    steps (x ∷ cs) zero is = let same : x ≡ change = cc in ap (λ (f : Change). told_by f ∷ []) same
    steps (x ∷ cs) (suc at) is = ap (λ (l : List KnownShare). told_by x ∷ l) (steps cs at is)

-- one more name
pub one_more : (es : List ShareEntry) (at : ℕ) (key : ShareKey) → option_map (λ (f : ShareEntry). f.0) (slice_get es at) ≡ Some key → map (λ (f : ShareEntry). f.0) (take (at + 1) es) ≡ map (λ (f : ShareEntry). f.0) (take at es) ++ key ∷ []
one_more es at key is = rw add-one (steps es at is)
  where
    steps : (es : List ShareEntry) (at : ℕ) → option_map (λ (f : ShareEntry). f.0) (slice_get es at) ≡ Some key → map (λ (f : ShareEntry). f.0) (take (suc at) es) ≡ map (λ (f : ShareEntry). f.0) (take at es) ++ key ∷ []
    steps [] at is = cc
    steps (x ∷ es) zero is = let same : x.0 ≡ key = cc in ap (λ (k : ShareKey). k ∷ []) same
    steps (x ∷ es) (suc at) is = ap (λ l. x.0 ∷ l) (steps es at is)

-- none past the last
pub no_more : (es : List ShareEntry) (at : ℕ) → slice_get es at ≡ None → take at es ≡ es
no_more [] zero is = refl
no_more [] (suc at) is = refl
no_more (x ∷ es) zero is = cc
no_more (x ∷ es) (suc at) is = ap (λ (l : List ShareEntry). x ∷ l) (no_more es at is)
