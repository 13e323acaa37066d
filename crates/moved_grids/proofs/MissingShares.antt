-- Shares that weren't laid, as losses.
use Rattle.std.proofs.Common.{◌≡◌, ◌⊎◌, inl, inr, ℕ, Bool, true, false, cond, ◌==◌, ◌&&◌, List, [], ◌∷◌, ◌++◌, map, All, Option, Some, None, is_none, refl, sym, ap, subst, ◌∙◌, eqb-true, eq-eqb}
use Rattle.std.proofs.lemmas.Bool.{and_parts}
use Rattle.std.proofs.lemmas.List.{append-nil}
use Rattle.std.proofs.lemmas.List.Concat.{flat_map-append}
use Rattle.std.proofs.lemmas.Map.Views.{tells_apart}
use Rattle.std.specs.Cmp.{eq_by_cmp_equiv}
use Rattle.std.specs.FinMap.{get, entries, find, get-entries}
use Rattle.std.specs.Option.{option_map, option_or}
use Rattle.std.specs.Ordering.{eq_by_cmp}
use Rattle.erasure.specs.Code.{AreBytes}
use Rattle.share_store.specs.Shares.{Shares, ShareKey, key_cmp}
use Rattle.share_store.specs.Shares.{ShareEntry}
use Rattle.share_store.specs.MapLaws.{key_cmp_total, key_cmp_exact}
use Rattle.grid.specs.RowOrder.{RowKey}
use Rattle.grid.specs.Standing.{Standing}
use Rattle.chk_file.specs.Upload.{Upload}
use Rattle.chk_file.specs.Marks.{Mark, shown, stands}
use Rattle.chk_file.specs.World.{World}
use Rattle.gate_core.specs.Settings.{GatewaySettings}
use Rattle.gate_core.specs.Items.{Entry, Lost}
use Rattle.gate_core.specs.Runs.{after_entry, world_after}
use Rattle.gate_core.specs.Uploaded.{IsProper, uploads_by, uploads_of}
use Rattle.share_moves.specs.Moves.{first_share_of, moved_shares}
use Rattle.moved_grids.specs.MovedRuns.{lost_items}
use Rattle.moved_grids.proofs.MovedMarks.{place_of}

-- ---- what stands after losses

abbrev hits : RowKey → ℕ → ShareKey → Bool
hits p s q = s == p.0 && eq_by_cmp key_cmp q p.1

abbrev pub without_all : List RowKey → Standing → Standing
without_all [] before = before
without_all (p ∷ ps) before = without_all ps (λ s q. cond (hits p s q) None (before s q))

pub shown_lost : (settings : GatewaySettings) (ps : List RowKey) (w : World) → shown (world_after settings w (lost_items ps)).marks ≡ without_all ps (shown w.marks)
shown_lost settings [] w = refl
shown_lost settings (p ∷ ps) w =
    let point : (s : ℕ) (q : ShareKey) → shown (after_entry settings (Lost p.0 p.1) w).marks s q ≡ cond (hits p s q) None (shown w.marks s q) = λ s q. by_test q (hits p s q) (w.marks s q) in
    shown_lost settings ps (after_entry settings (Lost p.0 p.1) w) ∙ ap (without_all ps) (λ j s q. point s q j)
  where
    by_test : (q : ShareKey) (b : Bool) (o : Option Mark) → option_map (stands q.1) (cond b None o) ≡ cond b None (option_map (stands q.1) o)
    by_test q true o = refl
    by_test q false o = refl

stays_none : (ps : List RowKey) (before : Standing) (s : ℕ) (q : ShareKey) → before s q ≡ None → without_all ps before s q ≡ None
stays_none [] before s q is = is
stays_none (p ∷ ps) before s q is = stays_none ps (λ s q. cond (hits p s q) None (before s q)) s q (by_test (hits p s q))
  where
    by_test : (b : Bool) → cond b None (before s q) ≡ None
    by_test true = refl
    by_test false = is

same_files : (settings : GatewaySettings) (ps : List RowKey) (w : World) → (world_after settings w (lost_items ps)).files ≡ w.files
same_files settings [] w = refl
same_files settings (p ∷ ps) w = same_files settings ps (after_entry settings (Lost p.0 p.1) w)

none_uploaded : (settings : GatewaySettings) (ps : List RowKey) → uploads_of settings (lost_items ps) ≡ []
none_uploaded settings [] = refl
none_uploaded settings (p ∷ ps) = none_uploaded settings ps

pub proper_with_losses : (settings : GatewaySettings) (past : List Entry) (ps : List RowKey) → IsProper settings past → IsProper settings (past ++ lost_items ps)
proper_with_losses settings past ps proper = record {
  sharing = proper.sharing;
  bytes = subst (All (λ (u : Upload). AreBytes u.bytes)) (sym (flat_map-append (uploads_by settings) past (lost_items ps) ∙ ap (λ l. uploads_of settings past ++ l) (none_uploaded settings ps) ∙ append-nil (uploads_of settings past))) proper.bytes;
}

pub files_with_losses : (settings : GatewaySettings) (past : List Entry) (ps : List RowKey) (w : World) → (world_after settings w (past ++ lost_items ps)).files ≡ (world_after settings w past).files
files_with_losses settings [] ps w = same_files settings ps w
files_with_losses settings (x ∷ past) ps w = files_with_losses settings past ps (after_entry settings x w)

pub shown_with_losses : (settings : GatewaySettings) (past : List Entry) (ps : List RowKey) (w : World) → shown (world_after settings w (past ++ lost_items ps)).marks ≡ without_all ps (shown (world_after settings w past).marks)
shown_with_losses settings [] ps w = shown_lost settings ps w
shown_with_losses settings (x ∷ past) ps w = shown_with_losses settings past ps (after_entry settings x w)

-- ---- the keys of all shares

abbrev IsIn : ShareKey → List ShareKey → Type 0
IsIn q [] = ⊥
IsIn q (k ∷ ks) = (q ≡ k) ⊎ IsIn q ks

abbrev pub keys_of : List Shares → List ShareKey
keys_of [] = []
keys_of (m ∷ maps) = map (λ (e : ShareEntry). e.0) (entries m) ++ keys_of maps

in_left : (q : ShareKey) (xs ys : List ShareKey) → IsIn q xs → IsIn q (xs ++ ys)
in_left q [] ys is = absurd is
in_left q (x ∷ xs) ys (inl here) = inl here
in_left q (x ∷ xs) ys (inr later) = inr (in_left q xs ys later)

in_right : (q : ShareKey) (xs ys : List ShareKey) → IsIn q ys → IsIn q (xs ++ ys)
in_right q [] ys is = is
in_right q (x ∷ xs) ys is = inr (in_right q xs ys is)

found_in : (q : ShareKey) (es : List ShareEntry) (b : List ℕ) → find key_cmp q es ≡ Some b → IsIn q (map (λ (e : ShareEntry). e.0) es)
found_in q [] b is = cc
found_in q (e ∷ es) b is = by_test (λ rest. found_in q es b rest) (eq_by_cmp key_cmp q e.0) refl is
  where
    by_test : (find key_cmp q es ≡ Some b → IsIn q (map (λ (e : ShareEntry). e.0) es)) → (t : Bool) → eq_by_cmp key_cmp q e.0 ≡ t → cond t (Some e.1) (find key_cmp q es) ≡ Some b → (q ≡ e.0) ⊎ IsIn q (map (λ (e : ShareEntry). e.0) es)
    by_test later true on is = inl (tells_apart key_cmp_exact q e.0 on)
    by_test later false off is = inr (later is)

pub first_in : (q : ShareKey) (maps : List Shares) (b : List ℕ) → first_share_of maps q ≡ Some b → IsIn q (keys_of maps)
first_in q [] b is = cc
first_in q (m ∷ maps) b is = by_case (λ rest. first_in q maps b rest) (get m q) refl is
  where
    by_case : (first_share_of maps q ≡ Some b → IsIn q (keys_of maps)) → (o : Option (List ℕ)) → get m q ≡ o → option_or o (first_share_of maps q) ≡ Some b → IsIn q (map (λ (e : ShareEntry). e.0) (entries m) ++ keys_of maps)
    by_case later (Some x) has is = in_left q (map (λ (e : ShareEntry). e.0) (entries m)) (keys_of maps) (found_in q (entries m) x (sym (get-entries m q) ∙ has))
    by_case later None none is = in_right q (map (λ (e : ShareEntry). e.0) (entries m)) (keys_of maps) (later is)

-- ---- the shares that aren't there

module _ (count : ℕ) (c : Standing) where
  -- the places of those of these keys that aren't in their place
  abbrev pub missing_of : List ShareKey → List RowKey
  missing_of [] = []
  missing_of (k ∷ ks) = cond (is_none (c (place_of count k) k)) ((place_of count k, k) ∷ missing_of ks) (missing_of ks)

  -- what is there isn't lost
  kept : (ks : List ShareKey) (before : Standing) (s : ℕ) (q : ShareKey) (x : List ℕ) → c s q ≡ Some x → without_all (missing_of ks) before s q ≡ before s q
  kept [] before s q x has = refl
  kept (k ∷ ks) before s q x has = by_test (λ b. kept ks b s q x has) (is_none (c (place_of count k) k)) refl
    where
      other : is_none (c (place_of count k) k) ≡ true → (b : Bool) → hits (place_of count k, k) s q ≡ b → cond b None (before s q) ≡ before s q
      other none false off = refl
      other none true on =
          let parts = and_parts (s == place_of count k) (eq_by_cmp key_cmp q k) on in
          let same : c s q ≡ c (place_of count k) k = ap (λ n. c n q) (eqb-true s (place_of count k) parts.0) ∙ ap (c (place_of count k)) (tells_apart key_cmp_exact q k parts.1) in
          let clash : (let t : Bool = false in t) ≡ true = sym (ap is_none has) ∙ ap is_none same ∙ none in cc

      by_test : ((b : Standing) → without_all (missing_of ks) b s q ≡ b s q) → (t : Bool) → is_none (c (place_of count k) k) ≡ t
          → without_all (cond t ((place_of count k, k) ∷ missing_of ks) (missing_of ks)) before s q ≡ before s q
      by_test rest true none = rest (λ s q. cond (hits (place_of count k, k) s q) None (before s q)) ∙ other none (hits (place_of count k, k) s q) refl
      by_test rest false some = rest before

  -- what isn't there is lost
  gone : (ks : List ShareKey) (before : Standing) (q : ShareKey) → IsIn q ks → c (place_of count q) q ≡ None → without_all (missing_of ks) before (place_of count q) q ≡ None
  gone [] before q is none = absurd is
  gone (k ∷ ks) before q (inl here) none =
      ap (λ t. without_all (cond t ((place_of count k, k) ∷ missing_of ks) (missing_of ks)) before (place_of count q) q) (ap is_none (sym (ap (λ j. c (place_of count j) j) here) ∙ none))
      ∙ stays_none (missing_of ks) (λ s q. cond (hits (place_of count k, k) s q) None (before s q)) (place_of count q) q
      (ap (λ t. cond (t && eq_by_cmp key_cmp q k) None (before (place_of count q) q)) (eq-eqb (place_of count q) (place_of count k) (ap (place_of count) here))
      ∙ ap (λ t. cond t None (before (place_of count q) q)) (ap (λ j. eq_by_cmp key_cmp q j) (sym here) ∙ (eq_by_cmp_equiv key_cmp_total).refl q))
  gone (k ∷ ks) before q (inr later) none = by_test (λ b. gone ks b q later none) (is_none (c (place_of count k) k))
    where
      by_test : ((b : Standing) → without_all (missing_of ks) b (place_of count q) q ≡ None) → (t : Bool) → without_all (cond t ((place_of count k, k) ∷ missing_of ks) (missing_of ks)) before (place_of count q) q ≡ None
      by_test rest true = rest (λ s q. cond (hits (place_of count k, k) s q) None (before s q))
      by_test rest false = rest before

  module _ (maps : List Shares) (some : (s : ℕ) (q : ShareKey) → (c s q ≡ None) ⊎ (c s q ≡ moved_shares count maps s q)) where
    pub are_losses : c ≡ without_all (missing_of (keys_of maps)) (moved_shares count maps)
    are_losses =
        let point : (s : ℕ) (q : ShareKey) → c s q ≡ without_all (missing_of (keys_of maps)) (moved_shares count maps) s q = λ s q. by_case s q (c s q) refl in
        λ j s q. point s q j
      where
        moved_here : (s : ℕ) (q : ShareKey) (b : List ℕ) (t : Bool) → (s == place_of count q) ≡ t → cond t (first_share_of maps q) None ≡ Some b → (s ≡ place_of count q) × (first_share_of maps q ≡ Some b)
        moved_here s q b true on is = (eqb-true s (place_of count q) on, is)
        moved_here s q b false off is = cc

        by_moved : (s : ℕ) (q : ShareKey) → c s q ≡ None → (o : Option (List ℕ)) → moved_shares count maps s q ≡ o → None ≡ without_all (missing_of (keys_of maps)) (moved_shares count maps) s q
        by_moved s q none None is = sym (stays_none (missing_of (keys_of maps)) (moved_shares count maps) s q is)
        by_moved s q none (Some b) is =
            let at = moved_here s q b (s == place_of count q) refl is in
            sym (ap (λ n. without_all (missing_of (keys_of maps)) (moved_shares count maps) n q) at.0
            ∙ gone (keys_of maps) (moved_shares count maps) q (first_in q maps b at.1) (ap (λ n. c n q) (sym at.0) ∙ none))

        by_some : (s : ℕ) (q : ShareKey) (x : List ℕ) → c s q ≡ Some x → (c s q ≡ None) ⊎ (c s q ≡ moved_shares count maps s q) → Some x ≡ without_all (missing_of (keys_of maps)) (moved_shares count maps) s q
        by_some s q x has (inl none) = let clash : (let n : Option (List ℕ) = None in n) ≡ Some x = sym none ∙ has in cc
        by_some s q x has (inr same) = sym has ∙ same ∙ sym (kept (keys_of maps) (moved_shares count maps) s q x has)

        by_case : (s : ℕ) (q : ShareKey) (o : Option (List ℕ)) → c s q ≡ o → o ≡ without_all (missing_of (keys_of maps)) (moved_shares count maps) s q
        by_case s q None none = by_moved s q none (moved_shares count maps s q) refl
        by_case s q (Some x) has = by_some s q x has (some s q)
