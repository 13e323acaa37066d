-- The strings that are hashed in these callers' part of a run are those of the run of the kept items alone.
use Rattle.std.proofs.Common.{◌≡◌, ℕ, List, [], ◌∷◌, ◌++◌, Bool, true, cond, refl, sym, ap, ◌∙◌}
use Rattle.std.specs.Prelude.{filter, flat_map}
use Rattle.tag_hash.specs.Use.{Use}
use Rattle.caps.specs.declared.cap.Cap.{Cap}
use Rattle.caps.specs.declared.cap.Cap.TheVariants.{Chk, Lit, DirChk, DirLit, ChkVerify, DirChkVerify}
use Rattle.caps.specs.Fields.{ReadValue}
use Rattle.caps.specs.StorageIndex.{index_of}
use Rattle.chk_file.specs.Upload.{Upload, index}
use Rattle.chk_file.specs.Uses.{upload_uses}
use Rattle.file_shares.specs.Numbers.{params_of}
use Rattle.file_shares.specs.Row.{row_uses}
use Rattle.chk_file.specs.Marks.{MarkRow, marks_of, shown_row}
use Rattle.chk_file.specs.World.{World, after_upload}
use Rattle.chk_file.specs.Look.{by_held}
use Rattle.gate_core.specs.Settings.{GatewaySettings}
use Rattle.gate_core.specs.Items.{Entry}
use Rattle.gate_core.specs.Runs.{after_entry}
use Rattle.gate_core.specs.Reach.{met_by, reach, is_reached, keeps, kept}
use Rattle.gate_core.specs.Agrees.{Agrees}
use Rattle.gate_core.specs.Uploaded.{uploads_of}
use Rattle.gate_core.specs.Apart.{reached_uses, key_uses, stood_uses, met_uses, hashed}
use Rattle.gate_core.proofs.Local.{true_or_false, own_index, MeetsAgree, RepliesAgree, IsWithin, within_first, within_rest, same_met_by, by_held-local, local_on, Agrees-both, Agrees-left, Agrees-refl, met_dropped, reach-kept}
use Rattle.gate_core.proofs.Members.{filter-twice}

same_row_uses : (reached : List Cap) (w v : World) (k n size : ℕ) (si : List ℕ) → Agrees reached w v → is_reached reached si ≡ true
    → row_uses (params_of k n size) (shown_row (marks_of w.marks si)) ≡ row_uses (params_of k n size) (shown_row (marks_of v.marks si))
same_row_uses reached w v k n size si agree there = ap (λ (m : MarkRow). row_uses (params_of k n size) (shown_row m)) (agree.marks si there)

same_stood_uses : (reached : List Cap) (w v : World) (name : Cap) → Agrees reached w v → IsWithin (name ∷ []) reached → stood_uses w name ≡ stood_uses v name
same_stood_uses reached w v (Chk f) agree within = same_row_uses reached w v f.k f.n f.size (index_of f.key) agree (within (index_of f.key) (own_index (index_of f.key)))
same_stood_uses reached w v (Lit bytes) agree within = refl
same_stood_uses reached w v (DirChk f) agree within = same_row_uses reached w v f.k f.n f.size (index_of f.key) agree (within (index_of f.key) (own_index (index_of f.key)))
same_stood_uses reached w v (DirLit bytes) agree within = refl
same_stood_uses reached w v (ChkVerify f) agree within = same_row_uses reached w v f.k f.n f.size f.si agree (within f.si (own_index f.si))
same_stood_uses reached w v (DirChkVerify f) agree within = same_row_uses reached w v f.k f.n f.size f.si agree (within f.si (own_index f.si))

same_uses : (reached : List Cap) (w v : World) (names : List Cap) → Agrees reached w v → IsWithin names reached → flat_map (stood_uses w) names ≡ flat_map (stood_uses v) names
same_uses reached w v [] agree within = refl
same_uses reached w v (name ∷ names) agree within =
    ap (λ a. a ++ flat_map (stood_uses w) names) (same_stood_uses reached w v name agree (within_first (name ∷ []) names reached within))
    ∙ ap (λ r. stood_uses v name ++ r) (same_uses reached w v names agree (within_rest (name ∷ []) names reached within))

-- what an upload under an index that wasn't reached changes
module _ (marks_stay : (servers : ℕ) (u : Upload) (w : World) (si : List ℕ) → (si ≡ index u → ⊥) → marks_of (after_upload servers u w).marks si ≡ marks_of w.marks si)
    (files_stay : (servers : ℕ) (u : Upload) (w : World) (f : ReadValue) → (index_of f.key ≡ index u → ⊥) → (after_upload servers u w).files f ≡ w.files f)
    (replies : RepliesAgree) (meets : MeetsAgree) where
  met_uses-filtered : (s : GatewaySettings) (callers : ℕ → Bool) (reached : List Cap) (w v : World) (xs : List Entry) → Agrees reached w v → IsWithin (reach s callers w xs) reached
      → met_uses s callers w xs ≡ met_uses s callers v (filter (keeps s callers reached) xs)
  met_uses-filtered s callers reached w v [] agree within = refl
  met_uses-filtered s callers reached w v (x ∷ more) agree within =
      let rest = filter (keeps s callers reached) more in
      let met = met_by (by_held w) callers x in
      let first = within_first met (reach s callers (after_entry s x w) more) reached within in
      let later = within_rest met (reach s callers (after_entry s x w) more) reached within in
      let own : flat_map (stood_uses w) met ≡ flat_map (stood_uses v) (met_by (by_held v) callers x) =
      same_uses reached w v met agree first
      ∙ ap (flat_map (stood_uses v)) (same_met_by meets (by_held w) (by_held v) callers x (local_on by_held by_held-local reached w v agree met first)) in
      true_or_false (keeps s callers reached x) _
      (λ stays.
      ap (λ a. a ++ met_uses s callers (after_entry s x w) more) own
      ∙ ap (λ r. flat_map (stood_uses v) (met_by (by_held v) callers x) ++ r) (met_uses-filtered s callers reached (after_entry s x w) (after_entry s x v) more (Agrees-both s reached w v x agree) later)
      ∙ ap (λ b. met_uses s callers v (cond b (x ∷ rest) rest)) (sym stays))
      (λ drops.
      ap (λ names. flat_map (stood_uses w) names ++ met_uses s callers (after_entry s x w) more) (met_dropped marks_stay files_stay (by_held w) callers s reached x drops)
      ∙ met_uses-filtered s callers reached (after_entry s x w) v more (Agrees-left marks_stay files_stay s callers reached w v x drops agree) later
      ∙ ap (λ b. met_uses s callers v (cond b (x ∷ rest) rest)) (sym drops))

  -- what is kept of the kept items are these
  pub kept-kept : (s : GatewaySettings) (callers : ℕ → Bool) (w : World) (xs : List Entry) → kept s callers w (kept s callers w xs) ≡ kept s callers w xs
  kept-kept s callers w xs =
      ap (λ reached. filter (keeps s callers reached) (kept s callers w xs)) (reach-kept marks_stay files_stay replies meets by_held by_held-local s callers w xs)
      ∙ filter-twice (keeps s callers (reach s callers w xs)) xs

  pub hashed-kept : (s : GatewaySettings) (callers : ℕ → Bool) (past : List Entry) (w : World) (xs : List Entry) → hashed s callers past w (kept s callers w xs) ≡ hashed s callers past w xs
  hashed-kept s callers past w xs =
      let reached = reach s callers w xs in
      let left = kept s callers w xs in
      let put : List Entry → List Use = λ es. flat_map upload_uses (uploads_of s es) in
      let with_reach : List Cap → List Use = λ r. reached_uses r (uploads_of s past) ++ (put (kept s callers w left) ++ (flat_map key_uses r ++ met_uses s callers w left)) in
      ap with_reach (reach-kept marks_stay files_stay replies meets by_held by_held-local s callers w xs)
      ∙ ap (λ es. reached_uses reached (uploads_of s past) ++ (put es ++ (flat_map key_uses reached ++ met_uses s callers w left))) (kept-kept s callers w xs)
      ∙ ap (λ t. reached_uses reached (uploads_of s past) ++ (put left ++ (flat_map key_uses reached ++ t)))
      (sym (met_uses-filtered s callers reached w w xs (Agrees-refl marks_stay files_stay reached w) (λ si there. there)))
