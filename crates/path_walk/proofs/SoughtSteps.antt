-- Steps that were looked up before a walk.
use Rattle.std.proofs.Common.{◌≡◌, ◌≢◌, inl, inr, ℕ, List, Result, Ok, Err, IfOk, IfErr, sym, ap, subst, ◌∙◌}
use Rattle.grid.specs.GridState.{GridState, stood, IsHonest}
use Rattle.caps.specs.Fields.{ReadValue}
use Rattle.caps.specs.declared.cap.Cap.{Cap}
use Rattle.caps.specs.declared.cap.Cap.TheVariants.{DirChk}
use Rattle.dir_codec.specs.declared.finder.Sought.{Sought}
use Rattle.chk_file.specs.Cached.{CacheEntry, IsCacheCurrent}
use Rattle.chk_file.specs.Look.{look_in}
use Rattle.chk_file.specs.Steps.{IsSought}
use Rattle.path_walk.specs.Faults.{child_of_sought}
use Rattle.path_walk.specs.Walk.{then_on, or_walk_fault, child_in, child_below}
use Rattle.path_walk.specs.Way.{IsChild, IsStop}
use Rattle.path_walk.specs.declared.fault.WalkFault.{WalkFault}
use Rattle.path_walk.specs.declared.fault.WalkFault.TheVariants.{NotEnoughShares, NoMemory}
use Rattle.path_walk.specs.Amid.{IsGivenAmid, IsStepBy}
use Rattle.path_walk.proofs.WalkLemmas.{child_is_sought}
use Rattle.path_walk.proofs.Amid.{step_read}

module _ (cache : List CacheEntry) (grid : GridState) (f : ReadValue) (name : List ℕ) (sought : Sought) (known : IsSought cache grid f name sought) where
  step : child_in name known.bytes ≡ child_of_sought name sought
  step = child_is_sought name known.bytes ∙ ap (child_of_sought name) (sym known.is)

  below : IsCacheCurrent cache grid → IsHonest grid → child_below (look_in (stood grid)).gives (DirChk f) name ≡ child_of_sought name sought
  below fresh all = ap (λ o. then_on (child_in name) (or_walk_fault NotEnoughShares o)) (known.fit fresh all) ∙ step

  pub known_child : (r : Result Cap WalkFault) → IfOk r (λ child. child_of_sought name sought ≡ Ok child) → IfOk r (λ child. IsChild (DirChk f) name child)
  known_child (Ok child) is = record { bytes = known.bytes; of_cap = known.bound; found = step ∙ is }
  known_child (Err fault) is = tt

  pub known_stop : (r : Result Cap WalkFault) → IfErr r (λ fault. fault ≢ NoMemory → child_of_sought name sought ≡ Err fault)
      → IfErr r (λ fault. fault ≢ NoMemory → IsStop (DirChk f) name fault)
  known_stop (Ok child) is = tt
  known_stop (Err fault) is = λ memory. inr (known.bytes, (known.bound, step ∙ is memory))

  pub known_found : IsCacheCurrent cache grid → IsHonest grid → (r : Result Cap WalkFault) → IfOk r (λ child. child_of_sought name sought ≡ Ok child)
      → IfOk r (λ child. child_below (look_in (stood grid)).gives (DirChk f) name ≡ Ok child)
  known_found fresh all (Ok child) is = below fresh all ∙ is
  known_found fresh all (Err fault) is = tt

  pub known_refused : IsCacheCurrent cache grid → IsHonest grid → (r : Result Cap WalkFault) → IfErr r (λ fault. fault ≢ NoMemory → child_of_sought name sought ≡ Err fault)
      → IfErr r (λ fault. fault ≢ NoMemory → child_below (look_in (stood grid)).gives (DirChk f) name ≡ Err fault)
  known_refused fresh all (Ok child) is = tt
  known_refused fresh all (Err fault) is = λ memory. below fresh all ∙ is memory

  pub known_seen : (new : GridState) (r : Result Cap WalkFault) → IfOk r (λ child. child_of_sought name sought ≡ Ok child)
      → IfErr r (λ fault. fault ≢ NoMemory → child_of_sought name sought ≡ Err fault) → r ≢ Err NoMemory → IsStepBy (IsGivenAmid cache grid new) (DirChk f) name r
  known_seen new r found refused =
      step_read cache grid new f name r known.bytes (inl known.kept)
      (subst (λ (x : Result Cap WalkFault). IfOk r (λ child. x ≡ Ok child)) (sym step) found)
      (subst (λ (x : Result Cap WalkFault). IfErr r (λ fault. fault ≢ NoMemory → x ≡ Err fault)) (sym step) refused)
