-- Ways of walks over looks that give only bound bytes, and the caps that they meet.
use Rattle.std.proofs.Common.{◌≡◌, inl, inr, ℕ, suc, List, [], ◌∷◌, Contains, IfSome, Option, Some, None, Result, Ok, Err, refl, arith}
use Rattle.caps.specs.Fields.{ReadValue}
use Rattle.caps.specs.declared.cap.Cap.{Cap}
use Rattle.caps.specs.declared.cap.Cap.TheVariants.{Chk, Lit, DirChk, DirLit, ChkVerify, DirChkVerify}
use Rattle.file_shares.specs.Bound.{Bound}
use Rattle.path_walk.specs.Walk.{FileLookup, or_walk_fault, then_on, child_in, child_below, listed_below, walked, met}
use Rattle.path_walk.specs.Way.{IsChild, NamesLeadTo, IsStop, WalkStops}
use Rattle.path_walk.specs.declared.fault.WalkFault.{WalkFault}
use Rattle.path_walk.specs.declared.fault.WalkFault.TheVariants.{NotEnoughShares}

child_of_given : (fields : ReadValue) (name : List ℕ) (o : Option (List ℕ)) (child : Cap) → IfSome o (Bound fields)
    → then_on (child_in name) (or_walk_fault NotEnoughShares o) ≡ Ok child → IsChild (DirChk fields) name child
child_of_given fields name (Some bytes) child bound is = record { bytes = bytes; of_cap = bound; found = is }
child_of_given fields name None child bound is = cc

child_is : (gives : FileLookup) (here : Cap) (name : List ℕ) (child : Cap) → ((f : ReadValue) → IfSome (gives f) (Bound f)) → child_below gives here name ≡ Ok child → IsChild here name child
child_is gives (Chk fields) name child bound is = cc
child_is gives (Lit bytes) name child bound is = cc
child_is gives (DirChk fields) name child bound is = child_of_given fields name (gives fields) child (bound fields) is
child_is gives (DirLit bytes) name child bound is = record { bytes = bytes; of_cap = refl; found = is }
child_is gives (ChkVerify fields) name child bound is = cc
child_is gives (DirChkVerify fields) name child bound is = cc

stop_of_given : (fields : ReadValue) (name : List ℕ) (o : Option (List ℕ)) (fault : WalkFault) → IfSome o (Bound fields)
    → then_on (child_in name) (or_walk_fault NotEnoughShares o) ≡ Err fault → IsStop (DirChk fields) name fault
stop_of_given fields name (Some bytes) fault bound is = inr (bytes, (bound, is))
stop_of_given fields name None fault bound is = inl cc

stop_is : (gives : FileLookup) (here : Cap) (name : List ℕ) (fault : WalkFault) → ((f : ReadValue) → IfSome (gives f) (Bound f)) → child_below gives here name ≡ Err fault → IsStop here name fault
stop_is gives (Chk fields) name fault bound is = cc
stop_is gives (Lit bytes) name fault bound is = cc
stop_is gives (DirChk fields) name fault bound is = stop_of_given fields name (gives fields) fault (bound fields) is
stop_is gives (DirLit bytes) name fault bound is = is
stop_is gives (ChkVerify fields) name fault bound is = cc
stop_is gives (DirChkVerify fields) name fault bound is = cc

leads_on : (gives : FileLookup) (here : Cap) (name : List ℕ) (more : List (List ℕ)) (end : Cap) → ((f : ReadValue) → IfSome (gives f) (Bound f))
    → ((child : Cap) → walked gives child more ≡ Ok end → NamesLeadTo child more end)
    → (r : Result Cap WalkFault) → child_below gives here name ≡ r → then_on (λ child. walked gives child more) r ≡ Ok end → NamesLeadTo here (name ∷ more) end
leads_on gives here name more end bound each (Ok child) below is = (child, (child_is gives here name child bound below, each child is))
leads_on gives here name more end bound each (Err fault) below is = absurd (let P : Err fault ≡ Ok end = is in cc)

-- what is reached over such a look is led to
pub walked_leads : (gives : FileLookup) (here : Cap) (names : List (List ℕ)) (end : Cap) → ((f : ReadValue) → IfSome (gives f) (Bound f)) → walked gives here names ≡ Ok end → NamesLeadTo here names end
walked_leads gives here [] end bound is = cc
walked_leads gives here (name ∷ more) end bound is =
    leads_on gives here name more end bound (λ child. walked_leads gives child more end bound) (child_below gives here name) refl is

stops_on : (gives : FileLookup) (here : Cap) (name : List ℕ) (more : List (List ℕ)) (fault : WalkFault) → ((f : ReadValue) → IfSome (gives f) (Bound f))
    → ((child : Cap) → walked gives child more ≡ Err fault → WalkStops child more fault)
    → (r : Result Cap WalkFault) → child_below gives here name ≡ r → then_on (λ child. walked gives child more) r ≡ Err fault → WalkStops here (name ∷ more) fault
stops_on gives here name more fault bound each (Ok child) below is = inr (child, (child_is gives here name child bound below, each child is))
stops_on gives here name more fault bound each (Err first) below is = inl (stop_is gives here name fault bound (let same : Err first ≡ Err fault = is in cc))

-- and where it stops it stops
pub walked_stops : (gives : FileLookup) (here : Cap) (names : List (List ℕ)) (fault : WalkFault) → ((f : ReadValue) → IfSome (gives f) (Bound f)) → walked gives here names ≡ Err fault → WalkStops here names fault
walked_stops gives here [] fault bound is = cc
walked_stops gives here (name ∷ more) fault bound is =
    stops_on gives here name more fault bound (λ child. walked_stops gives child more fault bound) (child_below gives here name) refl is

there : (x y : Cap) (xs : List Cap) → Contains xs y → Contains (x ∷ xs) y
there x y xs found = (suc found.0, omega (arith, found.1), found.2)

end_on : (gives : FileLookup) (more : List (List ℕ)) (end : Cap) (r : Result Cap WalkFault)
    → ((child : Cap) → walked gives child more ≡ Ok end → Contains (met gives child more) end)
    → then_on (λ child. walked gives child more) r ≡ Ok end → Contains (listed_below (λ child. met gives child more) r) end
end_on gives more end (Ok child) each is = each child is
end_on gives more end (Err fault) each is = absurd (let P : Err fault ≡ Ok end = is in cc)

-- the end of a walk is met
pub end_is_met : (gives : FileLookup) (here : Cap) (names : List (List ℕ)) (end : Cap) → walked gives here names ≡ Ok end → Contains (met gives here names) end
end_is_met gives here [] end is = (0, omega arith, (let same : here ≡ end = cc in same))
end_is_met gives here (name ∷ more) end is =
    there here end _ (end_on gives more end (child_below gives here name) (λ child. end_is_met gives child more end) is)

-- and so is the cap that it begins at
pub beginning_is_met : (gives : FileLookup) (here : Cap) (names : List (List ℕ)) → Contains (met gives here names) here
beginning_is_met gives here [] = (0, omega arith, refl)
beginning_is_met gives here (name ∷ more) = (0, omega arith, refl)
