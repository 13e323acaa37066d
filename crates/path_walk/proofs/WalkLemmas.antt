-- Steps of a walk.
use Rattle.std.proofs.Common.{◌≡◌, ℕ, List, [], ◌∷◌, Option, Some, None, option_map, Result, Ok, Err, refl, ap, ◌∙◌}
use Rattle.std.specs.Result.{result_ok}
use Rattle.std.proofs.lemmas.List.Elements.{All-head, All-tail}
use Rattle.caps.specs.declared.cap.Cap.{Cap}
use Rattle.caps.specs.declared.cap.Cap.TheVariants.{Chk, Lit, DirChk, DirLit, ChkVerify, DirChkVerify}
use Rattle.dir_codec.specs.Find.{child_named}
use Rattle.dir_codec.specs.Reading.{directory_reading, children}
use Rattle.dir_codec.specs.declared.entry.Entry.{Entry}
use Rattle.dir_codec.specs.declared.fault.DirFault.{DirFault}
use Rattle.dir_codec.specs.Sought.{sought_of, sought_among, sought_in}
use Rattle.path_walk.specs.Faults.{child_of_sought}
use Rattle.path_walk.specs.Walk.{FileLookup, then_on, listed_below, cap_named, child_in, child_below, walked, met, or_walk_fault}
use Rattle.path_walk.specs.Agree.{GivesSameAt, GiveSameOn}
use Rattle.path_walk.specs.declared.fault.WalkFault.{WalkFault}
use Rattle.path_walk.specs.declared.fault.WalkFault.TheVariants.{NoChild, NotDirectory, NotEnoughShares}

-- steps are the same where looks agree
pub child_agrees : (gives other : FileLookup) (cap : Cap) (name : List ℕ) → GivesSameAt gives other cap → child_below gives cap name ≡ child_below other cap name
child_agrees gives other (Chk fields) name same = refl
child_agrees gives other (Lit bytes) name same = refl
child_agrees gives other (DirChk fields) name same = ap (λ o. then_on (child_in name) (or_walk_fault NotEnoughShares o)) same
child_agrees gives other (DirLit bytes) name same = refl
child_agrees gives other (ChkVerify fields) name same = refl
child_agrees gives other (DirChkVerify fields) name same = refl

walked_on : (gives other : FileLookup) (more : List (List ℕ)) (r : Result Cap WalkFault)
    → ((cap : Cap) → GiveSameOn gives other (met gives cap more) → walked gives cap more ≡ walked other cap more)
    → GiveSameOn gives other (listed_below (λ child. met gives child more) r)
    → then_on (λ child. walked gives child more) r ≡ then_on (λ child. walked other child more) r
walked_on gives other more (Ok child) each same = each child same
walked_on gives other more (Err fault) each same = refl

-- and so are walks, where they agree on the caps met
pub walks_agree : (gives other : FileLookup) (cap : Cap) (names : List (List ℕ)) → GiveSameOn gives other (met gives cap names) → walked gives cap names ≡ walked other cap names
walks_agree gives other here [] same = refl
walks_agree gives other here (name ∷ more) same =
    walked_on gives other more (child_below gives here name) (λ child. walks_agree gives other child more) (All-tail (GivesSameAt gives other) here _ same)
    ∙ ap (then_on (λ child. walked other child more)) (child_agrees gives other here name (All-head (GivesSameAt gives other) here _ same))

met_on : (gives other : FileLookup) (more : List (List ℕ)) (r : Result Cap WalkFault)
    → ((cap : Cap) → GiveSameOn gives other (met gives cap more) → met gives cap more ≡ met other cap more)
    → GiveSameOn gives other (listed_below (λ child. met gives child more) r)
    → listed_below (λ child. met gives child more) r ≡ listed_below (λ child. met other child more) r
met_on gives other more (Ok child) each same = each child same
met_on gives other more (Err fault) each same = refl

-- and the caps met
pub met_agree : (gives other : FileLookup) (cap : Cap) (names : List (List ℕ)) → GiveSameOn gives other (met gives cap names) → met gives cap names ≡ met other cap names
met_agree gives other here [] same = refl
met_agree gives other here (name ∷ more) same =
    ap (λ rest. here ∷ rest)
    (met_on gives other more (child_below gives here name) (λ child. met_agree gives other child more) (All-tail (GivesSameAt gives other) here _ same)
    ∙ ap (listed_below (λ child. met other child more)) (child_agrees gives other here name (All-head (GivesSameAt gives other) here _ same)))

-- what is found under a name in a text is the child in the directory whose text it is
among : (name : List ℕ) (r : Result (List Entry) DirFault)
    → then_on (λ entries. or_walk_fault (NoChild name) (cap_named name entries)) (or_walk_fault NotDirectory (result_ok r)) ≡ child_of_sought name (sought_among name r)
among name (Ok entries) = by_entry (child_named name entries)
  where
    by_entry : (o : Option Entry) → or_walk_fault (NoChild name) (option_map (λ (entry : Entry). entry.cap) o) ≡ child_of_sought name (sought_of (option_map (λ (entry : Entry). entry.cap) o))
    by_entry (Some entry) = refl
    by_entry None = refl
among name (Err fault) = refl

pub child_is_sought : (name bytes : List ℕ) → child_in name bytes ≡ child_of_sought name (sought_in name bytes)
unfolding child_in children sought_in
child_is_sought name bytes = among name (directory_reading bytes)
