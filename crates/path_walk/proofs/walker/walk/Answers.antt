use Rattle.std.proofs.Common.{◌≡◌, ◌≢◌, ℕ, ◌+◌, List, [], ◌∷◌, length, drop, Result, Ok, Err, IfErr, inl, inr, refl, sym, ap, subst, ◌∙◌, arith}
use Rattle.std.specs.Prelude.{IsErrAnd}
use Rattle.caps.specs.declared.cap.Cap.{Cap}
use Rattle.path_walk.specs.declared.fault.WalkFault.{WalkFault}
use Rattle.path_walk.specs.declared.fault.WalkFault.TheVariants.{NoMemory}
use Rattle.std.proofs.lemmas.List.{drop_more, drop_all}
use Rattle.grid.specs.GridState.{stood}
use Rattle.grid.specs.Standing.{standing}
use Rattle.chk_file.specs.Look.{look_in}
use Rattle.path_walk.specs.Walk.{FileLookup, then_on, child_below, walked}
use Rattle.path_walk.specs.Way.{NamesLeadTo, WalkStops}
use Rattle.grid.proofs.Turns.{leaves_none, leaves_both, unchanged_none, unchanged_both, unchanged_then, calm_first, calm_second}
use Rattle.grid.proofs.Views.{tell_on_none, tell_on_both, still_none, still_both}
use Rattle.chk_file.proofs.Amid.{kept_within, kept_both}
use Rattle.path_walk.specs.Amid.{IsGivenAmid, WalksBy}
use Rattle.path_walk.proofs.Amid.{given_amid, step_so, not_memory, is_passed_on}
use Rattle.path_walk.proofs.walker.walk.Goals as goal

-- a fault that is passed on
passed_on : (r : Result Cap WalkFault) (fault : WalkFault) (P : WalkFault → Type 0) → IsErrAnd r (λ e. e ≡ fault) → (fault ≢ NoMemory → P fault) → IfErr r (λ f. f ≢ NoMemory → P f)
passed_on (Ok end) fault P is holds = tt
passed_on (Err e) fault P is holds = subst (λ f. f ≢ NoMemory → P f) (sym is) holds

pub loop-name-init : goal.loop-name-init
loop-name-init g c =
    let grid = c.args.grid.now in
    let is = c.in_ok-here.ensures in
    record {
      leaves = leaves_none grid;
      unchanged = λ _. unchanged_none grid;
      stand_still = still_none grid;
      told = tell_on_none grid;
      fresh = λ fresh. fresh;
      unread = λ _. refl;
      leads = λ end way. subst (λ (cap : Cap). NamesLeadTo cap c.as_slice-name-items.result.now end) is way;
      stops = λ fault stop. subst (λ (cap : Cap). WalkStops cap c.as_slice-name-items.result.now fault) is stop;
      walks = λ fresh all calm. ap (λ (cap : Cap). walked (look_in (stood grid)).gives cap c.as_slice-name-items.result.now) (sym is);
      kept_seen = λ all. kept_within grid grid c.args.cache.now c.args.cache.now (λ entry there. there);
      seen = λ all last result after then walks. subst (λ (cap : Cap). WalksBy (IsGivenAmid c.args.cache.now grid last) cap c.as_slice-name-items.result.now result) is walks;
    }

pub loop-name-preserved : goal.loop-name-preserved
loop-name-preserved g c =
    let inv = c.loop-name.invariant in
    let one = c.in_ok-here-2.ensures in
    let old = c.args.grid.now in
    let mid = c.loop-name.grid in
    let new = c.child_below.new.grid in
    let here = c.loop-name.here in
    let child = c.in_ok-here-2.here in
    let items = c.as_slice-name-items.result.now in
    let i = c.loop-name.name-index in
    let name = c.name-item.result in
    let more = drop (i + 1) items in
    let gives : FileLookup = (look_in (stood old)).gives in
    let left : drop i items ≡ name ∷ more = drop_more items i name c.loop-name-test.true ∙ ap (λ (n : List ℕ). n ∷ more) (sym c.name-item.is) in
    record {
      leaves = leaves_both old mid new inv.leaves one.leaves;
      unchanged = λ all. unchanged_both old mid new (inv.unchanged all) (one.unchanged (inv.leaves.honest all));
      fresh = λ fresh. one.fresh (inv.fresh fresh);
      unread = λ none. (let empty : length items ≡ 0 = ap length none in absurd (omega (arith, empty, c.loop-name-test.true)));
      stand_still = still_both old mid new inv.stand_still one.stand_still;
      told = tell_on_both old mid new inv.told one.told;
      kept_seen = λ all. kept_both old mid new c.args.cache.now c.loop-name.cache c.child_below.new.cache inv.told inv.stand_still one.told (inv.kept_seen all) (one.kept_seen (inv.told.all all));
      seen = λ all last result after then walks.
          inv.seen all last result (leaves_both mid new last one.leaves after) (tell_on_both mid new last one.told then)
          (subst (λ (rest : List (List ℕ)). WalksBy (IsGivenAmid c.args.cache.now old last) here rest result) (sym left) (
            Ok child,
            step_so (IsGivenAmid c.loop-name.cache mid new) (IsGivenAmid c.args.cache.now old last)
                (given_amid old mid new last inv.leaves inv.told inv.stand_still one.told after then c.args.cache.now c.loop-name.cache (inv.kept_seen all)) here name (Ok child)
                (one.seen (inv.told.all all) (not_memory child)),
            walks,
          ));
      leads = λ end way. inv.leads end (subst (λ rest. NamesLeadTo here rest end) (sym left) (child, (one.child, way)));
      stops = λ fault stop. inv.stops fault (subst (λ rest. WalkStops here rest fault) (sym left) (inr (child, (one.child, stop))));
      walks = λ fresh all calm.
          let found = one.found (inv.fresh fresh) (inv.leaves.honest all) (calm_second old mid new inv.leaves one.leaves calm) in
          let step : child_below gives here name ≡ Ok child = subst (λ maps. child_below (look_in (standing maps)).gives here name ≡ Ok child) (inv.unchanged all).maps found in
          inv.walks fresh all (calm_first old mid new inv.leaves one.leaves calm)
          ∙ ap (walked gives here) left
          ∙ ap (then_on (λ next. walked gives next more)) step;
    }

pub returns-in_err-here-2-clause-leaves : goal.returns-in_err-here-2-clause-leaves
returns-in_err-here-2-clause-leaves g c = leaves_both c.args.grid.now c.loop-name.grid c.child_below.new.grid c.loop-name.invariant.leaves c.in_err-here-2.ensures.leaves

pub returns-in_err-here-2-clause-unchanged : goal.returns-in_err-here-2-clause-unchanged
returns-in_err-here-2-clause-unchanged g c = unchanged_then c.loop-name.invariant.leaves c.loop-name.invariant.unchanged c.in_err-here-2.ensures.unchanged

pub returns-in_err-here-2-clause-fresh : goal.returns-in_err-here-2-clause-fresh
returns-in_err-here-2-clause-fresh g c fresh = c.in_err-here-2.ensures.fresh (c.loop-name.invariant.fresh fresh)

pub returns-in_err-here-2-clause-stops : goal.returns-in_err-here-2-clause-stops
returns-in_err-here-2-clause-stops g c =
    let items = c.as_slice-name-items.result.now in
    let i = c.loop-name.name-index in
    let name = c.name-item.result in
    let left : drop i items ≡ name ∷ drop (i + 1) items = drop_more items i name c.loop-name-test.true ∙ ap (λ (n : List ℕ). n ∷ drop (i + 1) items) (sym c.name-item.is) in
    passed_on c.from_residual-in_err-here-2.result c.in_err-here-2.field-0.0 (WalkStops c.args.cap.now c.args.names.now) c.from_residual-in_err-here-2.ensures.1
    (λ memory. subst (λ names. WalkStops c.args.cap.now names c.in_err-here-2.field-0.0) c.as_slice-name-items.ensures
    (c.loop-name.invariant.stops c.in_err-here-2.field-0.0 (subst (λ rest. WalkStops c.loop-name.here rest c.in_err-here-2.field-0.0) (sym left) (inl (c.in_err-here-2.ensures.stop memory)))))

pub returns-in_err-here-2-clause-refused : goal.returns-in_err-here-2-clause-refused
returns-in_err-here-2-clause-refused g c fresh all calm =
    let inv = c.loop-name.invariant in
    let one = c.in_err-here-2.ensures in
    let old = c.args.grid.now in
    let mid = c.loop-name.grid in
    let new = c.child_below.new.grid in
    let here = c.loop-name.here in
    let items = c.as_slice-name-items.result.now in
    let i = c.loop-name.name-index in
    let name = c.name-item.result in
    let more = drop (i + 1) items in
    let fault = c.in_err-here-2.field-0.0 in
    let gives : FileLookup = (look_in (stood old)).gives in
    let left : drop i items ≡ name ∷ more = drop_more items i name c.loop-name-test.true ∙ ap (λ (n : List ℕ). n ∷ more) (sym c.name-item.is) in
    passed_on c.from_residual-in_err-here-2.result fault (λ f. walked gives c.args.cap.now c.args.names.now ≡ Err f) c.from_residual-in_err-here-2.ensures.1
    (λ memory.
    let found = one.refused (inv.fresh fresh) (inv.leaves.honest all) (calm_second old mid new inv.leaves one.leaves calm) memory in
    let step : child_below gives here name ≡ Err fault = subst (λ maps. child_below (look_in (standing maps)).gives here name ≡ Err fault) (inv.unchanged all).maps found in
    ap (walked gives c.args.cap.now) (sym c.as_slice-name-items.ensures)
    ∙ inv.walks fresh all (calm_first old mid new inv.leaves one.leaves calm)
    ∙ ap (walked gives here) left
    ∙ ap (then_on (λ next. walked gives next more)) step)

pub returns-in_err-here-2-clause-stand_still : goal.returns-in_err-here-2-clause-stand_still
returns-in_err-here-2-clause-stand_still g c = still_both c.args.grid.now c.loop-name.grid c.child_below.new.grid c.loop-name.invariant.stand_still c.in_err-here-2.ensures.stand_still

pub returns-in_err-here-2-clause-told : goal.returns-in_err-here-2-clause-told
returns-in_err-here-2-clause-told g c = tell_on_both c.args.grid.now c.loop-name.grid c.child_below.new.grid c.loop-name.invariant.told c.in_err-here-2.ensures.told

pub returns-in_err-here-2-clause-kept_seen : goal.returns-in_err-here-2-clause-kept_seen
returns-in_err-here-2-clause-kept_seen g c all =
    let inv = c.loop-name.invariant in
    let one = c.in_err-here-2.ensures in
    kept_both c.args.grid.now c.loop-name.grid c.child_below.new.grid c.args.cache.now c.loop-name.cache c.child_below.new.cache inv.told inv.stand_still one.told (inv.kept_seen all) (one.kept_seen (inv.told.all all))

pub returns-in_err-here-2-clause-seen : goal.returns-in_err-here-2-clause-seen
returns-in_err-here-2-clause-seen g c all some =
    let inv = c.loop-name.invariant in
    let one = c.in_err-here-2.ensures in
    let old = c.args.grid.now in
    let mid = c.loop-name.grid in
    let new = c.child_below.new.grid in
    let here = c.loop-name.here in
    let items = c.as_slice-name-items.result.now in
    let i = c.loop-name.name-index in
    let name = c.name-item.result in
    let fault = c.in_err-here-2.field-0.0 in
    let result : Result Cap WalkFault = c.from_residual-in_err-here-2.result in
    let is : result ≡ Err fault = is_passed_on result fault c.from_residual-in_err-here-2.ensures.1 in
    let left : drop i items ≡ name ∷ drop (i + 1) items = drop_more items i name c.loop-name-test.true ∙ ap (λ (n : List ℕ). n ∷ drop (i + 1) items) (sym c.name-item.is) in
    subst (λ (names : List (List ℕ)). WalksBy (IsGivenAmid c.args.cache.now old new) c.args.cap.now names result) c.as_slice-name-items.ensures
    (inv.seen all new result one.leaves one.told
    (subst (λ (rest : List (List ℕ)). WalksBy (IsGivenAmid c.args.cache.now old new) here rest result) (sym left) (
      Err fault,
      step_so (IsGivenAmid c.loop-name.cache mid new) (IsGivenAmid c.args.cache.now old new)
          (given_amid old mid new new inv.leaves inv.told inv.stand_still one.told (leaves_none new) (tell_on_none new) c.args.cache.now c.loop-name.cache (inv.kept_seen all)) here name (Err fault)
          (one.seen (inv.told.all all) (λ same. some (is ∙ same))),
      is,
    )))

pub returns-in_err-here-clause-stand_still : goal.returns-in_err-here-clause-stand_still
returns-in_err-here-clause-stand_still g c = still_none c.args.grid.now

pub returns-in_err-here-clause-told : goal.returns-in_err-here-clause-told
returns-in_err-here-clause-told g c = tell_on_none c.args.grid.now

pub returns-clause-seen : goal.returns-clause-seen
returns-clause-seen g c all some =
    let items = c.as_slice-name-items.result.now in
    let new = c.loop-name.grid in
    let end : Result Cap WalkFault = Ok c.loop-name.here in
    let none : drop c.loop-name.name-index items ≡ [] = drop_all c.loop-name.name-index items c.loop-name-test.false in
    subst (λ (names : List (List ℕ)). WalksBy (IsGivenAmid c.args.cache.now c.args.grid.now new) c.args.cap.now names end) c.as_slice-name-items.ensures
    (c.loop-name.invariant.seen all new end (leaves_none new) (tell_on_none new)
    (subst (λ (rest : List (List ℕ)). WalksBy (IsGivenAmid c.args.cache.now c.args.grid.now new) c.loop-name.here rest end) (sym none) refl))
