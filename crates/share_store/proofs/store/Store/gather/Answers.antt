use Rattle.std.proofs.Common.{◌≡◌, inl, inr, ◌<◌, ◌≤◌, ◌+◌, ◌-◌, ◌++◌, ◌∙◌, ℕ, List, [], ◌∷◌, refl, sym, ap, subst, arith, map, take, drop, drop-cons, add-one, length, append-nil, Some, None, slice_get, get_or, rules}
use Rattle.std.proofs.lemmas.List.{map-append, length-map, take_all, drop_all}
use Rattle.std.proofs.lemmas.Option.{slice_get-get_or}
use Rattle.std.proofs.lemmas.Result.{IfOk-from_err}
use Rattle.std.proofs.lemmas.Simd.{map-map}
use Rattle.std.specs.FinMap.{entries, get}
use Rattle.std.specs.Option.{option_map}
use Rattle.std.specs.Rc.{rc_slice_items}
use Rattle.share_store.specs.Shares.{ShareEntry}
use Rattle.share_store.specs.Numbers.{of_index}
use Rattle.share_store.specs.NumberedShares.{AllBut, below_limit, numbered_bytes, shares_for}
use Rattle.share_store.proofs.Gathering.{numbered, stands_at, one_more, share_of_number, by_calm, by_rise, rises_or_stays}
use Rattle.share_store.proofs.Amassed.{IsAmassed, amassed_none, amassed_failed, amassed_one, amassed_missed, amassed_all, amassed_later}
use Rattle.share_store.proofs.Amid.{goes_on_same, tells_on_both, amid_whole, seen_first}
use Rattle.share_store.proofs.Looks.{looked_both}
use Rattle.share_store.proofs.Missing.{more_may_miss, all_but_both, all_missing}
use Rattle.share_store.proofs.Within.{within_none, within_map, within_at}
use Rattle.share_store.proofs.store.Store.gather.Goals as goal
use Rattle.share_store.proofs.store.Store.gather.Goals.{in-Some+in_ok-push-in-Some, in-None}

-- a count that doesn't fall
still_more : {a b c : ℕ} → a < b → b ≤ c → a < c
still_more lt le = omega arith

more_yet : {a b c : ℕ} → a ≤ b → b < c → a < c
more_yet le lt = omega arith

less_left : {i n : ℕ} → i < n → n - (i + 1) < n - i
less_left lt = omega arith

-- past the last number is past the last share
all_passed : {i : ℕ} (ss : List (ℕ × List ℕ)) {items : List ℕ} → items ≡ map (λ (s : ℕ × List ℕ). s.0) ss → length items ≤ i → length ss ≤ i
all_passed ss nums le = omega (arith, ap length nums, length-map ss (λ (s : ℕ × List ℕ). s.0))

pub loop-number-preserved : goal.loop-number-preserved
loop-number-preserved g c =
    let store = g.Self.Store in
    let inv = c.loop-number.invariant in
    let got = c.in_ok-bytes.ensures in
    let old = c.args.self.now in
    let mid = c.loop-number.self in
    let new = c.get.new.self in
    let items = c.deref-number-items.result.now in
    let i = c.loop-number.number-index in
    let n = get_or items i 0 in
    record {
      looked = looked_both inv.looked got.looked;
      same_history = λ honest. got.same_history (inv.looked.still_honest honest) ∙ inv.same_history honest;
      told = tells_on_both store.honest store.history old mid new inv.told got.told;
      risen = λ rose. still_more (inv.risen rose) got.looked.rises;
      found = λ honest ss nums stands.
          let P : ℕ × List ℕ → Type 0 = λ _. store.failures old < store.failures mid in
          let Q : ℕ × List ℕ → Type 0 = λ _. store.failures old < store.failures new in
          let so_far = map (numbered_bytes rc_slice_items) c.loop-number.found.items in
          let seen = take i ss in
          let share = share_of_number ss i n (ap (λ l. slice_get l i) (sym nums) ∙ slice_get-get_or items i 0 c.loop-number-test.true) in
          let s = share.0 in
          let stood_mid : get (store.shares mid) (c.args.index, n) ≡ Some s.1 =
          ap (λ m. get m (c.args.index, n)) (inv.looked.same_shares honest) ∙ ap (λ k. get (store.shares old) (c.args.index, k)) (sym share.2) ∙ stands i s share.1 in
          let weaker : AllBut Q seen so_far = more_may_miss P Q seen so_far (λ f missed. still_more missed got.looked.rises) (inv.found honest ss nums stands) in
          let next : take (i + 1) ss ≡ seen ++ s ∷ [] = one_more ss i s share.1 in
          elim c.match-branch-3.branch [
            | in-Some+in_ok-push-in-Some w ↦
                let bytes = w.in-Some.bytes in
                let calm : store.failures new ≡ store.failures mid = by_calm (store.failures mid) (store.failures new) got.looked.rises
                (λ rose. let none = got.failed rose in let is = w.in-Some.is in cc) in
                let same : Some (rc_slice_items bytes) ≡ Some s.1 = sym (ap (option_map rc_slice_items) w.in-Some.is) ∙ got.found (inv.looked.still_honest honest) calm ∙ stood_mid in
                let is : rc_slice_items bytes ≡ s.1 = cc in
                let pushed : (n, rc_slice_items bytes) ≡ s = λ j. (sym share.2 j, is j) in
                let now_found : map (numbered_bytes rc_slice_items) c.match-branch-3.found.items ≡ so_far ++ s ∷ [] = ap (λ v. map (numbered_bytes rc_slice_items) v.items) w.found-is
                ∙ ap (map (numbered_bytes rc_slice_items)) w.in_ok-push-in-Some.ensures.items
                ∙ map-append (numbered_bytes rc_slice_items) c.loop-number.found.items _
                ∙ ap (λ f. so_far ++ f ∷ []) pushed in
                subst (λ l. AllBut Q l (map (numbered_bytes rc_slice_items) c.match-branch-3.found.items)) (sym next)
                (subst (AllBut Q (seen ++ s ∷ [])) (sym now_found)
                (all_but_both Q seen (s ∷ []) so_far (s ∷ []) weaker (inr ([], refl, refl))))
            | in-None w ↦
                let rose : store.failures mid < store.failures new = by_rise (store.failures mid) (store.failures new) got.looked.rises
                (λ calm. let none : None ≡ Some s.1 = sym (ap (option_map rc_slice_items) w.in-None.is) ∙ got.found (inv.looked.still_honest honest) calm ∙ stood_mid in cc) in
                let now_found : map (numbered_bytes rc_slice_items) c.match-branch-3.found.items ≡ so_far = ap (λ v. map (numbered_bytes rc_slice_items) v.items) w.found-is in
                subst (λ l. AllBut Q l (map (numbered_bytes rc_slice_items) c.match-branch-3.found.items)) (sym next)
                (subst (AllBut Q (seen ++ s ∷ [])) (append-nil so_far ∙ sym now_found)
                (all_but_both Q seen (s ∷ []) so_far [] weaker (inl (more_yet inv.looked.rises rose, refl))))
          ];
      seen = λ shared.
          let Q : Type 0 = store.failures old < store.failures new in
          let so_far = map (numbered_bytes rc_slice_items) c.loop-number.found.items in
          let told = inv.told shared in
          let then = got.told told.0 in
          let within : i < length items = c.loop-number-test.true in
          let next : drop i items ≡ n ∷ drop (i + 1) items = rw (add-one, drop-cons items i 0) refl in
          let before : IsAmassed (store.history old) (store.history new) Q c.args.index c.args.limit (n ∷ drop (i + 1) items) so_far =
          subst (λ (l : List ℕ). IsAmassed (store.history old) (store.history new) Q c.args.index c.args.limit l so_far) next
          (amassed_later shared then.1 (λ missed. still_more missed got.looked.rises) (inv.seen shared)) in
          elim c.match-branch-3.branch [
            | in-Some+in_ok-push-in-Some w ↦
                let bytes = w.in-Some.bytes in
                let calm : store.failures new ≡ store.failures mid = by_calm (store.failures mid) (store.failures new) got.looked.rises
                (λ rose. let none = got.failed rose in let is = w.in-Some.is in cc) in
                let sight = got.seen told.0 calm in
                let at = sight.1 (c.args.index, n) in
                let now_found : map (numbered_bytes rc_slice_items) c.match-branch-3.found.items ≡ so_far ++ (n, rc_slice_items bytes) ∷ [] = ap (λ v. map (numbered_bytes rc_slice_items) v.items) w.found-is
                ∙ ap (map (numbered_bytes rc_slice_items)) w.in_ok-push-in-Some.ensures.items
                ∙ map-append (numbered_bytes rc_slice_items) c.loop-number.found.items _ in
                subst (IsAmassed (store.history old) (store.history new) Q c.args.index c.args.limit (drop (i + 1) items)) (sym now_found)
                (amassed_one (Some (rc_slice_items bytes)) at.0 (amid_whole shared told.1 at.1 (goes_on_same (store.history new) (store.history new) refl))
                (sym (ap (option_map rc_slice_items) w.in-Some.is) ∙ sight.2 ∙ at.2) before)
            | in-None w ↦
                let now_found : map (numbered_bytes rc_slice_items) c.match-branch-3.found.items ≡ so_far = ap (λ v. map (numbered_bytes rc_slice_items) v.items) w.found-is in
                subst (IsAmassed (store.history old) (store.history new) Q c.args.index c.args.limit (drop (i + 1) items)) (sym now_found)
                (rises_or_stays (store.failures mid) (store.failures new) got.looked.rises _
                (λ rose. amassed_missed (more_yet inv.looked.rises rose) before)
                (λ calm.
                let sight = got.seen told.0 calm in
                let at = sight.1 (c.args.index, n) in
                subst (IsAmassed (store.history old) (store.history new) Q c.args.index c.args.limit (drop (i + 1) items)) (append-nil so_far)
                (amassed_one None at.0 (amid_whole shared told.1 at.1 (goes_on_same (store.history new) (store.history new) refl))
                (sym (ap (option_map rc_slice_items) w.in-None.is) ∙ sight.2 ∙ at.2) before)))
          ];
    }

pub returns-clause-found : goal.returns-clause-found
returns-clause-found g c honest =
    let store = g.Self.Store in
    let inv = c.loop-number.invariant in
    let old = c.args.self.now in
    let items = c.deref-number-items.result.now in
    let i = c.loop-number.number-index in
    let stored = c.in_ok-stored.ensures in
    let entries_there : List ShareEntry = of_index c.args.index (entries (store.shares old)) in
    let whole = shares_for (store.shares old) c.args.index in
    let ss = below_limit (λ (s : ℕ × List ℕ). s.0) c.args.limit whole in
    let P : ℕ × List ℕ → Type 0 = λ _. store.failures old < store.failures c.loop-number.self in
    let found = map (numbered_bytes rc_slice_items) c.loop-number.found.items in
    let kept : items ≡ below_limit (λ (n : ℕ). n) c.args.limit c.in_ok-stored.stored.items = c.deref-number-items.ensures.value ∙ c.below-numbers.ensures in
    rises_or_stays (store.failures old) (store.failures c.numbers.new.self) stored.looked.rises _
    (λ rose.
    let none : items ≡ [] = kept ∙ ap (below_limit (λ (n : ℕ). n) c.args.limit) (stored.failed rose) ∙ within_none (λ (n : ℕ). n) c.args.limit in
    let nothing : found ≡ [] = subst (λ (l : List (ℕ × List ℕ)). AllBut P l found) (take_all i [] (omega arith)) (inv.found honest [] none (λ k s at. cc)) in
    subst (AllBut P ss) (sym nothing) (all_missing P ss (λ _. inv.risen rose)))
    (λ calm.
    let nums : items ≡ map (λ (s : ℕ × List ℕ). s.0) ss =
    kept ∙ ap (below_limit (λ (n : ℕ). n) c.args.limit) (stored.found honest calm ∙ sym (map-map (λ (s : ℕ × List ℕ). s.0) numbered entries_there)) ∙ within_map (λ (n : ℕ). n) (λ (s : ℕ × List ℕ). s.0) c.args.limit whole in
    let so_far =
    inv.found honest ss nums
    (λ k s at. let there = within_at (λ (x : ℕ × List ℕ). x.0) c.args.limit whole k s at in stands_at (store.shares old) c.args.index there.0 s there.1) in
    let all_looked : take i ss ≡ ss = take_all i ss (all_passed ss nums c.loop-number-test.false) in
    subst (λ (l : List (ℕ × List ℕ)). AllBut P l found) all_looked so_far)

pub returns-clause-seen : goal.returns-clause-seen
returns-clause-seen g c shared =
    let items = c.deref-number-items.result.now in
    let i = c.loop-number.number-index in
    let so_far = c.loop-number.invariant.seen shared in
    let done : drop i items ≡ [] = drop_all i items c.loop-number-test.false in
    (so_far.view, so_far.seen, amassed_all done so_far)

pub loop-number-init : goal.loop-number-init
loop-number-init g c =
    let store = g.Self.Store in
    let old = c.args.self.now in
    let new = c.numbers.new.self in
    let items = c.deref-number-items.result.now in
    let stored = c.in_ok-stored.ensures in
    let kept : items ≡ below_limit (λ (n : ℕ). n) c.args.limit c.in_ok-stored.stored.items = c.deref-number-items.ensures.value ∙ c.below-numbers.ensures in
    let none : c.new-found.result.items ≡ [] = c.new-found.ensures.items in
    record {
      looked = stored.looked;
      same_history = stored.same_history;
      told = stored.told;
      risen = λ rose. rose;
      found = λ honest ss nums stands. ap (map (numbered_bytes rc_slice_items)) none;
      seen = λ shared.
          let told = stored.told shared in
          let Q : Type 0 = store.failures old < store.failures new in
          subst (IsAmassed (store.history old) (store.history new) Q c.args.index c.args.limit items) (sym (ap (map (numbered_bytes rc_slice_items)) none))
          (rises_or_stays (store.failures old) (store.failures new) stored.looked.rises _
          (λ rose. amassed_failed shared.last items (seen_first shared told.1)
          (kept ∙ ap (below_limit (λ (n : ℕ). n) c.args.limit) (stored.failed rose) ∙ within_none (λ (n : ℕ). n) c.args.limit) rose)
          (λ calm.
          let sight = stored.seen shared calm in
          let there : List ShareEntry = of_index c.args.index (entries sight.0) in
          amassed_none sight.0 items sight.1
          (kept ∙ ap (below_limit (λ (n : ℕ). n) c.args.limit) (sight.2 ∙ sym (map-map (λ (s : ℕ × List ℕ). s.0) numbered there))
          ∙ within_map (λ (n : ℕ). n) (λ (s : ℕ × List ℕ). s.0) c.args.limit (shares_for sight.0 c.args.index))));
    }

pub returns-in_err-bytes-clause-told : goal.returns-in_err-bytes-clause-told
returns-in_err-bytes-clause-told g c = tells_on_both g.Self.Store.honest g.Self.Store.history _ _ _ c.loop-number.invariant.told c.in_err-bytes.ensures.told

pub returns-in_err-push-in-Some-clause-told : goal.returns-in_err-push-in-Some-clause-told
returns-in_err-push-in-Some-clause-told g c = tells_on_both g.Self.Store.honest g.Self.Store.history _ _ _ c.loop-number.invariant.told c.in_ok-bytes.ensures.told

pub returns-in_err-stored-clause-looked : goal.returns-in_err-stored-clause-looked
returns-in_err-stored-clause-looked g c = c.in_err-stored.ensures.looked

pub returns-in_err-stored-clause-same_history : goal.returns-in_err-stored-clause-same_history
returns-in_err-stored-clause-same_history g c = c.in_err-stored.ensures.same_history

pub returns-in_err-stored-clause-told : goal.returns-in_err-stored-clause-told
returns-in_err-stored-clause-told g c = c.in_err-stored.ensures.told

pub returns-in_err-stored-clause-found : goal.returns-in_err-stored-clause-found
returns-in_err-stored-clause-found g c honest = IfOk-from_err c.from_residual.result _ c.from_residual.ensures.0

pub returns-in_err-stored-clause-seen : goal.returns-in_err-stored-clause-seen
returns-in_err-stored-clause-seen g c shared = IfOk-from_err c.from_residual.result _ c.from_residual.ensures.0

pub returns-in_err-bytes-clause-looked : goal.returns-in_err-bytes-clause-looked
returns-in_err-bytes-clause-looked g c = looked_both c.loop-number.invariant.looked c.in_err-bytes.ensures.looked

pub returns-in_err-bytes-clause-same_history : goal.returns-in_err-bytes-clause-same_history
returns-in_err-bytes-clause-same_history g c honest =
    c.in_err-bytes.ensures.same_history (c.loop-number.invariant.looked.still_honest honest) ∙ c.loop-number.invariant.same_history honest

pub returns-in_err-bytes-clause-found : goal.returns-in_err-bytes-clause-found
returns-in_err-bytes-clause-found g c honest = IfOk-from_err c.from_residual-in_err-bytes.result _ c.from_residual-in_err-bytes.ensures.0

pub returns-in_err-bytes-clause-seen : goal.returns-in_err-bytes-clause-seen
returns-in_err-bytes-clause-seen g c shared = IfOk-from_err c.from_residual-in_err-bytes.result _ c.from_residual-in_err-bytes.ensures.0

pub returns-in_err-push-in-Some-clause-looked : goal.returns-in_err-push-in-Some-clause-looked
returns-in_err-push-in-Some-clause-looked g c = looked_both c.loop-number.invariant.looked c.in_ok-bytes.ensures.looked

pub returns-in_err-push-in-Some-clause-same_history : goal.returns-in_err-push-in-Some-clause-same_history
returns-in_err-push-in-Some-clause-same_history g c honest =
    c.in_ok-bytes.ensures.same_history (c.loop-number.invariant.looked.still_honest honest) ∙ c.loop-number.invariant.same_history honest

pub returns-in_err-push-in-Some-clause-found : goal.returns-in_err-push-in-Some-clause-found
returns-in_err-push-in-Some-clause-found g c honest = IfOk-from_err c.from_residual-in_err-push-in-Some.result _ c.from_residual-in_err-push-in-Some.ensures.0

pub returns-in_err-push-in-Some-clause-seen : goal.returns-in_err-push-in-Some-clause-seen
returns-in_err-push-in-Some-clause-seen g c shared = IfOk-from_err c.from_residual-in_err-push-in-Some.result _ c.from_residual-in_err-push-in-Some.ensures.0

pub returns-clause-looked : goal.returns-clause-looked
returns-clause-looked g c = c.loop-number.invariant.looked

pub returns-clause-same_history : goal.returns-clause-same_history
returns-clause-same_history g c = c.loop-number.invariant.same_history

pub returns-clause-told : goal.returns-clause-told
returns-clause-told g c = c.loop-number.invariant.told

pub loop-number-smaller : goal.loop-number-smaller
loop-number-smaller g c = less_left c.loop-number-test.true
