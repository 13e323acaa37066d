use Rattle.std.proofs.Common.{◌≡◌, List, ℕ, map, Option, IfSome, sym, subst, ◌∙◌, Contains}
use Rattle.std.specs.Rc.{rc_slice_items}
use Rattle.grid.specs.Found.{found_bytes}
use Rattle.caps.specs.Fields.{ReadValue}
use Rattle.chk_file.specs.Cached.{CacheEntry}
use Rattle.file_shares.specs.Gathered.{Found, fit_of}
use Rattle.file_shares.specs.Ahead.{plain_from, AreVerified}
use Rattle.chk_file.specs.Seen.{gathered_file}
use Rattle.chk_file.proofs.LookUps.{some_so}
use Rattle.chk_file.proofs.long_reader.given_at.Goals as goal

pub returns-clause-there : goal.returns-clause-there
returns-clause-there c =
    let f : ReadValue = c.args.fields.now in
    let old : List CacheEntry = c.args.cache.now in
    let gathered = c.in_ok-gathered.gathered in
    let found : List Found = map (found_bytes rc_slice_items) c.deref.result.now in
    let given : gathered_file gathered ≡ fit_of found f = (λ i. fit_of (map (found_bytes rc_slice_items) (sym c.deref.ensures.value i)) (c.in_ok-gathered.ensures.fields i)) in
    some_so (λ shares. AreVerified c.in_ok-ready.ready.fields found shares.items) (λ shares. Contains old (f, (c.args.stamp, plain_from f shares.items))) c.give.result
    (λ shares verified.
    let plain : List ℕ = plain_from f shares.items in
    let are : AreVerified f found shares.items = subst (λ (v : ReadValue). AreVerified v found shares.items) c.in_ok-ready.ensures.of verified in
    let there : Contains old (gathered.fields, (gathered.stamp, plain)) =
    subst (λ (o : Option (List ℕ)). IfSome o (λ bytes. Contains old (gathered.fields, (gathered.stamp, bytes)))) (given ∙ are.fit) c.in_ok-gathered.ensures.there in
    let same : (gathered.fields, (gathered.stamp, plain)) ≡ (f, (c.args.stamp, plain)) = (λ i. (c.in_ok-gathered.ensures.fields i, (c.in_ok-gathered.ensures.stamp i, plain))) in
    subst (Contains old) same there)
    c.give.ensures
