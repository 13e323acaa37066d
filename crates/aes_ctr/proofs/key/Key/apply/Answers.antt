use Rattle.std.proofs.Common.{◌≡◌, ℕ, ◌+◌, ◌-◌, ◌≤◌, List, [], ◌++◌, get_or, take, drop, length, refl, ap, ◌∙◌, arith}
use Rattle.aes_ctr.specs.Crypt.{crypt_from}
use Rattle.aes_ctr.proofs.CryptLemmas.{crypt_from_more}
use Rattle.aes_ctr.proofs.key.Key.apply.Goals as goal

pub loop-done-init : goal.loop-done-init
unfolding crypt_from
loop-done-init c = record { within = omega arith; so_far = refl }

pub loop-done-preserved : goal.loop-done-preserved
loop-done-preserved c =
    let key = c.args.self.now in
    let p = c.args.offset in
    let bs = c.args.bytes.now in
    let now = c.loop-done.bytes in
    let i = c.loop-done.done in
    let j = c.min-end.result in
    let long : length now ≡ length bs = omega arith in
    let inner = get_or c.self.inside.round_keys 0 [] in
    let group = c.apply_in_group.ensures inner c.self.invariant.1 (c.key_planes-keys.ensures inner c.self.invariant.2)
    ∙ ap (λ (k : List ℕ). crypt_from k (p + i) (take (j - i) (drop i now))) c.self.view_is in
    let end_is = c.min-end.ensures in
    let low : i ≤ j = omega arith in
    let high : j ≤ length bs = omega arith in
    let more = crypt_from_more key p bs now i j low high c.loop-done.invariant.so_far in
    record {
      within = high;
      so_far = ap (λ (w : List ℕ). take i now ++ (w ++ drop (j - i) (drop i now))) group ∙ more;
    }
