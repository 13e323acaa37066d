use Rattle.std.proofs.Common.{ℕ, ap, sym, subst, ◌∙◌, map, Global}
use Rattle.std.specs.Prelude.{All, Any}
use Rattle.std.specs.declared.rc.RcSlice.{RcSlice}
use Rattle.octets.specs.Sharing.{IsSharing}
use Rattle.std.specs.Rc.{rc_slice_items}
use Rattle.share_repair.proofs.Leaving.{lent_few, lent_some}
use Rattle.share_repair.proofs.Keeping.{keeps_then, keeps_unchanged}
use Rattle.share_repair.specs.Files.{FileLabel}
use Rattle.share_repair.specs.Judged.{IsJudged, IsTheGiven}
use Rattle.share_repair.specs.Kept.{IsStandingShare}
use Rattle.share_repair.specs.Repaired.{strings_of}
use Rattle.share_repair.proofs.Putting.{given_stood, puts_determined, determined_then_unchanged, whole_file}
use Rattle.share_repair.proofs.mending.mend.Goals as goal

pub put_back-requires-clause-few : goal.put_back-requires-clause-few
put_back-requires-clause-few g c =
    lent_few rc_slice_items c.args.label.now _ c.deref-in-Ok.result.now _ (ap (map rc_slice_items) c.deref-in-Ok.ensures.value ∙ c.in_ok-shares-in-Ok.ensures) c.in-Ok.ensures.made

pub put_back-requires-clause-some : goal.put_back-requires-clause-some
put_back-requires-clause-some g c =
    lent_some rc_slice_items c.deref-in-Ok.result.now _ (ap (map rc_slice_items) c.deref-in-Ok.ensures.value ∙ c.in_ok-shares-in-Ok.ensures) c.in-Ok.ensures.some

pub returns-in_err-standing-in-Ok-clause-kept : goal.returns-in_err-standing-in-Ok-clause-kept
returns-in_err-standing-in-Ok-clause-kept g c honest =
    let back = c.in_ok-put_back-in-Ok.ensures in
    keeps_then c.args.index c.args.grid.now c.put_back.new.grid c.judged.new.grid (back.kept honest)
    (keeps_unchanged c.args.index c.put_back.new.grid c.judged.new.grid (c.in_err-standing-in-Ok.ensures.unchanged (back.leaves.honest honest)))

pub returns-in-Ok-clause-kept : goal.returns-in-Ok-clause-kept
returns-in-Ok-clause-kept g c honest =
    let back = c.in_ok-put_back-in-Ok.ensures in
    keeps_then c.args.index c.args.grid.now c.put_back.new.grid c.judged.new.grid (back.kept honest)
    (keeps_unchanged c.args.index c.put_back.new.grid c.judged.new.grid (c.in_ok-standing-in-Ok.ensures.unchanged (back.leaves.honest honest)))

pub returns-then-before-eq0-clause-whole : goal.returns-then-before-eq0-clause-whole
returns-then-before-eq0-clause-whole g c honest mended =
    whole_file c.args.label.now c.args.index c.servers-servers.result c.args.grid.now c.args.standing.now
    (subst (λ (l : FileLabel). IsSharing l.params.k l.params.n) c.label.view_is c.params_are_a_sharing.ensures) c.size_fits.ensures (sym c.servers-servers.ensures.servers)
    (c.requires.stands honest) c.requires.told (c.missing-before.ensures.none c.if-before-eq0.true)

pub returns-in_err-put_back-in-Ok-clause-puts : goal.returns-in_err-put_back-in-Ok-clause-puts
returns-in_err-put_back-in-Ok-clause-puts g c honest =
    puts_determined c.args.label.now (strings_of rc_slice_items c.deref.result.now) c.args.index (map rc_slice_items c.deref-in-Ok.result.now) _ c.args.grid.now c.put_back.new.grid
    (ap (map rc_slice_items) c.deref-in-Ok.ensures.value ∙ c.in_ok-shares-in-Ok.ensures) c.in-Ok.ensures.made
    (given_stood c.args.index c.args.grid.now c.args.standing.now c.deref.result.now (c.requires.stands honest)
    (subst (All (λ (x : ℕ × RcSlice ℕ Global). Any (IsTheGiven x.0 (rc_slice_items x.1)) c.args.standing.now)) (sym c.deref.ensures.value) c.in_ok-given.ensures))
    (c.in_err-put_back-in-Ok.ensures.puts honest)

pub returns-in_err-standing-in-Ok-clause-puts : goal.returns-in_err-standing-in-Ok-clause-puts
returns-in_err-standing-in-Ok-clause-puts g c honest =
    let back = c.in_ok-put_back-in-Ok.ensures in
    determined_then_unchanged c.args.index c.args.grid.now c.put_back.new.grid c.judged.new.grid
    (puts_determined c.args.label.now (strings_of rc_slice_items c.deref.result.now) c.args.index (map rc_slice_items c.deref-in-Ok.result.now) _ c.args.grid.now c.put_back.new.grid
    (ap (map rc_slice_items) c.deref-in-Ok.ensures.value ∙ c.in_ok-shares-in-Ok.ensures) c.in-Ok.ensures.made
    (given_stood c.args.index c.args.grid.now c.args.standing.now c.deref.result.now (c.requires.stands honest)
    (subst (All (λ (x : ℕ × RcSlice ℕ Global). Any (IsTheGiven x.0 (rc_slice_items x.1)) c.args.standing.now)) (sym c.deref.ensures.value) c.in_ok-given.ensures))
    (back.puts honest))
    (c.in_err-standing-in-Ok.ensures.unchanged (back.leaves.honest honest))

pub returns-in-Ok-clause-puts : goal.returns-in-Ok-clause-puts
returns-in-Ok-clause-puts g c honest =
    let back = c.in_ok-put_back-in-Ok.ensures in
    determined_then_unchanged c.args.index c.args.grid.now c.put_back.new.grid c.judged.new.grid
    (puts_determined c.args.label.now (strings_of rc_slice_items c.deref.result.now) c.args.index (map rc_slice_items c.deref-in-Ok.result.now) _ c.args.grid.now c.put_back.new.grid
    (ap (map rc_slice_items) c.deref-in-Ok.ensures.value ∙ c.in_ok-shares-in-Ok.ensures) c.in-Ok.ensures.made
    (given_stood c.args.index c.args.grid.now c.args.standing.now c.deref.result.now (c.requires.stands honest)
    (subst (All (λ (x : ℕ × RcSlice ℕ Global). Any (IsTheGiven x.0 (rc_slice_items x.1)) c.args.standing.now)) (sym c.deref.ensures.value) c.in_ok-given.ensures))
    (back.puts honest))
    (c.in_ok-standing-in-Ok.ensures.unchanged (back.leaves.honest honest))

pub returns-in-Ok-clause-whole : goal.returns-in-Ok-clause-whole
returns-in-Ok-clause-whole g c honest mended =
    let back = c.in_ok-put_back-in-Ok.ensures in
    let after = c.in_ok-standing-in-Ok.ensures in
    whole_file c.args.label.now c.args.index c.servers-servers.result c.judged.new.grid c.deref-in-Ok-2.result.now
    (subst (λ (l : FileLabel). IsSharing l.params.k l.params.n) c.label.view_is c.params_are_a_sharing.ensures) c.size_fits.ensures
    (after.leaves.servers ∙ back.leaves.servers ∙ sym c.servers-servers.ensures.servers)
    (subst (All (IsStandingShare c.judged.new.grid c.args.index)) (sym c.deref-in-Ok-2.ensures.value) (after.stands (back.leaves.honest honest)))
    (subst (All IsJudged) (sym c.deref-in-Ok-2.ensures.value) after.told)
    (c.missing-after.ensures.none (c.outcome_of.ensures mended))
