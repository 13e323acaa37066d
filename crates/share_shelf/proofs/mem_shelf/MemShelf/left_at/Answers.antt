use Rattle.std.proofs.Common.{◌≡◌, ◌<◌, ◌++◌, ◌∷◌, [], List, Some, length, ap, sym, refl, ◌∙◌, arith}
use Rattle.std.specs.Prelude.{slice_get}
use Rattle.std.proofs.lemmas.List.{length-map}
use Rattle.std.proofs.lemmas.Option.{slice_get_read}
use Rattle.share_shelf.specs.Kept.{KnownShare, told_by}
use Rattle.share_shelf.specs.declared.mem_shelf.Change.{Change}
use Rattle.share_shelf.proofs.Moments.{more_told}
use Rattle.share_shelf.proofs.mem_shelf.MemShelf.left_at.Goals as goal

pub loop-at-preserved : goal.loop-at-preserved
loop-at-preserved c =
    let all : List Change = c.args.self.now.changes.items in
    let within : c.loop-at.at < length all = omega (arith, c.loop-at-test.true, c.requires, length-map all told_by) in
    let at : slice_get all c.loop-at.at ≡ Some c.index.result.now = slice_get_read all (length all) c.loop-at.at c.index.result.now refl within c.index.ensures in
    c.in_ok-tell.ensures.told ∙ ap (λ (l : List KnownShare). l ++ told_by c.index.result.now ∷ []) c.loop-at.invariant ∙ sym (more_told all c.loop-at.at c.index.result.now at)
