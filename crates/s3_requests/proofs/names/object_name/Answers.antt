use Rattle.std.proofs.Common.{◌≡◌, rules, subst, sym}
use Rattle.std.specs.List.{AllPass}
use Rattle.s3_sign.specs.Spelling.{is_path_byte}
use Rattle.s3_requests.specs.ObjectNames.{object_name}
use Rattle.s3_requests.proofs.NameLemmas.{object_plain}
use Rattle.s3_requests.proofs.names.object_name.Goals as goal

pub returns-clause-plain : goal.returns-clause-plain
returns-clause-plain c = λ site.
    let prefix = c.args.site.now.prefix in
    let index = c.args.index.now in
    let number = c.args.number in
    let name : c.extend_from_slice.new.self.items ≡ object_name prefix index number = search rules in
    subst (AllPass is_path_byte) (sym name) (object_plain prefix index number site.prefix_is (λ i h. c.fits-index i) c.ranges.number.fits)
