use Rattle.std.proofs.Common.{◌≡◌, rules, subst, sym}
use Rattle.std.specs.List.{AllPass}
use Rattle.s3_sign.specs.Spelling.{is_path_byte}
use Rattle.s3_requests.specs.ObjectNames.{settings_name}
use Rattle.s3_requests.proofs.NameLemmas.{settings_plain}
use Rattle.s3_requests.proofs.names.settings_name.Goals as goal

pub returns-clause-plain : goal.returns-clause-plain
returns-clause-plain c = λ site.
    let prefix = c.args.site.now.prefix in
    let name : c.extend_from_slice.new.self.items ≡ settings_name prefix = search rules in
    subst (AllPass is_path_byte) (sym name) (settings_plain prefix site.prefix_is)
