use Rattle.std.proofs.Common.{◌∙◌, ap, sym, Some, None}
use Rattle.std.specs.Option.{option_map, option_copied}
use Rattle.share_store.proofs.Levels.{get_under, mapped_copy}
use Rattle.share_store.proofs.share_map.ShareMap.get.Goals as goal

pub returns : goal.returns
returns g c =
    let now = c.args.self.now in
    mapped_copy g.B.ShareValue.bytes_in c.get-2.result ∙ ap (option_map g.B.ShareValue.bytes_in) c.get-2.ensures.value
    ∙ sym (get_under g.B.ShareValue.bytes_in now.indexes now.kept c.args.index.now c.args.number (Some c.in_ok-get.field-0.now) (sym (ap option_copied (sym c.in_ok-get.was) ∙ c.get.ensures.value)))

pub returns-in_err-get : goal.returns-in_err-get
returns-in_err-get g c =
    let now = c.args.self.now in
    ap (option_map (λ bytes. g.B.ShareValue.bytes_in bytes.now)) c.from_residual.ensures
    ∙ sym (get_under g.B.ShareValue.bytes_in now.indexes now.kept c.args.index.now c.args.number None (sym (ap option_copied (sym c.in_err-get.was) ∙ c.get.ensures.value)))
