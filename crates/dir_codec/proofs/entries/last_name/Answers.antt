use Rattle.std.proofs.Common.{◌≡◌, ◌-◌, ◌<◌, [], suc, length, sym, ap, ◌∙◌, arith}
use Rattle.dir_codec.specs.declared.entry.Entry.{Entry}
use Rattle.dir_codec.proofs.Above.{last_is}
use Rattle.dir_codec.proofs.entries.last_name.Goals as goal

pub returns-in-Some : goal.returns-in-Some
returns-in-Some c =
    let entries = c.args.entries.now in
    let item = c.in-Some.ensures.item in
    let some : 0 < length entries = item.3.0 in
    let at : suc (length entries - 1) ≡ length entries = omega (arith, some) in
    c.as_bytes.ensures.value ∙ c.as_str.ensures ∙ ap (λ (e : Entry). e.name) item.1
    ∙ sym (last_is [] entries (length entries - 1) c.in-Some.entry.now at)
