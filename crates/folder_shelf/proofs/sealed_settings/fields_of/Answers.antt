use Rattle.std.proofs.Common.{◌∙◌}
use Rattle.folder_shelf.proofs.Fields.{place_at, servers_at, needed_at, made_at, secret_at, same_settings}
use Rattle.folder_shelf.proofs.sealed_settings.fields_of.Goals as goal

pub returns : goal.returns
returns c = λ format s long are e.
    let text = c.args.text.now in
    same_settings s _ _ _ _ _
    (c.from_be_bytes.ensures ∙ place_at format long text s are e)
    (c.from_be_bytes-2.ensures ∙ servers_at format long text s are e)
    (c.from_be_bytes-3.ensures ∙ needed_at format long text s are e)
    (c.from_be_bytes-4.ensures ∙ made_at format long text s are e)
    (c.copy_from_slice.ensures.after ∙ secret_at format long text s are e)
