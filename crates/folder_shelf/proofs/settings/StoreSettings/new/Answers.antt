use Rattle.std.proofs.Common.{[], ap}
use Rattle.folder_shelf.specs.SettingsText.{secret_digest}
use Rattle.folder_shelf.specs.declared.settings.StoreSettings.{StoreSettings}
use Rattle.folder_shelf.proofs.settings.StoreSettings.new.Goals as goal

pub returns : goal.returns
unfolding secret_digest
returns c =
    ap (λ d. let s : StoreSettings = record {
      place = c.args.place;
      servers = c.args.servers;
      needed = c.args.needed;
      made = c.args.made;
      secret = d;
    } in s)
    (c.finalize.ensures _ (c.update-2.ensures _ (c.update.ensures [] c.new-hasher.ensures)))
