use Rattle.std.proofs.Common.{sym, length}
use Rattle.std.proofs.lemmas.Bool.{le-ltb}
use Rattle.share_store.proofs.Toggles.{toggled-none, length-toggled, at_zero, toggled-switched, beyond, touched-differs}
use Rattle.share_store.proofs.laws.toggles_laws.Goals as goal

pub returns : goal.returns
returns c = record {
  none = toggled-none 0;
  keeps_length = λ toggles bytes. length-toggled toggles 0 bytes;
  each = λ toggles bytes place within. at_zero toggles place bytes within;
  switches = λ toggles bytes place within. sym (toggled-switched place toggles bytes within);
  beyond = λ bytes place past. beyond bytes place (le-ltb place (length bytes) past);
  differs = touched-differs;
}
