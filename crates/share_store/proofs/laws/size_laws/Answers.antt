use Rattle.share_store.proofs.Sizes.{bytes-put_once, bytes-remove, bytes-with_toggle}
use Rattle.share_store.proofs.laws.size_laws.Goals as goal

pub returns : goal.returns
returns c = record { put = bytes-put_once; lost = bytes-remove; toggled = bytes-with_toggle }
