use Rattle.std.proofs.Common.{◌≡◌, refl}
use Rattle.folder_shelf.specs.Sealed.{sealed}
use Rattle.folder_shelf.specs.SettingsText.{settings_bytes}
use Rattle.folder_shelf.proofs.sealed_settings.settings_text_as.Goals as goal

pub returns : goal.returns
unfolding settings_bytes sealed
returns c =
    let bytes : c.extend_from_slice-6.new.self.items ≡ settings_bytes c.args.format.now c.args.settings.now =
    rw (
      c.in_ok-extend_from_slice-6.ensures.items,
      c.in_ok-extend_from_slice-5.ensures.items,
      c.to_be_bytes-4.ensures,
      c.in_ok-extend_from_slice-4.ensures.items,
      c.to_be_bytes-3.ensures,
      c.in_ok-extend_from_slice-3.ensures.items,
      c.to_be_bytes-2.ensures,
      c.in_ok-extend_from_slice-2.ensures.items,
      c.to_be_bytes.ensures,
      c.in_ok-extend_from_slice.ensures.items,
      c.in_ok-text.ensures.items,
    ) refl in
    rw (
      c.in_ok-extend_from_slice-7.ensures.items,
      c.seal_of-seal.ensures,
      c.deref.ensures.value,
      bytes,
    ) refl
