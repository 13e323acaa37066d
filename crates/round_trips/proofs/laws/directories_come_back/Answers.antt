use Rattle.std.proofs.Common.{◌≡◌, List, Some, ap}
use Rattle.children_reader.specs.Children.{made}
use Rattle.dir_codec.specs.declared.entry.Entry.{Entry as Child}
use Rattle.client_core.specs.ChildrenJson.{children_text}
use Rattle.web_ops.specs.Uploads.{directory_upload, as_directory}
use Rattle.gate_core.specs.Settings.{encoding_in}
use Rattle.round_trips.specs.Trips.{IsSendable}
use Rattle.round_trips.proofs.Caps.{HashLaws, TextLaws, short_cap}
use Rattle.round_trips.proofs.Got.{directory_back, directory_named}
use Rattle.round_trips.proofs.laws.directories_come_back.Goals as goal

pub returns : goal.returns
returns g c =
    let hash : HashLaws = record {
      tagged_bytes = c.digests_are_bytes.ensures.tagged;
      tagged16_bytes = c.digests_are_bytes.ensures.tagged16;
      tagged_long = c.texts_fix_their_parts.ensures.tagged_length;
      tagged16_long = c.texts_fix_their_parts.ensures.tagged16_length;
    } in
    let texts : TextLaws = record { some = c.caps_have_one_text.ensures.some; alike = c.texts_have_one_cap.ensures } in
    let makes : (entries : List Child) → IsSendable entries → made (children_text entries) ≡ Some entries = λ entries is.
    (c.made_children_are_named.ensures entries (children_text entries)).1 (c.written_children_are_made.ensures entries is.directory is.json) in
    record {
      long = λ settings world honest set entries x y z v answer f r is.
          directory_back g.E.Exchange.told settings world honest set hash texts c.uploads_bind_their_bytes.ensures c.what_is_bound_was_uploaded.ensures
          entries (children_text entries) x y z v answer f r is.text (makes entries is);
      cap = λ settings world honest set entries x y answer is.
          directory_named g.E.Exchange.told settings world honest set hash texts entries (children_text entries) x y answer is.text (makes entries is);
      short = λ settings entries short. ap as_directory (short_cap (directory_upload (encoding_in settings) entries) short);
      entries = λ entries is. c.written_directories_are_read_back.ensures.read entries is.directory is.text.fits;
    }
