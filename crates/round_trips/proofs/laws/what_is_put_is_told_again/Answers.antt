use Rattle.std.proofs.Common.{◌≡◌, List, Some}
use Rattle.children_reader.specs.Children.{made}
use Rattle.dir_codec.specs.declared.entry.Entry.{Entry as Child}
use Rattle.client_core.specs.ChildrenJson.{children_text}
use Rattle.round_trips.specs.Trips.{IsSendable}
use Rattle.round_trips.proofs.Caps.{HashLaws, TextLaws}
use Rattle.round_trips.proofs.Telling.{put_told, made_told, file_told_again, directory_told_again}
use Rattle.round_trips.proofs.laws.what_is_put_is_told_again.Goals as goal

pub returns : goal.returns
returns c =
    let hash : HashLaws = record {
      tagged_bytes = c.digests_are_bytes.ensures.tagged;
      tagged16_bytes = c.digests_are_bytes.ensures.tagged16;
      tagged_long = c.texts_fix_their_parts.ensures.tagged_length;
      tagged16_long = c.texts_fix_their_parts.ensures.tagged16_length;
    } in
    let texts : TextLaws = record { some = c.caps_have_one_text.ensures.some; alike = c.texts_have_one_cap.ensures } in
    let makes : (entries : List Child) → IsSendable entries → made (children_text entries) ≡ Some entries = λ entries is.
    (c.made_children_are_named.ensures entries (children_text entries)).1 (c.written_children_are_made.ensures entries is.directory is.json) in
    let law = c.requests_are_meant.ensures in
    let own = c.uploads_bind_their_bytes.ensures in
    let one = c.what_is_bound_was_uploaded.ensures in
    record {
      put = put_told law;
      made = λ settings w before after caller secret host entries is. made_told law settings w before after caller secret host (children_text entries) entries (makes entries is);
      file = λ settings w before between after putter reader secret other host its bytes f set.
          file_told_again law settings w own one set hash texts before between after putter reader secret other host its bytes f;
      directory = λ settings w before between after putter reader secret other host its entries f set is.
          directory_told_again law settings w own one set hash texts before between after putter reader secret other host its entries (children_text entries) f is.text (makes entries is);
    }
