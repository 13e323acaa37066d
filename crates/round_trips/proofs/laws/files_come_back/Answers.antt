use Rattle.web_ops.specs.Encoding.{upload_of}
use Rattle.gate_core.specs.Settings.{encoding_in}
use Rattle.round_trips.proofs.Caps.{HashLaws, TextLaws, short_cap}
use Rattle.round_trips.proofs.Got.{file_back, file_named}
use Rattle.round_trips.proofs.laws.files_come_back.Goals as goal

pub returns : goal.returns
returns g c =
    let hash : HashLaws = record {
      tagged_bytes = c.digests_are_bytes.ensures.tagged;
      tagged16_bytes = c.digests_are_bytes.ensures.tagged16;
      tagged_long = c.texts_fix_their_parts.ensures.tagged_length;
      tagged16_long = c.texts_fix_their_parts.ensures.tagged16_length;
    } in
    let texts : TextLaws = record { some = c.caps_have_one_text.ensures.some; alike = c.texts_have_one_cap.ensures } in
    record {
      long = λ settings world honest set.
          file_back g.E.Exchange.told settings world honest set hash texts c.uploads_bind_their_bytes.ensures c.what_is_bound_was_uploaded.ensures;
      cap = λ settings world honest set. file_named g.E.Exchange.told settings world honest set hash texts;
      short = λ settings bytes short. short_cap (upload_of (encoding_in settings) bytes) short;
    }
