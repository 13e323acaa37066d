use Rattle.erasure.specs.Code.{AreBytes}
use Rattle.chk_file.specs.Upload.{key_of, fields, params}
use Rattle.file_shares.specs.KeyTag.{key_tag}
use Rattle.cap_binding.proofs.laws.what_is_bound_was_uploaded.Goals as goal

pub returns : goal.returns
unfolding key_of
returns c u bytes is are binds =
    let of_key : AreBytes (key_of u) = c.digests_are_bytes.ensures.tagged16 (key_tag (params u) u.secret) u.bytes in
    c.two_strings_are_a_collision.ensures (fields u) bytes u.bytes is.sharing of_key are is.bytes binds (c.uploads_bind_their_bytes.ensures u is.some)
