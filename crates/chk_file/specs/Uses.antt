-- Which strings are hashed to encode an upload.
use Rattle.std.specs.Prelude.{List, ◌∷◌}
use Rattle.tag_hash.specs.Tagged.{tagged16_use}
use Rattle.tag_hash.specs.Use.{Use}
use Rattle.share_codec.specs.Uses.{share_uses}
use Rattle.caps.specs.StorageIndex.{index_use}
use Rattle.chk_file.specs.Upload.{Upload, params, key_of, crypttext_of}
use Rattle.file_shares.specs.KeyTag.{key_tag}

-- for its key
abbrev pub key_use : Upload → Use
key_use u = tagged16_use (key_tag (params u) u.secret) u.bytes

-- for its key, its storage index and its shares
unfoldable pub upload_uses : Upload → List Use
upload_uses u = key_use u ∷ (index_use (key_of u) ∷ share_uses (params u) (crypttext_of u))
