-- The tag of a convergent key.
use Rattle.std.specs.Prelude.{ℕ, List, ◌∷◌, ◌++◌, codes}
use Rattle.tag_hash.specs.Decimal.{decimal_text}
use Rattle.tag_hash.specs.Netstring.{netstring}
use Rattle.share_codec.specs.Params.{ParamsValue}
use Rattle.share_codec.specs.Segments.{segment_size}

-- `k,n,segment size`
unfoldable pub numbers_text : ParamsValue → List ℕ
numbers_text p = decimal_text p.k ++ 44 ∷ (decimal_text p.n ++ 44 ∷ decimal_text (segment_size p))

-- the tag of the convergent key
unfoldable pub key_tag : ParamsValue → List ℕ → List ℕ
key_tag p secret = codes "webgate_content_to_key_v1+" ++ (netstring secret ++ netstring (numbers_text p))
