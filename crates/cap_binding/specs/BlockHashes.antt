-- The hashes of blocks, segment by segment.
use Rattle.std.specs.Prelude.{ℕ, List, [], map, slice_index_or}
use Rattle.std.specs.List.{range_with_len}
use Rattle.erasure.specs.Blocks.{block_of}
use Rattle.share_codec.specs.Params.{ParamsValue}
use Rattle.share_codec.specs.Segments.{primary_blocks}
use Rattle.share_codec.specs.Tags.{block_hash}

-- those of a segment, one for each share; for private clauses
unfoldable pub block_row : ParamsValue → List ℕ → List (List ℕ)
block_row p segment = map (λ i. block_hash (block_of (primary_blocks p.k segment) i)) (range_with_len 0 p.n)

-- those of one share, one for each segment; for private clauses
unfoldable pub hashes_of_share : List (List (List ℕ)) → ℕ → List (List ℕ)
hashes_of_share rows i = map (λ row. slice_index_or row i []) rows
