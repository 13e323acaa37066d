-- The bytes that are found in a row by the fields of a read cap, and by verification alone.
use Rattle.std.specs.Prelude.{ℕ, List, [], ◌∷◌, length, take, drop, map, Bool, false, ◌&&◌, ◌==◌, nat_eq, nat_le, if◌then◌else◌, slice_index_or, Option, Some, None}
use Rattle.std.specs.Cmp.Lexicographic.{pointwise}
use Rattle.std.specs.List.{concat, list_all, range_with_len}
use Rattle.aes_ctr.specs.Crypt.{crypt}
use Rattle.erasure.specs.Blocks.{primary_from}
use Rattle.share_codec.specs.Params.{ParamsValue}
use Rattle.share_codec.specs.Segments.{segment_count, segment_length}
use Rattle.share_codec.specs.Shares.{roots_of}
use Rattle.share_codec.specs.GoodShare.{GoodShare}
use Rattle.caps.specs.Fields.{ReadValue}
use Rattle.file_shares.specs.Numbers.{params_of}
use Rattle.file_shares.specs.Row.{ShareTable, good_shares}

-- the blocks of a segment in these shares, numbered
abbrev pub blocks_at : List GoodShare → ℕ → List (ℕ × List ℕ)
blocks_at shares at = map (λ (share : GoodShare). (share.number, slice_index_or share.blocks at [])) shares

-- what they decode to there, padding included
abbrev pub decoded_at : ParamsValue → List GoodShare → ℕ → List ℕ
decoded_at p shares at = concat (primary_from p.k (blocks_at shares at))

-- the segment, and whether what stands after it is zeros
abbrev pub segment_from : ParamsValue → List GoodShare → ℕ → List ℕ
segment_from p shares at = take (segment_length p at) (decoded_at p shares at)

abbrev pub has_zeros : ParamsValue → List GoodShare → ℕ → Bool
has_zeros p shares at = list_all (λ b. b == 0) (drop (segment_length p at) (decoded_at p shares at))

-- all segments
unfoldable pub crypttext_from : ParamsValue → List GoodShare → List ℕ
crypttext_from p shares = concat (map (segment_from p shares) (range_with_len 0 (segment_count p)))

-- each segment is padded with zeros
unfoldable pub has_padding : ParamsValue → List GoodShare → Bool
has_padding p shares = list_all (has_zeros p shares) (range_with_len 0 (segment_count p))

-- the first share has its crypttext root
abbrev pub has_root : ParamsValue → List ℕ → List GoodShare → Bool
has_root p crypttext [] = false
has_root p crypttext (share ∷ shares) = pointwise nat_eq (roots_of p crypttext).crypttext_root share.ueb.crypttext_root

-- these are shares of that crypttext: the padding is zeros, and the root is that of the first share
abbrev pub are_shares_of : ParamsValue → List ℕ → List GoodShare → Bool
are_shares_of p crypttext shares = has_padding p shares && has_root p crypttext shares

-- what k shares give, decrypted
abbrev pub given_by : ParamsValue → List ℕ → List GoodShare → Option (List ℕ)
given_by p key shares = if are_shares_of p (crypttext_from p shares) shares then Some (crypt key (crypttext_from p shares)) else None

-- of the good shares in the order of their numbers the first k, if there are as many
abbrev pub fit_in : ParamsValue → List ℕ → List GoodShare → Option (List ℕ)
fit_in p key shares = if nat_le p.k (length shares) then given_by p key (take p.k shares) else None

abbrev pub fit : ShareTable → ReadValue → Option (List ℕ)
fit row f = let p = params_of f.k f.n f.size in fit_in p f.key (good_shares p f.ueb row)
