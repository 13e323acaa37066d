use Rattle.std.proofs.Common.{◌≡◌, ℕ, List, Option, Some, None, refl}
use Rattle.std.specs.Prelude.{IfSome}
use Rattle.caps.specs.Fields.{ReadValue}
use Rattle.file_shares.specs.Numbers.{params_of}
use Rattle.file_shares.specs.Row.{ShareTable, places, good_at}
use Rattle.file_shares.specs.Fit.{fit}
use Rattle.file_shares.specs.Bound.{Bound}
use Rattle.file_shares.proofs.Sealed.{ReadFrom, GoodIsCut}
use Rattle.file_shares.proofs.Goods.{of_first}
use Rattle.file_shares.proofs.Lengths.{Sized, length-crypttext}
use Rattle.file_shares.proofs.Sound.{Twice, CryptIs, CryptLength, fit_is_bound}
use Rattle.file_shares.proofs.laws.found_is_bound.Goals as goal

bound : ReadFrom → GoodIsCut → Sized → Twice → CryptIs → CryptLength → (row : ShareTable) (f : ReadValue) (o : Option (List ℕ)) → fit row f ≡ o → IfSome o (Bound f)
bound read is_cut sized twice is long row f None e = tt
bound read is_cut sized twice is long row f (Some b) e =
    let p = params_of f.k f.n f.size in
    ∣ fit_is_bound read is_cut p f.ueb twice is long f.key sized (good_at p f.ueb row) (λ number. of_first read is_cut p f.ueb number (places row number)) p.n b e ∣₁

pub returns : goal.returns
returns c row f =
    let code = c.decoded_blocks_are_the_given.ensures in
    let sized : Sized = λ p shares taken. length-crypttext code.count code.primary p shares taken c.segments_are_joined_again.ensures.cut in
    bound c.good_shares_are_read.ensures.found c.good_shares_are_read.ensures.cut sized c.twice_is_unchanged.ensures c.parts_agree.ensures.whole c.keystream_by_place.ensures.length row f (fit row f) refl
