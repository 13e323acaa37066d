-- What was gathered of the numbers below a limit.
use Rattle.std.proofs.Common.{◌≡◌, ℕ, List, Some, ap, ◌∙◌}
use Rattle.share_store.specs.Shares.{Shares}
use Rattle.grid.specs.GridState.{GridState}
use Rattle.share_codec.specs.Params.{ParamsValue}
use Rattle.file_shares.specs.Gathered.{Found, by_number, good_below}
use Rattle.file_shares.specs.Row.{good_shares}
use Rattle.file_shares.specs.Fit.{fit_in}
use Rattle.file_shares.proofs.ByNumber.{low_are_first}
use Rattle.chk_file.proofs.Reached.{IsGatheredBelow}
use Rattle.file_shares.proofs.Fitting.{given_by_all}

-- what was gathered of low numbers gives, where it gives anything, what the row gives of which it is
pub in_row : (p : ParamsValue) (key ueb : List ℕ) (limit : ℕ) (maps : List Shares) (old new : GridState) (index : List ℕ) (found : List Found) (bytes : List ℕ)
    → (low : IsGatheredBelow limit maps old new index found) → fit_in p key (good_below p ueb (by_number p.n found) p.n) ≡ Some bytes → fit_in p key (good_shares p ueb low.row) ≡ Some bytes
in_row p key ueb limit maps old new index found bytes low e =
    let first = low_are_first found low.row limit low.is low.past p.n p ueb in
    ap (fit_in p key) first.1 ∙ given_by_all p key (good_below p ueb (by_number p.n found) p.n) first.0 bytes e
