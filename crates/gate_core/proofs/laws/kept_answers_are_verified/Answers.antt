use Rattle.std.proofs.Common.{◌≡◌, ℕ, List, Bool, true, sym, ◌∙◌}
use Rattle.chk_file.specs.World.{World}
use Rattle.gate_core.specs.Settings.{GatewaySettings}
use Rattle.gate_core.specs.Items.{Entry}
use Rattle.gate_core.specs.Uploaded.{IsProper, IsLeftBy}
use Rattle.gate_core.specs.Apart.{Apart}
use Rattle.gate_core.proofs.Fits.{IsFitHeld, apart_fit}
use Rattle.gate_core.proofs.laws.kept_answers_are_verified.Goals as goal

pub returns : goal.returns
returns c =
    let stay = c.worlds_stay_sound.ensures in
    let agree = c.answers_agree_where_looks_do.ensures in
    let fit : (s : GatewaySettings) (callers : ℕ → Bool) (caller : ℕ) (past : List Entry) (w : World) (xs : List Entry) → callers caller ≡ true → IsProper s xs → IsLeftBy s past w → Apart s callers past w xs → IsFitHeld s callers caller w xs =
    λ s callers caller past w xs ours proper left apart.
    apart_fit c.fit_is_held.ensures agree.reply agree.met stay.upload stay.lose stay.spoil s callers caller past w xs ours (c.worlds_of_runs_are_sound.ensures.left s w past left) left proper apart in
    record {
      kept = λ s callers caller past w xs ours proper left apart. c.items_are_local.ensures.said s callers caller w xs ours ∙ sym (fit s callers caller past w xs ours proper left apart).said;
      whole = λ s callers caller past w xs ours proper left apart. sym (fit s callers caller past w xs ours proper left apart).said;
    }
