use Rattle.std.proofs.Common.{◌++◌, Err, length, ap, ◌∙◌}
use Rattle.grid.specs.GridState.{maps_of}
use Rattle.grid.specs.Rows.{rows_of}
use Rattle.grid.specs.Image.{image}
use Rattle.gate_tasks.proofs.CallLemmas.{imaged, image_refused}
use Rattle.gate_tasks.proofs.calls.image.Goals as goal

pub returns-in-Ok : goal.returns-in-Ok
returns-in-Ok c = imaged c.args.gateway.now c.image.new.self c.image.ensures.left c.image.ensures.came _ (λ honest.
    c.from_vec.ensures ∙ c.in-Ok.ensures.written honest
    ∙ ap (λ bytes. bytes ++ image (length c.args.gateway.now.grid.stores) (rows_of (maps_of c.args.gateway.now.grid))) c.new-image.ensures.items)
    c.in-Ok.ensures.rows

pub returns-in-Err-BadImage : goal.returns-in-Err-BadImage
returns-in-Err-BadImage c = image_refused c.args.gateway.now c.image.new.self c.image.ensures.left c.image.ensures.came c.in-Err-BadImage.place
    (λ honest. c.in-Err-BadImage.ensures.bad_image honest c.in-Err-BadImage.place (ap Err c.in-Err-BadImage.field-0-is))
