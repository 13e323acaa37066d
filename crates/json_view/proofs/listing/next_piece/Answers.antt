use Rattle.std.proofs.Common.{◌++◌, refl, ap, ◌∙◌}
use Rattle.json_view.specs.Listings.{head_unless}
use Rattle.json_view.proofs.Listings.{piece_put}
use Rattle.json_view.proofs.listing.next_piece.Goals as goal

pub returns-clause-piece : goal.returns-clause-piece
returns-clause-piece c =
    piece_put c.args.text.now c.args.end.now c.args.begun c.args.at c.in_ok-next.next c.put_head_unless.new.out.items c.put_from.new.out.items c.put_end_if.new.out.items _
    (c.in_ok-put_head_unless.ensures ∙ ap (λ t. t ++ head_unless c.args.begun) c.new-piece.ensures.items) c.in_ok-next.ensures.put c.in_ok-next.ensures.some c.in_ok-put_end_if.ensures refl
