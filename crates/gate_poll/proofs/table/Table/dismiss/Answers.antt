use Rattle.std.proofs.Common.{◌∙◌, refl}
use Rattle.gate_turns.specs.Turns.{seat_at}
use Rattle.gate_poll.specs.Table.{peer_in}
use Rattle.gate_poll.proofs.Keeping.{kept_but, own_peer}
use Rattle.gate_poll.proofs.table.Table.dismiss.Goals as goal

pub remove-requires : goal.remove-requires
remove-requires g c =
    kept_but c.args.self.now.ids.next c.args.id c.args.self.now.peers.entries c.args.self.now.peers.entries c.args.self.now.turns c.dismiss.new.self c.requires.first c.requires.each (λ q ne. refl) c.dismiss.ensures.others
    (own_peer c.args.self.now.ids.next c.args.id (peer_in c.args.self.now.peers.entries c.args.id) (seat_at c.args.self.now.turns c.args.id) (c.requires.each c.args.id)) c.if-not-dismiss.ensures.left.1.seat (c.dismiss.ensures.turn ∙ c.requires.idle)
