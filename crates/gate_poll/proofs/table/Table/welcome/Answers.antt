use Rattle.std.proofs.Common.{ap, option_copied}
use Rattle.gate_limits.specs.declared.ids.Ids.{Ids}
use Rattle.gate_poll.proofs.Placing.{welcome_served}
use Rattle.gate_poll.proofs.table.Table.welcome.Goals as goal

pub returns-then-make_room-clause-served : goal.returns-then-make_room-clause-served
returns-then-make_room-clause-served g c =
    welcome_served c.gateways_are_hosted.ensures.opened_then c.args.self.now.ids.next c.make_room.new.self.ids.next (option_copied c.args.secret)
    c.args.self.now.ids.next c.make_room.new.self.ids.next c.take_in.new.self.ids.next c.make_room.new.self.peers.entries c.take_in.new.self.peers.entries c.make_room.new.self.turns c.take_in.new.self.turns
    c.args.lobby.now c.make_room.new.lobby c.take_in.new.lobby (ap (λ (i : Ids). i.next) c.make_room.ensures.ids) c.make_room.ensures.served c.take_in.ensures.served
