use Rattle.std.proofs.Common.{refl, inl, arith}
use Rattle.gate_poll.proofs.Listening.{under_none, under_then}
use Rattle.gate_poll.proofs.LettingGo.{gone_then, over_so}
use Rattle.gate_poll.proofs.serving.serve_all.Goals as goal

pub returns-in_err-events : goal.returns-in_err-events
returns-in_err-events g c = record { hosted = (1, under_none _ 1 1 c.args.lobby.now c.args.lobby.now (c.gateways_are_hosted.ensures.none 1 c.args.lobby.now)); over = λ id. inl refl }

pub returns-in_err-now : goal.returns-in_err-now
returns-in_err-now g c = record { hosted = (1, under_none _ 1 1 c.args.lobby.now c.args.lobby.now (c.gateways_are_hosted.ensures.none 1 c.args.lobby.now)); over = λ id. inl refl }

pub returns-in_err-table : goal.returns-in_err-table
returns-in_err-table g c = record { hosted = (1, under_none _ 1 1 c.args.lobby.now c.args.lobby.now (c.gateways_are_hosted.ensures.none 1 c.args.lobby.now)); over = λ id. inl refl }

pub returns-in_err-desk : goal.returns-in_err-desk
returns-in_err-desk g c = record { hosted = (1, under_none _ 1 1 c.args.lobby.now c.args.lobby.now (c.gateways_are_hosted.ensures.none 1 c.args.lobby.now)); over = λ id. inl refl }

pub returns-in_err-gate : goal.returns-in_err-gate
returns-in_err-gate g c = record { hosted = (1, under_none _ 1 1 c.args.lobby.now c.args.lobby.now (c.gateways_are_hosted.ensures.none 1 c.args.lobby.now)); over = λ id. inl refl }

pub serve-ended-requires-clause-kept : goal.serve-ended-requires-clause-kept
serve-ended-requires-clause-kept g c = c.in_ok-table.ensures.kept

pub serve-ended-requires-clause-over : goal.serve-ended-requires-clause-over
serve-ended-requires-clause-over g c = c.in_ok-table.ensures.due

pub give_up_all-requires : goal.give_up_all-requires
give_up_all-requires g c = c.serve-ended.ensures.served.kept

pub returns-in-Ok : goal.returns-in-Ok
returns-in-Ok g c = record {
  hosted = (c.serve-ended.new.table.ids.next, under_then _ c.gateways_are_hosted.ensures.opened_then 1 c.serve-ended.new.table.ids.next c.serve-ended.new.table.ids.next c.args.lobby.now c.serve-ended.new.lobby c.give_up_all.new.lobby (omega arith) c.serve-ended.ensures.served.hosted (under_none _ 1 c.serve-ended.new.table.ids.next c.serve-ended.new.lobby c.give_up_all.new.lobby c.give_up_all.ensures.hosted));
  over = λ id. over_so _ id _ c.args.lobby.now c.give_up_all.new.lobby
      ((gone_then _ _ _ c.in_ok-table.table.peers.entries c.serve-ended.new.table.peers.entries c.give_up_all.new.self.peers.entries c.args.lobby.now c.serve-ended.new.lobby c.give_up_all.new.lobby c.serve-ended.ensures.let_go c.give_up_all.ensures.let_go).each id (c.give_up_all.ensures.none id));
}

pub returns : goal.returns
returns g c = record {
  hosted = (c.serve-ended.new.table.ids.next, under_then _ c.gateways_are_hosted.ensures.opened_then 1 c.serve-ended.new.table.ids.next c.serve-ended.new.table.ids.next c.args.lobby.now c.serve-ended.new.lobby c.give_up_all.new.lobby (omega arith) c.serve-ended.ensures.served.hosted (under_none _ 1 c.serve-ended.new.table.ids.next c.serve-ended.new.lobby c.give_up_all.new.lobby c.give_up_all.ensures.hosted));
  over = λ id. over_so _ id _ c.args.lobby.now c.give_up_all.new.lobby
      ((gone_then _ _ _ c.in_ok-table.table.peers.entries c.serve-ended.new.table.peers.entries c.give_up_all.new.self.peers.entries c.args.lobby.now c.serve-ended.new.lobby c.give_up_all.new.lobby c.serve-ended.ensures.let_go c.give_up_all.ensures.let_go).each id (c.give_up_all.ensures.none id));
}
