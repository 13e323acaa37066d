use Rattle.std.proofs.Common.{◌∙◌, refl, ap}
use Rattle.gate_turns.specs.Turns.{TurnsState, seat_at}
use Rattle.gate_poll.specs.Table.{peer_in}
use Rattle.gate_poll.proofs.Keeping.{kept_with, reported, informed, due_reported}
use Rattle.gate_poll.proofs.table.Table.is_ready.Goals as goal

pub returns-clause-kept : goal.returns-clause-kept
returns-clause-kept c =
    let ts = c.args.self.now.turns in
    kept_with c.args.self.now.ids.next c.args.id c.args.self.now.peers.entries c.args.self.now.peers.entries ts c.report.new.self c.requires (λ q ne. refl) c.report.ensures.others
    (reported c.args.readable c.args.writable c.args.self.now.ids.next c.args.id ts.lanes c.report.new.self.lanes (peer_in c.args.self.now.peers.entries c.args.id) (seat_at ts c.args.id) (seat_at c.report.new.self c.args.id)
    c.report.ensures.told (λ none. ap (λ (x : TurnsState). seat_at x c.args.id) (c.report.ensures.unknown none) ∙ none) (c.requires.each c.args.id))
    (c.report.ensures.turn ∙ c.requires.idle)

pub returns-clause-due : goal.returns-clause-due
returns-clause-due c =
    due_reported c.args.readable c.args.writable c.args.id c.args.self.now.turns.lanes c.report.new.self.lanes (seat_at c.args.self.now.turns c.args.id) (seat_at c.report.new.self c.args.id) c.report.ensures.told
    (λ none. ap (λ (x : TurnsState). x.lanes) (c.report.ensures.unknown none))

pub returns-clause-told : goal.returns-clause-told
returns-clause-told c =
    informed c.args.readable c.args.writable c.args.id c.args.self.now.turns.lanes c.report.new.self.lanes (seat_at c.args.self.now.turns c.args.id) (seat_at c.report.new.self c.args.id) c.report.ensures.told
