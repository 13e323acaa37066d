use Rattle.std.proofs.Common.{◌≡◌, ◌-◌, length, rules}
use Rattle.s3_requests.proofs.CodeLemmas.{kept_on_ok}
use Rattle.s3_requests.proofs.error_codes.keep_first.Goals as goal

pub returns-clause-kept : goal.returns-clause-kept
returns-clause-kept c =
    let room : c.saturating_sub-room.result ≡ 4096 - length c.args.kept.now.items = search rules in
    kept_on_ok c.extend_from_slice.result c.extend_from_slice.new.self.items c.args.kept.now.items c.args.piece.now c.min-len.result c.saturating_sub-room.result
    c.extend_from_slice.ensures.items c.min-len.ensures room
