use Rattle.std.proofs.Common.{true, false, rules}
use Rattle.std.proofs.lemmas.Result.{err_from_is_err_and}
use Rattle.dir_codec.proofs.Caps.{child_is, cap_refused, read_again}
use Rattle.dir_codec.proofs.decoder.read_cap.Goals as goal

pub returns-in_err-cap : goal.returns-in_err-cap
returns-in_err-cap c =
    let p = err_from_is_err_and c.from_residual.result c.from_residual.ensures.1 in
    rw (p.1, p.2) (record { ok = tt; child = tt; kept = tt; err = cap_refused c.args.text.now c.parse_bytes.result _ c.in_err-cap.was c.parse_bytes.ensures.answer })

pub returns-then-not-is_child_cap-clause-err : goal.returns-then-not-is_child_cap-clause-err
returns-then-not-is_child_cap-clause-err c other = child_is c.args.text.now c.parse_bytes.result c.in_ok-cap.cap false c.in_ok-cap.was c.parse_bytes.ensures.answer (search rules)

pub returns-clause-ok : goal.returns-clause-ok
returns-clause-ok c = child_is c.args.text.now c.parse_bytes.result c.in_ok-cap.cap true c.in_ok-cap.was c.parse_bytes.ensures.answer (search rules)

pub returns-clause-kept : goal.returns-clause-kept
returns-clause-kept c = read_again c.args.text.now c.parse_bytes.result c.in_ok-cap.cap c.caps_have_one_text.ensures.one c.in_ok-cap.ensures.read c.in_ok-cap.was c.parse_bytes.ensures.answer
