use Rattle.std.proofs.Common.{◌≡◌, ℕ, ◌+◌, ◌^◌, ◌<◌, ◌≤◌, List, length, drop, sym, ap, subst, ◌∙◌, arith, length-drop}
use Rattle.std.specs.Prelude.{Result, Ok, Err, IfOk}
use Rattle.std.proofs.lemmas.Result.{err_from_is_err_and, IfOk-weaker}
use Rattle.tag_hash.specs.NetstringAt.{netstring_at, announced, closed, digit_count}
use Rattle.tag_hash.specs.declared.netstrings.NetFault.{NetFault}
use Rattle.tag_hash.specs.declared.netstrings.Span.{Span}
use Rattle.tag_hash.proofs.Announced.{announced_parts}
use Rattle.tag_hash.proofs.Reading.{IsRead, netstring_read_only}
use Rattle.tag_hash.proofs.netstrings.read_netstring.Goals as goal

-- reading, where the text at the place and what it announces are known
read_by : (bytes : List ℕ) (at : ℕ) (text : List ℕ) (said : Result ℕ NetFault) → text ≡ drop at bytes → said ≡ announced text → netstring_at bytes at ≡ closed bytes (at + digit_count text + 1) said
unfolding netstring_at
read_by bytes at text said is says =
    let whole = says ∙ ap announced is in
    λ i. closed bytes (at + digit_count (sym is i) + 1) (sym whole i)

pub returns-in_err-size : goal.returns-in_err-size
returns-in_err-size c =
    let p = err_from_is_err_and c.from_residual.result c.from_residual.ensures.1 in
    rw (p.1, p.2) (record {
      exact = sym (read_by c.args.bytes.now c.args.at c.rest_from-text.result.now (Err c.in_err-size.field-0.0) c.rest_from-text.ensures c.in_err-size.ensures);
      inside = tt;
    })

fits : (bytes : List ℕ) (at : ℕ) (text : List ℕ) (size count : ℕ) → length bytes < 2 ^ 63 → text ≡ drop at bytes → Ok size ≡ announced text → count ≡ digit_count text → count ≤ length text → at + count + 1 < 2 ^ 64
fits bytes at text size count room is says counted within =
    let digits : 0 < digit_count text = (announced_parts text size (sym says)).digits in
    omega (arith, ap length is, length-drop at bytes)

pub overflow_add-at-2 : goal.overflow_add-at-2
overflow_add-at-2 c =
    let enough = fits c.args.bytes.now c.args.at c.rest_from-text.result.now c.in_ok-size.size c.digit_count.result (omega arith) c.rest_from-text.ensures c.in_ok-size.ensures c.digit_count.ensures.count c.digit_count.ensures.within in
    omega arith

within : (bytes : List ℕ) (at : ℕ) (r : Result (Span × ℕ) NetFault) → r ≡ netstring_at bytes at → IfOk r (λ read. (read.0.start + read.0.len + 1 ≡ read.1) × (read.1 ≤ length bytes))
within bytes at r is =
    IfOk-weaker r (IsRead bytes at) (λ read. (read.0.start + read.0.len + 1 ≡ read.1) × (read.1 ≤ length bytes)) (λ read parts. (parts.0, parts.1))
    (subst (λ a. IfOk a (IsRead bytes at)) (sym is) (netstring_read_only bytes at))

pub returns : goal.returns
returns c =
    let exact : c.closed.result ≡ netstring_at c.args.bytes.now c.args.at = c.closed.ensures
    ∙ ap (λ n. closed c.args.bytes.now (c.args.at + n + 1) (Ok c.in_ok-size.size)) c.digit_count.ensures.count
    ∙ sym (read_by c.args.bytes.now c.args.at c.rest_from-text.result.now (Ok c.in_ok-size.size) c.rest_from-text.ensures c.in_ok-size.ensures) in
    record { exact = exact; inside = within c.args.bytes.now c.args.at c.closed.result exact }
