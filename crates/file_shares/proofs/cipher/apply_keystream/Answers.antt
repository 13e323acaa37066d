use Rattle.std.proofs.Common.{◌≡◌, ap, sym, ◌∙◌, length, arith}
use Rattle.aes_ctr.specs.Crypt.{crypt_from}
use Rattle.file_shares.proofs.Fitting.{written_back}
use Rattle.file_shares.proofs.cipher.apply_keystream.Goals as goal

pub returns : goal.returns
returns c =
    let given = c.deref_mut.ensures.value in
    let applied = c.apply.ensures in
    let key = c.new.ensures in
    let long : length c.apply.new.bytes ≡ length c.args.bytes.items = ap length applied ∙ c.keystream_by_place.ensures.length c.new.result 0 c.deref_mut.result.now ∙ ap length given in
    let all : c.args.bytes.len ≡ length c.args.bytes.items = (let h = c.args.bytes.ok.0 in omega arith) in
    written_back c.args.bytes.items c.apply.new.bytes c.args.bytes.len long all
    ∙ applied ∙ (λ i. crypt_from (key i) 0 (given i)) ∙ sym (c.parts_agree.ensures.whole c.args.key c.args.bytes.items)
