use Rattle.std.proofs.Common.{◌≡◌, map, sym, ap, ◌∙◌, subst}
use Rattle.std.specs.List.{range_with_len}
use Rattle.aes_ctr.specs.Crypt.{crypt}
use Rattle.share_codec.specs.Shares.{share}
use Rattle.share_codec.specs.Maker.{Maker, IsMaking}
use Rattle.file_shares.specs.Encoder.{EncoderValue}
use Rattle.file_shares.proofs.encoder.Encoder.finish.Goals as goal

pub returns-clause-shares : goal.returns-clause-shares
returns-clause-shares c bytes enc =
    let maker : c.self.inside.maker ≡ c.args.self.maker = ap (λ (e : EncoderValue). e.maker) c.self.view_is in
    c.in_ok-made.ensures.shares (crypt c.args.self.key bytes) (subst (λ (m : Maker). IsMaking m (crypt c.args.self.key bytes)) (sym maker) enc.making)
    ∙ ap (λ (m : Maker). map (λ i. share m.params (crypt c.args.self.key bytes) i) (range_with_len 0 m.params.n)) maker
