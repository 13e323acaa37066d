use Rattle.std.proofs.Common.{ℕ, ◌∷◌, []}
use Rattle.aes_ctr.specs.Planes.{lanes}
use Rattle.aes_ctr.proofs.ExchangeLemmas.{IsExchange, is_exchange}
use Rattle.aes_ctr.proofs.transposition.exchanged.Goals as goal

pub returns : goal.returns
returns c = λ f g fb gb ea eb.
    let lane : (l : ℕ) → IsExchange c.args.distance c.args.mask (f l) (g l)
    = λ l. is_exchange (f l) (g l) (fb l) (gb l) c.args.distance c.args.mask c.requires in
    rw (ea, eb) (λ i. lanes (λ l. (lane l).0 i) ∷ lanes (λ l. (lane l).1 i) ∷ [])
