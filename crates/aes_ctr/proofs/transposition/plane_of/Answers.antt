use Rattle.aes_ctr.specs.Planes.{lanes}
use Rattle.aes_ctr.proofs.ExchangeLemmas.{at_all_places}
use Rattle.aes_ctr.proofs.transposition.plane_of.Goals as goal

pub returns : goal.returns
returns c = λ f e. rw e (λ i. lanes (λ l. at_all_places (f l) c.args.b i))
