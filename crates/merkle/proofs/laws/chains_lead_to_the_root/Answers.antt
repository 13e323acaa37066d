use Rattle.merkle.proofs.Chained.{chain_leads, length-chain, chain_uses}
use Rattle.merkle.proofs.laws.chains_lead_to_the_root.Goals as goal

pub returns : goal.returns
returns c = record { leads = chain_leads; high = length-chain; uses = chain_uses }
