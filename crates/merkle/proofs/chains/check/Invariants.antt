use Rattle.std.proofs.Common.{◌≡◌, ◌/◌, ◌^◌, drop}
use Rattle.merkle.specs.Leads.{led_to}
use Rattle.merkle.proofs.chains.check.Given as goal

abbrev pub invariant-loop-beside : goal.invariant-loop-beside
invariant-loop-beside l = record {
  leads : led_to l.fn.place l.fn.leaf l.chain ≡ led_to l.rest l.hash (drop l.beside-index l.chain);
  above : l.rest ≡ l.fn.place / 2 ^ l.beside-index;
}
