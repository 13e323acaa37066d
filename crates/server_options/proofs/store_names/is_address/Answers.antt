use Rattle.std.proofs.Common.{rules}
use Rattle.server_options.proofs.TextLemmas.{around}
use Rattle.server_options.proofs.store_names.is_address.Goals as goal

pub returns : goal.returns
returns c = λ yes. record {
  host = c.in-Some.host.now;
  port = c.in-Some.port.now;
  parts = around c.args.text.now c.in-Some.host c.in-Some.port c.in-Some.ensures.cases;
  is_host = c.is_host.ensures (search rules);
  is_port = c.is_port.ensures (search rules);
  no_slash = search rules;
}
