use Rattle.range_view.proofs.DashLemmas.{dash_cut}
use Rattle.range_view.proofs.value.cut_at_dash.Goals as goal

pub returns : goal.returns
returns c = dash_cut c.args.set.now c.split_at_byte.result c.split_at_byte.ensures
