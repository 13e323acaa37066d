use Rattle.std.proofs.Common.{[]}
use Rattle.chk_file.specs.Upload.{fields}
use Rattle.client_core.specs.declared.ask.Ask.TheVariants.{Read}
use Rattle.round_trips.proofs.Got.{bound_back}
use Rattle.round_trips.proofs.laws.what_a_cap_binds_comes_back.Goals as goal

pub returns : goal.returns
returns g c settings world honest u bytes z v r is are stands binds told =
    bound_back c.uploads_bind_their_bytes.ensures c.two_strings_are_a_collision.ensures c.digests_are_bytes.ensures.tagged16
    settings (world z) u bytes r is are stands binds (honest.written z (Read (fields u)) [] r v told)
