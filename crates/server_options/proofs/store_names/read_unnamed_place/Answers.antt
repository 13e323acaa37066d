use Rattle.std.proofs.Common.{refl}
use Rattle.server_options.proofs.PlaceLemmas.{unnamed}
use Rattle.server_options.proofs.store_names.read_unnamed_place.Goals as goal

pub returns-then-is_address : goal.returns-then-is_address
returns-then-is_address c = unnamed c.args.room c.args.text _ c.on_redis.result c.on_redis.ensures refl
