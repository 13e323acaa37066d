use Rattle.std.proofs.Common.{rules}
use Rattle.server_options.proofs.PlaceLemmas.{named, named_sized}
use Rattle.server_options.proofs.TextLemmas.{some_byte}
use Rattle.server_options.proofs.store_names.read_named_place.Goals as goal

pub returns-in-Some : goal.returns-in-Some
returns-in-Some c =
    named_sized c.args.room c.in-Some.room c.args.address c.in-Some.name c.args.behind.now c.on_redis.result c.on_redis.ensures c.in-Some.ensures

pub returns-else-is_empty : goal.returns-else-is_empty
returns-else-is_empty c =
    named c.args.room c.args.address c.args.behind c.on_redis-else-is_empty.result c.on_redis-else-is_empty.ensures
    (some_byte c.args.behind.now c.is_empty.result c.is_empty.ensures (search rules))
