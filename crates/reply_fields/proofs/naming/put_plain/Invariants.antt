use Rattle.std.proofs.Common.{◌≡◌, ◌++◌, map, take}
use Rattle.reply_fields.specs.Names.{plain_byte}
use Rattle.reply_fields.proofs.naming.put_plain.Given as goal

abbrev pub invariant-loop-byte : goal.invariant-loop-byte
invariant-loop-byte l = l.out.items ≡ l.fn.out.items ++ map plain_byte (take l.byte-index l.name)
