use Rattle.chk_file.proofs.directory_ahead.copy_next.Goals as goal

pub invariant_of-result : goal.invariant_of-result
invariant_of-result c = c.new.ensures c.args.copied.items
