-- Exit statuses by cause.
use Rattle.std.specs.Prelude.{ℕ, ◌==◌, if◌then◌else◌}
use Rattle.client_core.specs.declared.fault.ClientFault.{ClientFault}
use Rattle.client_core.specs.declared.fault.ClientFault.TheVariants as client
use Rattle.client_tree.specs.declared.fault.TreeFault.{TreeFault}
use Rattle.client_tree.specs.declared.fault.TreeFault.TheVariants as tree
use Rattle.client_tasks.specs.declared.fault.TaskFault.{TaskFault}
use Rattle.client_tasks.specs.declared.fault.TaskFault.TheVariants.{Words, BadUrl, BadJobs, BadPatience, BadSkips, BadState, NoCap, Tree, NotWell, OtherCap, PassedOver, Unread, Unwritten, NotPrinted, NoMemory}

-- of what the gateway gave, or didn't give
abbrev pub client_cause : ClientFault → ℕ
client_cause (client.Link fault) = 4
client_cause (client.Refused status) = if status == 410 then 7 else 5
client_cause client.NotBound = 6
client_cause client.NotFile = 3
client_cause client.NotDirectory = 3
client_cause (client.NoChild name) = 3
client_cause client.NoMemory = 8

abbrev pub tree_cause : TreeFault → ℕ
tree_cause (tree.Client fault) = client_cause fault
tree_cause (tree.BadName name) = 8
tree_cause (tree.SameName name) = 8
tree_cause tree.BadChildren = 8
tree_cause (tree.Local fault) = 8
tree_cause tree.TooMany = 8
tree_cause tree.TooDeep = 8
tree_cause tree.NoMemory = 8

-- 0 is that of a task that was done
abbrev pub cause : TaskFault → ℕ
cause Words = 2
cause BadUrl = 2
cause BadJobs = 2
cause BadPatience = 2
cause BadSkips = 2
cause BadState = 9
cause NoCap = 3
cause (Tree fault) = tree_cause fault
cause NotWell = 7
cause OtherCap = 7
cause PassedOver = 8
cause Unread = 8
cause Unwritten = 8
cause NotPrinted = 8
cause NoMemory = 8
