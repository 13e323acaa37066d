-- Why nothing can be read.
use Rattle.std.specs.declared.io.ErrorKind.{ErrorKind}
use Rattle.std.specs.declared.io.ErrorKind.TheVariants.{TimedOut, WouldBlock}
use Rattle.client_core.specs.declared.exchange.LinkFault.{LinkFault}
use Rattle.client_core.specs.declared.exchange.LinkFault.TheVariants.{TooSlow, Broken}

-- the time of a read is over, or the connection broke
abbrev pub fault_of_kind : ErrorKind → LinkFault
fault_of_kind TimedOut = TooSlow
fault_of_kind WouldBlock = TooSlow
fault_of_kind _ = Broken
