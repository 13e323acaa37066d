-- When the faults of a flow come.
use Rattle.std.specs.Prelude.{◌≢◌, ⊤, Option, None}
use Rattle.gate_core.specs.declared.fault.GatewayFault.{GatewayFault}
use Rattle.gate_core.specs.declared.fault.GatewayFault.TheVariants as gateway
use Rattle.gate_core.specs.ConnectionState.{ConnectionState, bytes_refusal}
use Rattle.gate_flow.specs.declared.fault.FlowFault.{FlowFault}
use Rattle.gate_flow.specs.declared.fault.FlowFault.TheVariants.{Refused, ReadFailed, WriteFailed, NoMemory}

-- memory was refused, or the call was
abbrev pub flow_of : GatewayFault → FlowFault
flow_of gateway.Known = Refused
flow_of gateway.NotOpen = Refused
flow_of gateway.Cut = Refused
flow_of gateway.BadParameters = Refused
flow_of gateway.NoMemory = NoMemory
flow_of gateway.StillOpen = Refused

-- of a call of a gateway: it was refused where no bytes are taken of the connection, or memory was
abbrev pub IsCallFault : Option ConnectionState → FlowFault → Type 0
IsCallFault held Refused = bytes_refusal held ≢ None
IsCallFault held ReadFailed = ⊥
IsCallFault held WriteFailed = ⊥
IsCallFault held NoMemory = ⊤

-- of a read
abbrev pub IsReadFault : FlowFault → Type 0
IsReadFault Refused = ⊥
IsReadFault ReadFailed = ⊤
IsReadFault WriteFailed = ⊥
IsReadFault NoMemory = ⊤

-- of a write
abbrev pub IsWriteFault : FlowFault → Type 0
IsWriteFault Refused = ⊥
IsWriteFault ReadFailed = ⊥
IsWriteFault WriteFailed = ⊤
IsWriteFault NoMemory = ⊥
