-- What a client makes of the answer to a read, and to a put.
use Rattle.std.specs.Prelude.{◌≡◌, ℕ, min, List, Result, Ok, Err}
use Rattle.caps.specs.Fields.{ReadValue}
use Rattle.caps.specs.declared.cap.Cap.{Cap}
use Rattle.caps.specs.CapTexts.{IsCapText}
use Rattle.cap_binding.specs.Binds.{Binds}
use Rattle.client_core.specs.declared.exchange.Answer.{Answer}
use Rattle.client_core.specs.declared.exchange.LinkFault.{LinkFault}

-- how many bytes are taken at most of what is stored, whatever size its cap says
abbrev pub most_taken : ℕ → ℕ
most_taken size = min size 67108864

-- it carries out the read, and its bytes are bound
abbrev pub IsBoundAnswer : ReadValue → Result Answer LinkFault → List ℕ → Type 0
IsBoundAnswer f (Ok answer) bytes = (answer.status ≡ 200) × (bytes ≡ answer.body) × Binds f bytes
IsBoundAnswer f (Err fault) bytes = ⊥

-- there is none, it doesn't carry out the read, or its bytes aren't bound
abbrev pub IsUnboundAnswer : ReadValue → Result Answer LinkFault → Type 0
IsUnboundAnswer f (Ok answer) = answer.status ≡ 200 → Binds f answer.body → ⊥
IsUnboundAnswer f (Err fault) = Unit {0}

-- it carries out the put, and names this cap
abbrev pub IsNamedAnswer : Result Answer LinkFault → Cap → Type 0
IsNamedAnswer (Ok answer) cap = (answer.status ≡ 200) × IsCapText cap answer.body
IsNamedAnswer (Err fault) cap = ⊥
