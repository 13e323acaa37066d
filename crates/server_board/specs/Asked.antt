-- Which control request is which.
use Rattle.std.specs.Prelude.{ℕ, List, bytes_eq, codes, if◌then◌else◌}
use Rattle.server_board.specs.declared.board.Asked.{Asked}
use Rattle.server_board.specs.declared.board.Asked.TheVariants.{Status, Metrics, Stop, NotWith, Nothing}
use Rattle.server_board.specs.declared.board.Method.{Method}
use Rattle.server_board.specs.declared.board.Method.TheVariants.{Get, Post}

-- this, where the method is the one whose name is given, and else that the target has another method
abbrev pub asked_by_method : List ℕ → List ℕ → Method → Asked → Asked
asked_by_method method name own wanted = if bytes_eq method name then wanted else NotWith own

-- what a method and a target ask for: each target has one method
abbrev pub control_asked : List ℕ → List ℕ → Asked
control_asked method target =
    if bytes_eq target (codes "/stop") then asked_by_method method (codes "POST") Post Stop
    else if bytes_eq target (codes "/status") then asked_by_method method (codes "GET") Get Status
    else if bytes_eq target (codes "/metrics") then asked_by_method method (codes "GET") Get Metrics
    else Nothing
