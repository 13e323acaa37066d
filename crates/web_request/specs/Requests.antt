-- The request that a head and a body are, or the first fault that holds.
use Rattle.std.specs.Prelude.{ℕ, Bool, List, Option, Some, None, Result, Ok, Err}
use Rattle.caps.specs.Reading.{cap_reading}
use Rattle.caps.specs.declared.cap.Cap.{Cap}
use Rattle.caps.specs.declared.fault.CapFault.{CapFault}
use Rattle.path_names.specs.Names.{names_of}
use Rattle.path_names.specs.declared.fault.PathFault.{PathFault}
use Rattle.path_names.specs.declared.fault.PathFault.TheVariants as path
use Rattle.web_request.specs.Targets.{origin_of, path_of, query_text, resource_of, below_uri}
use Rattle.web_request.specs.Queries.{query_of}
use Rattle.web_request.specs.Actions.{action_of}
use Rattle.web_request.specs.Ranges.{range_of}
use Rattle.web_request.specs.declared.action.Action.{Action}
use Rattle.web_request.specs.declared.action.Action.TheVariants as action
use Rattle.web_request.specs.declared.head.Head.{Head}
use Rattle.web_request.specs.declared.head.Field.{Field}
use Rattle.web_request.specs.declared.request.Resource.{Resource}
use Rattle.web_request.specs.declared.request.Request.{Request}
use Rattle.web_request.specs.declared.request.Request.TheVariants.{Put, Mkdir, Get, Check}
use Rattle.web_request.specs.declared.fault.WebFault.{WebFault}
use Rattle.web_request.specs.declared.fault.WebFault.TheVariants.{BadTarget, NoResource, BadEscape, NotUtf8, TooManyNames, EmptyName, BadCap, NoMemory}

-- a fault of the path
abbrev pub web_fault : PathFault → WebFault
web_fault path.BadEscape = BadEscape
web_fault path.NotUtf8 = NotUtf8
web_fault path.TooMany = TooManyNames
web_fault path.EmptyName = EmptyName
web_fault path.NoMemory = NoMemory

abbrev pub node_from : Result Cap CapFault → List (List ℕ) → Result (Cap × List (List ℕ)) WebFault
node_from (Ok cap) names = Ok (cap, names)
node_from (Err fault) names = Err BadCap

-- the cap and the names below it that a path has
abbrev pub node_of : Result (List ℕ × List (List ℕ)) PathFault → Result (Cap × List (List ℕ)) WebFault
node_of (Ok found) = node_from (cap_reading found.0) found.1
node_of (Err fault) = Err (web_fault fault)

abbrev pub get_of : Bool → Bool → Option (List ℕ) → Result (Cap × List (List ℕ)) WebFault → Result Request WebFault
get_of json head_only range (Ok node) = Ok (Get node.0 node.1 json head_only range)
get_of json head_only range (Err fault) = Err fault

abbrev pub check_of : Bool → Result (Cap × List (List ℕ)) WebFault → Result Request WebFault
check_of verify (Ok node) = Ok (Check node.0 node.1 verify)
check_of verify (Err fault) = Err fault

-- the request of an action, on what follows `/uri/`
abbrev pub request_for : Action → List ℕ → List Field → List ℕ → Result Request WebFault
request_for action.Put path fields body = Ok (Put body)
request_for action.Mkdir path fields body = Ok (Mkdir body)
request_for (action.Get json head_only) path fields body = get_of json head_only (range_of fields) (node_of (names_of path))
request_for (action.Check verify) path fields body = check_of verify (node_of (names_of path))

abbrev pub request_by : Result Action WebFault → List ℕ → List Field → List ℕ → Result Request WebFault
request_by (Ok action) path fields body = request_for action path fields body
request_by (Err fault) path fields body = Err fault

abbrev pub interpreted_of : Option Resource → List ℕ → Head → List ℕ → Result Request WebFault
interpreted_of (Some resource) origin head body =
    request_by (action_of resource head.method (query_of (query_text origin))) (below_uri (path_of origin)) head.fields body
interpreted_of None origin head body = Err NoResource

abbrev pub interpreted_at : Option (List ℕ) → Head → List ℕ → Result Request WebFault
interpreted_at (Some origin) head body = interpreted_of (resource_of (path_of origin)) origin head body
interpreted_at None head body = Err BadTarget

-- the request that a head and a body are, or the first fault that holds
unfoldable pub interpreted : Head → List ℕ → Result Request WebFault
interpreted head body = interpreted_at (origin_of head.target) head body
