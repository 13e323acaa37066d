-- When each fault holds, and which is the first that does.
use Rattle.std.specs.Prelude.{ℕ, ◌+◌, Bool, true, false, ◌&&◌, ◌||◌, not, nat_lt, List, [], ◌∷◌, length, drop, bytes_eq, codes, if◌then◌else◌, Option, Some, None, is_some, is_none, is_err}
use Rattle.std.specs.List.{list_all, list_any, find}
use Rattle.std.specs.Str.{is_utf8}
use Rattle.caps.specs.Reading.{cap_reading}
use Rattle.path_names.specs.Names.{segment_texts, has_bad_escape, max_names, is_empty, first_or_empty}
use Rattle.web_request.specs.Targets.{origin_of, path_of, query_text, resource_of, below_uri}
use Rattle.web_request.specs.Queries.{query_of}
use Rattle.web_request.specs.Actions.{is_absent_or_empty, is_text, is_text_in_any_case, verify_of}
use Rattle.web_request.specs.declared.head.Head.{Head}
use Rattle.web_request.specs.declared.query.Query.{Query}
use Rattle.web_request.specs.declared.request.Resource.{Resource}
use Rattle.web_request.specs.declared.request.Resource.TheVariants.{Uploads, Node}
use Rattle.web_request.specs.declared.fault.WebFault.{WebFault}
use Rattle.web_request.specs.declared.fault.WebFault.TheVariants.{BadTarget, NoResource, BadMethod, BadQuery, BadEscape, NotUtf8, TooManyNames, EmptyName, BadCap, NoMemory}

-- the methods that a resource takes
abbrev pub takes : Resource → List ℕ → Bool
takes Uploads method = bytes_eq method (codes "PUT") || bytes_eq method (codes "POST")
takes Node method = bytes_eq method (codes "GET") || (bytes_eq method (codes "HEAD") || bytes_eq method (codes "POST"))

-- the queries that go with a method that it takes
abbrev pub suits : Resource → List ℕ → Query → Bool
suits Uploads method query =
    if bytes_eq method (codes "PUT") then is_absent_or_empty query.t else is_text query.t (codes "mkdir-immutable")
suits Node method query =
    if bytes_eq method (codes "GET") || bytes_eq method (codes "HEAD") then is_absent_or_empty query.t || is_text query.t (codes "json")
    else is_text query.t (codes "check") && (is_text_in_any_case query.output (codes "json") && is_some (verify_of query.verify))

abbrev pub is_uploads : Option Resource → Bool
is_uploads None = false
is_uploads (Some Uploads) = true
is_uploads (Some Node) = false

abbrev pub is_node : Option Resource → Bool
is_node None = false
is_node (Some Uploads) = false
is_node (Some Node) = true

abbrev pub suits_what_is_there : Option Resource → List ℕ → Query → Bool
suits_what_is_there None method query = true
suits_what_is_there (Some resource) method query = suits resource method query

-- each fault for itself: of what begins with the path, what the path names, the method, the query, and what follows `/uri/`
abbrev pub holds : Option (List ℕ) → Option Resource → List ℕ → Query → List ℕ → WebFault → Bool
holds origin resource method query path BadTarget = is_none origin
holds origin resource method query path NoResource = is_none resource
holds origin resource method query path (BadMethod Uploads) = is_uploads resource && not (takes Uploads method)
holds origin resource method query path (BadMethod Node) = is_node resource && not (takes Node method)
holds origin resource method query path BadQuery = not (suits_what_is_there resource method query)
holds origin resource method query path BadEscape = is_node resource && has_bad_escape path
holds origin resource method query path NotUtf8 = is_node resource && not (list_all is_utf8 (segment_texts path))
holds origin resource method query path TooManyNames = is_node resource && nat_lt (1 + max_names) (length (segment_texts path))
holds origin resource method query path EmptyName = is_node resource && list_any is_empty (drop 1 (segment_texts path))
holds origin resource method query path BadCap = is_node resource && is_err (cap_reading (first_or_empty (segment_texts path)))
holds origin resource method query path NoMemory = false

-- the faults in their order
abbrev pub faults : List WebFault
faults =
    BadTarget ∷ NoResource ∷ BadMethod Uploads ∷ BadMethod Node ∷ BadQuery ∷ BadEscape ∷ NotUtf8 ∷ TooManyNames ∷ EmptyName ∷ BadCap ∷ []

-- the first that holds of a target from its path on
abbrev pub first_fault : Option (List ℕ) → List ℕ → Option WebFault
first_fault None method = find (holds None None method (query_of []) []) faults
first_fault (Some origin) method =
    find (holds (Some origin) (resource_of (path_of origin)) method (query_of (query_text origin)) (below_uri (path_of origin))) faults

-- the first that holds of a head
abbrev pub least_fault : Head → Option WebFault
least_fault head = first_fault (origin_of head.target) head.method
