-- What a method and a query ask for.
use Rattle.std.specs.Prelude.{ℕ, Bool, true, false, ◌==◌, ◌||◌, not, List, length, bytes_eq, codes, if◌then◌else◌, Option, Some, None, Result, Ok, Err}
use Rattle.octets.specs.Case.{eq_ignore_case}
use Rattle.web_request.specs.declared.query.Query.{Query}
use Rattle.web_request.specs.declared.request.Resource.{Resource}
use Rattle.web_request.specs.declared.request.Resource.TheVariants.{Uploads, Node}
use Rattle.web_request.specs.declared.action.Action.{Action}
use Rattle.web_request.specs.declared.action.Action.TheVariants.{Put, Mkdir, Get, Check}
use Rattle.web_request.specs.declared.fault.WebFault.{WebFault}
use Rattle.web_request.specs.declared.fault.WebFault.TheVariants.{BadMethod, BadQuery}

-- absent or empty
abbrev pub is_absent_or_empty : Option (List ℕ) → Bool
is_absent_or_empty None = true
is_absent_or_empty (Some text) = length text == 0

abbrev pub is_text : Option (List ℕ) → List ℕ → Bool
is_text None wanted = false
is_text (Some text) wanted = bytes_eq text wanted

abbrev pub is_text_in_any_case : Option (List ℕ) → List ℕ → Bool
is_text_in_any_case None wanted = false
is_text_in_any_case (Some text) wanted = eq_ignore_case text wanted

abbrev pub is_one_of : List ℕ → List ℕ → List ℕ → List ℕ → List ℕ → Bool
is_one_of text a b c d =
    eq_ignore_case text a || (eq_ignore_case text b || (eq_ignore_case text c || eq_ignore_case text d))

unfoldable pub is_yes : List ℕ → Bool
is_yes text = is_one_of text (codes "true") (codes "t") (codes "1") (codes "on")

unfoldable pub is_no : List ℕ → Bool
is_no text = is_one_of text (codes "false") (codes "f") (codes "0") (codes "off")

-- whether the shares are verified, none where the value says neither
abbrev pub verify_of : Option (List ℕ) → Option Bool
verify_of None = Some false
verify_of (Some text) = if is_yes text then Some true else (if is_no text then Some false else None)

abbrev pub checked_by : Option Bool → Result Action WebFault
checked_by (Some verify) = Ok (Check verify)
checked_by None = Err BadQuery

-- a check answers in JSON
unfoldable pub check_of : Query → Result Action WebFault
check_of query =
    if not (is_text query.t (codes "check")) || not (is_text_in_any_case query.output (codes "json")) then Err BadQuery
    else checked_by (verify_of query.verify)

-- bytes, or JSON
unfoldable pub read_of : Query → Bool → Result Action WebFault
read_of query head_only =
    if is_absent_or_empty query.t then Ok (Get false head_only)
    else (if is_text query.t (codes "json") then Ok (Get true head_only) else Err BadQuery)

-- of `/uri`
unfoldable pub upload_action : List ℕ → Query → Result Action WebFault
upload_action method query =
    if bytes_eq method (codes "PUT") then (if is_absent_or_empty query.t then Ok Put else Err BadQuery)
    else (if bytes_eq method (codes "POST") then (if is_text query.t (codes "mkdir-immutable") then Ok Mkdir else Err BadQuery)
    else Err (BadMethod Uploads))

-- of what begins with `/uri/`
unfoldable pub node_action : List ℕ → Query → Result Action WebFault
node_action method query =
    if bytes_eq method (codes "GET") then read_of query false
    else (if bytes_eq method (codes "HEAD") then read_of query true
    else (if bytes_eq method (codes "POST") then check_of query
    else Err (BadMethod Node)))

-- what the method and the query ask of a resource
abbrev pub action_of : Resource → List ℕ → Query → Result Action WebFault
action_of Uploads method query = upload_action method query
action_of Node method query = node_action method query
