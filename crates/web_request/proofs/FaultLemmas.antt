-- The first fault that holds.
use Rattle.std.proofs.Common.{◌≡◌, ◌↔◌, ℕ, Bool, true, false, cond, List, drop, length, map, Option, Some, None, Result, Ok, Err, refl, sym, ap, ◌∙◌}
use Rattle.std.specs.Prelude.{bytes_eq, codes, not, ◌||◌, ◌&&◌, ◌+◌, nat_lt, is_some, is_err}
use Rattle.std.specs.List.{find, list_all, list_any}
use Rattle.std.specs.Str.{is_utf8}
use Rattle.caps.specs.Reading.{cap_reading}
use Rattle.caps.specs.declared.cap.Cap.{Cap}
use Rattle.caps.specs.declared.fault.CapFault.{CapFault}
use Rattle.dir_codec.specs.Names.{nfc_text}
use Rattle.path_names.specs.Names.{names_of, segment_texts, has_bad_escape, max_names, is_empty, first_or_empty}
use Rattle.path_names.specs.declared.fault.PathFault.TheVariants as walk
use Rattle.web_request.specs.Targets.{origin_of, path_of, query_text, resource_of, below_uri}
use Rattle.web_request.specs.Queries.{query_of}
use Rattle.web_request.specs.Actions.{is_absent_or_empty, is_text, is_text_in_any_case, verify_of, checked_by, check_of, read_of, upload_action, node_action}
use Rattle.web_request.specs.Ranges.{range_of}
use Rattle.web_request.specs.Requests.{node_from, node_of, get_of, request_for, request_by, interpreted_of, interpreted_at, interpreted}
use Rattle.web_request.specs.Requests as requests
use Rattle.web_request.specs.Faults.{takes, suits, holds, faults, first_fault, least_fault}
use Rattle.web_request.specs.declared.head.Head.{Head}
use Rattle.web_request.specs.declared.head.Field.{Field}
use Rattle.web_request.specs.declared.query.Query.{Query}
use Rattle.web_request.specs.declared.action.Action.TheVariants as action
use Rattle.web_request.specs.declared.fault.WebFault.{WebFault}
use Rattle.web_request.specs.declared.fault.WebFault.TheVariants.{BadMethod, BadQuery, BadEscape, NotUtf8, TooManyNames, EmptyName, BadCap}
use Rattle.web_request.specs.declared.request.Resource.{Resource}
use Rattle.web_request.specs.declared.request.Resource.TheVariants.{Uploads, Node}

-- the fault of an answer
abbrev fault_of : {A : Type 0} → Result A WebFault → Option WebFault
fault_of (Ok x) = None
fault_of (Err fault) = Some fault

-- the first fault of a path
abbrev path_fault : List ℕ → Option WebFault
path_fault path =
    cond (has_bad_escape path) (Some BadEscape)
    (cond (not (list_all is_utf8 (segment_texts path))) (Some NotUtf8)
    (cond (nat_lt (1 + max_names) (length (segment_texts path))) (Some TooManyNames)
    (cond (list_any is_empty (drop 1 (segment_texts path))) (Some EmptyName)
    (cond (is_err (cap_reading (first_or_empty (segment_texts path)))) (Some BadCap) None))))

node_fault : (path : List ℕ) → fault_of (node_of (names_of path)) ≡ path_fault path
node_fault path =
    go (has_bad_escape path) (not (list_all is_utf8 (segment_texts path))) (nat_lt (1 + max_names) (length (segment_texts path)))
    (list_any is_empty (drop 1 (segment_texts path))) (cap_reading (first_or_empty (segment_texts path))) refl
  where
    go : (t u v w : Bool) (r : Result Cap CapFault) → cap_reading (first_or_empty (segment_texts path)) ≡ r
        → fault_of (node_of (cond t (Err walk.BadEscape) (cond u (Err walk.NotUtf8) (cond v (Err walk.TooMany) (cond w (Err walk.EmptyName)
        (Ok (first_or_empty (segment_texts path), map nfc_text (drop 1 (segment_texts path)))))))))
        ≡ cond t (Some BadEscape) (cond u (Some NotUtf8) (cond v (Some TooManyNames) (cond w (Some EmptyName)
        (cond (is_err (cap_reading (first_or_empty (segment_texts path)))) (Some BadCap) None))))
    go true u v w r e = refl
    go false true v w r e = refl
    go false false true w r e = refl
    go false false false true r e = refl
    go false false false false (Ok found) e = rw e
    go false false false false (Err fault) e = rw e

get_fault : (json head_only : Bool) (range : Option (List ℕ)) (n : Result (Cap × List (List ℕ)) WebFault) → fault_of (get_of json head_only range n) ≡ fault_of n
get_fault json head_only range (Ok node) = refl
get_fault json head_only range (Err fault) = refl

check_fault : (verify : Bool) (n : Result (Cap × List (List ℕ)) WebFault) → fault_of (requests.check_of verify n) ≡ fault_of n
check_fault verify (Ok node) = refl
check_fault verify (Err fault) = refl

uploads_fault : (origin method : List ℕ) (query : Query) (path : List ℕ) (fields : List Field) (body : List ℕ)
    → fault_of (request_by (upload_action method query) path fields body) ≡ find (holds (Some origin) (Some Uploads) method query path) faults
unfolding upload_action
uploads_fault origin method query path fields body =
    go (bytes_eq method (codes "PUT")) (bytes_eq method (codes "POST")) (is_absent_or_empty query.t) (is_text query.t (codes "mkdir-immutable"))
  where
    go : (t u v w : Bool)
        → fault_of (request_by (cond t (cond v (Ok action.Put) (Err BadQuery)) (cond u (cond w (Ok action.Mkdir) (Err BadQuery)) (Err (BadMethod Uploads)))) path fields body)
        ≡ cond (not (t || u)) (Some (BadMethod Uploads)) (cond (not (cond t v w)) (Some BadQuery) None)
    go true u true w = refl
    go true u false w = refl
    go false true v true = refl
    go false true v false = refl
    go false false v w = refl

read_fault : (json head_only : Bool) (path : List ℕ) (fields : List Field) (body : List ℕ)
    → fault_of (request_for (action.Get json head_only) path fields body) ≡ path_fault path
read_fault json head_only path fields body = get_fault json head_only (range_of fields) (node_of (names_of path)) ∙ node_fault path

-- of a node: the method and the query, and then the path
action_fault : (method : List ℕ) (query : Query) (path : List ℕ) (fields : List Field) (body : List ℕ)
    → fault_of (request_by (node_action method query) path fields body)
    ≡ cond (not (takes Node method)) (Some (BadMethod Node)) (cond (not (suits Node method query)) (Some BadQuery) (path_fault path))
unfolding node_action read_of check_of
action_fault method query path fields body =
    go (bytes_eq method (codes "GET")) (bytes_eq method (codes "HEAD")) (bytes_eq method (codes "POST")) (is_absent_or_empty query.t) (is_text query.t (codes "json"))
    (is_text query.t (codes "check")) (is_text_in_any_case query.output (codes "json")) (verify_of query.verify)
  where
    go : (t u p v w x y : Bool) (o : Option Bool)
        → fault_of (request_by (cond t (cond v (Ok (action.Get false false)) (cond w (Ok (action.Get true false)) (Err BadQuery)))
        (cond u (cond v (Ok (action.Get false true)) (cond w (Ok (action.Get true true)) (Err BadQuery)))
        (cond p (cond (not x || not y) (Err BadQuery) (checked_by o)) (Err (BadMethod Node))))) path fields body)
        ≡ cond (not (t || (u || p))) (Some (BadMethod Node)) (cond (not (cond (t || u) (v || w) (x && (y && is_some o)))) (Some BadQuery) (path_fault path))
    go true u p true w x y o = read_fault false false path fields body
    go true u p false true x y o = read_fault true false path fields body
    go true u p false false x y o = refl
    go false true p true w x y o = read_fault false true path fields body
    go false true p false true x y o = read_fault true true path fields body
    go false true p false false x y o = refl
    go false false true v w true true (Some verify) = check_fault verify (node_of (names_of path)) ∙ node_fault path
    go false false true v w true true None = refl
    go false false true v w true false o = refl
    go false false true v w false y o = refl
    go false false false v w x y o = refl

node_first : (origin method : List ℕ) (query : Query) (path : List ℕ)
    → cond (not (takes Node method)) (Some (BadMethod Node)) (cond (not (suits Node method query)) (Some BadQuery) (path_fault path))
    ≡ find (holds (Some origin) (Some Node) method query path) faults
node_first origin method query path = refl

resource_fault : (origin : List ℕ) (head : Head) (body : List ℕ) (resource : Option Resource)
    → fault_of (interpreted_of resource origin head body)
    ≡ find (holds (Some origin) resource head.method (query_of (query_text origin)) (below_uri (path_of origin))) faults
resource_fault origin head body None = refl
resource_fault origin head body (Some Uploads) =
    uploads_fault origin head.method (query_of (query_text origin)) (below_uri (path_of origin)) head.fields body
resource_fault origin head body (Some Node) =
    action_fault head.method (query_of (query_text origin)) (below_uri (path_of origin)) head.fields body
    ∙ node_first origin head.method (query_of (query_text origin)) (below_uri (path_of origin))

fault_at : (o : Option (List ℕ)) (head : Head) (body : List ℕ) → fault_of (interpreted_at o head body) ≡ first_fault o head.method
fault_at None head body = refl
fault_at (Some origin) head body = resource_fault origin head body (resource_of (path_of origin))

answers : {A : Type 0} (r : Result A WebFault) (o : Option WebFault) (fault : WebFault) → fault_of r ≡ o → (r ≡ Err fault) ↔ (o ≡ Some fault)
answers (Ok x) o fault e = (λ is. absurd (cc), λ is. absurd (cc))
answers (Err other) o fault e = (λ is. let same : other ≡ fault = cc in sym e ∙ ap Some same, λ is. let same : other ≡ fault = cc in ap Err same)

pub first_given : (head : Head) (body : List ℕ) (fault : WebFault) → (interpreted head body ≡ Err fault) ↔ (least_fault head ≡ Some fault)
unfolding interpreted
first_given head body fault = answers (interpreted_at (origin_of head.target) head body) (least_fault head) fault (fault_at (origin_of head.target) head body)
