-- What a request is, row by row of the table of what is served.
use Rattle.std.specs.Prelude.{◌≡◌, ℕ, Bool, true, false, List, bytes_eq, codes, Some, Ok}
use Rattle.caps.specs.CapTexts.{IsCapText}
use Rattle.caps.specs.declared.cap.Cap.{Cap}
use Rattle.path_names.specs.Names.{names_of}
use Rattle.web_request.specs.Targets.{origin_of, path_of, query_text, resource_of, below_uri}
use Rattle.web_request.specs.Queries.{query_of}
use Rattle.web_request.specs.Actions.{is_absent_or_empty, is_text, is_text_in_any_case, verify_of}
use Rattle.web_request.specs.Ranges.{range_of}
use Rattle.web_request.specs.declared.head.Head.{Head}
use Rattle.web_request.specs.declared.query.Query.{Query}
use Rattle.web_request.specs.declared.request.Resource.{Resource}
use Rattle.web_request.specs.declared.request.Resource.TheVariants.{Uploads, Node}
use Rattle.web_request.specs.declared.request.Request.{Request}
use Rattle.web_request.specs.declared.request.Request.TheVariants.{Put, Mkdir, Get, Check}

-- the method, the target's resource, and its query
pub record IsFor (head : Head) (method : List ℕ) (resource : Resource) (query : Query) (path : List ℕ) : Type 0 where
  pub origin : List ℕ
  pub begins : origin_of head.target ≡ Some origin
  pub named : resource_of (path_of origin) ≡ Some resource
  pub asked : query ≡ query_of (query_text origin)
  pub below : path ≡ below_uri (path_of origin)
  pub method_is : bytes_eq head.method method ≡ true

-- a path is a cap's text and names below it
pub record IsPath (path : List ℕ) (cap : Cap) (names : List (List ℕ)) : Type 0 where
  pub text : List ℕ
  pub cut : names_of path ≡ Ok (text, names)
  pub cap_text : IsCapText cap text

-- the method of reading whole, and of reading the head alone
abbrev pub read_method : Bool → List ℕ
read_method true = codes "HEAD"
read_method false = codes "GET"

-- what `t` says: JSON, or nothing
abbrev pub is_read : Bool → Query → Bool
is_read true query = is_text query.t (codes "json")
is_read false query = is_absent_or_empty query.t

-- the rows of the table
abbrev pub IsRequest : Head → List ℕ → Request → Type 0
IsRequest head body (Put bytes) =
    (query : Query) × (path : List ℕ) × IsFor head (codes "PUT") Uploads query path × (is_absent_or_empty query.t ≡ true) × (bytes ≡ body)
IsRequest head body (Mkdir bytes) =
    (query : Query) × (path : List ℕ) × IsFor head (codes "POST") Uploads query path
    × (is_text query.t (codes "mkdir-immutable") ≡ true) × (bytes ≡ body)
IsRequest head body (Get cap names json head_only range) =
    (query : Query) × (path : List ℕ) × IsFor head (read_method head_only) Node query path × (is_read json query ≡ true)
    × IsPath path cap names × (range ≡ range_of head.fields)
IsRequest head body (Check cap names verify) =
    (query : Query) × (path : List ℕ) × IsFor head (codes "POST") Node query path × (is_text query.t (codes "check") ≡ true)
    × (is_text_in_any_case query.output (codes "json") ≡ true) × (verify_of query.verify ≡ Some verify) × IsPath path cap names
