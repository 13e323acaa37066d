-- The path and the query of a target (RFC 9112, section 3.2; RFC 3986, section 3).
use Rattle.std.specs.Prelude.{ℕ, Bool, ◌==◌, ◌||◌, List, [], ◌∷◌, take, drop, nat_eq, bytes_eq, codes, if◌then◌else◌, Option, Some, None, option_map}
use Rattle.std.specs.List.{starts_with, before_first, after_first}
use Rattle.octets.specs.Case.{eq_ignore_case}
use Rattle.web_request.specs.declared.request.Resource.{Resource}
use Rattle.web_request.specs.declared.request.Resource.TheVariants.{Uploads, Node}

-- `?`
abbrev pub is_question : ℕ → Bool
is_question b = b == 63

-- `/` or `?`
abbrev pub is_end_of_authority : ℕ → Bool
is_end_of_authority b = (b == 47) || (b == 63)

-- what begins with the first `/` or `?`
abbrev pub after_authority : List ℕ → List ℕ
after_authority [] = []
after_authority (b ∷ rest) = if is_end_of_authority b then b ∷ rest else after_authority rest

-- a target from its path on: it begins with `/`, or with `http://`, in any case, and an authority
unfoldable pub origin_of : List ℕ → Option (List ℕ)
origin_of target =
    if starts_with nat_eq target (codes "/") then Some target
    else (if eq_ignore_case (take 7 target) (codes "http://") then Some (after_authority (drop 7 target)) else None)

-- what stands before the first `?`, and what follows it
abbrev pub path_of : List ℕ → List ℕ
path_of origin = before_first is_question origin

abbrev pub query_text : List ℕ → List ℕ
query_text origin = after_first is_question origin

-- the path of a target, up to its query, where it has one
abbrev pub path_in : List ℕ → Option (List ℕ)
path_in target = option_map path_of (origin_of target)

-- what a path names
unfoldable pub resource_of : List ℕ → Option Resource
resource_of path =
    if bytes_eq path (codes "/uri") then Some Uploads
    else (if starts_with nat_eq path (codes "/uri/") then Some Node else None)

-- what follows `/uri/` in it
abbrev pub below_uri : List ℕ → List ℕ
below_uri path = drop 5 path
