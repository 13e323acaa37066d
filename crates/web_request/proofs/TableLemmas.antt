-- Rows of the table, and what a head and a body come to.
use Rattle.std.proofs.Common.{◌≡◌, ◌↔◌, ℕ, ◌==◌, Bool, true, false, cond, List, length, Option, Some, None, Result, Ok, Err, refl, sym, ap, subst, ◌∙◌, ◌⊎◌, inl, inr}
use Rattle.std.specs.Prelude.{bytes_eq, codes, not, ◌||◌}
use Rattle.std.proofs.lemmas.Slice.Eq.{bytes_eq-Decides}
use Rattle.caps.specs.CapTexts.{IsCapText}
use Rattle.caps.specs.Reading.{cap_reading}
use Rattle.caps.specs.declared.cap.Cap.{Cap}
use Rattle.caps.specs.declared.fault.CapFault.{CapFault}
use Rattle.path_names.specs.Names.{names_of}
use Rattle.path_names.specs.declared.fault.PathFault.{PathFault}
use Rattle.web_request.specs.Targets.{origin_of, path_of, query_text, resource_of, below_uri}
use Rattle.web_request.specs.Queries.{query_of}
use Rattle.web_request.specs.Actions.{is_absent_or_empty, is_text, is_text_in_any_case, verify_of, checked_by, check_of, read_of, upload_action, node_action, action_of}
use Rattle.web_request.specs.Ranges.{range_of}
use Rattle.web_request.specs.Requests.{node_from, node_of, get_of, request_for, request_by, interpreted_of, interpreted_at, interpreted}
use Rattle.web_request.specs.Requests as requests
use Rattle.web_request.specs.Table.{IsFor, IsPath, IsRequest, is_read, read_method}
use Rattle.web_request.specs.declared.head.Head.{Head}
use Rattle.web_request.specs.declared.query.Query.{Query}
use Rattle.web_request.specs.declared.action.Action.{Action}
use Rattle.web_request.specs.declared.action.Action.TheVariants as action
use Rattle.web_request.specs.declared.fault.WebFault.{WebFault}
use Rattle.web_request.specs.declared.fault.WebFault.TheVariants.{BadMethod, BadQuery}
use Rattle.web_request.specs.declared.request.Resource.{Resource}
use Rattle.web_request.specs.declared.request.Resource.TheVariants.{Uploads, Node}
use Rattle.web_request.specs.declared.request.Request.{Request}
use Rattle.web_request.specs.declared.request.Request.TheVariants.{Put, Mkdir, Get, Check}
use Rattle.web_request.proofs.RequestLemmas.{action_taken}

-- cap texts are read
abbrev pub Reads : Type 0
Reads = (text : List ℕ) (cap : Cap) → IsCapText cap text ↔ (cap_reading text ≡ Ok cap)

-- ---- from a row to the request

same_bytes : (a b : List ℕ) → bytes_eq a b ≡ true → a ≡ b
same_bytes a b e = (bytes_eq-Decides a b).0 e

put_action : (query : Query) → is_absent_or_empty query.t ≡ true → upload_action (codes "PUT") query ≡ Ok action.Put
unfolding upload_action
put_action query plain = ap (λ b. cond b (Ok action.Put) (Err BadQuery)) plain

mkdir_action : (query : Query) → is_text query.t (codes "mkdir-immutable") ≡ true → upload_action (codes "POST") query ≡ Ok action.Mkdir
unfolding upload_action
mkdir_action query is = ap (λ b. cond b (Ok action.Mkdir) (Err BadQuery)) is

json_not_plain : (t : Option (List ℕ)) → is_text t (codes "json") ≡ true → is_absent_or_empty t ≡ false
json_not_plain None is = absurd (cc)
json_not_plain (Some text) is = ap (λ x. length x == 0) (same_bytes text (codes "json") is)

read_action : (json head_only : Bool) (query : Query) → is_read json query ≡ true → read_of query head_only ≡ Ok (action.Get json head_only)
unfolding read_of
read_action false head_only query is =
    ap (λ b. cond b (Ok (action.Get false head_only)) (cond (is_text query.t (codes "json")) (Ok (action.Get true head_only)) (Err BadQuery))) is
read_action true head_only query is =
    ap (λ b. cond b (Ok (action.Get false head_only)) (cond (is_text query.t (codes "json")) (Ok (action.Get true head_only)) (Err BadQuery))) (json_not_plain query.t is)
    ∙ ap (λ b. cond b (Ok (action.Get true head_only)) (Err BadQuery)) is

get_action : (json head_only : Bool) (query : Query) → is_read json query ≡ true → node_action (read_method head_only) query ≡ Ok (action.Get json head_only)
unfolding node_action
get_action json false query is = read_action json false query is
get_action json true query is = read_action json true query is

check_action : (query : Query) (verify : Bool) → is_text query.t (codes "check") ≡ true → is_text_in_any_case query.output (codes "json") ≡ true
    → verify_of query.verify ≡ Some verify → node_action (codes "POST") query ≡ Ok (action.Check verify)
unfolding node_action check_of
check_action query verify is output says =
    ap (λ b. cond (not b || not (is_text_in_any_case query.output (codes "json"))) (Err BadQuery) (checked_by (verify_of query.verify))) is
    ∙ ap (λ b. cond (not b) (Err BadQuery) (checked_by (verify_of query.verify))) output
    ∙ ap checked_by says

-- the request of a head whose action is known
for_action : (head : Head) (body method : List ℕ) (resource : Resource) (query : Query) (path : List ℕ) (act : Action)
    → IsFor head method resource query path → action_of resource method query ≡ Ok act
    → interpreted head body ≡ request_for act path head.fields body
for_action head body method resource query path act w is =
    action_taken head body w.origin resource (Ok act) w.begins w.named
    (ap (λ m. action_of resource m (query_of (query_text w.origin))) (same_bytes head.method method w.method_is)
    ∙ ap (action_of resource method) (sym w.asked) ∙ is)
    ∙ ap (λ p. request_for act p head.fields body) (sym w.below)

path_node : Reads → (path : List ℕ) (cap : Cap) (names : List (List ℕ)) → IsPath path cap names → node_of (names_of path) ≡ Ok (cap, names)
path_node reads path cap names w = ap node_of w.cut ∙ ap (λ r. node_from r names) ((reads w.text cap).0 w.cap_text)

pub row_given : Reads → (head : Head) (body : List ℕ) (request : Request) → IsRequest head body request → interpreted head body ≡ Ok request
row_given reads head body (Put bytes) w =
    for_action head body (codes "PUT") Uploads w.0 w.1 action.Put w.2 (put_action w.0 w.3) ∙ ap (λ b. Ok (Put b)) (sym w.4)
row_given reads head body (Mkdir bytes) w =
    for_action head body (codes "POST") Uploads w.0 w.1 action.Mkdir w.2 (mkdir_action w.0 w.3) ∙ ap (λ b. Ok (Mkdir b)) (sym w.4)
row_given reads head body (Get cap names json head_only range) w =
    for_action head body (read_method head_only) Node w.0 w.1 (action.Get json head_only) w.2 (get_action json head_only w.0 w.3)
    ∙ ap (get_of json head_only (range_of head.fields)) (path_node reads w.1 cap names w.4)
    ∙ ap (λ r. Ok (Get cap names json head_only r)) (sym w.5)
row_given reads head body (Check cap names verify) w =
    for_action head body (codes "POST") Node w.0 w.1 (action.Check verify) w.2 (check_action w.0 verify w.3 w.4 w.5)
    ∙ ap (requests.check_of verify) (path_node reads w.1 cap names w.6)

-- ---- from the request to its row

-- which action of `/uri` it is, and why
abbrev UploadSays : List ℕ → Query → Action → Type 0
UploadSays method query act =
    ((act ≡ action.Put) × (bytes_eq method (codes "PUT") ≡ true) × (is_absent_or_empty query.t ≡ true))
    ⊎ ((act ≡ action.Mkdir) × (bytes_eq method (codes "POST") ≡ true) × (is_text query.t (codes "mkdir-immutable") ≡ true))

upload_says : (method : List ℕ) (query : Query) (act : Action) → upload_action method query ≡ Ok act → UploadSays method query act
unfolding upload_action
upload_says method query act e =
    go (bytes_eq method (codes "PUT")) (is_absent_or_empty query.t) (bytes_eq method (codes "POST")) (is_text query.t (codes "mkdir-immutable")) refl refl refl refl e
  where
    go : (t u v w : Bool) → bytes_eq method (codes "PUT") ≡ t → is_absent_or_empty query.t ≡ u → bytes_eq method (codes "POST") ≡ v
        → is_text query.t (codes "mkdir-immutable") ≡ w
        → ◌≡◌ {A = Result Action WebFault} (cond t (cond u (Ok action.Put) (Err BadQuery)) (cond v (cond w (Ok action.Mkdir) (Err BadQuery)) (Err (BadMethod Uploads)))) (Ok act)
        → UploadSays method query act
    go true true v w a b c d f = inl ((let is : act ≡ action.Put = cc in is), a, b)
    go true false v w a b c d f = absurd (cc)
    go false u true true a b c d f = inr ((let is : act ≡ action.Mkdir = cc in is), c, d)
    go false u true false a b c d f = absurd (cc)
    go false u false w a b c d f = absurd (cc)

-- what is read, and why
abbrev ReadSays : Bool → Query → Action → Type 0
ReadSays head_only query act = (json : Bool) × (act ≡ action.Get json head_only) × (is_read json query ≡ true)

read_says : (head_only : Bool) (query : Query) (act : Action) → read_of query head_only ≡ Ok act → ReadSays head_only query act
unfolding read_of
read_says head_only query act e = go (is_absent_or_empty query.t) (is_text query.t (codes "json")) refl refl e
  where
    go : (t u : Bool) → is_absent_or_empty query.t ≡ t → is_text query.t (codes "json") ≡ u
        → ◌≡◌ {A = Result Action WebFault} (cond t (Ok (action.Get false head_only)) (cond u (Ok (action.Get true head_only)) (Err BadQuery))) (Ok act)
        → ReadSays head_only query act
    go true u a b f = (false, (let is : act ≡ action.Get false head_only = cc in is), a)
    go false true a b f = (true, (let is : act ≡ action.Get true head_only = cc in is), b)
    go false false a b f = absurd (cc)

-- what is checked, and why
abbrev CheckSays : Query → Action → Type 0
CheckSays query act = (verify : Bool) × (act ≡ action.Check verify) × (is_text query.t (codes "check") ≡ true)
    × (is_text_in_any_case query.output (codes "json") ≡ true) × (verify_of query.verify ≡ Some verify)

check_says : (query : Query) (act : Action) → check_of query ≡ Ok act → CheckSays query act
unfolding check_of
check_says query act e = go (is_text query.t (codes "check")) (is_text_in_any_case query.output (codes "json")) (verify_of query.verify) refl refl refl e
  where
    go : (t u : Bool) (o : Option Bool) → is_text query.t (codes "check") ≡ t → is_text_in_any_case query.output (codes "json") ≡ u → verify_of query.verify ≡ o
        → ◌≡◌ {A = Result Action WebFault} (cond (not t || not u) (Err BadQuery) (checked_by o)) (Ok act) → CheckSays query act
    go true true (Some verify) a b c f = (verify, (let is : act ≡ action.Check verify = cc in is), a, b, c)
    go true true None a b c f = absurd (cc)
    go true false o a b c f = absurd (cc)
    go false u o a b c f = absurd (cc)

-- a path that has a cap
node_says : Reads → (path : List ℕ) (cap : Cap) (names : List (List ℕ)) → node_of (names_of path) ≡ Ok (cap, names) → IsPath path cap names
node_says reads path cap names e = go (names_of path) refl e
  where
    at : (found : List ℕ × List (List ℕ)) (r : Result Cap CapFault) → names_of path ≡ Ok found → cap_reading found.0 ≡ r
        → node_from r found.1 ≡ Ok (cap, names) → IsPath path cap names
    at found (Ok other) a b f =
        let both : ◌≡◌ {A = Cap × List (List ℕ)} (other, found.1) (cap, names) = cc in
        let same : other ≡ cap = ap (λ (p : Cap × List (List ℕ)). p.0) both in
        let below : found.1 ≡ names = ap (λ (p : Cap × List (List ℕ)). p.1) both in
        record {
          text = found.0;
          cut = a ∙ ap (λ n. Ok (found.0, n)) below;
          cap_text = (reads found.0 cap).1 (b ∙ ap Ok same);
        }
    at found (Err fault) a b f = absurd (cc)

    go : (r : Result (List ℕ × List (List ℕ)) PathFault) → names_of path ≡ r → node_of r ≡ Ok (cap, names) → IsPath path cap names
    go (Ok found) a f = at found (cap_reading found.0) a refl f
    go (Err fault) a f = absurd (cc)

for_row : (head : Head) (method origin : List ℕ) (resource : Resource) → origin_of head.target ≡ Some origin → resource_of (path_of origin) ≡ Some resource
    → bytes_eq head.method method ≡ true → IsFor head method resource (query_of (query_text origin)) (below_uri (path_of origin))
for_row head method origin resource e f g = record { origin = origin; begins = e; named = f; asked = refl; below = refl; method_is = g }

upload_row : (head : Head) (body origin : List ℕ) (request : Request) (act : Action) → origin_of head.target ≡ Some origin → resource_of (path_of origin) ≡ Some Uploads
    → UploadSays head.method (query_of (query_text origin)) act → request_for act (below_uri (path_of origin)) head.fields body ≡ Ok request
    → IsRequest head body request
upload_row head body origin request act e f (inl s) r =
    let query = query_of (query_text origin) in
    let path = below_uri (path_of origin) in
    let given : ◌≡◌ {A = Result Request WebFault} (Ok (Put body)) (Ok request) = ap (λ a. request_for a path head.fields body) (sym s.0) ∙ r in
    let same : Put body ≡ request = cc in
    let P : Request → Type 0 = IsRequest head body in
    subst P same (query, path, for_row head (codes "PUT") origin Uploads e f s.1, s.2, refl)
upload_row head body origin request act e f (inr s) r =
    let query = query_of (query_text origin) in
    let path = below_uri (path_of origin) in
    let given : ◌≡◌ {A = Result Request WebFault} (Ok (Mkdir body)) (Ok request) = ap (λ a. request_for a path head.fields body) (sym s.0) ∙ r in
    let same : Mkdir body ≡ request = cc in
    let P : Request → Type 0 = IsRequest head body in
    subst P same (query, path, for_row head (codes "POST") origin Uploads e f s.1, s.2, refl)

read_row : Reads → (head : Head) (body origin : List ℕ) (request : Request) (act : Action) (head_only : Bool) → origin_of head.target ≡ Some origin
    → resource_of (path_of origin) ≡ Some Node → bytes_eq head.method (read_method head_only) ≡ true
    → ReadSays head_only (query_of (query_text origin)) act → request_for act (below_uri (path_of origin)) head.fields body ≡ Ok request
    → IsRequest head body request
read_row reads head body origin request act head_only e f g s r =
    go (node_of (names_of (below_uri (path_of origin)))) refl (ap (λ a. request_for a (below_uri (path_of origin)) head.fields body) (sym s.1) ∙ r)
  where
    go : (n : Result (Cap × List (List ℕ)) WebFault) → node_of (names_of (below_uri (path_of origin))) ≡ n
        → get_of s.0 head_only (range_of head.fields) n ≡ Ok request → IsRequest head body request
    go (Ok node) a given =
        let same : Get node.0 node.1 s.0 head_only (range_of head.fields) ≡ request = cc in
        let P : Request → Type 0 = IsRequest head body in
        subst P same (
          query_of (query_text origin),
          below_uri (path_of origin),
          for_row head (read_method head_only) origin Node e f g,
          s.2,
          node_says reads (below_uri (path_of origin)) node.0 node.1 a,
          refl,
        )
    go (Err fault) a given = absurd (cc)

check_row : Reads → (head : Head) (body origin : List ℕ) (request : Request) (act : Action) → origin_of head.target ≡ Some origin
    → resource_of (path_of origin) ≡ Some Node → bytes_eq head.method (codes "POST") ≡ true
    → CheckSays (query_of (query_text origin)) act → request_for act (below_uri (path_of origin)) head.fields body ≡ Ok request
    → IsRequest head body request
check_row reads head body origin request act e f g s r =
    go (node_of (names_of (below_uri (path_of origin)))) refl (ap (λ a. request_for a (below_uri (path_of origin)) head.fields body) (sym s.1) ∙ r)
  where
    go : (n : Result (Cap × List (List ℕ)) WebFault) → node_of (names_of (below_uri (path_of origin))) ≡ n
        → requests.check_of s.0 n ≡ Ok request → IsRequest head body request
    go (Ok node) a given =
        let same : Check node.0 node.1 s.0 ≡ request = cc in
        let P : Request → Type 0 = IsRequest head body in
        subst P same (
          query_of (query_text origin),
          below_uri (path_of origin),
          for_row head (codes "POST") origin Node e f g,
          s.2,
          s.3,
          s.4,
          node_says reads (below_uri (path_of origin)) node.0 node.1 a,
        )
    go (Err fault) a given = absurd (cc)

node_row : Reads → (head : Head) (body origin : List ℕ) (request : Request) (act : Action) → origin_of head.target ≡ Some origin
    → resource_of (path_of origin) ≡ Some Node → node_action head.method (query_of (query_text origin)) ≡ Ok act
    → request_for act (below_uri (path_of origin)) head.fields body ≡ Ok request → IsRequest head body request
unfolding node_action
node_row reads head body origin request act e f n r =
    go (bytes_eq head.method (codes "GET")) (bytes_eq head.method (codes "HEAD")) (bytes_eq head.method (codes "POST")) refl refl refl n
  where
    go : (t u v : Bool) → bytes_eq head.method (codes "GET") ≡ t → bytes_eq head.method (codes "HEAD") ≡ u → bytes_eq head.method (codes "POST") ≡ v
        → cond t (read_of (query_of (query_text origin)) false) (cond u (read_of (query_of (query_text origin)) true)
        (cond v (check_of (query_of (query_text origin))) (Err (BadMethod Node)))) ≡ Ok act → IsRequest head body request
    go true u v a b c g = read_row reads head body origin request act false e f a (read_says false (query_of (query_text origin)) act g) r
    go false true v a b c g = read_row reads head body origin request act true e f b (read_says true (query_of (query_text origin)) act g) r
    go false false true a b c g = check_row reads head body origin request act e f c (check_says (query_of (query_text origin)) act g) r
    go false false false a b c g = absurd (cc)

action_row : Reads → (head : Head) (body origin : List ℕ) (request : Request) (resource : Resource) (act : Action) → origin_of head.target ≡ Some origin
    → resource_of (path_of origin) ≡ Some resource → action_of resource head.method (query_of (query_text origin)) ≡ Ok act
    → request_for act (below_uri (path_of origin)) head.fields body ≡ Ok request → IsRequest head body request
action_row reads head body origin request Uploads act e f g r =
    upload_row head body origin request act e f (upload_says head.method (query_of (query_text origin)) act g) r
action_row reads head body origin request Node act e f g r = node_row reads head body origin request act e f g r

pub given_row : Reads → (head : Head) (body : List ℕ) (request : Request) → interpreted head body ≡ Ok request → IsRequest head body request
unfolding interpreted
given_row reads head body request said = at (origin_of head.target) refl said
  where
    by : (origin : List ℕ) (resource : Resource) (r : Result Action WebFault) → origin_of head.target ≡ Some origin → resource_of (path_of origin) ≡ Some resource
        → action_of resource head.method (query_of (query_text origin)) ≡ r
        → request_by r (below_uri (path_of origin)) head.fields body ≡ Ok request → IsRequest head body request
    by origin resource (Ok act) e f g s = action_row reads head body origin request resource act e f g s
    by origin resource (Err fault) e f g s = absurd (cc)

    of : (origin : List ℕ) (r : Option Resource) → origin_of head.target ≡ Some origin → resource_of (path_of origin) ≡ r
        → interpreted_of r origin head body ≡ Ok request → IsRequest head body request
    of origin (Some resource) e f s = by origin resource (action_of resource head.method (query_of (query_text origin))) e f refl s
    of origin None e f s = absurd (cc)

    at : (o : Option (List ℕ)) → origin_of head.target ≡ o → interpreted_at o head body ≡ Ok request → IsRequest head body request
    at (Some origin) e s = of origin (resource_of (path_of origin)) e refl s
    at None e s = absurd (cc)
