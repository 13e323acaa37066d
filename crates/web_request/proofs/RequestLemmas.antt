-- What the parts of a head come to.
use Rattle.std.proofs.Common.{◌≡◌, List, ℕ, Some, None, Result, Err, ap, ◌∙◌}
use Rattle.web_request.specs.declared.head.Head.{Head}
use Rattle.web_request.specs.declared.action.Action.{Action}
use Rattle.web_request.specs.declared.request.Resource.{Resource}
use Rattle.web_request.specs.declared.fault.WebFault.{WebFault}
use Rattle.web_request.specs.declared.fault.WebFault.TheVariants.{BadTarget, NoResource}
use Rattle.web_request.specs.Targets.{origin_of, path_of, query_text, resource_of, below_uri}
use Rattle.web_request.specs.Queries.{query_of}
use Rattle.web_request.specs.Actions.{action_of}
use Rattle.web_request.specs.Requests.{request_by, interpreted_of, interpreted_at, interpreted}

pub no_target : (head : Head) (body : List ℕ) → origin_of head.target ≡ None → interpreted head body ≡ Err BadTarget
unfolding interpreted
no_target head body e = ap (λ o. interpreted_at o head body) e

pub no_resource : (head : Head) (body origin : List ℕ) → origin_of head.target ≡ Some origin → resource_of (path_of origin) ≡ None
    → interpreted head body ≡ Err NoResource
unfolding interpreted
no_resource head body origin e f = ap (λ o. interpreted_at o head body) e ∙ ap (λ o. interpreted_of o origin head body) f

pub action_taken : (head : Head) (body origin : List ℕ) (resource : Resource) (action : Result Action WebFault)
    → origin_of head.target ≡ Some origin → resource_of (path_of origin) ≡ Some resource
    → action_of resource head.method (query_of (query_text origin)) ≡ action
    → interpreted head body ≡ request_by action (below_uri (path_of origin)) head.fields body
unfolding interpreted
action_taken head body origin resource action e f g =
    ap (λ o. interpreted_at o head body) e ∙ ap (λ o. interpreted_of o origin head body) f
    ∙ ap (λ a. request_by a (below_uri (path_of origin)) head.fields body) g
