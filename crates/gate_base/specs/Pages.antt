-- Pages of the gateway's own, beside the web API, and which request reads one.
use Rattle.std.specs.Prelude.{ℕ, Bool, true, false, ◌&&◌, ◌||◌, List, bytes_eq, codes, if◌then◌else◌, Option, Some, None}
use Rattle.std.specs.List.{find}
use Rattle.web_request.specs.Targets.{path_in}
use Rattle.web_request.specs.declared.fault.WebFault.{WebFault}
use Rattle.web_request.specs.declared.fault.WebFault.TheVariants.{BadTarget, NoResource, BadMethod, BadQuery, BadEscape, NotUtf8, TooManyNames, EmptyName, BadCap, NoMemory}
use Rattle.web_replies.specs.declared.reply.Reply.{Reply as WebReply}
use Rattle.web_replies.specs.Replies.{page_reply, refusal_reply}
use Rattle.gate_base.specs.declared.pages.Page.{Page}

-- the first page at a path
abbrev pub page_at : List Page → Option (List ℕ) → Option Page
page_at pages None = None
page_at pages (Some path) = find (λ (page : Page). bytes_eq page.path path) pages

-- the methods that read a page
abbrev pub is_reading : List ℕ → Bool
is_reading method = bytes_eq method (codes "GET") || bytes_eq method (codes "HEAD")

-- that a path names nothing of the web API
abbrev pub is_elsewhere : WebFault → Bool
is_elsewhere BadTarget = false
is_elsewhere NoResource = true
is_elsewhere (BadMethod resource) = false
is_elsewhere BadQuery = false
is_elsewhere BadEscape = false
is_elsewhere NotUtf8 = false
is_elsewhere TooManyNames = false
is_elsewhere EmptyName = false
is_elsewhere BadCap = false
is_elsewhere NoMemory = false

-- the page that is read by a method and a target that are no request of the web API, for this fault
unfoldable pub page_read : List Page → List ℕ → List ℕ → WebFault → Option Page
page_read pages method target fault = if is_elsewhere fault && is_reading method then page_at pages (path_in target) else None

-- a page, or else the refusal
abbrev pub page_or_refusal : WebFault → Option Page → WebReply
page_or_refusal fault None = refusal_reply fault
page_or_refusal fault (Some page) = page_reply page.kind page.body

-- what is no request of the web API reads a page, or is refused
abbrev pub reply_elsewhere : List Page → List ℕ → List ℕ → WebFault → WebReply
reply_elsewhere pages method target fault = page_or_refusal fault (page_read pages method target fault)
