-- What pages are told, and that they leave no trace.
use Rattle.std.proofs.Common.{◌≡◌, ℕ, List, [], ◌∷◌, ◌++◌, Bool, true, false, Some, None, Err, All, refl, ap, subst, ◌∙◌}
use Rattle.http_edge.specs.declared.item.Head.{Head}
use Rattle.http_edge.specs.declared.item.Item.{Item}
use Rattle.http_edge.specs.declared.item.Item.TheVariants.{Request as RequestItem, Continue, Fault}
use Rattle.http_edge.specs.Judge.{is_head_request}
use Rattle.http_edge.specs.Reply.{rendered}
use Rattle.erasure.specs.Code.{AreBytes}
use Rattle.chk_file.specs.Upload.{Upload}
use Rattle.chk_file.specs.World.{World, empty}
use Rattle.chk_file.specs.Look.{Look}
use Rattle.web_request.specs.declared.fault.WebFault.{WebFault}
use Rattle.web_replies.specs.Replies.{page_reply, refusal_reply}
use Rattle.web_ops.specs.Uploads.{after_stored}
use Rattle.gate_base.specs.declared.pages.Page.{Page}
use Rattle.gate_core.specs.Settings.{GatewaySettings, under, with_pages}
use Rattle.gate_base.specs.Pages.{page_at, is_elsewhere, is_reading, page_read, page_or_refusal}
use Rattle.gate_base.specs.Requests.{asked_of}
use Rattle.gate_base.specs.Browsers.{sent_reply}
use Rattle.gate_core.specs.Answers.{asked_reply, answer}
use Rattle.gate_core.specs.Items.{Entry, Asked, Lost, Spoiled}
use Rattle.gate_core.specs.Runs.{upload_by, after_entry, world_after}
use Rattle.gate_core.specs.Uploaded.{uploads_by, uploads_of, IsLeftBy}
use Rattle.std.specs.Prelude.{◌&&◌, if◌then◌else◌, Option, option_to_list}
use Rattle.web_request.specs.Targets.{path_in}

-- ---- what is told

pub told_page : (s : GatewaySettings) (look : Look) (head : Head) (body : List ℕ) (close : Bool) (fault : WebFault) (page : Page) → asked_of head body ≡ Err fault
    → page_read s.pages head.method head.target fault ≡ Some page
    → answer s look (RequestItem head body close) ≡ rendered (sent_reply s.for_browsers head (page_reply page.kind page.body)) (is_head_request head) close
unfolding answer
told_page s look head body close fault page asks reads =
    ap (λ r. rendered (sent_reply s.for_browsers head r) (is_head_request head) close) (ap (asked_reply s look head) asks ∙ ap (page_or_refusal fault) reads)

none_at : (path : Option (List ℕ)) → page_at [] path ≡ None
none_at None = refl
none_at (Some path) = refl

none_if : (b : Bool) (o : Option Page) → o ≡ None → (if b then o else None) ≡ None
none_if true o is = is
none_if false o is = refl

pub none_read : (method target : List ℕ) (fault : WebFault) → page_read [] method target fault ≡ None
unfolding page_read
none_read method target fault = none_if (is_elsewhere fault && is_reading method) (page_at [] (path_in target)) (none_at (path_in target))

pub told_none : (s : GatewaySettings) (look : Look) (head : Head) (body : List ℕ) (close : Bool) (fault : WebFault) → asked_of head body ≡ Err fault
    → answer (with_pages s []) look (RequestItem head body close) ≡ rendered (sent_reply s.for_browsers head (refusal_reply fault)) (is_head_request head) close
unfolding answer
told_none s look head body close fault asks =
    ap (λ r. rendered (sent_reply s.for_browsers head r) (is_head_request head) close) (ap (asked_reply (with_pages s []) look head) asks ∙ ap (page_or_refusal fault) (none_read head.method head.target fault))

-- ---- what stands

same_upload : (s : GatewaySettings) (pages : List Page) (secret : List ℕ) (item : Item) → upload_by (under (with_pages s pages) secret) item ≡ upload_by (under s secret) item
unfolding upload_by
same_upload s pages secret (RequestItem head body close) = refl
same_upload s pages secret Continue = refl
same_upload s pages secret (Fault fault head_only) = refl

same_after : (s : GatewaySettings) (pages : List Page) (x : Entry) (w : World) → after_entry (with_pages s pages) x w ≡ after_entry s x w
same_after s pages (Asked id secret item) w = ap (λ o. after_stored s.servers o w) (same_upload s pages secret item)
same_after s pages (Lost server key) w = refl
same_after s pages (Spoiled server key place) w = refl

pub same_world : (s : GatewaySettings) (pages : List Page) (w : World) (xs : List Entry) → world_after (with_pages s pages) w xs ≡ world_after s w xs
same_world s pages w [] = refl
same_world s pages w (x ∷ more) = ap (λ v. world_after (with_pages s pages) v more) (same_after s pages x w) ∙ same_world s pages (after_entry s x w) more

same_by : (s : GatewaySettings) (pages : List Page) (x : Entry) → uploads_by (with_pages s pages) x ≡ uploads_by s x
same_by s pages (Asked id secret item) = ap option_to_list (same_upload s pages secret item)
same_by s pages (Lost server key) = refl
same_by s pages (Spoiled server key place) = refl

same_uploads : (s : GatewaySettings) (pages : List Page) (xs : List Entry) → uploads_of (with_pages s pages) xs ≡ uploads_of s xs
same_uploads s pages [] = refl
same_uploads s pages (x ∷ more) = ap (λ a. a ++ uploads_of (with_pages s pages) more) (same_by s pages x) ∙ ap (λ r. uploads_by s x ++ r) (same_uploads s pages more)

pub same_left : (s : GatewaySettings) (pages : List Page) (past : List Entry) (w : World) → IsLeftBy (with_pages s pages) past w → IsLeftBy s past w
same_left s pages past w left = record {
  world = left.world ∙ same_world s pages empty past;
  proper = record { sharing = left.proper.sharing; bytes = subst (λ us. All (λ (u : Upload). AreBytes u.bytes) us) (same_uploads s pages past) left.proper.bytes };
}
