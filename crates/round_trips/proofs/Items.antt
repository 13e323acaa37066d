-- What a client asks for, as an item.
use Rattle.std.proofs.Common.{◌≡◌, ℕ, List, [], length, false, cond, None, Ok, refl, ap, ◌∙◌, eq-eqb}
use Rattle.std.specs.Prelude.{map, Bool}
use Rattle.std.specs.List.{list_any}
use Rattle.http_edge.specs.Judge.{head_parts, is_head_request}
use Rattle.http_edge.specs.Reply.{rendered}
use Rattle.http_edge.specs.declared.item.Head.{Head}
use Rattle.web_request.specs.Ranges.{is_range, is_if_range, range_of}
use Rattle.web_request.specs.Requests.{interpreted}
use Rattle.web_request.specs.declared.head.Field.{Field as WebField}
use Rattle.chk_file.specs.Look.{Look}
use Rattle.chk_file.specs.World.{World}
use Rattle.web_replies.specs.declared.reply.Reply.{Reply}
use Rattle.web_ops.specs.Answers.{request_reply}
use Rattle.web_ops.specs.Uploads.{after_stored}
use Rattle.gate_core.specs.Settings.{GatewaySettings, under, encoding_in}
use Rattle.gate_base.specs.Requests.{web_field, web_head, Interpreted, asked_of}
use Rattle.gate_base.specs.Wire.{status_line, wire_reply}
use Rattle.gate_base.specs.Browsers.{is_condition, sent_reply}
use Rattle.gate_core.specs.Answers.{asked_reply, answer}
use Rattle.gate_core.specs.Items.{Asked}
use Rattle.gate_core.specs.Runs.{upload_asked, upload_by, after_entry, told}
use Rattle.client_core.specs.Asks.{asked_head, method_of, target_of, meant, IsAsk, IsAsked}
use Rattle.client_core.specs.declared.ask.Ask.{Ask}
use Rattle.client_core.specs.declared.ask.Ask.TheVariants.{Put, Mkdir, Read, Check}
use Rattle.round_trips.specs.Honest.{with_asked}
use Rattle.round_trips.specs.Said.{head_asked, item_of, sent_for, told_for}

abbrev pub MeantLaw : Type 0
MeantLaw = (ask : Ask) (fields : List WebField) (body : List ℕ) → IsAsk ask → range_of fields ≡ None
    → interpreted (record { method = method_of ask; target = target_of ask; fields = fields }) body ≡ Ok (meant ask body)

abbrev head_of : List ℕ → Ask → List ℕ → Head
head_of host ask body = head_parts (asked_head host ask (length body))

no_range : (host : List ℕ) (ask : Ask) (body : List ℕ) → range_of (map web_field (head_of host ask body).fields) ≡ None
unfolding asked_head is_range is_if_range
no_range host ask body = refl

is_asked : MeantLaw → (host : List ℕ) (ask : Ask) (body : List ℕ) → IsAsked host ask body → asked_of (head_of host ask body) body ≡ Ok (meant ask body)
unfolding asked_head asked_of
is_asked law host ask body is = law ask (map web_field (head_of host ask body).fields) body is.ask_is (no_range host ask body)

not_head : (host : List ℕ) (ask : Ask) (body : List ℕ) → is_head_request (head_of host ask body) ≡ false
unfolding asked_head
not_head host Put body = refl
not_head host Mkdir body = refl
not_head host (Read fields) body = refl
not_head host (Check cap verify) body = refl

answered : MeantLaw → (settings : GatewaySettings) (look : Look) (host : List ℕ) (ask : Ask) (body : List ℕ) → IsAsked host ask body → answer settings look (item_of host ask body) ≡ told_for settings look host ask body
unfolding answer
answered law settings look host ask body is =
    ap (λ (asked : Interpreted). rendered (sent_reply settings.for_browsers (head_of host ask body) (asked_reply settings look (head_of host ask body) asked)) (is_head_request (head_of host ask body)) false) (is_asked law host ask body is)
    ∙ ap (λ b. rendered (sent_reply settings.for_browsers (head_of host ask body) (asked_reply settings look (head_of host ask body) (Ok (meant ask body)))) b false) (not_head host ask body)

pub said_of : MeantLaw → (settings : GatewaySettings) (look : Look) (caller : ℕ) (secret host : List ℕ) (ask : Ask) (body : List ℕ) → IsAsked host ask body
    → told settings look caller (Asked caller secret (item_of host ask body)) ≡ told_for (under settings secret) look host ask body
said_of law settings look caller secret host ask body is =
    ap (λ b. cond b (answer (under settings secret) look (item_of host ask body)) []) (eq-eqb caller caller refl)
    ∙ answered law (under settings secret) look host ask body is

pub stored_of : MeantLaw → (settings : GatewaySettings) (w : World) (caller : ℕ) (secret host : List ℕ) (ask : Ask) (body : List ℕ) → IsAsked host ask body
    → after_entry settings (Asked caller secret (item_of host ask body)) w ≡ with_asked (under settings secret) ask body w
unfolding upload_by
stored_of law settings w caller secret host ask body is =
    ap (λ (asked : Interpreted). after_stored settings.servers (upload_asked (encoding_in (under settings secret)) asked) w) (is_asked law host ask body is)

-- ---- for browsers

no_condition : (host : List ℕ) (ask : Ask) (body : List ℕ) → list_any is_condition (web_head (head_of host ask body)).fields ≡ false
unfolding asked_head is_if_range
no_condition host ask body = refl

pub same_of : ((for_browsers : Bool) (head : Head) (reply : Reply) → list_any is_condition (web_head head).fields ≡ false
    → ((sent_reply for_browsers head reply).status ≡ status_line reply.status) × ((sent_reply for_browsers head reply).body ≡ reply.body))
    → (for_browsers : Bool) (host : List ℕ) (ask : Ask) (body : List ℕ) (reply : Reply)
    → ((sent_reply for_browsers (head_asked host ask body) reply).status ≡ (wire_reply reply).status) × ((sent_reply for_browsers (head_asked host ask body) reply).body ≡ reply.body)
same_of law for_browsers host ask body reply = law for_browsers (head_of host ask body) reply (no_condition host ask body)

pub plain_of : (settings : GatewaySettings) (look : Look) (host : List ℕ) (ask : Ask) (body : List ℕ) → settings.for_browsers ≡ false
    → told_for settings look host ask body ≡ sent_for settings look ask body
plain_of settings look host ask body plain =
    ap (λ b. rendered (sent_reply b (head_of host ask body) (request_reply (encoding_in settings) look (meant ask body))) false false) plain
