-- What a gateway reads of each request.
use Rattle.std.proofs.Common.{◌≡◌, ℕ, true, false, List, [], ◌++◌, Some, None, Result, Ok, refl, ap, ◌∙◌}
use Rattle.std.specs.Prelude.{codes, ◌↔◌}
use Rattle.std.specs.List.{list_all}
use Rattle.std.specs.Str.{is_utf8, chars}
use lib.Utf8.{encode}
use Rattle.std.proofs.lemmas.Str.{is_utf8-from_IsUtf8}
use Rattle.form_urlencoded.proofs.OnLiterals.{form_urlencoded_on_literals}
use Rattle.std.specs.Str.Lossy.{utf8_lossy, utf8_valid_len}
use Rattle.caps.specs.CapTexts.{IsCapText, IsCap, cap_text}
use Rattle.caps.specs.Reading.{cap_reading}
use Rattle.caps.specs.Weakening.{cap_of}
use Rattle.caps.specs.declared.cap.Cap.{Cap}
use Rattle.caps.specs.declared.cap.Cap.TheVariants.{Chk}
use Rattle.path_names.specs.Names.{names_of}
use Rattle.web_request.specs.Targets.{origin_of, path_of, query_text, resource_of, below_uri}
use Rattle.web_request.specs.Queries.{query_of}
use Rattle.web_request.specs.Actions.{upload_action, node_action, read_of, check_of, is_yes, is_no}
use Rattle.web_request.specs.Ranges.{range_of}
use Rattle.web_request.specs.Requests.{node_of, request_for, request_by, interpreted_of, interpreted_at, interpreted}
use Rattle.web_request.specs.declared.action.Action.{Action}
use Rattle.web_request.specs.declared.action.Action.TheVariants as action
use Rattle.web_request.specs.declared.head.Head.{Head}
use Rattle.web_request.specs.declared.head.Field.{Field}
use Rattle.web_request.specs.declared.request.Request.{Request}
use Rattle.web_request.specs.declared.request.Request.TheVariants as request
use Rattle.web_request.specs.declared.fault.WebFault.{WebFault}
use Rattle.client_core.specs.declared.ask.Ask.{Ask}
use Rattle.client_core.specs.declared.ask.Ask.TheVariants.{Put, Mkdir, Read, Check}
use Rattle.client_core.specs.Asks.{method_of, target_of, query_of_check, meant, IsAsk}
use Rattle.client_core.proofs.CapBytes.{is_cap_byte, read_text_is, verify_text_is, is_utf8_text}
use Rattle.client_core.proofs.Targets.{is_plain, caps_are_plain, before_question, after_question, before_none, after_none, names_are}

-- what the laws of caps say
abbrev pub OneText : Type 0
OneText = (node : Cap) → IsCap node → IsCapText node (cap_text node)

abbrev pub ReadBack : Type 0
ReadBack = (text : List ℕ) (node : Cap) → IsCapText node text ↔ (cap_reading text ≡ Ok node)

put_meant : (fields : List Field) (body : List ℕ) → interpreted (record { method = codes "PUT"; target = codes "/uri"; fields = fields }) body ≡ Ok (request.Put body)
unfolding interpreted origin_of resource_of upload_action form_urlencoded_on_literals utf8_lossy utf8_valid_len is_utf8 chars encode
put_meant fields body = refl

mkdir_meant : (fields : List Field) (body : List ℕ) → interpreted (record { method = codes "POST"; target = codes "/uri?t=mkdir-immutable"; fields = fields }) body ≡ Ok (request.Mkdir body)
unfolding interpreted origin_of resource_of upload_action form_urlencoded_on_literals utf8_lossy utf8_valid_len is_utf8 chars encode
mkdir_meant fields body = refl

-- what a target below `/uri/` asks for, by its path and its query
below : (method target query path : List ℕ) (fields : List Field) (body : List ℕ) (act : Action) (made : Request)
    → origin_of target ≡ Some target → path_of target ≡ codes "/uri/" ++ path → query_text target ≡ query → node_action method (query_of query) ≡ Ok act
    → request_for act path fields body ≡ Ok made
    → interpreted (record { method = method; target = target; fields = fields }) body ≡ Ok made
unfolding interpreted resource_of
below method target query path fields body act made origin at asked acts is =
    let head : Head = record { method = method; target = target; fields = fields } in
    ap (λ o. interpreted_at o head body) origin
    ∙ ap (λ p. interpreted_of (resource_of p) target head body) at
    ∙ ap (λ q. request_by (node_action method (query_of q)) (below_uri (path_of target)) fields body) asked
    ∙ ap (λ (r : Result Action WebFault). request_by r (below_uri (path_of target)) fields body) acts
    ∙ ap (λ p. request_for act (below_uri p) fields body) at
    ∙ is

get_acts : node_action (codes "GET") (query_of []) ≡ Ok (action.Get false false)
unfolding node_action read_of form_urlencoded_on_literals utf8_lossy utf8_valid_len is_utf8 chars encode
get_acts = refl

check_acts : node_action (codes "POST") (query_of (codes "t=check&output=JSON")) ≡ Ok (action.Check false)
unfolding node_action check_of form_urlencoded_on_literals utf8_lossy utf8_valid_len is_utf8 chars encode is_yes is_no
check_acts = refl

verify_acts : node_action (codes "POST") (query_of (codes "t=check&output=JSON&verify=true")) ≡ Ok (action.Check true)
unfolding node_action check_of form_urlencoded_on_literals utf8_lossy utf8_valid_len is_utf8 chars encode is_yes is_no
verify_acts = refl

begins : (rest : List ℕ) → origin_of (codes "/uri/" ++ rest) ≡ Some (codes "/uri/" ++ rest)
unfolding origin_of
begins rest = refl

module _ (one : OneText) (back : ReadBack) where
  named : (node : Cap) → IsCap node → list_all is_cap_byte (cap_text node) ≡ true → node_of (names_of (cap_text node)) ≡ Ok (node, [])
  named node is plain =
      let read : cap_reading (cap_text node) ≡ Ok node = (back (cap_text node) node).0 (one node is) in
      ap node_of (names_are (cap_text node) plain (is_utf8-from_IsUtf8 (cap_text node) (is_utf8_text (cap_text node) plain)))
      ∙ rw read refl

  under_uri : (text : List ℕ) → list_all is_cap_byte text ≡ true → list_all is_plain (codes "/uri/" ++ text) ≡ true
  under_uri text plain = caps_are_plain text plain

  pub ask_meant : (ask : Ask) (fields : List Field) (body : List ℕ) → IsAsk ask → range_of fields ≡ None
      → interpreted (record { method = method_of ask; target = target_of ask; fields = fields }) body ≡ Ok (meant ask body)
  ask_meant Put fields body is none = put_meant fields body
  ask_meant Mkdir fields body is none = mkdir_meant fields body
  ask_meant (Read f) fields body is none =
      let text : List ℕ = cap_text (Chk f) in
      let plain : list_all is_cap_byte text ≡ true = read_text_is f text (one (Chk f) is) in
      below (codes "GET") (codes "/uri/" ++ (text ++ [])) [] text fields body (action.Get false false) (request.Get (Chk f) [] false false None)
      (begins (text ++ []))
      (before_none (codes "/uri/" ++ text) (under_uri text plain))
      (after_none (codes "/uri/" ++ text) (under_uri text plain))
      get_acts
      (rw (none, named (Chk f) is plain) refl)
  ask_meant (Check v true) fields body is none =
      let text : List ℕ = cap_text (cap_of v) in
      let plain : list_all is_cap_byte text ≡ true = verify_text_is v text (one (cap_of v) is) in
      below (codes "POST") (codes "/uri/" ++ (text ++ query_of_check true)) (codes "t=check&output=JSON&verify=true") text fields body (action.Check true) (request.Check (cap_of v) [] true)
      (begins (text ++ query_of_check true))
      (before_question (codes "/uri/" ++ text) (codes "t=check&output=JSON&verify=true") (under_uri text plain))
      (after_question (codes "/uri/" ++ text) (codes "t=check&output=JSON&verify=true") (under_uri text plain))
      verify_acts
      (rw (named (cap_of v) is plain) refl)
  ask_meant (Check v false) fields body is none =
      let text : List ℕ = cap_text (cap_of v) in
      let plain : list_all is_cap_byte text ≡ true = verify_text_is v text (one (cap_of v) is) in
      below (codes "POST") (codes "/uri/" ++ (text ++ query_of_check false)) (codes "t=check&output=JSON") text fields body (action.Check false) (request.Check (cap_of v) [] false)
      (begins (text ++ query_of_check false))
      (before_question (codes "/uri/" ++ text) (codes "t=check&output=JSON") (under_uri text plain))
      (after_question (codes "/uri/" ++ text) (codes "t=check&output=JSON") (under_uri text plain))
      check_acts
      (rw (named (cap_of v) is plain) refl)
