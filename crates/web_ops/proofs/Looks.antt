-- Answers over looks that agree.
use Rattle.std.proofs.Common.{◌≡◌, ℕ, List, length, Bool, true, false, cond, Option, Some, Result, Ok, Err, refl, ap, ◌∙◌}
use Rattle.std.specs.Prelude.{◌&&◌, ◌==◌, not, Contains}
use Rattle.std.proofs.lemmas.List.Elements.{All-weaker, All-contains}
use Rattle.caps.specs.declared.cap.Cap.{Cap}
use Rattle.caps.specs.declared.cap.Cap.TheVariants.{Chk, Lit, DirChk, DirLit, ChkVerify, DirChkVerify}
use Rattle.caps.specs.Fields.{VerifyValue}
use Rattle.caps.specs.Weakening.{verify_fields}
use Rattle.file_shares.specs.Row.{ShareTable}
use Rattle.file_shares.specs.Check.{check}
use Rattle.chk_file.specs.Look.{Look}
use Rattle.path_walk.specs.Walk.{FileLookup, walked, met as met_on_walk}
use Rattle.path_walk.specs.Agree.{GivesSameAt as GivesAgreeAt, GiveSameOn as GivesAgreeOn}
use Rattle.path_walk.specs.declared.fault.WalkFault.{WalkFault}
use Rattle.web_request.specs.declared.request.Request.{Request}
use Rattle.web_request.specs.declared.request.Request.TheVariants.{Put, Mkdir, Get, Check}
use Rattle.web_replies.specs.declared.reply.Reply.{Reply}
use Rattle.web_ops.specs.Encoding.{Encoding}
use Rattle.web_replies.specs.Replies.{json_reply, bytes_reply, not_readable}
use Rattle.caps.specs.Kinds.{is_verify_cap}
use Rattle.web_ops.specs.Answers.{at_end, with_bytes, listing_reply, content_reply, node_json_reply, node_reply, range_to_apply, health_text, health_reply, request_reply}
use Rattle.web_ops.specs.Reach.{caps_met}
use Rattle.web_ops.specs.Agree.{AgreesAt, AgreeOn}

-- ---- walks

gives_agree : (look other : Look) (cap : Cap) → AgreesAt look other cap → GivesAgreeAt look.gives other.gives cap
gives_agree look other (Chk fields) same = tt
gives_agree look other (Lit bytes) same = tt
gives_agree look other (DirChk fields) same = same.0
gives_agree look other (DirLit bytes) same = tt
gives_agree look other (ChkVerify fields) same = tt
gives_agree look other (DirChkVerify fields) same = tt

pub walks_see_the_same : (look other : Look) (caps : List Cap) → AgreeOn look other caps → GivesAgreeOn look.gives other.gives caps
walks_see_the_same look other caps same = All-weaker (AgreesAt look other) (GivesAgreeAt look.gives other.gives) (gives_agree look other) caps same

-- ---- what is answered at the end

same_content : (look other : Look) (range : Option (List ℕ)) (cap : Cap) → AgreesAt look other cap → content_reply look.gives range cap ≡ content_reply other.gives range cap
same_content look other range (Chk fields) same = ap (with_bytes (bytes_reply (Some (verify_fields fields)) range)) same.0
same_content look other range (Lit bytes) same = refl
same_content look other range (DirChk fields) same = refl
same_content look other range (DirLit bytes) same = refl
same_content look other range (ChkVerify fields) same = refl
same_content look other range (DirChkVerify fields) same = refl

same_json : (look other : Look) (cap : Cap) → AgreesAt look other cap → node_json_reply look.gives cap ≡ node_json_reply other.gives cap
same_json look other (Chk fields) same = refl
same_json look other (Lit bytes) same = refl
same_json look other (DirChk fields) same = ap (with_bytes (listing_reply (DirChk fields))) same.0
same_json look other (DirLit bytes) same = refl
same_json look other (ChkVerify fields) same = refl
same_json look other (DirChkVerify fields) same = refl

same_node : (look other : Look) (json : Bool) (range : Option (List ℕ)) (cap : Cap) → AgreesAt look other cap → node_reply look.gives json range cap ≡ node_reply other.gives json range cap
same_node look other true range cap same = same_json look other cap same
same_node look other false range cap same = same_content look other range cap same

-- what a check of these fields is answered over a row
health_over : Bool → VerifyValue → Bool → ShareTable → Reply
health_over mapped fields verify row = json_reply (health_text mapped fields.si (check fields verify row))

same_health : (mapped : Bool) (look other : Look) (verify : Bool) (cap : Cap) → AgreesAt look other cap → health_reply mapped look verify cap ≡ health_reply mapped other verify cap
unfolding health_over
same_health mapped look other verify (Chk fields) same = ap (health_over mapped (verify_fields fields) verify) same.1
same_health mapped look other verify (Lit bytes) same = refl
same_health mapped look other verify (DirChk fields) same = ap (health_over mapped (verify_fields fields) verify) same.1
same_health mapped look other verify (DirLit bytes) same = refl
same_health mapped look other verify (ChkVerify fields) same = ap (health_over mapped fields verify) same
same_health mapped look other verify (DirChkVerify fields) same = ap (health_over mapped fields verify) same

same_end : (f g : Cap → Reply) (r : Result Cap WalkFault) → ((end : Cap) → r ≡ Ok end → f end ≡ g end) → at_end f r ≡ at_end g r
same_end f g (Ok end) same = same end refl
same_end f g (Err fault) same = refl

-- ---- requests

module _ (walks : (gives other : FileLookup) (cap : Cap) (names : List (List ℕ)) → GivesAgreeOn gives other (met_on_walk gives cap names) → walked gives cap names ≡ walked other cap names)
    (meets : (gives other : FileLookup) (cap : Cap) (names : List (List ℕ)) → GivesAgreeOn gives other (met_on_walk gives cap names) → met_on_walk gives cap names ≡ met_on_walk other cap names)
    (ends : (gives : FileLookup) (cap : Cap) (names : List (List ℕ)) (end : Cap) → walked gives cap names ≡ Ok end → Contains (met_on_walk gives cap names) end) where
  -- walks by both looks end alike, and what is answered at the end is the same
  same_walk : (look other : Look) (f g : Cap → Reply) (cap : Cap) (names : List (List ℕ)) → ((end : Cap) → AgreesAt look other end → f end ≡ g end)
      → AgreeOn look other (met_on_walk look.gives cap names) → at_end f (walked look.gives cap names) ≡ at_end g (walked other.gives cap names)
  same_walk look other f g cap names each same =
      same_end f g (walked look.gives cap names) (λ end is. each end (All-contains (AgreesAt look other) (met_on_walk look.gives cap names) end same (ends look.gives cap names end is)))
      ∙ ap (at_end g) (walks look.gives other.gives cap names (walks_see_the_same look other (met_on_walk look.gives cap names) same))

  pub same_reply : (e : Encoding) (look other : Look) (request : Request) → AgreeOn look other (caps_met look request) → request_reply e look request ≡ request_reply e other request
  same_reply e look other (Put bytes) same = refl
  same_reply e look other (Mkdir json) same = refl
  same_reply e look other (Get name names json head_only range) same =
      ap (cond (is_verify_cap name) not_readable)
      (same_walk look other (node_reply look.gives json (range_to_apply head_only range)) (node_reply other.gives json (range_to_apply head_only range)) name names (same_node look other json (range_to_apply head_only range)) same)
  same_reply e look other (Check name names verify) same =
      ap (cond (is_verify_cap name && not (length names == 0)) not_readable)
      (same_walk look other (health_reply e.mapped look verify) (health_reply e.mapped other verify) name names (same_health e.mapped look other verify) same)

  pub same_met : (look other : Look) (request : Request) → AgreeOn look other (caps_met look request) → caps_met look request ≡ caps_met other request
  same_met look other (Put bytes) same = refl
  same_met look other (Mkdir json) same = refl
  same_met look other (Get name names json head_only range) same = meets look.gives other.gives name names (walks_see_the_same look other (met_on_walk look.gives name names) same)
  same_met look other (Check name names verify) same = meets look.gives other.gives name names (walks_see_the_same look other (met_on_walk look.gives name names) same)
