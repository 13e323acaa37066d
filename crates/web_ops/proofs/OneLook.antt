-- Requests of which each read gives what one look gives.
use Rattle.std.proofs.Common.{◌≡◌, ℕ, List, Bool, true, false, cond, Option, Some, None, Result, Ok, Err, IfSome, refl, ap, ◌∙◌}
use Rattle.caps.specs.declared.cap.Cap.{Cap}
use Rattle.caps.specs.declared.cap.Cap.TheVariants.{Chk, Lit, DirChk, DirLit, ChkVerify, DirChkVerify}
use Rattle.caps.specs.Fields.{ReadValue}
use Rattle.caps.specs.Weakening.{verify_fields}
use Rattle.path_walk.specs.Walk.{FileLookup, walked}
use Rattle.path_walk.specs.declared.fault.WalkFault.{WalkFault}
use Rattle.path_walk.proofs.Amid.{walks_one, one_walks}
use Rattle.web_replies.specs.declared.reply.Reply.{Reply}
use Rattle.web_replies.specs.Replies.{bytes_reply, not_readable}
use Rattle.web_ops.specs.Answers.{with_bytes, listing_reply, node_reply, at_end}
use Rattle.web_ops.specs.Amid.{fields_read, IsNodeBy, IsEndReply, IsAnsweredBy}

module _ (gives : FileLookup) where
  abbrev Gives : ReadValue → Option (List ℕ) → Type 0
  Gives f found = found ≡ gives f

  same_node : (look : FileLookup) (json : Bool) (range : Option (List ℕ)) (cap : Cap) → IfSome (fields_read json cap) (λ f. look f ≡ gives f) → node_reply look json range cap ≡ node_reply gives json range cap
  same_node look false range (Chk fields) same = ap (with_bytes (bytes_reply (Some (verify_fields fields)) range)) same
  same_node look true range (Chk fields) same = refl
  same_node look false range (Lit bytes) same = refl
  same_node look true range (Lit bytes) same = refl
  same_node look false range (DirChk fields) same = refl
  same_node look true range (DirChk fields) same = ap (with_bytes (listing_reply (DirChk fields))) same
  same_node look false range (DirLit bytes) same = refl
  same_node look true range (DirLit bytes) same = refl
  same_node look false range (ChkVerify fields) same = refl
  same_node look true range (ChkVerify fields) same = refl
  same_node look false range (DirChkVerify fields) same = refl
  same_node look true range (DirChkVerify fields) same = refl

  given_itself : (o : Option ReadValue) → IfSome o (λ f. gives f ≡ gives f)
  given_itself None = tt
  given_itself (Some f) = refl

  end_one : (json : Bool) (range : Option (List ℕ)) (w : Result Cap WalkFault) (x : Reply) → IsEndReply (IsNodeBy Gives json range) w x → x ≡ at_end (node_reply gives json range) w
  end_one json range (Ok end) x by = by.is ∙ same_node by.gives json range end by.given
  end_one json range (Err fault) x is = is

  one_end : (json : Bool) (range : Option (List ℕ)) (w : Result Cap WalkFault) (x : Reply) → x ≡ at_end (node_reply gives json range) w → IsEndReply (IsNodeBy Gives json range) w x
  one_end json range (Ok end) x is = record { gives = gives; given = given_itself (fields_read json end); is = is }
  one_end json range (Err fault) x is = is

  pub answered_one : (b : Bool) (cap : Cap) (names : List (List ℕ)) (json : Bool) (range : Option (List ℕ)) (x : Reply) → IsAnsweredBy b Gives (IsNodeBy Gives json range) cap names x
      → x ≡ cond b not_readable (at_end (node_reply gives json range) (walked gives cap names))
  answered_one true cap names json range x is = is
  answered_one false cap names json range x by = end_one json range by.walk x by.is ∙ ap (at_end (node_reply gives json range)) (walks_one gives cap names by.walk by.walks)

  pub one_answered : (b : Bool) (cap : Cap) (names : List (List ℕ)) (json : Bool) (range : Option (List ℕ)) (x : Reply)
      → x ≡ cond b not_readable (at_end (node_reply gives json range) (walked gives cap names)) → IsAnsweredBy b Gives (IsNodeBy Gives json range) cap names x
  one_answered true cap names json range x is = is
  one_answered false cap names json range x is =
      record { walk = walked gives cap names; walks = one_walks gives cap names; is = one_end json range (walked gives cap names) x is }
