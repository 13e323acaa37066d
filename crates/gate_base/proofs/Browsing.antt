-- Replies for browsers: their lines, and those to requests on no condition.
use Rattle.std.proofs.Common.{◌≡◌, ℕ, Bool, true, false, ◌&&◌, cond, List, [], ◌∷◌, ◌++◌, Option, Some, None, refl, ap, ◌∙◌, append_assoc}
use Rattle.std.specs.Prelude.{◌||◌, codes, bytes_eq, not}
use Rattle.std.specs.List.{list_any}
use Rattle.caps.specs.Fields.{VerifyValue}
use Rattle.octets.specs.Case.{eq_ignore_case}
use Rattle.http_edge.specs.declared.field.Field.{Field}
use Rattle.http_edge.specs.declared.item.Head.{Head}
use Rattle.web_request.specs.Ranges.{is_if_range}
use Rattle.web_request.specs.declared.head.Field.{Field as WebField}
use Rattle.web_request.specs.declared.head.Head.{Head as WebHead}
use Rattle.web_replies.specs.declared.reply.Reply.{Reply as WebReply}
use Rattle.web_replies.specs.Replies.{not_modified}
use Rattle.reply_fields.specs.declared.guess.Guess.{Guess}
use Rattle.reply_fields.specs.Tags.{entity_tag, lists_tag, is_none_match, is_had, is_other_range, range_if}
use Rattle.gate_base.specs.Requests.{web_head}
use Rattle.gate_base.specs.Wire.{sniff_line, status_line}
use Rattle.gate_base.specs.Browsers.{ranges_line, sandbox_line, with_file_lines, is_condition, range_on, cut_to, conditioned_on, conditioned_by, conditioned, browser_reply, sent_reply}

-- ---- the lines of bytes of a file, one after the other

in_order : (t r s b : Field) (m tags told : List Field)
    → ((((((t ∷ []) ++ m) ++ r ∷ []) ++ s ∷ []) ++ b ∷ []) ++ tags) ++ told ≡ t ∷ (m ++ (r ∷ (s ∷ (b ∷ (tags ++ told)))))
in_order t r s b m tags told = simp append_assoc refl

pub in_lines : (guess : Option Guess) (t : Field) (m tags told v w x y z : List Field) → v ≡ t ∷ [] → w ≡ v ++ m → x ≡ with_file_lines guess w → y ≡ x ++ tags → z ≡ y ++ told
    → z ≡ t ∷ (m ++ (ranges_line ∷ (sniff_line ∷ (sandbox_line guess ∷ (tags ++ told)))))
in_lines guess t m tags told v w x y z one two three four five =
    five ∙ ap (λ l. l ++ told) (four ∙ ap (λ l. l ++ tags) (three ∙ ap (with_file_lines guess) (two ∙ ap (λ l. l ++ m) one)))
    ∙ in_order t ranges_line sniff_line (sandbox_line guess) m tags told

-- ---- no condition

neither : (a b : Bool) → (a || b) ≡ false → (a ≡ false) × (b ≡ false)
neither true b is = cc
neither false b is = (refl, is)

both_false : (a b : Bool) → a ≡ false → b ≡ false → (a || b) ≡ false
both_false true b x y = cc
both_false false b x y = y

first_false : (a b : Bool) → a ≡ false → (a && b) ≡ false
first_false true b x = cc
first_false false b x = refl

-- where no field is a condition, none lists the tag
not_had : (tag : List ℕ) (fields : List WebField) → list_any is_condition fields ≡ false → is_had tag fields ≡ false
unfolding is_none_match
not_had tag [] none = refl
not_had tag (field ∷ fields) none =
    let here = neither (is_condition field) (list_any is_condition fields) none in
    let name = neither (eq_ignore_case field.name (codes "if-none-match")) (is_if_range field) here.0 in
    both_false _ _ (first_false _ (lists_tag tag field.value) name.0) (not_had tag fields here.1)

-- and no If-Range stands
no_if_range : (fields : List WebField) → list_any is_condition fields ≡ false → list_any is_if_range fields ≡ false
no_if_range [] none = refl
no_if_range (field ∷ fields) none =
    let here = neither (is_condition field) (list_any is_condition fields) none in
    let name = neither (eq_ignore_case field.name (codes "if-none-match")) (is_if_range field) here.0 in
    both_false _ _ name.1 (no_if_range fields here.1)

-- so no range applies
none_if : (b : Bool) (o : Option (List ℕ)) → b ≡ false → cond b o None ≡ None
none_if true o is = cc
none_if false o is = refl

no_range_if : (tag : List ℕ) (fields : List WebField) → list_any is_condition fields ≡ false → range_if tag fields ≡ None
no_range_if tag fields none =
    none_if _ _ (first_false _ (not (list_any (is_other_range tag) fields)) (no_if_range fields none))

none_both : (b : Bool) (o : Option (List ℕ)) → o ≡ None → cond b None o ≡ None
none_both true o is = refl
none_both false o is = is

otherwise : (b : Bool) (x y : WebReply) → b ≡ false → cond b x y ≡ y
otherwise true x y is = cc
otherwise false x y is = refl

on_tag : (tag : List ℕ) (head : WebHead) (reply : WebReply) → list_any is_condition head.fields ≡ false → conditioned_on tag head reply ≡ reply
on_tag tag head reply none =
    otherwise (is_had tag head.fields) (not_modified reply.fields.file) (cut_to (range_on tag head) reply) (not_had tag head.fields none)
    ∙ ap (λ (o : Option (List ℕ)). cut_to o reply) (none_both (bytes_eq head.method (codes "HEAD")) (range_if tag head.fields) (no_range_if tag head.fields none))

by_file : (o : Option VerifyValue) (head : WebHead) (reply : WebReply) → list_any is_condition head.fields ≡ false → conditioned_by o head reply ≡ reply
by_file None head reply none = refl
by_file (Some file) head reply none = on_tag (entity_tag file) head reply none

unconditioned : (head : WebHead) (reply : WebReply) → list_any is_condition head.fields ≡ false → conditioned head reply ≡ reply
unfolding conditioned
unconditioned head reply none = by_file reply.fields.file head reply none

pub same_for_browsers : (for_browsers : Bool) (head : Head) (reply : WebReply) → list_any is_condition (web_head head).fields ≡ false
    → ((sent_reply for_browsers head reply).status ≡ status_line reply.status) × ((sent_reply for_browsers head reply).body ≡ reply.body)
unfolding browser_reply
same_for_browsers false head reply none = (refl, refl)
same_for_browsers true head reply none =
    let same = unconditioned (web_head head) reply none in
    (ap (λ (r : WebReply). status_line r.status) same, ap (λ (r : WebReply). r.body) same)
