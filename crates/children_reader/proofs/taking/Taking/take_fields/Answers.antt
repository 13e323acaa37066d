use Rattle.std.proofs.Common.{◌≡◌, codes, IsUtf8, Some, option_map, option_and_then, refl, sym, ap, ◌∙◌, subst}
use Rattle.std.proofs.lemmas.Result.{on_ok_weaker}
use Rattle.json_tree.specs.Writers.{IsWriting}
use Rattle.serde_json.proofs.Views.{view-Object}
use Rattle.serde_json.specs.Data.{object}
use Rattle.serde_json.specs.Find.{get_member, as_object}
use Rattle.serde_json.specs.View.{view, members_view}
use Rattle.serde_json.specs.Written.{compact_text}
use Rattle.serde_json.specs.declared.value.Value.{Object}
use Rattle.children_reader.specs.Kept.{IsTextFieldAt, IsFieldAt, IsChildNode}
use Rattle.json_spelling.specs.Sound.{IsSound}
use Rattle.children_reader.specs.Taking.{IsTakenChild}
use Rattle.children_reader.specs.declared.fields.Fields.{Fields}
use Rattle.children_reader.specs.declared.taking.TakenChild.{TakenChild}
use Rattle.children_reader.proofs.TakenMembers.{none_left, field_sound}
use Rattle.children_reader.proofs.ValueTexts.{value_utf8}
use Rattle.children_reader.proofs.taking.Taking.take_fields.Goals as goal

pub returns-in-Ok-clause-taken : goal.returns-in-Ok-clause-taken
returns-in-Ok-clause-taken c =
    let ms = members_view c.args.fields.entries in
    let child : TakenChild = record { key = c.args.key; ro_uri = c.in_ok-ro_uri.ro_uri; rw_uri = c.in_ok-rw_uri.rw_uri; writer = c.new.result } in
    let metadata = members_view c.in-Ok.members.entries in
    let found : get_member (codes "metadata") ms ≡ Some (object metadata) =
    sym (c.take_value-metadata.ensures.value ∙ c.take_value-2.ensures.others (codes "metadata") refl ∙ c.take_value.ensures.others (codes "metadata") refl) ∙ c.in-Ok.ensures in
    let same = view-Object c.in-Ok.members in
    on_ok_weaker c.write_on.result
    (λ goes ts d node before.
    let sound = field_sound d ms (codes "metadata") (object metadata) before.sound.0 node found in
    let is : IsTakenChild child d = record {
      fields = ms;
      metadata = metadata;
      node = node;
      ro_uri = subst (IsTextFieldAt c.in_ok-ro_uri.ro_uri) c.take_value.ensures.value c.in_ok-ro_uri.ensures.text;
      rw_uri = subst (IsTextFieldAt c.in_ok-rw_uri.rw_uri) (c.take_value-2.ensures.value ∙ c.take_value.ensures.others (codes "rw_uri") refl) c.in_ok-rw_uri.ensures.text;
      found = found;
      sound = sound;
      utf8 = subst (λ x. IsUtf8 (compact_text x)) same (value_utf8 (Object c.in-Ok.members) (subst IsSound (sym same) sound));
      writing = subst (λ x. IsWriting x c.new.result) same c.new.ensures.writing;
    } in
    goes ts d is before) c.write_on.ensures.taken

pub returns-in_ok-metadata-in-Err-clause-taken : goal.returns-in_ok-metadata-in-Err-clause-taken
returns-in_ok-metadata-in-Err-clause-taken c =
    let self = c.args.self.now in
    let ms = members_view c.args.fields.entries in
    let field = c.in_ok-metadata-in-Err.metadata in
    let fields : Fields = record { ro_uri = c.in_ok-ro_uri.ro_uri; rw_uri = c.in_ok-rw_uri.rw_uri; metadata = field } in
    let other = c.in-Err.ensures in
    let none = ap (λ o. option_and_then as_object (option_map view o)) other.0 ∙ other.1 in
    let there = ap (option_map view) other.0 ∙ c.take_value-metadata.ensures.value ∙ c.take_value-2.ensures.others (codes "metadata") refl ∙ c.take_value.ensures.others (codes "metadata") refl in
    on_ok_weaker c.put.result
    (λ goes ts d is before.
    let node : IsChildNode (Some fields) d = (
      ms,
      is,
      record {
        ro_uri = subst (IsTextFieldAt c.in_ok-ro_uri.ro_uri) c.take_value.ensures.value c.in_ok-ro_uri.ensures.text;
        rw_uri = subst (IsTextFieldAt c.in_ok-rw_uri.rw_uri) (c.take_value-2.ensures.value ∙ c.take_value.ensures.others (codes "rw_uri") refl) c.in_ok-rw_uri.ensures.text;
        metadata = subst (IsFieldAt field) there (c.in_ok-metadata-in-Err.ensures.plain none);
      },
    ) in
    none_left ts c.put.new.self (members_view self.left.entries) (c.put.ensures.child ∙ c.requires) (ap (λ m. members_view m.entries) c.put.ensures.left) (goes ts d (members_view self.left.entries) node before)) c.put.ensures.taken
