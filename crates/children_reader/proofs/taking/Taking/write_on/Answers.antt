use Rattle.std.proofs.Common.{Some, refl, sym, ap, ◌∙◌, subst}
use Rattle.std.proofs.lemmas.Result.{on_ok_weaker}
use Rattle.json_tree.specs.Writers.{IsWrittenOn}
use Rattle.serde_json.specs.Data.{object}
use Rattle.serde_json.specs.View.{members_view}
use Rattle.children_reader.specs.Kept.{IsFieldAt, IsChildNode}
use Rattle.children_reader.specs.Taking.{IsTakenChild}
use Rattle.children_reader.specs.declared.fields.Field.{Field}
use Rattle.children_reader.specs.declared.fields.Fields.{Fields}
use Rattle.children_reader.specs.declared.taking.TakenChild.{TakenChild}
use Rattle.children_reader.proofs.TakenMembers.{none_left}
use Rattle.children_reader.proofs.taking.Taking.write_on.Goals as goal

pub returns-in-Going-clause-taken : goal.returns-in-Going-clause-taken
returns-in-Going-clause-taken c ts d child before =
    let old = c.args.child in
    let next : TakenChild = record { key = old.key; ro_uri = old.ro_uri; rw_uri = old.rw_uri; writer = c.in-Going.writer } in
    let is : IsTakenChild next d = record {
      fields = child.fields;
      metadata = child.metadata;
      node = child.node;
      ro_uri = child.ro_uri;
      rw_uri = child.rw_uri;
      found = child.found;
      sound = child.sound;
      utf8 = child.utf8;
      writing = subst (IsWrittenOn (object child.metadata)) c.in-Going.is (c.in_ok-writer.ensures.written (object child.metadata) child.writing);
    } in
    (_, before, (d, is, refl))

pub returns-in-Done-clause-taken : goal.returns-in-Done-clause-taken
returns-in-Done-clause-taken c =
    let self = c.args.self.now in
    let old = c.args.child in
    let spelled = c.spelled_in.result in
    let fields : Fields = record { ro_uri = old.ro_uri; rw_uri = old.rw_uri; metadata = Some (Field.Object spelled) } in
    on_ok_weaker c.put.result
    (λ goes ts d child before.
    let written = subst (IsWrittenOn (object child.metadata)) c.in-Done.is (c.in_ok-writer.ensures.written (object child.metadata) child.writing) in
    let node : IsChildNode (Some fields) d = (
      child.fields,
      child.node,
      record {
        ro_uri = child.ro_uri;
        rw_uri = child.rw_uri;
        metadata = subst (IsFieldAt (Some (Field.Object spelled))) (sym child.found) (child.metadata, refl, c.spelled_in.ensures (object child.metadata) written child.utf8, child.sound);
      },
    ) in
    none_left ts c.put.new.self (members_view self.left.entries) (c.put.ensures.child ∙ c.requires) (ap (λ m. members_view m.entries) c.put.ensures.left) (goes ts d (members_view self.left.entries) node before)) c.put.ensures.taken
