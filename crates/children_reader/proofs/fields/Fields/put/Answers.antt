use Rattle.std.proofs.Common.{◌≡◌, codes, refl, sym, ◌∙◌}
use Rattle.children_reader.proofs.AtFields.{texts_differ, texts_same, another, put_here, put_elsewhere, put_text_here, put_text_elsewhere}
use Rattle.children_reader.proofs.fields.Fields.put.Goals as goal

pub returns-then-eq : goal.returns-then-eq
returns-then-eq c d ms is all =
    let name = c.args.name.now in
    let at : name ≡ codes "ro_uri" = texts_same name (codes "ro_uri") (sym c.eq.ensures ∙ c.if-eq.true) in
    record {
      ro_uri = put_text_here (codes "ro_uri") name c.args.field d ms at is;
      rw_uri = put_text_elsewhere (codes "rw_uri") name c.args.self.now.rw_uri d ms (another (codes "rw_uri") (codes "ro_uri") name refl at) all.rw_uri;
      metadata = put_elsewhere (codes "metadata") name c.args.self.now.metadata d ms (another (codes "metadata") (codes "ro_uri") name refl at) all.metadata;
    }

pub returns-then-eq-2 : goal.returns-then-eq-2
returns-then-eq-2 c d ms is all =
    let name = c.args.name.now in
    let at : name ≡ codes "rw_uri" = texts_same name (codes "rw_uri") (sym c.eq-else-eq.ensures ∙ c.if-eq-2.true) in
    record {
      ro_uri = put_text_elsewhere (codes "ro_uri") name c.args.self.now.ro_uri d ms (another (codes "ro_uri") (codes "rw_uri") name refl at) all.ro_uri;
      rw_uri = put_text_here (codes "rw_uri") name c.args.field d ms at is;
      metadata = put_elsewhere (codes "metadata") name c.args.self.now.metadata d ms (another (codes "metadata") (codes "rw_uri") name refl at) all.metadata;
    }

pub returns-then-eq-3 : goal.returns-then-eq-3
returns-then-eq-3 c d ms is all =
    let name = c.args.name.now in
    let at : name ≡ codes "metadata" = texts_same name (codes "metadata") (sym c.eq-else-eq-2.ensures ∙ c.if-eq-3.true) in
    record {
      ro_uri = put_text_elsewhere (codes "ro_uri") name c.args.self.now.ro_uri d ms (another (codes "ro_uri") (codes "metadata") name refl at) all.ro_uri;
      rw_uri = put_text_elsewhere (codes "rw_uri") name c.args.self.now.rw_uri d ms (another (codes "rw_uri") (codes "metadata") name refl at) all.rw_uri;
      metadata = put_here (codes "metadata") name c.args.field d ms at is;
    }

pub returns-else-eq-3 : goal.returns-else-eq-3
returns-else-eq-3 c d ms is all =
    let name = c.args.name.now in
    record {
      ro_uri = put_text_elsewhere (codes "ro_uri") name c.args.self.now.ro_uri d ms (texts_differ name (codes "ro_uri") (sym c.eq.ensures ∙ c.if-eq.false)) all.ro_uri;
      rw_uri = put_text_elsewhere (codes "rw_uri") name c.args.self.now.rw_uri d ms (texts_differ name (codes "rw_uri") (sym c.eq-else-eq.ensures ∙ c.if-eq-2.false)) all.rw_uri;
      metadata = put_elsewhere (codes "metadata") name c.args.self.now.metadata d ms (texts_differ name (codes "metadata") (sym c.eq-else-eq-2.ensures ∙ c.if-eq-3.false)) all.metadata;
    }
