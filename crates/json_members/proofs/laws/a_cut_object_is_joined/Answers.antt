use Rattle.json.specs.Json.{max_depth}
use Rattle.json_members.proofs.Joined.{Laws, object_joined}
use Rattle.json_members.proofs.laws.a_cut_object_is_joined.Goals as goal

pub returns : goal.returns
returns c =
    let laws : Laws = record {
      cut = c.a_cut_text_is_joined.ensures;
      value = c.machine_reads_the_grammar.ensures.value;
      joined = c.pieces_are_read_on.ensures.joined;
      stays_failed = c.pieces_are_read_on.ensures.stays_failed;
      nothing_behind = c.pieces_are_read_on.ensures.nothing_behind;
      bounded = c.stack_is_bounded.ensures;
    } in
    record { value = object_joined laws; document = object_joined laws max_depth }
