use Rattle.std.proofs.Common.{ap, option_and_then}
use Rattle.serde_json.specs.Read.{of_json, max_depth}
use Rattle.children_reader.specs.MemberReader.{IsReading}
use Rattle.children_reader.proofs.PartsRead.{CutLaws}
use Rattle.children_reader.proofs.Pieces.{none_of_part}
use Rattle.children_reader.proofs.piecewise.finished.Goals as goal

pub returns-in-None-clause-read : goal.returns-in-None-clause-read
returns-in-None-clause-read c =
    let laws : CutLaws = record { first = c.objects_begin_with_a_brace.ensures.first; turn = c.objects_are_joined_in_turn.ensures; value = c.a_cut_object_is_joined.ensures.value max_depth } in
    none_of_part IsReading laws c.args.json.now c.args.at c.args.next c.args.reader (λ ts _ read. ap (option_and_then of_json) (c.in-None.ensures ts read)) c.requires
