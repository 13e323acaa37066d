use Rattle.std.proofs.Common.{◌≡◌, true, map, take}
use Rattle.std.specs.List.{list_all}
use Rattle.std.specs.Str.{is_utf8}
use Rattle.percent_encoding.specs.Percent.{percent_decode}
use Rattle.path_names.proofs.path.decoded.Given as goal

abbrev pub invariant-loop-piece : goal.invariant-loop-piece
invariant-loop-piece l = record {
  read : l.found.items ≡ map (λ piece. percent_decode piece.now) (take l.piece-index l.piece-items);
  utf8 : list_all is_utf8 l.found.items ≡ true;
}
