use Rattle.std.proofs.Common.{map}
use Rattle.std.specs.Rc.{rc_slice_items}
use Rattle.file_shares.specs.Gathered.{found_string}
use Rattle.file_shares.proofs.Verified.{ReadLaws, given_is_bound}
use Rattle.file_shares.proofs.kept_strings.Gathered.new.Goals as goal

pub invariant_of-result : goal.invariant_of-result
invariant_of-result c =
    let laws : ReadLaws = record {
      read = c.good_shares_are_read.ensures.found;
      cut = c.good_shares_are_read.ensures.cut;
      count = c.decoded_blocks_are_the_given.ensures.count;
      primary = c.decoded_blocks_are_the_given.ensures.primary;
      joined = c.segments_are_joined_again.ensures.cut;
      twice = c.twice_is_unchanged.ensures;
      whole = c.parts_agree.ensures.whole;
      long = c.keystream_by_place.ensures.length;
    } in
    record { bound = given_is_bound c.args.fields.now (map (found_string rc_slice_items) c.args.found.items) laws }
