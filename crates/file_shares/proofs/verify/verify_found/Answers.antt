use Rattle.std.proofs.Common.{map, sym, ap, subst, ◌∙◌}
use Rattle.std.specs.Option.{option_map}
use Rattle.std.specs.Rc.{rc_slice_items}
use Rattle.aes_ctr.specs.Crypt.{crypt}
use Rattle.file_shares.specs.Gathered.{found_string}
use Rattle.file_shares.specs.Taken.{AreTaken}
use Rattle.file_shares.specs.Ahead.{file_params}
use Rattle.file_shares.proofs.Verified.{ReadLaws, told_by, none_is_given, bytes_are_given, given_is_bound}
use Rattle.file_shares.proofs.verify.verify_found.Goals as goal

pub crypttext-requires : goal.crypttext-requires
crypttext-requires c =
    subst (λ p. AreTaken p c.deref.result.now) (sym c.file_params-params.ensures)
    (subst (AreTaken (file_params c.args.fields.now)) (sym c.deref.ensures.value) c.in-Ok.ensures.chosen.taken)

pub returns-in_default-clause-missing : goal.returns-in_default-clause-missing
returns-in_default-clause-missing c is =
    none_is_given c.args.fields.now (map (found_string rc_slice_items) c.args.found.now) c.in-Ok.shares.items c.in-Ok.ensures.chosen
    (sym (ap (option_map (λ b. b.items)) c.in_default.is) ∙ c.in_ok-bytes.ensures ∙ (λ i. told_by (c.file_params-params.ensures i) (c.deref.ensures.value i)))

pub returns-clause-fit : goal.returns-clause-fit
returns-clause-fit c =
    bytes_are_given c.args.fields.now (map (found_string rc_slice_items) c.args.found.now) c.in-Ok.shares.items c.in-Ok.ensures.chosen c.in-Some.bytes.items
    (sym (ap (option_map (λ b. b.items)) c.in-Some.is) ∙ c.in_ok-bytes.ensures ∙ (λ i. told_by (c.file_params-params.ensures i) (c.deref.ensures.value i)))

pub returns-clause-bound : goal.returns-clause-bound
returns-clause-bound c =
    let laws : ReadLaws = record {
      read = c.good_shares_are_read.ensures.found;
      cut = c.good_shares_are_read.ensures.cut;
      count = c.decoded_blocks_are_the_given.ensures.count;
      primary = c.decoded_blocks_are_the_given.ensures.primary;
      joined = c.segments_are_joined_again.ensures.cut;
      twice = c.twice_is_unchanged.ensures;
      whole = c.parts_agree.ensures.whole;
      long = c.keystream_by_place.ensures.length;
    } in
    given_is_bound c.args.fields.now (map (found_string rc_slice_items) c.args.found.now) laws (crypt c.args.fields.now.key c.in-Some.bytes.items) (returns-clause-fit c)
