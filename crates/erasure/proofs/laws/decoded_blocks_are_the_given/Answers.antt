use Rattle.erasure.proofs.Coding.{length-primary_from, primary_from-are}
use Rattle.erasure.proofs.Decoding.{given_are_coded}
use Rattle.erasure.proofs.laws.decoded_blocks_are_the_given.Goals as goal

pub returns : goal.returns
returns c = record { count = length-primary_from; primary = primary_from-are; given = given_are_coded }
