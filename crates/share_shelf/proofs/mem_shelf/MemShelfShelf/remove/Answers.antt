use Rattle.std.proofs.Common.{◌∷◌, [], ap, subst, arith, None, length, length-append, List}
use Rattle.share_shelf.specs.Kept.{KnownShare, told_of, HadBeen}
use Rattle.share_shelf.proofs.Histories.{goes_on}
use Rattle.share_shelf.proofs.Moments.{keeps_pushed, since_pushed, each_pushed, since_each}
use Rattle.share_shelf.proofs.mem_shelf.MemShelfShelf.remove.Goals as goal

pub returns-clause-done : goal.returns-clause-done
returns-clause-done c honest m keeps d had =
    let one : KnownShare = ((c.args.index, c.args.number), None) in
    keeps_pushed (told_of c.args.self.now.changes.items) one m keeps d (subst (λ (l : List KnownShare). HadBeen l (length l) d) c.in_ok-tell_remove.ensures.told had)

pub returns-clause-crash : goal.returns-clause-crash
returns-clause-crash c honest m keeps =
    let one : KnownShare = ((c.args.index, c.args.number), None) in
    let past : List KnownShare = told_of c.args.self.now.changes.items in
    record {
      later = omega (arith, ap (λ (l : List KnownShare). length l) c.in_ok-tell_remove.ensures.told, length-append past (one ∷ []));
      since = λ t d le had. since_pushed past one m keeps t d le (subst (λ (l : List KnownShare). HadBeen l t d) c.in_ok-tell_remove.ensures.told had);
    }

pub returns-in_err-tell_remove-clause-no_memory : goal.returns-in_err-tell_remove-clause-no_memory
returns-in_err-tell_remove-clause-no_memory c is = record {
  same_moment = ap (λ (l : List KnownShare). length l) c.in_err-tell_remove.ensures.same;
  nothing_else = λ t d had. subst (λ (l : List KnownShare). HadBeen l t d) c.in_err-tell_remove.ensures.same had;
}

pub returns-clause-done_each : goal.returns-clause-done_each
returns-clause-done_each c honest d had =
    let one : KnownShare = ((c.args.index, c.args.number), None) in
    each_pushed (told_of c.args.self.now.changes.items) one d (subst (λ (l : List KnownShare). HadBeen l (length l) d) c.in_ok-tell_remove.ensures.told had)

pub returns-clause-crash_each : goal.returns-clause-crash_each
returns-clause-crash_each c honest =
    let one : KnownShare = ((c.args.index, c.args.number), None) in
    let past : List KnownShare = told_of c.args.self.now.changes.items in
    record {
      later = omega (arith, ap (λ (l : List KnownShare). length l) c.in_ok-tell_remove.ensures.told, length-append past (one ∷ []));
      since = λ t d le had. since_each past one t d le (subst (λ (l : List KnownShare). HadBeen l t d) c.in_ok-tell_remove.ensures.told had);
    }

pub returns-clause-history : goal.returns-clause-history
returns-clause-history c honest m keeps =
    let one : KnownShare = ((c.args.index, c.args.number), None) in
    goes_on (told_of c.args.self.now.changes.items) (told_of c.tell_remove.new.self.changes.items) one m c.in_ok-tell_remove.ensures.told keeps
