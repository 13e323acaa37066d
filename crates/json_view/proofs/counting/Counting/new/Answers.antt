use Rattle.std.proofs.Common.{sym, subst}
use Rattle.std.proofs.lemmas.List.Elements.{All-nil}
use Rattle.std.specs.Rc.{rc_slice_items}
use Rattle.json_view.specs.KeptSpellings.{IsSpellingIn, AreSpellingsIn}
use Rattle.json_view.proofs.Listings.{count_begun, no_speller}
use Rattle.json_view.proofs.counting.Counting.new.Goals as goal

pub invariant_of-result : goal.invariant_of-result
invariant_of-result c =
    let text = rc_slice_items c.args.text in
    record {
      counted = count_begun c.new.result.items text c.new.ensures.items;
      spelling = no_speller text;
      kept = subst (λ spellings. AreSpellingsIn text spellings) (sym c.new-2.ensures.items) (All-nil (IsSpellingIn text));
    }
