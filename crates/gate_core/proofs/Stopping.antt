-- Items at one of which memory ran out.
use Rattle.std.proofs.Common.{◌≡◌, ℕ, List, [], length, take, Bool, Some, Result, Ok, Err, refl, sym, subst, ◌∙◌}
use Rattle.std.specs.Prelude.{OnErr, slice_get}
use Rattle.http_edge.specs.declared.item.Item.{Item}
use Rattle.http_edge.specs.declared.item.Item.TheVariants.{Request as RequestItem}
use Rattle.http_edge.specs.declared.item.Head.{Head}
use Rattle.grid.specs.GridState.{GridState, IsHonest}
use Rattle.grid.specs.Leaves.{Leaves}
use Rattle.web_ops.specs.Changes.{IsBegunIn}
use Rattle.gate_base.specs.declared.tally.Tally.{Tally}
use Rattle.gate_base.specs.Setup.{Setup}
use Rattle.gate_core.specs.Settings.{GatewaySettings, settings_of, under, encoding_in}
use Rattle.gate_base.specs.Requests.{asked_of}
use Rattle.gate_core.specs.Runs.{upload_asked, upload_by}
use Rattle.gate_core.specs.Served.{AreServed, AreServedAfter}
use Rattle.gate_core.specs.Stopped.{upload_at, IsStoppedByMemory}
use Rattle.gate_base.specs.Tallies.{AreTallied, AreTalliedAfter}
use Rattle.gate_core.proofs.Performed.{nothing_begun}
use Rattle.gate_core.proofs.Serving.{Leaves-refl, AreServed-none}
use Rattle.gate_core.proofs.Tallying.{tallied_output}

pub on_err : {T E : Type 0} {P : Type 0} (r : Result T E) → P → OnErr r P
on_err (Ok x) p = tt
on_err (Err e) p = p

-- a request's upload is that of what it asks for
pub begun_by : (s : GatewaySettings) (item : Item) (head : Head) (body : List ℕ) (close : Bool) (old new : GridState) → item ≡ RequestItem head body close
    → (IsHonest old → IsBegunIn (upload_asked (encoding_in s) (asked_of head body)) old new) → IsHonest old → IsBegunIn (upload_by s item) old new
unfolding upload_by
begun_by s item head body close old new is begun honest = subst (λ x. IsBegunIn (upload_by s x) old new) (sym is) (begun honest)

-- before the first item nothing was done
pub stopped_first : (s : GatewaySettings) (secret : List ℕ) (items : List Item) (g : GridState) (t : Tally) → IsStoppedByMemory s secret items g g t t
stopped_first s secret items g t = record {
  done = 0;
  output = [];
  middle = g;
  served = AreServed-none s secret g;
  tallied = (refl, refl);
  leaves = Leaves-refl g;
  begun = λ honest. nothing_begun (upload_at (under s secret) (slice_get items 0)) g;
}

-- at an item after those that were answered
pub stopped_at : (p : Setup) (n : ℕ) (secret : List ℕ) (items those : List Item) (item : Item) (w1 w2 : List ℕ) (g1 g2 g3 : GridState) (t1 t2 t3 : Tally) → length g1.stores ≡ n
    → AreServedAfter (settings_of p n) secret those w1 w2 g1 g2 → those ≡ take (length those) items → slice_get items (length those) ≡ Some item → Leaves g2 g3
    → (IsHonest g2 → IsBegunIn (upload_by (under (settings_of p (length g2.stores)) secret) item) g2 g3)
    → AreTalliedAfter those w1 w2 t1 t2 → t3 ≡ t2
    → IsStoppedByMemory (settings_of p n) secret items g1 g3 t1 t3
stopped_at p n secret items those item w1 w2 g1 g2 g3 t1 t2 t3 long first so_far here leaves begun counts none = record {
  done = length those;
  output = first.output;
  middle = g2;
  served = subst (λ xs. AreServed (settings_of p n) secret xs first.output g1 g2) so_far first.served;
  tallied =
      subst (λ t. AreTallied (take (length those) items) first.output t1 t) (sym none)
      (subst (λ xs. AreTallied xs first.output t1 t2) so_far (tallied_output those w1 w2 first.output t1 t2 first.waits counts));
  leaves = leaves;
  begun = λ honest.
      subst (λ o. IsBegunIn (upload_at (under (settings_of p n) secret) o) g2 g3) (sym here)
      (subst (λ m. IsBegunIn (upload_by (under (settings_of p m) secret) item) g2 g3) (first.served.leaves.servers ∙ long) (begun (first.served.leaves.honest honest)));
}
