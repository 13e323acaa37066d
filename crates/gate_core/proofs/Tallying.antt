-- Replies that are counted, one after the other.
use Rattle.std.proofs.Common.{◌≡◌, List, ℕ, [], ◌∷◌, ◌++◌, Bool, true, Result, Ok, Err, refl, sym, ap, subst, ◌∙◌}
use Rattle.std.specs.Prelude.{OnOk}
use Rattle.std.proofs.lemmas.List.{append_assoc, append-nil, append_cancel_left}
use Rattle.http_edge.specs.declared.item.Item.{Item}
use Rattle.http_edge.specs.declared.item.Item.TheVariants.{Request as RequestItem, Continue, Fault}
use Rattle.http_edge.specs.declared.item.Head.{Head}
use Rattle.http_edge.specs.declared.item.FramingFault.{FramingFault}
use Rattle.http_edge.specs.declared.reply.Reply.{Reply}
use Rattle.http_edge.specs.Judge.{is_head_request}
use Rattle.http_edge.specs.Reply.{rendered, continue_text}
use Rattle.gate_base.specs.declared.tally.Tally.{Tally}
use Rattle.gate_base.specs.Wire.{framing_reply}
use Rattle.gate_base.specs.Tallies.{tally_after, AreTallied, AreTalliedAfter}

-- two facts where a result is Ok
pub both_ok : {T E : Type 0} (r : Result T E) (X Y Z : Type 0) → (X → Y → Z) → OnOk r X → OnOk r Y → OnOk r Z
both_ok (Ok x) X Y Z step one two = step one two
both_ok (Err e) X Y Z step one two = tt

-- ---- items after others

AreTallied-append : (xs ys : List Item) (a b : List ℕ) (s t u : Tally) → AreTallied xs a s t → AreTallied ys b t u → AreTallied (xs ++ ys) (a ++ b) s u
AreTallied-append [] ys a b s t u none those = subst (λ l. AreTallied ys (l ++ b) s u) (sym none.0) (subst (λ m. AreTallied ys b m u) none.1 those)
AreTallied-append (x ∷ xs) ys a b s t u first those = (
  first.0,
  first.1 ++ b,
  first.2,
  ap (λ l. l ++ b) first.3 ∙ append_assoc first.0 first.1 b,
  first.4,
  AreTallied-append xs ys first.1 b first.2 t u first.5 those,
)

pub tallied_first : (waits : List ℕ) (t : Tally) → AreTalliedAfter [] waits waits t t
tallied_first waits t = record { output = []; waits = sym (append-nil waits); tallied = (refl, refl) }

pub tallied_next : (xs : List Item) (x : Item) (w1 w2 w3 : List ℕ) (s t u : Tally) → AreTalliedAfter xs w1 w2 s t → AreTalliedAfter (x ∷ []) w2 w3 t u → AreTalliedAfter (xs ++ x ∷ []) w1 w3 s u
tallied_next xs x w1 w2 w3 s t u first second = record {
  output = first.output ++ second.output;
  waits = second.waits ∙ ap (λ l. l ++ second.output) first.waits ∙ append_assoc w1 first.output second.output;
  tallied = AreTallied-append xs (x ∷ []) first.output second.output s t u first.tallied second.tallied;
}

-- what was answered after what waited is this output
pub tallied_output : (items : List Item) (before after output : List ℕ) (s t : Tally) → after ≡ before ++ output → AreTalliedAfter items before after s t → AreTallied items output s t
tallied_output items before after output s t waits all = subst (λ o. AreTallied items o s t) (append_cancel_left before all.output output (sym all.waits ∙ waits)) all.tallied

-- ---- one item

pub tallied_request : (item : Item) (head : Head) (body : List ℕ) (close asked : Bool) (reply : Reply) (before after : List ℕ) (old new : Tally)
    → item ≡ RequestItem head body close → asked ≡ is_head_request head
    → after ≡ before ++ rendered reply asked close → new ≡ tally_after reply.status old → AreTalliedAfter (item ∷ []) before after old new
tallied_request item head body close asked reply before after old new is head_only pushed counts =
    let text = rendered reply (is_head_request head) close in
    record {
      output = text;
      waits = pushed ∙ ap (λ b. before ++ rendered reply b close) head_only;
      tallied =
          subst (λ x. AreTallied (x ∷ []) text old new) (sym is)
          (text, [], new, sym (append-nil text), (reply, (refl, counts)), (refl, refl));
    }

pub tallied_fault : (item : Item) (fault : FramingFault) (head_only : Bool) (reply : Reply) (before after : List ℕ) (old new : Tally)
    → item ≡ Fault fault head_only → reply ≡ framing_reply fault
    → after ≡ before ++ rendered reply head_only true → new ≡ tally_after reply.status old → AreTalliedAfter (item ∷ []) before after old new
tallied_fault item fault head_only reply before after old new is says pushed counts =
    let text = rendered reply head_only true in
    record {
      output = text;
      waits = pushed;
      tallied =
          subst (λ x. AreTallied (x ∷ []) text old new) (sym is)
          (text, [], new, sym (append-nil text), (ap (λ r. rendered r head_only true) says, counts ∙ ap (λ (r : Reply). tally_after r.status old) says), (refl, refl));
    }

pub tallied_continue : (item : Item) (text before after : List ℕ) (t : Tally) → item ≡ Continue → text ≡ continue_text → after ≡ before ++ text → AreTalliedAfter (item ∷ []) before after t t
tallied_continue item text before after t is says pushed = record {
  output = text;
  waits = pushed;
  tallied = subst (λ x. AreTallied (x ∷ []) text t t) (sym is) (text, [], t, sym (append-nil text), (says, refl), (refl, refl));
}
