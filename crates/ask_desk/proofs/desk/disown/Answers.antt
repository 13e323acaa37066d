use Rattle.std.proofs.Common.{subst, arith, ap, ◌∙◌, ◌≡◌, ◌<◌, length, get_or, set, List}
use Rattle.std.proofs.lemmas.Bool.{false≢true}
use Rattle.ask_desk.specs.declared.ask.Ask.{Ask}
use Rattle.ask_desk.specs.Asks.{disowned}
use Rattle.ask_desk.proofs.Marks.{changed_next, changed_length}
use Rattle.ask_desk.proofs.desk.disown.Goals as goal
use Rattle.ask_desk.proofs.desk.disown.Goals.{in-Some, in_default}

pub loop-place-preserved : goal.loop-place-preserved
loop-place-preserved c =
    let old : List Ask = c.args.asks.now.items in
    let place = c.loop-place.place in
    let f = disowned c.args.owner in
    let long : length c.loop-place.asks.items ≡ length old = ap length c.loop-place.invariant ∙ changed_length f old place in
    let within : place < length old = omega (arith, c.loop-place-test.true, c.len-place-end.ensures, c.args.asks.now.ok.0) in
    elim c.match-get_mut.branch [
      | in-Some w ↦
          ap (λ q. q.items) w.asks-is
          ∙ ap (λ (x : Ask). set c.loop-place.asks.items place x) w.disown.ensures
          ∙ ap (λ (l : List Ask). set l place (f w.in-Some.ask.now)) c.loop-place.invariant
          ∙ changed_next f old place w.in-Some.ask.now within
          (subst (λ (l : List Ask). w.in-Some.ask.now ≡ get_or l place w.in-Some.ask.now) c.loop-place.invariant w.in-Some.ensures.value)
      | in_default w ↦ absurd (false≢true (w.in_default.ensures.variant.1 (omega (arith, within, long, c.loop-place.asks.ok.0))))
    ]
