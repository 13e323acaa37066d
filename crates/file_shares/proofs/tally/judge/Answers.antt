use Rattle.std.proofs.Common.{ℕ, ◌++◌, ◌∷◌, [], List, take, true, false, sym, ap, ◌∙◌}
use Rattle.std.proofs.Math.Bool.{or-true, or-false}
use Rattle.std.proofs.lemmas.List.{append-nil, append_assoc}
use Rattle.share_codec.specs.GoodShare.{good_share}
use Rattle.file_shares.specs.Check.{bad_places, good_places}
use Rattle.file_shares.specs.Gathered.{places_of}
use Rattle.file_shares.proofs.Counts.{any_more, corrupt_more, places_more}
use Rattle.file_shares.proofs.tally.judge.Goals as goal
use Rattle.file_shares.proofs.tally.judge.Goals.{then-is_some+in_ok-push, else-is_some+in_ok-push-2}

pub loop-server-preserved : goal.loop-server-preserved
loop-server-preserved c =
    let p = c.args.params.now in
    let ueb = c.args.ueb.now in
    let number = c.args.number in
    let lent : List (ℕ × List ℕ) = c.args.found.now in
    let at : ℕ = c.loop-server.server-index in
    let item : ℕ × List ℕ = c.loop-server-item.result in
    let old : List (ℕ × ℕ) = c.args.corrupt.now.items in
    let bad : List (ℕ × ℕ) = bad_places p ueb number (places_of (take at lent)) in
    let before = c.loop-server.invariant.corrupt in
    let kept : List (ℕ × ℕ) = c.args.places.now.items in
    let fit : List (ℕ × ℕ) = good_places p ueb number (places_of (take at lent)) in
    let placed = c.loop-server.invariant.places in
    let judged = c.in_ok-good.ensures ∙ ap (λ b. good_share b number p ueb) c.bytes.ensures
    ∙ ap (λ (place : ℕ × List ℕ). good_share place.1 number p ueb) c.loop-server-item.is in
    elim c.if-is_some.branch [
      | then-is_some+in_ok-push w ↦
          let some = sym c.is_some.ensures ∙ w.if-is_some.true in
          record {
            any = w.any-is ∙ sym (any_more p ueb number lent at item c.loop-server-test.true c.in_ok-good.field-0 judged true some ∙ or-true _);
            corrupt = ap (λ v. v.items) w.corrupt-is ∙ before
                ∙ ap (λ ys. old ++ ys)
                (sym (corrupt_more p ueb number lent at item c.loop-server-test.true c.in_ok-good.field-0 judged true some ∙ append-nil _));
            places = ap (λ v. v.items) w.places-is ∙ w.in_ok-push.ensures.items ∙ ap (λ (ys : List (ℕ × ℕ)). ys ++ (item.0, number) ∷ []) placed
                ∙ append_assoc kept fit ((item.0, number) ∷ [])
                ∙ ap (λ (place : ℕ × List ℕ). kept ++ (fit ++ (place.0, number) ∷ [])) c.loop-server-item.is
                ∙ ap (λ ys. kept ++ ys)
                (sym (places_more p ueb number lent at item c.loop-server-test.true c.in_ok-good.field-0 judged true some));
          }
      | else-is_some+in_ok-push-2 w ↦
          let some = sym c.is_some.ensures ∙ w.if-is_some.false in
          record {
            any = w.any-is ∙ c.loop-server.invariant.any
                ∙ sym (any_more p ueb number lent at item c.loop-server-test.true c.in_ok-good.field-0 judged false some ∙ or-false _);
            corrupt = ap (λ v. v.items) w.corrupt-is ∙ w.in_ok-push-2.ensures.items ∙ ap (λ (ys : List (ℕ × ℕ)). ys ++ (item.0, number) ∷ []) before
                ∙ append_assoc old bad ((item.0, number) ∷ [])
                ∙ ap (λ (place : ℕ × List ℕ). old ++ (bad ++ (place.0, number) ∷ [])) c.loop-server-item.is
                ∙ ap (λ ys. old ++ ys)
                (sym (corrupt_more p ueb number lent at item c.loop-server-test.true c.in_ok-good.field-0 judged false some));
            places = ap (λ v. v.items) w.places-is ∙ placed
                ∙ ap (λ ys. kept ++ ys)
                (sym (places_more p ueb number lent at item c.loop-server-test.true c.in_ok-good.field-0 judged false some ∙ append-nil _));
          }
    ]
