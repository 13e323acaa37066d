-- What statuses say.
use Rattle.std.proofs.Common.{◌≡◌, ◌≢◌, ℕ, zero, suc, ◌<◌, [], ◌∷◌, refl, sym, arith}
use Rattle.std.specs.Prelude.{Contains}
use Rattle.s3_sign.specs.declared.request.Method.{Method}
use Rattle.s3_sign.specs.declared.request.Method.TheVariants as methods
use Rattle.s3_requests.specs.RequestHeads.{ask_method}
use Rattle.s3_requests.specs.ReplyAnswers.{IsAnswerStatus, put_statuses}
use Rattle.s3_requests.specs.declared.answers.ObjectAnswer.{ObjectAnswer}
use Rattle.s3_requests.specs.declared.answers.ObjectAnswer.TheVariants.{Done, Stands, Nothing}
use Rattle.s3_requests.specs.declared.asks.ObjectAsk.{ObjectAsk}
use Rattle.s3_requests.specs.declared.asks.ObjectAsk.TheVariants as asks

-- which is none that puts
abbrev IsOther : Method → Type 0
IsOther methods.Put = ⊥
IsOther _ = Unit {0}

the_one : (x status : ℕ) → Contains (x ∷ []) status → status ≡ x
the_one x status (zero, h, e) = sym e
the_one x status (suc k, h, e) = absurd (omega (arith, h))

no_one : (status : ℕ) → Contains [] status → ⊥
no_one status h = omega (arith, h.1)

put_small : (status : ℕ) → Contains put_statuses status → status < 300
put_small status (zero, h, e) = omega (arith, e)
put_small status (suc zero, h, e) = omega (arith, e)
put_small status (suc (suc zero), h, e) = omega (arith, e)
put_small status (suc (suc (suc k)), h, e) = absurd (omega (arith, h))

lost_small : (status : ℕ) → Contains (200 ∷ 204 ∷ []) status → status < 300
lost_small status (zero, h, e) = omega (arith, e)
lost_small status (suc zero, h, e) = omega (arith, e)
lost_small status (suc (suc k), h, e) = absurd (omega (arith, h))

done_stands : (asked : ObjectAsk) (status : ℕ) → IsAnswerStatus Done asked status → IsAnswerStatus Stands asked status → ⊥
done_stands asks.Get status a b = no_one status a
done_stands asks.Head status a b = no_one status a
done_stands asks.Delete status a b = no_one status b
done_stands (asks.PutOnce n) status a b = omega (arith, put_small status a, the_one 412 status b)
done_stands (asks.PutOver n) status a b = no_one status b

done_nothing : (asked : ObjectAsk) (status : ℕ) → IsAnswerStatus Done asked status → IsAnswerStatus Nothing asked status → ⊥
done_nothing asks.Get status a b = no_one status a
done_nothing asks.Head status a b = no_one status a
done_nothing asks.Delete status a b = omega (arith, lost_small status a, the_one 404 status b)
done_nothing (asks.PutOnce n) status a b = no_one status b
done_nothing (asks.PutOver n) status a b = no_one status b

stands_nothing : (asked : ObjectAsk) (status : ℕ) → IsAnswerStatus Stands asked status → IsAnswerStatus Nothing asked status → ⊥
stands_nothing asks.Get status a b = omega (arith, the_one 200 status a, the_one 404 status b)
stands_nothing asks.Head status a b = omega (arith, the_one 200 status a, the_one 404 status b)
stands_nothing asks.Delete status a b = no_one status a
stands_nothing (asks.PutOnce n) status a b = no_one status b
stands_nothing (asks.PutOver n) status a b = no_one status a

pub one_answer : (one another : ObjectAnswer) (asked : ObjectAsk) (status : ℕ) → IsAnswerStatus one asked status → IsAnswerStatus another asked status → one ≡ another
one_answer Done Done asked status a b = refl
one_answer Stands Stands asked status a b = refl
one_answer Nothing Nothing asked status a b = refl
one_answer Done Stands asked status a b = absurd (done_stands asked status a b)
one_answer Stands Done asked status a b = absurd (done_stands asked status b a)
one_answer Done Nothing asked status a b = absurd (done_nothing asked status a b)
one_answer Nothing Done asked status a b = absurd (done_nothing asked status b a)
one_answer Stands Nothing asked status a b = absurd (stands_nothing asked status a b)
one_answer Nothing Stands asked status a b = absurd (stands_nothing asked status b a)

not_put : (method : Method) → IsOther method → method ≢ methods.Put
not_put methods.Get h e = cc
not_put methods.Head h e = cc
not_put methods.Delete h e = cc
not_put methods.Put h e = absurd h

pub only_404 : (asked : ObjectAsk) (status : ℕ) → IsAnswerStatus Nothing asked status → (status ≡ 404) × (ask_method asked ≢ methods.Put)
only_404 asks.Get status a = (the_one 404 status a, not_put methods.Get tt)
only_404 asks.Head status a = (the_one 404 status a, not_put methods.Head tt)
only_404 asks.Delete status a = (the_one 404 status a, not_put methods.Delete tt)
only_404 (asks.PutOnce n) status a = absurd (no_one status a)
only_404 (asks.PutOver n) status a = absurd (no_one status a)
