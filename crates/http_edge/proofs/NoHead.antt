-- Items of which the first is no request.
use Rattle.std.proofs.Common.{◌≡◌, ℕ, List, [], ◌∷◌, length, drop, Option, Some, None, sym, ap, ◌∙◌, arith}
use Rattle.std.specs.Prelude.{Result, Ok, Err, IfOk, IfNone, MatchOption}
use Rattle.std.proofs.lemmas.List.{drop_all}
use Rattle.http_edge.specs.FirstHead.{HasNoHeadFirst}
use Rattle.http_edge.specs.FramingState.{frame_read}
use Rattle.http_edge.specs.Places.{read, resume}
use Rattle.http_edge.specs.declared.item.Item.{Item}
use Rattle.http_edge.specs.declared.item.Item.TheVariants.{Request, Continue, Fault}
use Rattle.http_edge.specs.declared.place.Place.{Place}
use Rattle.http_edge.specs.declared.place.Step.TheVariants.{Next}
use Rattle.http_edge.specs.declared.verdict.Chunked.{Chunked}

-- 1 where the first one is a request
abbrev pub first_request : List Item → ℕ
first_request [] = 0
first_request (Request head body close ∷ items) = 1
first_request (Continue ∷ items) = 0
first_request (Fault fault head_only ∷ items) = 0

pub no_request : (items : List Item) → first_request items ≡ 0 → HasNoHeadFirst items
no_request items e head first =
    let one : 0 ≡ 1 = sym e ∙ ap first_request first.is in
    omega (one, arith)

-- a chunked body that goes on completes nothing
pub going_on : (a : Chunked) (place : Place) (taken : ℕ) (content bytes : List ℕ) → taken ≡ length bytes
    → first_request (frame_read a bytes (resume taken (Next place) content (drop taken bytes))) ≡ 0
unfolding read
going_on a place taken content bytes all =
    ap (λ (rest : List ℕ). first_request (frame_read a bytes (read taken content place rest))) (drop_all taken bytes (omega (all, arith)))

-- what is so where there is none
pub where_none : {A E : Type 0} (N M : Type 0) (S : A → Type 0) (r : Result (Option A) E) → (N → M) → IfOk r (λ (o : Option A). MatchOption o N S) → IfOk r (λ (o : Option A). IfNone o M)
where_none N M S (Ok None) f h = f h
where_none N M S (Ok (Some a)) f h = tt
where_none N M S (Err e) f h = tt
