use Rattle.std.proofs.Common.{◌≡◌, ◌<◌, ◌≤◌, ℕ, List, Bor, Vec, Global, Err, IfOk, All, length, map, take, ap, ◌∙◌, subst}
use Rattle.std.proofs.lemmas.List.{length-take-le}
use Rattle.std.proofs.lemmas.Result.{err_from_is_err_and}
use Rattle.erasure.specs.Code.{IsBlock}
use Rattle.erasure.specs.Blocks.{size_of, primary_from}
use Rattle.erasure.specs.declared.fault.CodeFault.TheVariants.{TooFew, Repeated, UnequalLength, NoMemory}
use Rattle.erasure.specs.Given.{numbered_of, numbers_of, blocks_of, AreNumbers, HaveOneLength}
use Rattle.erasure.proofs.Decoding.{if_ok, length-numbered_of, decoded_blocks}
use Rattle.erasure.proofs.Refused.{handed_on, not_refused, another, if_ok_none, on_ok_none, on_ok_any, if_err_one, only_weaker, all_taken}
use Rattle.erasure.proofs.code.Code.decode.Goals as goal

refusal : (c : goal.After-from_residual) → c.from_residual.result ≡ Err c.in_err-given.field-0.0
refusal c = let p = err_from_is_err_and c.from_residual.result c.from_residual.ensures.1 in p.1 ∙ ap Err p.2

pub returns-in_err-given-clause-primary : goal.returns-in_err-given-clause-primary
returns-in_err-given-clause-primary c = if_ok_none _ c.from_residual.result c.in_err-given.field-0.0 (refusal c)

pub returns-in_err-given-clause-code : goal.returns-in_err-given-clause-code
returns-in_err-given-clause-code c bytes = if_ok_none _ c.from_residual.result c.in_err-given.field-0.0 (refusal c)

pub returns-in_err-given-clause-too_few : goal.returns-in_err-given-clause-too_few
returns-in_err-given-clause-too_few c = handed_on c.from_residual.result c.in_err-given.field-0.0 TooFew (refusal c) c.in_err-given.ensures.too_few

pub returns-in_err-given-clause-repeated : goal.returns-in_err-given-clause-repeated
returns-in_err-given-clause-repeated c = handed_on c.from_residual.result c.in_err-given.field-0.0 Repeated (refusal c) c.in_err-given.ensures.repeated

pub returns-in_err-given-clause-unequal : goal.returns-in_err-given-clause-unequal
returns-in_err-given-clause-unequal c = handed_on c.from_residual.result c.in_err-given.field-0.0 UnequalLength (refusal c) c.in_err-given.ensures.unequal

pub returns-in_err-given-clause-no_other : goal.returns-in_err-given-clause-no_other
returns-in_err-given-clause-no_other c = if_err_one c.from_residual.result c.in_err-given.field-0.0 _ (refusal c) c.in_err-given.ensures.no_other.0

pub returns-in_err-given-clause-taken : goal.returns-in_err-given-clause-taken
returns-in_err-given-clause-taken c = on_ok_none _ c.from_residual.result c.in_err-given.field-0.0 (refusal c)

given_taken : (c : goal.In_ok-given) → (0 < length c.in_ok-given.given.now) × (length c.in_ok-given.given.now ≤ 256)
    × AreNumbers (numbers_of (numbered_of c.in_ok-given.given.now)) × HaveOneLength (blocks_of (numbered_of c.in_ok-given.given.now))
given_taken c = all_taken c.in_ok-given.given.now c.args.self.now.k c.args.blocks.now c.in_ok-given.ensures.given c.in_ok-given.ensures.taken

pub new-requires-clause-some : goal.new-requires-clause-some
new-requires-clause-some c = (given_taken c).0

pub new-requires-clause-few : goal.new-requires-clause-few
new-requires-clause-few c = (given_taken c).1

pub new-requires-clause-numbers : goal.new-requires-clause-numbers
new-requires-clause-numbers c = (given_taken c).2

pub new-requires-clause-one_length : goal.new-requires-clause-one_length
new-requires-clause-one_length c = (given_taken c).3

no_memory : (c : goal.After-from_residual-in_err-new) → c.from_residual-in_err-new.result ≡ Err NoMemory
no_memory c = let p = err_from_is_err_and c.from_residual-in_err-new.result c.from_residual-in_err-new.ensures.1 in p.1 ∙ ap Err (p.2 ∙ c.in_err-new.ensures.only_memory)

pub returns-in_err-new-clause-primary : goal.returns-in_err-new-clause-primary
returns-in_err-new-clause-primary c = if_ok_none _ c.from_residual-in_err-new.result NoMemory (no_memory c)

pub returns-in_err-new-clause-code : goal.returns-in_err-new-clause-code
returns-in_err-new-clause-code c bytes = if_ok_none _ c.from_residual-in_err-new.result NoMemory (no_memory c)

pub returns-in_err-new-clause-too_few : goal.returns-in_err-new-clause-too_few
returns-in_err-new-clause-too_few c = not_refused c.from_residual-in_err-new.result c.in_ok-given.given TooFew (λ q. let e = no_memory c in cc) c.in_ok-given.ensures.too_few

pub returns-in_err-new-clause-repeated : goal.returns-in_err-new-clause-repeated
returns-in_err-new-clause-repeated c = not_refused c.from_residual-in_err-new.result c.in_ok-given.given Repeated (λ q. let e = no_memory c in cc) c.in_ok-given.ensures.repeated

pub returns-in_err-new-clause-unequal : goal.returns-in_err-new-clause-unequal
returns-in_err-new-clause-unequal c = not_refused c.from_residual-in_err-new.result c.in_ok-given.given UnequalLength (λ q. let e = no_memory c in cc) c.in_ok-given.ensures.unequal

pub returns-in_err-new-clause-no_other : goal.returns-in_err-new-clause-no_other
returns-in_err-new-clause-no_other c = if_err_one c.from_residual-in_err-new.result NoMemory _ (no_memory c) (λ e. cc)

pub returns-in_err-new-clause-taken : goal.returns-in_err-new-clause-taken
returns-in_err-new-clause-taken c = on_ok_none _ c.from_residual-in_err-new.result NoMemory (no_memory c)

pub returns-clause-primary : goal.returns-clause-primary
returns-clause-primary c =
    let given : List (ℕ × Bor (List ℕ)) = take c.args.self.now.k c.args.blocks.now in
    let known : c.in_ok-new.field-0 ≡ numbered_of given = c.in_ok-new.ensures.known ∙ ap numbered_of c.in_ok-given.ensures.given in
    let long : length given ≡ c.args.self.now.k = length-take-le c.args.self.now.k c.args.blocks.now c.in_ok-given.ensures.taken.2 in
    subst (λ (p : List (List ℕ)). IfOk c.primary-2.result (λ v. map (λ (b : Vec ℕ Global). b.items) v.items ≡ p))
    (ap (λ (g : List (ℕ × List ℕ)). primary_from (length g) g) known
    ∙ ap (λ (k : ℕ). primary_from k (numbered_of given)) (length-numbered_of given ∙ long))
    c.primary-2.ensures.primary

pub returns-clause-code : goal.returns-clause-code
returns-clause-code c bytes =
    let given : List (ℕ × Bor (List ℕ)) = take c.args.self.now.k c.args.blocks.now in
    let known : c.in_ok-new.field-0 ≡ numbered_of given = c.in_ok-new.ensures.known ∙ ap numbered_of c.in_ok-given.ensures.given in
    let whole : primary_from (length c.in_ok-new.field-0) c.in_ok-new.field-0 ≡ primary_from (length given) (numbered_of given) =
    ap (λ (g : List (ℕ × List ℕ)). primary_from (length g) g) known
    ∙ ap (λ (k : ℕ). primary_from k (numbered_of given)) (length-numbered_of given) in
    if_ok c.primary-2.result (λ v. map (λ (b : Vec ℕ Global). b.items) v.items ≡ primary_from (length c.in_ok-new.field-0) c.in_ok-new.field-0)
    (λ v. All (λ g. IsBlock (map (λ (b : Vec ℕ Global). b.items) v.items) (size_of (blocks_of (numbered_of given))) g.0 g.1) (numbered_of given))
    (λ v e. decoded_blocks given (map (λ (b : Vec ℕ Global). b.items) v.items) bytes (e ∙ whole)
    (c.in_ok-given.ensures.taken.3, c.in_ok-given.ensures.taken.4))
    c.primary-2.ensures.primary

pub returns-clause-too_few : goal.returns-clause-too_few
returns-clause-too_few c = not_refused c.primary-2.result c.in_ok-given.given TooFew (another c.primary-2.result NoMemory TooFew c.primary-2.ensures.only_memory (λ e. cc)) c.in_ok-given.ensures.too_few

pub returns-clause-repeated : goal.returns-clause-repeated
returns-clause-repeated c = not_refused c.primary-2.result c.in_ok-given.given Repeated (another c.primary-2.result NoMemory Repeated c.primary-2.ensures.only_memory (λ e. cc)) c.in_ok-given.ensures.repeated

pub returns-clause-unequal : goal.returns-clause-unequal
returns-clause-unequal c = not_refused c.primary-2.result c.in_ok-given.given UnequalLength (another c.primary-2.result NoMemory UnequalLength c.primary-2.ensures.only_memory (λ e. cc)) c.in_ok-given.ensures.unequal

pub returns-clause-no_other : goal.returns-clause-no_other
returns-clause-no_other c = only_weaker c.primary-2.result NoMemory _ c.primary-2.ensures.only_memory (λ e. cc)

pub returns-clause-taken : goal.returns-clause-taken
returns-clause-taken c = on_ok_any c.primary-2.result (c.in_ok-given.ensures.taken.2, c.in_ok-given.ensures.taken.3.distinct, c.in_ok-given.ensures.taken.4)
