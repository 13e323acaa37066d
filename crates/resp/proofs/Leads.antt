-- First bytes of numbers.
use Rattle.std.proofs.Common.{◌≡◌, ◌<◌, ◌≤◌, ◌-◌, ◌^◌, ℕ, Bool, true, false, cond, eqb, Option, Some, None, Result, Ok, Err, refl, ap, subst, ◌∙◌, arith}
use Rattle.std.specs.Char.{digit_value}
use Rattle.std.proofs.lemmas.Bool.{eqb-true, ne_eqb}
use Rattle.resp.specs.declared.fault.Wrong.{Wrong}
use Rattle.resp.specs.declared.limits.Limits.{Limits}
use Rattle.resp.specs.declared.items.Lead.{Lead}
use Rattle.resp.specs.declared.items.Lead.TheVariants as lead
use Rattle.resp.specs.Reading.{digit_step, with_digit, lead_of, bulk_lead}
use Rattle.resp.proofs.Numbers.{digit_stepped}

-- after a first digit there is one digit
pub one_digit : (limits : Limits) (most c : ℕ) (s : ℕ × ℕ) → digit_step limits most (0, 0) c ≡ Ok s → s ≡ (s.0, 1)
one_digit limits most c s e =
    let d = digit_stepped limits most (0, 0) c s e in
    ap (λ (n : ℕ). (s.0, n)) (ap (λ (x : ℕ × ℕ). x.1) d.next_is)

first_is : (limits : Limits) (most c : ℕ) (s : ℕ × ℕ) (value : ℕ) → digit_step limits most (0, 0) c ≡ Ok s → s.0 ≡ value → digit_step limits most (0, 0) c ≡ Ok (value, 1)
first_is limits most c s value e v = e ∙ ap passed (one_digit limits most c s e ∙ ap (λ (n : ℕ). (n, 1)) v)
  where
    passed : ℕ × ℕ → Result (ℕ × ℕ) Wrong
    passed x = Ok x

pub no_sign : (limits : Limits) (most c : ℕ) (s : ℕ × ℕ) (sign : ℕ) → 10 ≤ digit_value sign → digit_step limits most (0, 0) c ≡ Ok s → eqb c sign ≡ false
no_sign limits most c s sign high e =
    let d = digit_stepped limits most (0, 0) c s e in
    ne_eqb c sign (λ same. let small : digit_value sign < 10 = subst (λ n. digit_value n < 10) same d.digit in omega (arith, small, high))

abbrev pub LeadFacts : Limits → ℕ → Lead → Type 0
LeadFacts limits c lead.Plus = c ≡ 43
LeadFacts limits c lead.Minus = c ≡ 45
LeadFacts limits c (lead.Digit value) = digit_step limits (2 ^ 63 - 1) (0, 0) c ≡ Ok (value, 1)

digit_lead : (limits : Limits) (c : ℕ) (j : Result (ℕ × ℕ) Wrong) (l : Lead) → digit_step limits (2 ^ 63 - 1) (0, 0) c ≡ j → with_digit (λ s. lead.Digit s.0) j ≡ Ok l → LeadFacts limits c l
digit_lead limits c (Ok s) (lead.Digit value) e h = first_is limits (2 ^ 63 - 1) c s value e (value_is s.0 value h)
  where
    value_is : (a b : ℕ) → ◌≡◌ {A = Result Lead Wrong} (Ok (lead.Digit a)) (Ok (lead.Digit b)) → a ≡ b
    value_is a b h = cc
digit_lead limits c (Ok s) lead.Plus e h = absurd cc
digit_lead limits c (Ok s) lead.Minus e h = absurd cc
digit_lead limits c (Err w) l e h = absurd cc

pub lead_is : (limits : Limits) (c : ℕ) (l : Lead) → lead_of limits c ≡ Ok l → LeadFacts limits c l
unfolding lead_of
lead_is limits c l e = go (eqb c 43) (eqb c 45) refl refl e
  where
    go : (a b : Bool) → eqb c 43 ≡ a → eqb c 45 ≡ b
        → ◌≡◌ {A = Result Lead Wrong} (cond a (Ok lead.Plus) (cond b (Ok lead.Minus) (with_digit (λ s. lead.Digit s.0) (digit_step limits (2 ^ 63 - 1) (0, 0) c)))) (Ok l) → LeadFacts limits c l
    go true b p q h = subst (λ x. LeadFacts limits c x) (same lead.Plus l h) (eqb-true c 43 p)
      where
        same : (x y : Lead) → ◌≡◌ {A = Result Lead Wrong} (Ok x) (Ok y) → x ≡ y
        same x y h = cc
    go false true p q h = subst (λ x. LeadFacts limits c x) (same lead.Minus l h) (eqb-true c 45 q)
      where
        same : (x y : Lead) → ◌≡◌ {A = Result Lead Wrong} (Ok x) (Ok y) → x ≡ y
        same x y h = cc
    go false false p q h = digit_lead limits c (digit_step limits (2 ^ 63 - 1) (0, 0) c) l refl h

pub lead-digit : (limits : Limits) (c : ℕ) (s : ℕ × ℕ) → digit_step limits (2 ^ 63 - 1) (0, 0) c ≡ Ok s → lead_of limits c ≡ Ok (lead.Digit s.0)
unfolding lead_of
lead-digit limits c s e =
    rw (no_sign limits (2 ^ 63 - 1) c s 43 (omega arith) e, no_sign limits (2 ^ 63 - 1) c s 45 (omega arith) e, e) refl

-- the same of a bulk string's length, where a minus may stand
abbrev pub BulkFacts : Limits → ℕ → Option ℕ → Type 0
BulkFacts limits c None = c ≡ 45
BulkFacts limits c (Some value) = digit_step limits limits.bulk (0, 0) c ≡ Ok (value, 1)

digit_bulk : (limits : Limits) (c : ℕ) (j : Result (ℕ × ℕ) Wrong) (l : Option ℕ) → digit_step limits limits.bulk (0, 0) c ≡ j → with_digit (λ s. Some s.0) j ≡ Ok l → BulkFacts limits c l
digit_bulk limits c (Ok s) (Some value) e h = first_is limits limits.bulk c s value e (value_is s.0 value h)
  where
    value_is : (a b : ℕ) → ◌≡◌ {A = Result (Option ℕ) Wrong} (Ok (Some a)) (Ok (Some b)) → a ≡ b
    value_is a b h = cc
digit_bulk limits c (Ok s) None e h = absurd cc
digit_bulk limits c (Err w) l e h = absurd cc

pub bulk_lead_is : (limits : Limits) (c : ℕ) (l : Option ℕ) → bulk_lead limits c ≡ Ok l → BulkFacts limits c l
unfolding bulk_lead
bulk_lead_is limits c l e = go (eqb c 45) refl e
  where
    go : (b : Bool) → eqb c 45 ≡ b
        → ◌≡◌ {A = Result (Option ℕ) Wrong} (cond b (Ok None) (with_digit (λ s. Some s.0) (digit_step limits limits.bulk (0, 0) c))) (Ok l) → BulkFacts limits c l
    go true q h = subst (λ x. BulkFacts limits c x) (same None l h) (eqb-true c 45 q)
      where
        same : (x y : Option ℕ) → ◌≡◌ {A = Result (Option ℕ) Wrong} (Ok x) (Ok y) → x ≡ y
        same x y h = cc
    go false q h = digit_bulk limits c (digit_step limits limits.bulk (0, 0) c) l refl h

pub bulk-digit : (limits : Limits) (c : ℕ) (s : ℕ × ℕ) → digit_step limits limits.bulk (0, 0) c ≡ Ok s → bulk_lead limits c ≡ Ok (Some s.0)
unfolding bulk_lead
bulk-digit limits c s e = rw (no_sign limits limits.bulk c s 45 (omega arith) e, e) refl

pub bulk-minus : (limits : Limits) → bulk_lead limits 45 ≡ Ok None
unfolding bulk_lead
bulk-minus limits = refl

pub lead-plus : (limits : Limits) → lead_of limits 43 ≡ Ok lead.Plus
unfolding lead_of
lead-plus limits = refl

pub lead-minus : (limits : Limits) → lead_of limits 45 ≡ Ok lead.Minus
unfolding lead_of
lead-minus limits = refl
