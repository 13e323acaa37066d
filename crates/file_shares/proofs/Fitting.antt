-- What the first k good shares give.
use Rattle.std.proofs.Common.{◌≡◌, ℕ, zero, suc, ◌+◌, ◌<◌, ◌≤◌, ◌++◌, min, List, [], ◌∷◌, length, take, drop, Bool, true, false, cond, Some, None, refl, sym, ap, ◌∙◌, arith, length-take}
use Rattle.std.specs.Prelude.{nat_le}
use Rattle.std.proofs.lemmas.Bool.{leb-true, le-leb, lt-leb}
use Rattle.std.proofs.lemmas.Option.{none-some, same_Some}
use Rattle.std.proofs.lemmas.List.{take_at, take-append-le, length-append}
use Rattle.aes_ctr.specs.Crypt.{crypt}
use Rattle.share_codec.specs.Params.{ParamsValue}
use Rattle.share_codec.specs.GoodShare.{GoodShare}
use Rattle.file_shares.specs.Fit.{crypttext_from, are_shares_of, given_by, fit_in}

never_some : (b : Bool) (x : List ℕ) → None ≡ cond b (Some x) None → b ≡ false
never_some true x e = absurd (none-some x e)
never_some false x e = refl

module _ (p : ParamsValue) (key : List ℕ) (goods shares : List GoodShare) (is : shares ≡ take p.k goods) where
  long : length shares ≡ min p.k (length goods)
  long = ap length is ∙ length-take p.k goods

  pub too_few : length shares < p.k → fit_in p key goods ≡ None
  too_few less = let h = long in ap (λ b. cond b (given_by p key (take p.k goods)) None) (lt-leb p.k (length goods) (omega arith))

  enough : p.k ≤ length shares → fit_in p key goods ≡ given_by p key shares
  enough many =
      let h = long in
      ap (λ b. cond b (given_by p key (take p.k goods)) None) (le-leb p.k (length goods) (omega arith)) ∙ ap (given_by p key) (sym is)

  pub not_of : p.k ≤ length shares → None ≡ cond (are_shares_of p (crypttext_from p shares) shares) (Some (crypttext_from p shares)) None → fit_in p key goods ≡ None
  not_of many e =
      enough many ∙ ap (λ b. cond b (Some (crypt key (crypttext_from p shares))) None) (never_some (are_shares_of p (crypttext_from p shares) shares) (crypttext_from p shares) e)

  pub of_bytes : (bytes : List ℕ) → p.k ≤ length shares → Some bytes ≡ cond (are_shares_of p (crypttext_from p shares) shares) (Some (crypttext_from p shares)) None → fit_in p key goods ≡ Some (crypt key bytes)
  of_bytes bytes many e = enough many ∙ by_case (are_shares_of p (crypttext_from p shares) shares) e
    where
      by_case : (b : Bool) → Some bytes ≡ cond b (Some (crypttext_from p shares)) None → cond b (Some (crypt key (crypttext_from p shares))) None ≡ Some (crypt key bytes)
      by_case true e = ap (λ c. Some (crypt key c)) (sym (same_Some bytes (crypttext_from p shares) e))
      by_case false e = absurd (none-some bytes (sym e))

-- what the first of some good shares give all of them give
pub given_by_all : (p : ParamsValue) (key : List ℕ) (goods more : List GoodShare) (bytes : List ℕ) → fit_in p key goods ≡ Some bytes → fit_in p key (goods ++ more) ≡ Some bytes
given_by_all p key goods more bytes found = by_case (nat_le p.k (length goods)) refl found
  where
    by_case : (b : Bool) → nat_le p.k (length goods) ≡ b → cond b (given_by p key (take p.k goods)) None ≡ Some bytes → fit_in p key (goods ++ more) ≡ Some bytes
    by_case true is e =
        let many : p.k ≤ length goods = leb-true p.k (length goods) is in
        let more_too : p.k ≤ length (goods ++ more) = (let long = length-append goods more in omega arith) in
        ap (λ b. cond b (given_by p key (take p.k (goods ++ more))) None) (le-leb p.k (length (goods ++ more)) more_too)
        ∙ ap (given_by p key) (take-append-le p.k goods more many)
        ∙ e
    by_case false is e = absurd (none-some bytes e)

pub take-past : (xs ys : List ℕ) (n : ℕ) → take (length xs + n) (xs ++ ys) ≡ xs ++ take n ys
take-past [] ys n = let e : zero + n ≡ n = omega arith in ap (λ m. take m ys) e
take-past (x ∷ xs) ys n =
    let e : suc (length xs) + n ≡ suc (length xs + n) = omega arith in
    ap (λ m. take m (x ∷ (xs ++ ys))) e ∙ ap (λ zs. x ∷ zs) (take-past xs ys n)

pub drop-past : (xs ys : List ℕ) (n : ℕ) → drop (length xs + n) (xs ++ ys) ≡ drop n ys
drop-past [] ys n = let e : zero + n ≡ n = omega arith in ap (λ m. drop m ys) e
drop-past (x ∷ xs) ys n =
    let e : suc (length xs) + n ≡ suc (length xs + n) = omega arith in
    ap (λ m. drop m (x ∷ (xs ++ ys))) e ∙ drop-past xs ys n

-- a test that gives something gave what it gives
pub found_is : (b : Bool) (x y : List ℕ) → Some x ≡ cond b (Some y) None → x ≡ y
found_is true x y e = same_Some x y e
found_is false x y e = absurd (none-some x (sym e))

-- bytes that are written back over all bytes
pub written_back : (old new : List ℕ) (n : ℕ) → length new ≡ length old → n ≡ length old → take n (new ++ drop (length new) old) ≡ new
written_back old new n long e = take_at new (drop (length new) old) n (long ∙ sym e)
