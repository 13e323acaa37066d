-- What is put for an upload.
use Rattle.std.proofs.Common.{◌≡◌, ℕ, ◌<◌, ◌≤◌, List, [], length, map, ◌∙◌, take, Bool, true, false, cond, Option, Some, Result, Ok, Err, refl, sym, ap, ◌∙◌, subst, arith}
use Rattle.std.specs.Prelude.{All}
use Rattle.std.specs.Prelude.{◌==◌, ◌&&◌, nat_lt, slice_get, unwrap_or, IfErr}
use Rattle.std.specs.Ordering.{eq_by_cmp, nat_cmp}
use Rattle.std.specs.Cmp.Lexicographic.{slice_cmp}
use Rattle.std.proofs.lemmas.Bool.{le-ltb}
use Rattle.share_store.specs.Shares.{ShareKey}
use Rattle.grid.specs.Standing.{Standing}
use Rattle.grid.specs.Placement.{server_of, placed}
use Rattle.std.specs.List.{range_with_len}
use Rattle.std.proofs.lemmas.List.{length-map}
use Rattle.std.proofs.lemmas.List.Elements.{All-map}
use Rattle.std.proofs.lemmas.List.FromFn.{length-map-range_with_len, get_or-map-range_with_len}
use Rattle.std.proofs.lemmas.Option.{slice_get-map, slice_get_within, get_or_from_slice_get}
use Rattle.std.specs.Option.{option_map}
use Rattle.tag_hash.specs.Tagged.{tagged16}
use Rattle.aes_ctr.specs.Crypt.{crypt}
use Rattle.share_codec.specs.Params.{ParamsValue}
use Rattle.share_codec.specs.Shares.{share, ueb_hash}
use Rattle.caps.specs.Fields.{ReadValue}
use Rattle.chk_file.specs.Upload.{Upload, params, key_of, crypttext_of, fields, share_of, shares_of}
use Rattle.file_shares.specs.KeyTag.{key_tag}
use Rattle.file_shares.proofs.Goods.{from_images}

-- what a law of shares says
abbrev pub SharesSome : Type 0
SharesSome = (p : ParamsValue) (crypttext : List ℕ) (i : ℕ) → 0 < length (share p crypttext i)

module _ (u : Upload) (p : ParamsValue) (is : p ≡ params u) where
  abbrev key : List ℕ
  key = tagged16 (key_tag p u.secret) u.bytes

  pub fields_are : ◌≡◌ {A = ReadValue} (record { key = key; ueb = ueb_hash p (crypt key u.bytes); k = p.k; n = p.n; size = p.size }) (fields u)
  unfolding key_of crypttext_of
  fields_are = λ i. record {
    key = tagged16 (key_tag (is i) u.secret) u.bytes;
    ueb = ueb_hash (is i) (crypt (tagged16 (key_tag (is i) u.secret) u.bytes) u.bytes);
    k = (is i).k;
    n = (is i).n;
    size = (is i).size;
  }

  pub shares_are : map (λ i. share p (crypt key u.bytes) i) (range_with_len 0 p.n) ≡ shares_of u
  unfolding key_of crypttext_of
  shares_are = λ j. map (λ i. share (is j) (crypt (tagged16 (key_tag (is j) u.secret) u.bytes) u.bytes) i) (range_with_len 0 (is j).n)

module _ {X : Type 0} (bytes : X → List ℕ) (lent : List X) (u : Upload) (is : map bytes lent ≡ shares_of u) where
  pub none_empty : SharesSome → All (λ share. 0 < length (bytes share)) lent
  none_empty share_some =
      from_images (λ s. 0 < length s) bytes lent
      (subst (All (λ (s : List ℕ). 0 < length s)) (sym is) (All-map (λ (s : List ℕ). 0 < length s) (share (params u) (crypttext_of u)) (range_with_len 0 u.n) (λ k d below. share_some (params u) (crypttext_of u) _)))

  pub few_shares : u.n ≤ 256 → length lent ≤ 256
  few_shares few = let a = length-map lent bytes in let b = ap length is in let d = length-map-range_with_len (share (params u) (crypttext_of u)) 0 u.n in omega arith

  -- each number is that of one of them
  pub there_too : (i : ℕ) → i < u.n → i < length lent
  there_too i below = let a = length-map lent bytes in let b = ap length is in let d = length-map-range_with_len (share_of u) 0 u.n in omega arith

  -- the share at a place
  pub share_at : (i : ℕ) (x : X) → slice_get lent i ≡ Some x → bytes x ≡ share_of u i
  share_at i x e =
      let found : slice_get (shares_of u) i ≡ Some (bytes x) = ap (λ (ss : List (List ℕ)). slice_get ss i) (sym is) ∙ slice_get-map bytes lent i ∙ ap (option_map bytes) e in
      let long : length (shares_of u) ≡ u.n = length-map-range_with_len (share_of u) 0 u.n in
      let inside : i < u.n = (let h = slice_get_within (shares_of u) i (bytes x) found in omega arith) in
      sym (get_or_from_slice_get (shares_of u) i (bytes x) [] found) ∙ get_or-map-range_with_len (share_of u) 0 u.n i i [] inside (omega arith)

-- ---- a put that was stopped

nothing_here : (a b : Bool) (i : ℕ) (new old : Option (List ℕ)) → cond (a && nat_lt i 0 && b) new old ≡ old
nothing_here true b i new old = ap (λ t. cond (t && b) new old) (le-ltb i 0 (omega arith))
nothing_here false b i new old = refl

-- before the first share nothing was put
pub nothing_put : (count : ℕ) (si : List ℕ) (shares : List (List ℕ)) (before : Standing) → before ≡ placed count si (take 0 shares) before
nothing_put count si shares before =
    let point : (s : ℕ) (q : ShareKey) → before s q ≡ placed count si (take 0 shares) before s q = λ s q.
    sym (nothing_here (eq_by_cmp (slice_cmp nat_cmp) q.0 si) (s == server_of count si q.1) q.1 (Some (unwrap_or (before s q) (unwrap_or (slice_get (take 0 shares) q.1) []))) (before s q)) in
    λ j s q. point s q j

pub whatever_error : {T E : Type 0} (r : Result T E) (P : Type 0) → P → IfErr r (λ _. P)
whatever_error (Ok x) P p = tt
whatever_error (Err e) P p = p

error_in : {T E : Type 0} → E → Result T E → E
error_in d (Ok x) = d
error_in d (Err e) = e

pub same_error : {T E : Type 0} (x y : E) → ◌≡◌ {A = Result T E} (Err x) (Err y) → x ≡ y
unfolding error_in
same_error x y e = ap (error_in x) e
