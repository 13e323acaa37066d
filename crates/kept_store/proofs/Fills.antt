-- Shares put one after the other.
use Rattle.std.proofs.Common.{◌≡◌, ◌<◌, ◌≤◌, ℕ, zero, suc, ◌+◌, Bool, true, false, cond, List, [], ◌∷◌, ◌++◌, map, length, drop, Option, Some, None, is_some, refl, sym, ap, ◌∙◌, arith, add-one}
use Rattle.std.proofs.lemmas.List.{take_all, length-map}
use Rattle.std.specs.Prelude.{take, slice_get, unwrap_or}
use Rattle.std.specs.Option.{option_or}
use Rattle.std.specs.Ordering.{eq_by_cmp}
use Rattle.std.specs.FinMap.{find, get, contains_key, entries, empty, get-entries, get-empty, same_map}
use Rattle.share_store.specs.Shares.{Shares, ShareKey, ShareEntry, bytes_of, key_cmp}
use Rattle.share_store.specs.SizeLaws.{SizeLaws}
use Rattle.share_store.specs.MapLaws.{key_cmp_total, key_cmp_exact}
use Rattle.share_store.specs.Put.{put_once}
use Rattle.share_store.proofs.Nth.{more, entry_at, found_at}
use Rattle.share_store.proofs.Puts.{get-put}
use Rattle.kept_store.specs.Filled.{filled_shares, IsShareTooLong}

filled-push : (es : List ShareEntry) (e : ShareEntry) (m : Shares) → filled_shares (es ++ e ∷ []) m ≡ put_once (filled_shares es m) e.0 e.1
filled-push [] e m = refl
filled-push (x ∷ es) e m = filled-push es e (put_once m x.0 x.1)

pub one_more : (m : Shares) (i : ℕ) (key : ShareKey) (b : List ℕ) (s : Shares) → slice_get (entries m) i ≡ Some (key, b) → s ≡ filled_shares (take i (entries m)) empty
    → put_once s key b ≡ filled_shares (take (i + 1) (entries m)) empty
one_more m i key b s at is =
    let e : ShareEntry = (key, b) in
    let step : take (i + 1) (entries m) ≡ take i (entries m) ++ e ∷ [] = rw add-one (more (entries m) i e at) in
    let fill : List ShareEntry → Shares = λ es. filled_shares es empty in
    ap (λ (n : Shares). put_once n key b) is ∙ sym (filled-push (take i (entries m)) e empty) ∙ ap fill (sym step)

-- ---- all of them

get-filled : (es : List ShareEntry) (s : Shares) (q : ShareKey) → get (filled_shares es s) q ≡ option_or (get s q) (find key_cmp q es)
get-filled [] s q = by_case (get s q)
  where
    by_case : (o : Option (List ℕ)) → o ≡ option_or o None
    by_case None = refl
    by_case (Some x) = refl
get-filled (e ∷ es) s q = get-filled es (put_once s e.0 e.1) q ∙ ap (λ (o : Option (List ℕ)). option_or o (find key_cmp q es)) (get-put s e.0 e.1 q) ∙ by_case (eq_by_cmp key_cmp q e.0) (get s q)
  where
    by_case : (t : Bool) (g : Option (List ℕ)) → option_or (cond t (Some (unwrap_or g e.1)) g) (find key_cmp q es) ≡ option_or g (cond t (Some e.1) (find key_cmp q es))
    by_case true None = refl
    by_case true (Some x) = refl
    by_case false None = refl
    by_case false (Some x) = refl

pub filled_all : (m : Shares) → filled_shares (entries m) empty ≡ m
filled_all m = same_map key_cmp_total key_cmp_exact (filled_shares (entries m) empty) m (λ q.
    get-filled (entries m) empty q ∙ ap (λ (o : Option (List ℕ)). option_or o (find key_cmp q (entries m))) (get-empty key_cmp q) ∙ sym (get-entries m q))

-- the share of the next name, put beside those before it
pub next_put : (m : Shares) (names : List ShareKey) (i : ℕ) (key : ShareKey) (s n : Shares) → names ≡ map (λ (e : ShareEntry). e.0) (entries m) → slice_get names i ≡ Some key → s ≡ filled_shares (take i (entries m)) empty
    → ((b : List ℕ) → get m key ≡ Some b → n ≡ put_once s key b) → n ≡ filled_shares (take (i + 1) (entries m)) empty
next_put m names i key s n are at is put =
    let e = entry_at (entries m) i key (ap (λ (l : List ShareKey). slice_get l i) (sym are) ∙ at) in
    put e.0 (found_at m i key e.0 e.1) ∙ one_more m i key e.0 s e.1 is

-- past the last name
pub all_put : (m : Shares) (names : List ShareKey) (i : ℕ) (s : Shares) → names ≡ map (λ (e : ShareEntry). e.0) (entries m) → length names ≤ i → s ≡ filled_shares (take i (entries m)) empty → s ≡ m
all_put m names i s are past is =
    let few : length (entries m) ≤ i = omega (arith, ap (λ (l : List ShareKey). length l) are, length-map (entries m) (λ (e : ShareEntry). e.0)) in
    is ∙ ap (λ (es : List ShareEntry). filled_shares es empty) (take_all i (entries m) few) ∙ filled_all m

-- ---- their bytes

grows : SizeLaws → (es : List ShareEntry) (s : Shares) → bytes_of s ≤ bytes_of (filled_shares es s)
grows laws [] s = omega arith
grows laws (e ∷ es) s = omega (arith, laws.put s e.0 e.1, grows laws es (put_once s e.0 e.1))

filled-append : (es fs : List ShareEntry) (m : Shares) → filled_shares (es ++ fs) m ≡ filled_shares fs (filled_shares es m)
filled-append [] fs m = refl
filled-append (e ∷ es) fs m = filled-append es fs (put_once m e.0 e.1)

split : (es : List ShareEntry) (i : ℕ) → es ≡ take i es ++ drop i es
split [] zero = refl
split [] (suc i) = refl
split (e ∷ es) zero = refl
split (e ∷ es) (suc i) = ap (λ (l : List ShareEntry). e ∷ l) (split es i)

begun : SizeLaws → (m : Shares) (i : ℕ) → bytes_of (filled_shares (take i (entries m)) empty) ≤ bytes_of m
begun laws m i =
    let es : List ShareEntry = entries m in
    let whole : filled_shares (drop i es) (filled_shares (take i es) empty) ≡ m = sym (filled-append (take i es) (drop i es) empty) ∙ ap (λ (l : List ShareEntry). filled_shares l empty) (sym (split es i)) ∙ filled_all m in
    omega (arith, grows laws (drop i es) (filled_shares (take i es) empty), ap bytes_of whole)

-- where a share doesn't fit beside those before it, they all don't
pub too_many : SizeLaws → (m : Shares) (names : List ShareKey) (i : ℕ) (key : ShareKey) (s : Shares) (room held whole : ℕ) → names ≡ map (λ (e : ShareEntry). e.0) (entries m) → slice_get names i ≡ Some key
    → s ≡ filled_shares (take i (entries m)) empty → ((b : List ℕ) → get m key ≡ Some b → IsShareTooLong s room key b) → held ≡ bytes_of s → room + held ≡ whole → whole < bytes_of m
too_many laws m names i key s room held whole are at is long has sum =
    let e = entry_at (entries m) i key (ap (λ (l : List ShareKey). slice_get l i) (sym are) ∙ at) in
    let too_long : IsShareTooLong s room key e.0 = long e.0 (found_at m i key e.0 e.1) in
    let none : contains_key s key ≡ false = ap is_some too_long.0 in
    let put : bytes_of (put_once s key e.0) ≡ bytes_of s + length e.0 = laws.put s key e.0 ∙ ap (λ t. bytes_of s + (cond t 0 (length e.0))) none in
    let same : bytes_of (put_once s key e.0) ≡ bytes_of (filled_shares (take (i + 1) (entries m)) empty) = ap bytes_of (one_more m i key e.0 s e.1 is) in
    omega (arith, too_long.1, put, same, begun laws m (i + 1), has, sum)
