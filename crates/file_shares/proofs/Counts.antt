-- One number, or one place, more.
use Rattle.std.proofs.Common.{◌≡◌, ℕ, ◌+◌, ◌<◌, List, [], ◌∷◌, ◌++◌, length, take, get_or, Bool, true, false, cond, Option, Some, None, refl, sym, ap, ◌∙◌, length-append}
use Rattle.std.specs.Prelude.{filter, flat_map, is_some, option_to_list, ◌||◌}
use Rattle.std.specs.Option.{option_or}
use Rattle.std.specs.List.{range_with_len, filter_map}
use Rattle.std.proofs.lemmas.List.{append-nil, map_more}
use Rattle.std.proofs.lemmas.List.Elements.{filter-append}
use Rattle.std.proofs.lemmas.Grind.{flat_map-append}
use Rattle.share_codec.specs.Params.{ParamsValue}
use Rattle.share_codec.specs.GoodShare.{GoodShare}
use Rattle.share_codec.specs.GoodShare.{good_share}
use Rattle.file_shares.specs.Row.{ServerShare, first_good}
use Rattle.file_shares.specs.Check.{if_bad, bad_places, if_good, good_places}
use Rattle.file_shares.specs.Gathered.{places_of}
use Rattle.file_shares.proofs.Tools.{range_next, one_more}
use Rattle.file_shares.proofs.Goods.{first_more, bad_more, good_more}

-- ---- one number more

length-option : {X : Type 0} (o : Option X) (b : Bool) → is_some o ≡ b → length (option_to_list o) ≡ cond b 1 0
length-option None b e = ap (λ c. cond c 1 0) e
length-option (Some x) b e = ap (λ c. cond c 1 0) e

pub good_counted : {X : Type 0} (f : ℕ → Option X) (n : ℕ) (b : Bool) → is_some (f n) ≡ b → length (filter_map f (range_with_len 0 (n + 1))) ≡ length (filter_map f (range_with_len 0 n)) + cond b 1 0
good_counted f n b e =
    ap length (one_more f n) ∙ length-append (filter_map f (range_with_len 0 n)) (option_to_list (f n))
    ∙ ap (λ m. length (filter_map f (range_with_len 0 n)) + m) (length-option (f n) b e)

length-kept : (b : Bool) (n : ℕ) → length (cond b (n ∷ []) []) ≡ cond b 1 0
length-kept true n = refl
length-kept false n = refl

pub kept_counted : (t : ℕ → Bool) (n : ℕ) (b : Bool) → t n ≡ b → length (filter t (range_with_len 0 (n + 1))) ≡ length (filter t (range_with_len 0 n)) + cond b 1 0
kept_counted t n b e =
    ap (λ ns. length (filter t ns)) (range_next n) ∙ ap length (filter-append t (range_with_len 0 n) (n ∷ []))
    ∙ length-append (filter t (range_with_len 0 n)) (filter t (n ∷ []))
    ∙ ap (λ m. length (filter t (range_with_len 0 n)) + m) (length-kept (t n) n ∙ ap (λ c. cond c 1 0) e)

pub flat_more : {X : Type 0} (f : ℕ → List X) (n : ℕ) → flat_map f (range_with_len 0 (n + 1)) ≡ flat_map f (range_with_len 0 n) ++ f n
flat_more f n =
    ap (flat_map f) (range_next n) ∙ flat_map-append f (range_with_len 0 n) (n ∷ [])
    ∙ ap (λ ys. flat_map f (range_with_len 0 n) ++ ys) (append-nil (f n))

-- ---- one place more

or_some : {X : Type 0} (one other : Option X) → is_some (option_or one other) ≡ (is_some one || is_some other)
or_some None other = refl
or_some (Some x) other = refl

bad_unless : (server number : ℕ) (o : Option GoodShare) (b : Bool) → is_some o ≡ b → option_to_list (if_bad server number o) ≡ cond b [] ((server, number) ∷ [])
bad_unless server number None b e = ap (λ c. cond c [] ((server, number) ∷ [])) e
bad_unless server number (Some good) b e = ap (λ c. cond c [] ((server, number) ∷ [])) e

good_if : (server number : ℕ) (o : Option GoodShare) (b : Bool) → is_some o ≡ b → option_to_list (if_good server number o) ≡ cond b ((server, number) ∷ []) []
good_if server number None b e = ap (λ c. cond c ((server, number) ∷ []) []) e
good_if server number (Some good) b e = ap (λ c. cond c ((server, number) ∷ []) []) e

abbrev pub place_of : ℕ × List ℕ → ServerShare
place_of place = (place.0, place.1)

module _ (p : ParamsValue) (ueb : List ℕ) (number : ℕ) (lent : List (ℕ × List ℕ)) (at : ℕ) (d : ℕ × List ℕ) (below : at < length lent) (o : Option GoodShare)
    (is : o ≡ good_share (get_or lent at d).1 number p ueb) (b : Bool) (some : is_some o ≡ b) where
  next : places_of (take (at + 1) lent) ≡ places_of (take at lent) ++ place_of (get_or lent at d) ∷ []
  next = map_more place_of lent at d below

  pub any_more : is_some (first_good p ueb number (places_of (take (at + 1) lent))) ≡ (is_some (first_good p ueb number (places_of (take at lent))) || b)
  any_more =
      ap (λ found. is_some (first_good p ueb number found)) next
      ∙ ap is_some (first_more p ueb number (places_of (take at lent)) (place_of (get_or lent at d)))
      ∙ or_some (first_good p ueb number (places_of (take at lent))) (good_share (get_or lent at d).1 number p ueb)
      ∙ ap (λ c. is_some (first_good p ueb number (places_of (take at lent))) || c) (ap is_some (sym is) ∙ some)

  pub corrupt_more : bad_places p ueb number (places_of (take (at + 1) lent)) ≡ bad_places p ueb number (places_of (take at lent)) ++ cond b [] (((get_or lent at d).0, number) ∷ [])
  corrupt_more =
      ap (bad_places p ueb number) next
      ∙ bad_more p ueb number (places_of (take at lent)) (place_of (get_or lent at d))
      ∙ ap (λ ys. bad_places p ueb number (places_of (take at lent)) ++ ys)
      (ap (λ q. option_to_list (if_bad (get_or lent at d).0 number q)) (sym is) ∙ bad_unless (get_or lent at d).0 number o b some)

  pub places_more : good_places p ueb number (places_of (take (at + 1) lent)) ≡ good_places p ueb number (places_of (take at lent)) ++ cond b (((get_or lent at d).0, number) ∷ []) []
  places_more =
      ap (good_places p ueb number) next
      ∙ good_more p ueb number (places_of (take at lent)) (place_of (get_or lent at d))
      ∙ ap (λ ys. good_places p ueb number (places_of (take at lent)) ++ ys)
      (ap (λ q. option_to_list (if_good (get_or lent at d).0 number q)) (sym is) ∙ good_if (get_or lent at d).0 number o b some)
