-- Where no two uses collide, what verification finds by an upload's cap is what is held.
use Rattle.std.proofs.Common.{◌≡◌, ℕ, ◌<◌, ◌≤◌, List, [], ◌∷◌, length, take, map, Bool, true, false, cond, Option, Some, None, refl, sym, ap, subst, ◌∙◌, arith}
use Rattle.std.specs.Prelude.{nat_le, All, Contains, option_and_then, flat_map, ◌||◌}
use Rattle.std.specs.Option.{option_map, option_map_or, option_or}
use Rattle.std.specs.List.{range_with_len, filter_map, cons_option, list_any}
use Rattle.std.specs.Cmp.Lexicographic.{bytes_decides}
use Rattle.std.proofs.lemmas.Bool.{and_from, eq-eqb, leb-true}
use Rattle.std.proofs.lemmas.List.{length-map, take-map, length-take-le}
use Rattle.std.proofs.lemmas.List.Elements.{All-head, All-tail, All-filter, All-take}
use Rattle.tag_hash.specs.Collisions.{NoCollision, Includes}
use Rattle.tag_hash.specs.Use.{Use}
use Rattle.tag_hash.specs.Tagged.{tagged16}
use Rattle.octets.specs.Sharing.{IsSharing}
use Rattle.aes_ctr.specs.Crypt.{crypt, crypt_from}
use Rattle.erasure.specs.Code.{AreBytes}
use Rattle.erasure.specs.Given.{AreNumbers}
use Rattle.share_codec.specs.Params.{ParamsValue}
use Rattle.share_store.specs.Toggles.{is_toggled, toggled_from, TogglesLaws}
use Rattle.share_codec.specs.Segments.{cut_blocks}
use Rattle.share_codec.specs.Shares.{roots_of, ueb_hash, share}
use Rattle.share_codec.specs.Meets.{Meets}
use Rattle.share_codec.specs.GoodShare.{GoodShare, IsReadFrom}
use Rattle.share_codec.specs.Uses.{share_uses, meets_uses}
use Rattle.share_codec.specs.GoodShare.{good_share}
use Rattle.chk_file.specs.Upload.{Upload, params, key_of, crypttext_of, fields, index, share_of, IsUpload}
use Rattle.file_shares.specs.KeyTag.{key_tag}
use Rattle.chk_file.specs.Uses.{upload_uses}
use Rattle.file_shares.specs.Row.{ServerShare, most_servers, first_good, good_at, good_shares, place_uses, row_uses}
use Rattle.file_shares.specs.Fit.{crypttext_from, has_padding, has_root, are_shares_of, given_by, fit_in, fit}
use Rattle.chk_file.specs.Marks.{Mark, MarkRow, stands, shown_row}
use Rattle.chk_file.specs.Held.{has_none, is_untouched, stands_untouched, untouched_numbers, held_of}
use Rattle.chk_file.specs.Sound.{IsMarkAt}
use Rattle.file_shares.proofs.Tools.{true_or_false, Contains-flat_map, Contains-range, All-range, filtered_apart, kept_alike, kept_range, pairs_taken}
use Rattle.chk_file.proofs.Uploads.{shares_hashed}
use Rattle.chk_file.proofs.Decodes.{made_share}
use Rattle.file_shares.proofs.Sealed.{ReadFrom}
use Rattle.file_shares.proofs.Sound.{Twice, CryptIs, CryptLength, crypt-twice}
use Rattle.chk_file.proofs.Sizes.{some-size, size-crypttext}

-- what the laws of shares say
abbrev pub MadeMeets : Type 0
MadeMeets = (p : ParamsValue) (crypttext : List ℕ) (i : ℕ) → IsSharing p.k p.n → 0 < p.size → length crypttext ≡ p.size → i < p.n → Meets (share p crypttext i) i p (ueb_hash p crypttext)

abbrev pub MadeReadBack : Type 0
MadeReadBack = (p : ParamsValue) (crypttext : List ℕ) (i number : ℕ) (ueb : List ℕ) (good : GoodShare) → length crypttext ≡ p.size → IsReadFrom (share p crypttext i) number p ueb good → good ≡ made_share p crypttext i

abbrev pub GoodIsMade : Type 0
GoodIsMade = (uses : List Use) (p : ParamsValue) (crypttext s : List ℕ) (i : ℕ) → NoCollision uses → Includes uses (share_uses p crypttext) → Includes uses (meets_uses s i p)
    → Meets s i p (ueb_hash p crypttext) → s ≡ share p crypttext i

abbrev pub GoodShareIs : Type 0
GoodShareIs = (s : List ℕ) (number : ℕ) (p : ParamsValue) (ueb : List ℕ) (good : GoodShare) → IsReadFrom s number p ueb good → good_share s number p ueb ≡ Some good

abbrev pub Decodes : Type 0
Decodes = (p : ParamsValue) → IsSharing p.k p.n → (crypttext : List ℕ) → length crypttext ≡ p.size → AreBytes crypttext → (numbers : List ℕ) → p.k ≤ length numbers → AreNumbers numbers → 0 < p.size
    → crypttext_from p (map (made_share p crypttext) numbers) ≡ crypttext

abbrev pub Padded : Type 0
Padded = (p : ParamsValue) → IsSharing p.k p.n → (crypttext : List ℕ) → length crypttext ≡ p.size → AreBytes crypttext → (numbers : List ℕ) → p.k ≤ length numbers → AreNumbers numbers → 0 < p.size
    → has_padding p (map (made_share p crypttext) numbers) ≡ true

abbrev pub CryptBytes : Type 0
CryptBytes = (key : List ℕ) (p : ℕ) (bytes : List ℕ) → AreBytes key → AreBytes bytes → AreBytes (crypt_from key p bytes)

abbrev pub DigestBytes : Type 0
DigestBytes = (tag value : List ℕ) → AreBytes (tagged16 tag value)

abbrev pub OneUpload : Type 0
OneUpload = (uses : List Use) (u v : Upload) → NoCollision uses → Includes uses (upload_uses u) → Includes uses (upload_uses v) → index u ≡ index v → u ≡ v

none_if : {X : Type 0} (o : Option X) → ((x : X) → o ≡ Some x → ⊥) → o ≡ None
none_if None never = refl
none_if (Some x) never = absurd (never x refl)

either : {X : Type 0} (a b : Bool) (x : X) → option_or (cond a (Some x) None) (cond b (Some x) None) ≡ cond (a || b) (Some x) None
either true b x = refl
either false b x = refl

-- what is known of the row of an upload
pub record IsRowOf (uses : List Use) (u : Upload) (marks : MarkRow) : Type 0 where
  pub upload : IsUpload u
  pub own : Includes uses (upload_uses u)
  pub placed : (server number : ℕ) (mark : Mark) → marks server number ≡ Some mark → IsMarkAt (index u) number mark
  pub put : (server number : ℕ) (mark : Mark) → marks server number ≡ Some mark → Includes uses (upload_uses mark.upload)
  pub stood : Includes uses (row_uses (params u) (shown_row marks))

module _ (meets : MadeMeets) (back : MadeReadBack) (is_made : GoodIsMade) (is : GoodShareIs) (from : ReadFrom) (toggling : TogglesLaws) where
  -- ---- one share

  module _ (p : ParamsValue) (sharing : IsSharing p.k p.n) (crypttext : List ℕ) (some : 0 < p.size) (long : length crypttext ≡ p.size) (i : ℕ) (below : i < p.n) where
    pub made_is_good : good_share (share p crypttext i) i p (ueb_hash p crypttext) ≡ Some (made_share p crypttext i)
    made_is_good = of_texts (meets p crypttext i sharing some long below)
      where
        of_texts : Meets (share p crypttext i) i p (ueb_hash p crypttext) → good_share (share p crypttext i) i p (ueb_hash p crypttext) ≡ Some (made_share p crypttext i)
        of_texts (t, roots, by) =
            let good : GoodShare = record { number = i; ueb = roots; blocks = cut_blocks p t.blocks } in
            let read : IsReadFrom (share p crypttext i) i p (ueb_hash p crypttext) good = record { texts = t; meets = by; numbered = refl; cut = refl } in
            is (share p crypttext i) i p (ueb_hash p crypttext) good read ∙ ap Some (back p crypttext i i (ueb_hash p crypttext) good long read)

    module _ (uses : List Use) (apart : NoCollision uses) (hashed : Includes uses (share_uses p crypttext)) where
      -- a good string is the made share
      pub good_is_made : (s : List ℕ) (good : GoodShare) → Includes uses (meets_uses s i p) → good_share s i p (ueb_hash p crypttext) ≡ Some good → s ≡ share p crypttext i
      good_is_made s good verified e =
          let read = from s i p (ueb_hash p crypttext) good e in
          is_made uses p crypttext s i apart hashed verified (read.texts, good.ueb, read.meets)

      -- and none that was spoiled
      pub spoiled_is_bad : (place : ℕ) (toggles : List ℕ) → place < length (share p crypttext i) → Includes uses (meets_uses (toggled_from (place ∷ toggles) 0 (share p crypttext i)) i p)
          → good_share (toggled_from (place ∷ toggles) 0 (share p crypttext i)) i p (ueb_hash p crypttext) ≡ None
      spoiled_is_bad place toggles within verified =
          none_if (good_share (toggled_from (place ∷ toggles) 0 (share p crypttext i)) i p (ueb_hash p crypttext))
          (λ good e. toggling.differs (place ∷ toggles) (share p crypttext i) place (ap (λ b. b || is_toggled toggles place) (eq-eqb place place refl)) within (good_is_made (toggled_from (place ∷ toggles) 0 (share p crypttext i)) good verified e))

      at_toggles : (body toggles : List ℕ) → body ≡ share p crypttext i → All (λ place. place < length body) toggles → Includes uses (meets_uses (toggled_from toggles 0 body) i p)
          → good_share (toggled_from toggles 0 body) i p (ueb_hash p crypttext) ≡ cond (has_none toggles) (Some (made_share p crypttext i)) None
      at_toggles body [] same inside verified =
          ap (λ s. good_share s i p (ueb_hash p crypttext)) (toggling.none body ∙ same) ∙ made_is_good
      at_toggles body (place ∷ toggles) same inside verified =
          let first : place < length body = All-head (λ q. q < length body) place toggles inside in
          ap (λ b. good_share (toggled_from (place ∷ toggles) 0 b) i p (ueb_hash p crypttext)) same
          ∙ spoiled_is_bad place toggles (subst (λ b. place < length b) same first)
          (subst (λ b. Includes uses (meets_uses (toggled_from (place ∷ toggles) 0 b) i p)) same verified)

  -- ---- enough shares

  module _ (decodes : Decodes) (padded : Padded) (p : ParamsValue) (sharing : IsSharing p.k p.n) (key crypttext : List ℕ) (some : 0 < p.size) (long : length crypttext ≡ p.size) (bytes : AreBytes crypttext) where
    root_is : (numbers : List ℕ) → 0 < length numbers → has_root p crypttext (map (made_share p crypttext) numbers) ≡ true
    root_is [] many = absurd (omega arith)
    root_is (i ∷ numbers) many = (bytes_decides (roots_of p crypttext).crypttext_root (roots_of p crypttext).crypttext_root).1 refl

    given_made : (numbers : List ℕ) → p.k ≤ length numbers → AreNumbers numbers → given_by p key (map (made_share p crypttext) numbers) ≡ Some (crypt key crypttext)
    given_made numbers many apart =
        let shares = map (made_share p crypttext) numbers in
        let passes : are_shares_of p crypttext shares ≡ true =
        and_from _ _ (padded p sharing crypttext long bytes numbers many apart some) (root_is numbers (let h = sharing.some in omega arith)) in
        ap (λ c. cond (are_shares_of p c shares) (Some (crypt key c)) None) (decodes p sharing crypttext long bytes numbers many apart some)
        ∙ ap (λ b. cond b (Some (crypt key crypttext)) None) passes

    pub fit_made : (numbers : List ℕ) → AreNumbers numbers → fit_in p key (map (made_share p crypttext) numbers) ≡ cond (nat_le p.k (length numbers)) (Some (crypt key crypttext)) None
    fit_made numbers apart =
        let shares = map (made_share p crypttext) numbers in
        ap (λ n. cond (nat_le p.k n) (given_by p key (take p.k shares)) None) (length-map numbers (made_share p crypttext))
        ∙ true_or_false (nat_le p.k (length numbers)) _
        (λ yes.
        let fits : p.k ≤ length numbers = leb-true p.k (length numbers) yes in
        let few : length (take p.k numbers) ≡ p.k = length-take-le p.k numbers fits in
        ap (λ (o : Option (List ℕ)). cond (nat_le p.k (length numbers)) o None)
        (ap (given_by p key) (take-map (made_share p crypttext) p.k numbers)
        ∙ given_made (take p.k numbers) (omega arith) (record { small = All-take (λ n. n < 256) p.k numbers apart.small; distinct = pairs_taken p.k numbers fits apart.distinct })))
        (λ no. ap (λ b. cond b (given_by p key (take p.k shares)) None) no ∙ sym (ap (λ b. cond b (Some (crypt key crypttext)) None) no))

  -- ---- a row

  module _ (one : OneUpload) (crypt_long : CryptLength) (crypt_is : CryptIs) (uses : List Use) (apart : NoCollision uses) (u : Upload) (marks : MarkRow) (known : IsRowOf uses u marks) where
    place_hashed : (server number : ℕ) → server < most_servers → number < (params u).n → Includes uses (place_uses (params u) (shown_row marks) number server)
    unfolding row_uses
    place_hashed server number low below one_use among =
        let each : ℕ → List Use = λ n. flat_map (place_uses (params u) (shown_row marks) n) (range_with_len 0 most_servers) in
        known.stood one_use
        (Contains-flat_map each (range_with_len 0 (params u).n) number one_use (Contains-range 0 (params u).n number (omega arith) (omega arith))
        (Contains-flat_map (place_uses (params u) (shown_row marks) number) (range_with_len 0 most_servers) server one_use (Contains-range 0 most_servers server (omega arith) (omega arith)) among))

    at_mark : (server number : ℕ) (mark : Mark) → marks server number ≡ Some mark → server < most_servers → number < (params u).n
        → good_share (stands number mark) number (params u) (ueb_hash (params u) (crypttext_of u)) ≡ cond (is_untouched mark) (Some (made_share (params u) (crypttext_of u) number)) None
    at_mark server number mark is_there low below =
        let placed = known.placed server number mark is_there in
        let same : mark.upload ≡ u = one uses mark.upload u apart (known.put server number mark is_there) known.own placed.placed in
        let verified : Includes uses (meets_uses (stands number mark) number (params u)) =
        λ one_use among. place_hashed server number low below one_use (subst (λ o. Contains (option_map_or (λ s. meets_uses s number (params u)) (option_map (stands number) o) []) one_use) (sym is_there) among) in
        at_toggles (params u) known.upload.sharing (crypttext_of u) (some-size u known.upload) (size-crypttext crypt_is crypt_long u) number below uses apart (λ one_use among. known.own one_use (shares_hashed u one_use among))
        (share_of mark.upload number) mark.toggles (ap (λ v. share_of v number) same) placed.inside verified

    at_place : (server number : ℕ) (o : Option Mark) → marks server number ≡ o → server < most_servers → number < (params u).n
        → option_and_then (λ s. good_share s number (params u) (ueb_hash (params u) (crypttext_of u))) (option_map (stands number) o)
        ≡ cond (option_map_or is_untouched o false) (Some (made_share (params u) (crypttext_of u) number)) None
    at_place server number None is_there low below = refl
    at_place server number (Some mark) is_there low below = at_mark server number mark is_there low below

    -- the first good one of a number is the made share, where one stands untouched
    among : (number : ℕ) → number < (params u).n → (servers : List ℕ) → All (λ server. server < most_servers) servers
        → first_good (params u) (ueb_hash (params u) (crypttext_of u)) number (filter_map (λ server. option_map (λ s. (server, s)) (shown_row marks server number)) servers)
        ≡ cond (list_any (λ server. option_map_or is_untouched (marks server number) false) servers) (Some (made_share (params u) (crypttext_of u) number)) None
    among number below [] low = refl
    among number below (server ∷ servers) low =
        let here = at_place server number (marks server number) refl (All-head (λ server. server < most_servers) server servers low) below in
        let more = among number below servers (All-tail (λ server. server < most_servers) server servers low) in
        one_place (marks server number) (filter_map (λ server. option_map (λ s. (server, s)) (shown_row marks server number)) servers) (list_any (λ server. option_map_or is_untouched (marks server number) false) servers) here more
      where
        one_place : (o : Option Mark) (rest : List ServerShare) (b : Bool)
            → option_and_then (λ s. good_share s number (params u) (ueb_hash (params u) (crypttext_of u))) (option_map (stands number) o) ≡ cond (option_map_or is_untouched o false) (Some (made_share (params u) (crypttext_of u) number)) None
            → first_good (params u) (ueb_hash (params u) (crypttext_of u)) number rest ≡ cond b (Some (made_share (params u) (crypttext_of u) number)) None
            → first_good (params u) (ueb_hash (params u) (crypttext_of u)) number (cons_option (option_map (λ s. (server, s)) (option_map (stands number) o)) rest)
            ≡ cond (option_map_or is_untouched o false || b) (Some (made_share (params u) (crypttext_of u) number)) None
        one_place None rest b here more = more
        one_place (Some mark) rest b here more =
            (λ i. option_or (here i) (more i)) ∙ either (is_untouched mark) b (made_share (params u) (crypttext_of u) number)

    good_are : good_shares (params u) (ueb_hash (params u) (crypttext_of u)) (shown_row marks) ≡ map (made_share (params u) (crypttext_of u)) (untouched_numbers (params u).n marks)
    good_are =
        kept_alike (good_at (params u) (ueb_hash (params u) (crypttext_of u)) (shown_row marks)) (λ number. cond (stands_untouched marks number) (Some (made_share (params u) (crypttext_of u) number)) None)
        (params u).n 0 (params u).n (omega arith)
        (λ number below. among number below (range_with_len 0 most_servers) (All-range (λ server. server < most_servers) 0 most_servers (λ i low high. omega arith)))
        ∙ kept_range (made_share (params u) (crypttext_of u)) (stands_untouched marks) (range_with_len 0 (params u).n)

    are_numbers : AreNumbers (untouched_numbers (params u).n marks)
    are_numbers = record {
      small = All-filter (stands_untouched marks) (λ n. n < 256) (range_with_len 0 (params u).n)
          (All-range (λ n. n < 256) 0 (params u).n (λ i low high. let h = known.upload.sharing.limit in omega arith));
      distinct = filtered_apart (stands_untouched marks) 0 (params u).n;
    }

    module _ (decodes : Decodes) (padded : Padded) (twice : Twice) (bytes_stay : CryptBytes) (digests : DigestBytes) where
      crypttext_bytes : AreBytes (crypttext_of u)
      unfolding crypttext_of key_of
      crypttext_bytes =
          subst AreBytes (sym (crypt_is (key_of u) u.bytes)) (bytes_stay (key_of u) 0 u.bytes (digests (key_tag (params u) u.secret) u.bytes) known.upload.bytes)

      decrypted : crypt (key_of u) (crypttext_of u) ≡ u.bytes
      unfolding crypttext_of
      decrypted = crypt-twice twice crypt_is (key_of u) u.bytes

      -- what verification finds is what is held
      pub fit_is_held : fit (shown_row marks) (fields u) ≡ held_of u marks
      fit_is_held =
          let numbers = untouched_numbers (params u).n marks in
          ap (fit_in (params u) (key_of u)) good_are
          ∙ fit_made decodes padded (params u) known.upload.sharing (key_of u) (crypttext_of u) (some-size u known.upload) (size-crypttext crypt_is crypt_long u) crypttext_bytes numbers are_numbers
          ∙ (λ i. cond (nat_le u.k (length (untouched_numbers u.n marks))) (Some (decrypted i)) None)
