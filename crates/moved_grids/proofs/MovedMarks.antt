-- Marks as they are among another number of servers.
use Rattle.std.proofs.Common.{◌≡◌, ℕ, Bool, true, false, cond, ◌==◌, ◌&&◌, List, Option, Some, None, nat_lt, unwrap_or, refl, sym, ap, ◌∙◌, eqb-true, eq-eqb}
use Rattle.std.proofs.lemmas.Map.Lookups.{exact_bytes}
use Rattle.std.proofs.lemmas.Map.Views.{tells_apart}
use Rattle.std.specs.Cmp.Lexicographic.{slice_cmp}
use Rattle.std.specs.Ordering.{eq_by_cmp, nat_cmp}
use Rattle.share_store.specs.Shares.{ShareKey, key_cmp}
use Rattle.share_store.specs.MapLaws.{key_cmp_exact}
use Rattle.grid.specs.Placement.{server_of}
use Rattle.chk_file.specs.Upload.{Upload, index}
use Rattle.chk_file.specs.Marks.{Mark, Marks, untouched, put_marks}

-- a share's place among so many servers
abbrev pub place_of : ℕ → ShareKey → ℕ
place_of count q = server_of count q.0 q.1

module _ (old new : ℕ) where
  -- each mark stands in its place, and none elsewhere
  abbrev pub ArePlaced : Marks → Type 0
  ArePlaced a = (s : ℕ) (q : ShareKey) → (s == place_of old q) ≡ false → a s q ≡ None

  -- the same marks in their new places
  abbrev pub AreMoved : Marks → Marks → Type 0
  AreMoved a b = (s : ℕ) (q : ShareKey) → b s q ≡ cond (s == place_of new q) (a (place_of old q) q) None

  -- what a mark that is in its new place is
  here : (a b : Marks) → AreMoved a b → (s : ℕ) (q : ShareKey) → (s == place_of new q) ≡ true → b s q ≡ a (place_of old q) q
  here a b moved s q on = moved s q ∙ ap (λ t. cond t (a (place_of old q) q) None) on

  elsewhere : (a b : Marks) → AreMoved a b → (s : ℕ) (q : ShareKey) → (s == place_of new q) ≡ false → b s q ≡ None
  elsewhere a b moved s q off = moved s q ∙ ap (λ t. cond t (a (place_of old q) q) None) off

  -- ---- an upload

  module _ (u : Upload) (a b : Marks) (moved : AreMoved a b) (placed : ArePlaced a) where
    abbrev goes : ℕ → ℕ → ShareKey → Bool
    goes count s q = eq_by_cmp (slice_cmp nat_cmp) q.0 (index u) && nat_lt q.1 u.n && s == server_of count (index u) q.1

    -- of a share of the upload its place is the upload's
    same_place : (count : ℕ) (q : ShareKey) → eq_by_cmp (slice_cmp nat_cmp) q.0 (index u) ≡ true → server_of count (index u) q.1 ≡ place_of count q
    same_place count q on = ap (λ (i : List ℕ). server_of count i q.1) (sym (tells_apart exact_bytes q.0 (index u) on))

    abbrev new_mark : Option Mark → Bool → Bool → Option Mark
    new_mark o l t = cond (l && t) (Some (unwrap_or o (untouched u))) o

    one : (l t : Bool) (was : Option Mark) (o : Option Mark) → (t ≡ true → o ≡ was) → (t ≡ false → o ≡ None) → new_mark o l t ≡ cond t (new_mark was l true) None
    one l true was o on off = ap (λ p. new_mark p l true) (on refl)
    one true false was o on off = off refl
    one false false was o on off = off refl

    pub put_moved : AreMoved (put_marks old u a) (put_marks new u b)
    put_moved s q = by_index (eq_by_cmp (slice_cmp nat_cmp) q.0 (index u)) refl
      where
        t : Bool
        t = s == place_of new q

        by_index : (e : Bool) → eq_by_cmp (slice_cmp nat_cmp) q.0 (index u) ≡ e
            → cond (e && nat_lt q.1 u.n && s == server_of new (index u) q.1) (Some (unwrap_or (b s q) (untouched u))) (b s q)
            ≡ cond (s == place_of new q) (cond (e && nat_lt q.1 u.n && place_of old q == server_of old (index u) q.1) (Some (unwrap_or (a (place_of old q) q) (untouched u))) (a (place_of old q) q)) None
        by_index true on =
            ap (λ n. cond (nat_lt q.1 u.n && s == n) (Some (unwrap_or (b s q) (untouched u))) (b s q)) (same_place new q on)
            ∙ one (nat_lt q.1 u.n) (s == place_of new q) (a (place_of old q) q) (b s q) (here a b moved s q) (elsewhere a b moved s q)
            ∙ sym (ap (λ c. cond (s == place_of new q) (cond (nat_lt q.1 u.n && c) (Some (unwrap_or (a (place_of old q) q) (untouched u))) (a (place_of old q) q)) None)
            (eq-eqb (place_of old q) (server_of old (index u) q.1) (sym (same_place old q on))))
        by_index false off = moved s q

    pub put_placed : ArePlaced (put_marks old u a)
    put_placed s q far = by_index (eq_by_cmp (slice_cmp nat_cmp) q.0 (index u)) refl
      where
        none : (l c : Bool) → c ≡ false → cond (l && c) (Some (unwrap_or (a s q) (untouched u))) (a s q) ≡ a s q
        none true c is = ap (λ d. cond d (Some (unwrap_or (a s q) (untouched u))) (a s q)) is
        none false c is = refl

        by_index : (e : Bool) → eq_by_cmp (slice_cmp nat_cmp) q.0 (index u) ≡ e
            → cond (e && nat_lt q.1 u.n && s == server_of old (index u) q.1) (Some (unwrap_or (a s q) (untouched u))) (a s q) ≡ None
        by_index true on = none (nat_lt q.1 u.n) (s == server_of old (index u) q.1) (ap (λ n. s == n) (same_place old q on) ∙ far) ∙ placed s q far
        by_index false off = placed s q far

  -- ---- a change of one share

  module _ (f : ShareKey → Option Mark → Option Mark) (nothing : (q : ShareKey) → f q None ≡ None) where
    -- marks of which one was changed
    abbrev pub changed : ℕ → ShareKey → Marks → Marks
    changed server key marks s q = cond (s == server && eq_by_cmp key_cmp q key) (f q (marks s q)) (marks s q)

    module _ (key : ShareKey) (a b : Marks) (moved : AreMoved a b) (placed : ArePlaced a) where
      is_key : (count : ℕ) (q : ShareKey) → eq_by_cmp key_cmp q key ≡ true → place_of count key ≡ place_of count q
      is_key count q on = ap (place_of count) (sym (tells_apart key_cmp_exact q key on))

      pub changed_moved : (server : ℕ) → server ≡ place_of old key → AreMoved (changed server key a) (changed (place_of new key) key b)
      changed_moved server is s q = by_key (eq_by_cmp key_cmp q key) refl
        where
          by_place : (t : Bool) → (s == place_of new q) ≡ t → cond t (f q (b s q)) (b s q) ≡ cond t (f q (a (place_of old q) q)) None
          by_place true on = ap (f q) (here a b moved s q on)
          by_place false off = elsewhere a b moved s q off

          split : (c t : Bool) (x y z : Option Mark) → c ≡ true → cond t (cond (c && true) x y) z ≡ cond t x z
          split true t x y z e = refl
          split false t x y z e = let clash : (let v : Bool = false in v) ≡ true = e in cc

          flat : (t : Bool) (x y : Option Mark) → cond (t && true) x y ≡ cond t x y
          flat true x y = refl
          flat false x y = refl

          past : (t : Bool) (x y : Option Mark) → cond (t && false) x y ≡ y
          past true x y = refl
          past false x y = refl

          by_key : (e : Bool) → eq_by_cmp key_cmp q key ≡ e
              → cond (s == place_of new key && e) (f q (b s q)) (b s q) ≡ cond (s == place_of new q) (cond (place_of old q == server && e) (f q (a (place_of old q) q)) (a (place_of old q) q)) None
          by_key true on =
              flat (s == place_of new key) (f q (b s q)) (b s q)
              ∙ ap (λ n. cond (s == n) (f q (b s q)) (b s q)) (is_key new q on)
              ∙ by_place (s == place_of new q) refl
              ∙ sym (split (place_of old q == server) (s == place_of new q) (f q (a (place_of old q) q)) (a (place_of old q) q) None (eq-eqb (place_of old q) server (sym (is ∙ is_key old q on))))
          by_key false off =
              past (s == place_of new key) (f q (b s q)) (b s q) ∙ moved s q
              ∙ ap (λ o. cond (s == place_of new q) o None) (sym (past (place_of old q == server) (f q (a (place_of old q) q)) (a (place_of old q) q)))

      pub unchanged_moved : (server : ℕ) → (server == place_of old key) ≡ false → AreMoved (changed server key a) b
      unchanged_moved server far s q = by_key (eq_by_cmp key_cmp q key) refl
        where
          past : (c e : Bool) (x y : Option Mark) → (e ≡ true → c ≡ false) → cond (c && e) x y ≡ y
          past true true x y other = let clash : (let v : Bool = true in v) ≡ false = other refl in cc
          past true false x y other = refl
          past false e x y other = refl

          not_there : (c : Bool) → (place_of old q == server) ≡ c → eq_by_cmp key_cmp q key ≡ true → c ≡ false
          not_there false is on = refl
          not_there true is on =
              let same : (server == place_of old key) ≡ true = eq-eqb server (place_of old key) (sym (eqb-true (place_of old q) server is) ∙ sym (is_key old q on)) in
              let clash : (let v : Bool = true in v) ≡ false = sym same ∙ far in cc

          by_key : (e : Bool) → eq_by_cmp key_cmp q key ≡ e → b s q ≡ cond (s == place_of new q) (cond (place_of old q == server && e) (f q (a (place_of old q) q)) (a (place_of old q) q)) None
          by_key e is =
              moved s q ∙ ap (λ o. cond (s == place_of new q) o None)
              (sym (past (place_of old q == server) e (f q (a (place_of old q) q)) (a (place_of old q) q) (λ on. not_there (place_of old q == server) refl (is ∙ on))))

      pub changed_placed : (server : ℕ) → ArePlaced (changed server key a)
      changed_placed server s q far = by_test (s == server && eq_by_cmp key_cmp q key)
        where
          none : a s q ≡ None
          none = placed s q far

          by_test : (c : Bool) → cond c (f q (a s q)) (a s q) ≡ None
          by_test true = ap (f q) none ∙ nothing q
          by_test false = none
