-- How an item ends at which a crash came.
use Rattle.std.proofs.Common.{◌≡◌, ℕ, ◌<◌, Bool, true, false, cond, ◌&&◌, List, [], ◌∷◌, ◌++◌, length, Option, Some, None, refl, sym, ap, subst, ◌∙◌, arith, inl, inr, eqb-true, eq-eqb}
use Rattle.std.specs.Prelude.{◌⊎◌, ◌==◌, nat_lt, slice_get, unwrap_or, All}
use Rattle.std.specs.List.{AllByRecursion}
use Rattle.std.specs.Ordering.{eq_by_cmp, nat_cmp}
use Rattle.std.specs.Cmp.Lexicographic.{slice_cmp, nat_list_cmp_total}
use Rattle.std.specs.Cmp.{eq_by_cmp_equiv}
use Rattle.std.proofs.lemmas.Bool.{and_parts, ltb-true, lt-ltb}
use Rattle.std.proofs.lemmas.List.FromFn.{length-map-range_with_len}
use Rattle.std.proofs.lemmas.Map.Lookups.{exact_bytes}
use Rattle.std.proofs.lemmas.Map.Views.{tells_apart}
use Rattle.std.proofs.lemmas.List.{append-nil}
use Rattle.std.proofs.lemmas.List.Concat.{flat_map-append}
use Rattle.std.specs.Option.{option_map}
use Rattle.erasure.specs.Code.{AreBytes}
use Rattle.share_store.specs.Toggle.{toggled}
use Rattle.share_store.specs.Shares.{ShareKey}
use Rattle.grid.specs.Standing.{Standing}
use Rattle.grid.specs.Placement.{server_of, placed}
use Rattle.grid.specs.Changes.{without, spoiled}
use Rattle.chk_file.specs.Upload.{Upload, index, share_of, shares_of}
use Rattle.chk_file.specs.Marks.{Marks, shown, put_marks, lost_mark, spoiled_mark}
use Rattle.chk_file.specs.World.{World, with_file}
use Rattle.web_ops.specs.Uploads.{after_stored}
use Rattle.gate_core.specs.Settings.{GatewaySettings, under}
use Rattle.gate_core.specs.Items.{Entry, Asked, Lost, Spoiled}
use Rattle.gate_core.specs.Runs.{upload_by, after_entry, world_after}
use Rattle.gate_core.specs.Uploaded.{IsProper, uploads_by, uploads_of}
use Rattle.restarts.specs.CutOff.{SharePlace, losses, IsCutOff}
use Rattle.restarts.specs.Resumed.{Resumed}
use Rattle.restarts.proofs.Gone.{gone, hits, hits_is, SomeHit, not_hit, hit, place_of, cut, cut_among, cut_hits}

abbrev pub PutLaw : Type 0
PutLaw = (servers : ℕ) (u : Upload) (marks : Marks) → shown (put_marks servers u marks) ≡ placed servers (index u) (shares_of u) (shown marks)

abbrev pub LostLaw : Type 0
LostLaw = (server : ℕ) (key : ShareKey) (marks : Marks) → shown (lost_mark server key marks) ≡ without server key (shown marks)

abbrev pub SpoiledLaw : Type 0
SpoiledLaw = (server : ℕ) (key : ShareKey) (place : ℕ) (marks : Marks) → shown (spoiled_mark server key place marks) ≡ spoiled server key place (shown marks)

-- what stands after losses
shown-losses : LostLaw → (settings : GatewaySettings) (ps : List SharePlace) (w : World) → shown (world_after settings w (losses ps)).marks ≡ gone ps (shown w.marks)
shown-losses law settings [] w = refl
shown-losses law settings (p ∷ ps) w = shown-losses law settings ps (after_entry settings (Lost p.0 p.1) w) ∙ ap (gone ps) (law p.0 p.1 w.marks)

-- nothing is uploaded by losses
none_uploaded : (settings : GatewaySettings) (ps : List SharePlace) → uploads_of settings (losses ps) ≡ []
none_uploaded settings [] = refl
none_uploaded settings (p ∷ ps) = none_uploaded settings ps

not_begun : (settings : GatewaySettings) (w : World) (x : Entry) (c : Standing) → ((s : ℕ) (q : ShareKey) → c s q ≡ shown w.marks s q) → Resumed settings w x c
not_begun settings w x c same = record {
  last = [];
  end = inl refl;
  stands = λ j s q. same s q j;
  proper = λ proper. record { sharing = proper.sharing; bytes = λ k d lt. absurd (omega arith) };
}

-- what is brought by an item is brought by it and losses
pub still_proper : (settings : GatewaySettings) (x : Entry) (ps : List SharePlace) → IsProper settings (x ∷ []) → IsProper settings (x ∷ losses ps)
still_proper settings x ps proper = record {
  sharing = proper.sharing;
  bytes = subst (All (λ (u : Upload). AreBytes u.bytes)) (sym (flat_map-append (uploads_by settings) (x ∷ []) (losses ps) ∙ ap (λ l. uploads_of settings (x ∷ []) ++ l) (none_uploaded settings ps) ∙ append-nil (uploads_of settings (x ∷ [])))) proper.bytes;
}

-- ---- an upload

module _ (put : PutLaw) (lost : LostLaw) (settings : GatewaySettings) (w : World) (u : Upload) (c : Standing) where
  abbrev ps : List SharePlace
  ps = cut settings.servers (index u) c u.n

  long : length (shares_of u) ≡ u.n
  long = length-map-range_with_len (share_of u) 0 u.n

  abbrev before : Standing
  before = shown w.marks

  abbrev after : Standing
  after = placed settings.servers (index u) (shares_of u) before

  abbrev goes : ℕ → ShareKey → Bool
  goes s q = eq_by_cmp (slice_cmp nat_cmp) q.0 (index u) && nat_lt q.1 (length (shares_of u)) && s == server_of settings.servers (index u) q.1

  module _ (each : (s : ℕ) (q : ShareKey) → (c s q ≡ before s q) ⊎ (c s q ≡ after s q)) where
    no_share : (o : Option (List ℕ)) (b : List ℕ) → o ≡ None → o ≡ Some b → ⊥
    no_share o b none some = let clash : (let n : Option (List ℕ) = None in n) ≡ Some b = sym none ∙ some in cc

    goes_there : (i : ℕ) → i < u.n → goes (server_of settings.servers (index u) i) (index u, i) ≡ true
    goes_there i lt =
        ap (λ b. b && nat_lt i (length (shares_of u)) && server_of settings.servers (index u) i == server_of settings.servers (index u) i) ((eq_by_cmp_equiv nat_list_cmp_total).refl (index u))
        ∙ ap (λ b. b && server_of settings.servers (index u) i == server_of settings.servers (index u) i) (lt-ltb i (length (shares_of u)) (omega (arith, long)))
        ∙ eq-eqb (server_of settings.servers (index u) i) (server_of settings.servers (index u) i) refl

    -- a share that an upload puts stands after it
    put_there : (s : ℕ) (q : ShareKey) → goes s q ≡ true → after s q ≡ Some (unwrap_or (before s q) (unwrap_or (slice_get (shares_of u) q.1) []))
    put_there s q on = ap (λ b. cond b (Some (unwrap_or (before s q) (unwrap_or (slice_get (shares_of u) q.1) []))) (before s q)) on

    elsewhere_same : (s : ℕ) (q : ShareKey) → goes s q ≡ false → after s q ≡ before s q
    elsewhere_same s q off = ap (λ b. cond b (Some (unwrap_or (before s q) (unwrap_or (slice_get (shares_of u) q.1) []))) (before s q)) off

    -- at a place to which no share goes none is lost
    elsewhere : (s : ℕ) (q : ShareKey) → goes s q ≡ false → c s q ≡ gone ps after s q
    elsewhere s q off =
        let is : c s q ≡ after s q = elim (each s q) [ inl e ↦ e ∙ sym (elsewhere_same s q off) | inr e ↦ e ] in
        is ∙ sym (not_hit ps after s q (cut_among settings.servers (index u) c (λ p. hits p s q ≡ false) u.n (λ i lt none. unhit i lt (hits (place_of settings.servers (index u) c i) s q) refl)))
      where
        unhit : (i : ℕ) → i < u.n → (b : Bool) → hits (place_of settings.servers (index u) c i) s q ≡ b → hits (place_of settings.servers (index u) c i) s q ≡ false
        unhit i lt false is = is
        unhit i lt true is =
            let at = hits_is (place_of settings.servers (index u) c i) s q is in
            let on : goes s q ≡ true = ap (λ t. goes t q) at.0 ∙ ap (goes (server_of settings.servers (index u) i)) at.1 ∙ goes_there i lt in
            cc

    -- a share that doesn't stand was lost, and one that stands was not
    there : (s : ℕ) (q : ShareKey) → q.1 < u.n → s ≡ server_of settings.servers (index u) q.1 → q.0 ≡ index u → goes s q ≡ true → c s q ≡ gone ps after s q
    there s q lt at same on = by_case (c s q) refl
      where
        key : q ≡ (index u, q.1)
        key = ap (λ (i : List ℕ). (let k : ShareKey = (i, q.1) in k)) same

        by_case : (o : Option (List ℕ)) → c s q ≡ o → o ≡ gone ps after s q
        by_case None is =
            let there' : c (server_of settings.servers (index u) q.1) (index u, q.1) ≡ None = ap (λ t. c t (index u, q.1)) (sym at) ∙ ap (c s) (sym key) ∙ is in
            let some : SomeHit ps (server_of settings.servers (index u) q.1) (index u, q.1) = cut_hits settings.servers (index u) c u.n q.1 lt there' in
            let here : SomeHit ps s q = subst (λ t. SomeHit ps t q) (sym at) (subst (λ (k : ShareKey). SomeHit ps (server_of settings.servers (index u) q.1) k) (sym key) some) in
            sym (hit ps after s q here)
        by_case (Some b) is =
            let stood : c s q ≡ after s q = elim (each s q) [
              | inl e ↦ is ∙ ap (λ (o : Option (List ℕ)). Some (unwrap_or o (unwrap_or (slice_get (shares_of u) q.1) []))) (sym is ∙ e) ∙ sym (put_there s q on)
              | inr e ↦ e
            ] in
            sym is ∙ stood ∙ sym (not_hit ps after s q (cut_among settings.servers (index u) c (λ p. hits p s q ≡ false) u.n (λ i below none. unhit i none (hits (place_of settings.servers (index u) c i) s q) refl)))
          where
            unhit : (i : ℕ) → c (server_of settings.servers (index u) i) (index u, i) ≡ None → (t : Bool) → hits (place_of settings.servers (index u) c i) s q ≡ t → hits (place_of settings.servers (index u) c i) s q ≡ false
            unhit i none false h = h
            unhit i none true h =
                let where_it = hits_is (place_of settings.servers (index u) c i) s q h in
                absurd (no_share (c s q) b (ap (λ t. c t q) where_it.0 ∙ ap (c (server_of settings.servers (index u) i)) where_it.1 ∙ none) is)

    all : (s : ℕ) (q : ShareKey) → c s q ≡ gone ps after s q
    all s q = by_case (goes s q) refl
      where
        by_case : (b : Bool) → goes s q ≡ b → c s q ≡ gone ps after s q
        by_case false off = elsewhere s q off
        by_case true on =
            let outer = and_parts (eq_by_cmp (slice_cmp nat_cmp) q.0 (index u) && nat_lt q.1 (length (shares_of u))) (s == server_of settings.servers (index u) q.1) on in
            let inner = and_parts (eq_by_cmp (slice_cmp nat_cmp) q.0 (index u)) (nat_lt q.1 (length (shares_of u))) outer.0 in
            there s q (omega (arith, long, ltb-true q.1 (length (shares_of u)) inner.1)) (eqb-true s (server_of settings.servers (index u) q.1) outer.1) (tells_apart exact_bytes q.0 (index u) inner.0) on

    -- a share that was lost so had not stood before
    had_not_stood : AllByRecursion (λ p. before p.0 p.1 ≡ None) ps
    had_not_stood = cut_among settings.servers (index u) c (λ p. before p.0 p.1 ≡ None) u.n (λ i lt none.
        elim (each (server_of settings.servers (index u) i) (index u, i)) [
          | inl e ↦ sym e ∙ none
          | inr e ↦ absurd (no_share (after (server_of settings.servers (index u) i) (index u, i)) _ (sym e ∙ none) (put_there (server_of settings.servers (index u) i) (index u, i) (goes_there i lt)))
        ])

  -- the upload, and then the shares that don't stand were lost
  pub cut_off : (x : Entry) → (after_entry settings x w).marks ≡ put_marks settings.servers u w.marks → IsCutOff settings w x c → Resumed settings w x c
  cut_off x marks_are off =
      let shown_is : shown (after_entry settings x w).marks ≡ after = ap shown marks_are ∙ put settings.servers u w.marks in
      let each : (s : ℕ) (q : ShareKey) → (c s q ≡ before s q) ⊎ (c s q ≡ after s q) =
      λ s q. subst (λ (st : Standing). (c s q ≡ before s q) ⊎ (c s q ≡ st s q)) shown_is (off s q) in
      record {
        last = x ∷ losses ps;
        end = inr (ps, refl, had_not_stood each);
        stands = (λ j s q. all each s q j) ∙ ap (gone ps) (sym shown_is) ∙ sym (shown-losses lost settings ps (after_entry settings x w));
        proper = λ proper. still_proper settings x ps proper;
      }

-- ---- a loss or a spoiled share

one_place : (settings : GatewaySettings) (w : World) (x : Entry) (c : Standing) (server : ℕ) (key : ShareKey)
    → ((s : ℕ) (q : ShareKey) → hits (server, key) s q ≡ false → shown (after_entry settings x w).marks s q ≡ shown w.marks s q)
    → IsCutOff settings w x c → Resumed settings w x c
one_place settings w x c server key only off = elim (off server key) [
  | inl e ↦ not_begun settings w x c (λ s q. at_all (shown w.marks) e (λ s q far. elim (off s q) [ inl f ↦ f | inr f ↦ f ∙ only s q far ]) s q (hits (server, key) s q) refl)
  | inr e ↦ record {
    last = x ∷ losses [];
    end = inr ([], refl, tt);
    stands = λ j s q. at_all (shown (after_entry settings x w).marks) e (λ s q far. elim (off s q) [ inl f ↦ f ∙ sym (only s q far) | inr f ↦ f ]) s q (hits (server, key) s q) refl j;
    proper = λ proper. proper;
  }
]
  where
    at_all : (st : Standing) → c server key ≡ st server key → ((s : ℕ) (q : ShareKey) → hits (server, key) s q ≡ false → c s q ≡ st s q) → (s : ℕ) (q : ShareKey) (b : Bool) → hits (server, key) s q ≡ b → c s q ≡ st s q
    at_all st here others s q false far = others s q far
    at_all st here others s q true on =
        let at = hits_is (server, key) s q on in
        ap (λ t. c t q) at.0 ∙ ap (c server) at.1 ∙ here ∙ ap (st server) (sym at.1) ∙ ap (λ t. st t q) (sym at.0)

pub resumed : PutLaw → LostLaw → SpoiledLaw → (settings : GatewaySettings) (w : World) (x : Entry) (c : Standing) → IsCutOff settings w x c → Resumed settings w x c
resumed put lost spoil settings w (Asked id secret item) c off = by_upload (upload_by (under settings secret) item) refl
  where
    by_length : (u : Upload) → upload_by (under settings secret) item ≡ Some u → (b : Bool) → nat_lt 55 (length u.bytes) ≡ b → Resumed settings w (Asked id secret item) c
    by_length u is true long =
        let v : World = record { files = with_file u w.files; marks = put_marks settings.servers u w.marks } in
        cut_off put lost settings w u c (Asked id secret item)
        (ap (λ (o : Option Upload). (after_stored settings.servers o w).marks) is ∙ ap (λ (b : Bool). (cond b v w).marks) long) off
    by_length u is false short =
        let v : World = record { files = with_file u w.files; marks = put_marks settings.servers u w.marks } in
        let same : after_entry settings (Asked id secret item) w ≡ w = ap (λ (o : Option Upload). after_stored settings.servers o w) is ∙ ap (λ (b : Bool). cond b v w) short in
        not_begun settings w (Asked id secret item) c (λ s q. elim (off s q) [ inl f ↦ f | inr f ↦ f ∙ ap (λ (v : World). shown v.marks s q) same ])

    by_upload : (o : Option Upload) → upload_by (under settings secret) item ≡ o → Resumed settings w (Asked id secret item) c
    by_upload None is =
        let same : after_entry settings (Asked id secret item) w ≡ w = ap (λ (o : Option Upload). after_stored settings.servers o w) is in
        not_begun settings w (Asked id secret item) c (λ s q. elim (off s q) [ inl f ↦ f | inr f ↦ f ∙ ap (λ (v : World). shown v.marks s q) same ])
    by_upload (Some u) is = by_length u is (nat_lt 55 (length u.bytes)) refl
resumed put lost spoil settings w (Lost server key) c off =
    one_place settings w (Lost server key) c server key (λ s q far. ap (λ (st : Standing). st s q) (lost server key w.marks) ∙ ap (λ b. cond b None (shown w.marks s q)) far) off
resumed put lost spoil settings w (Spoiled server key place) c off =
    one_place settings w (Spoiled server key place) c server key (λ s q far. ap (λ (st : Standing). st s q) (spoil server key place w.marks)
    ∙ ap (λ b. cond b (option_map (λ bytes. toggled bytes place) (shown w.marks s q)) (shown w.marks s q)) far) off
