-- Changes, one after the other.
use Rattle.std.proofs.Common.{◌≡◌, ◌⊎◌, inl, inr, ℕ, zero, suc, ◌<◌, Bool, true, false, cond, ◌&&◌, List, [], ◌∷◌, take, length, Option, Some, None, refl, sym, ap, subst, ◌∙◌, arith, eqb-true, eq-eqb}
use Rattle.std.specs.Prelude.{◌==◌, nat_lt, slice_get, unwrap_or, map}
use Rattle.std.specs.Option.{option_map}
use Rattle.std.specs.Ordering.{eq_by_cmp, nat_cmp}
use Rattle.std.specs.Cmp.Lexicographic.{slice_cmp, nat_list_cmp_total}
use Rattle.std.specs.Cmp.{eq_by_cmp_equiv}
use Rattle.std.proofs.lemmas.Bool.{and_parts, ltb-true, lt-ltb}
use Rattle.std.proofs.lemmas.List.FromFn.{length-map-range_with_len, get_or-map-range_with_len}
use Rattle.std.proofs.lemmas.Option.{slice_get-get_or}
use Rattle.http_edge.specs.declared.item.Item.{Item}
use Rattle.share_store.specs.Shares.{ShareKey, key_cmp}
use Rattle.share_store.specs.Toggle.{toggled}
use Rattle.grid.specs.Standing.{Standing}
use Rattle.grid.specs.Placement.{server_of, placed}
use Rattle.grid.specs.Changes.{without, spoiled}
use Rattle.chk_file.specs.Upload.{Upload, index, share_of, shares_of}
use Rattle.chk_file.specs.Marks.{shown, put_marks}
use Rattle.chk_file.specs.World.{World, with_file}
use Rattle.web_ops.specs.Uploads.{after_stored}
use Rattle.gate_core.specs.Settings.{GatewaySettings, under}
use Rattle.gate_core.specs.Items.{Entry, Asked, Lost, Spoiled}
use Rattle.gate_core.specs.Runs.{upload_by, after_entry}
use Rattle.restarts.specs.CutOff.{IsCutOff}
use Rattle.restarts.specs.Mended.{AreCutOff}
use Rattle.restarts.proofs.Ends.{PutLaw, LostLaw, SpoiledLaw}
use Rattle.restarts.proofs.Gone.{hits, hits_is}
use Rattle.restarts.proofs.Places.{long_by}
use Rattle.many_gates.specs.Changes.{Change, Put, Lose, Spoil, item_of_change, items_of_changes, with_one_share, changed, all_changed}
use Rattle.many_gates.specs.Seen.{IsSeen}

-- ---- what stands at a place after a change depends on what stood there alone

share_there : (servers : ℕ) (o : Option Upload) (number : ℕ) (c e : Standing) (s : ℕ) (q : ShareKey) → c s q ≡ e s q → with_one_share servers o number c s q ≡ with_one_share servers o number e s q
share_there servers None number c e s q same = same
share_there servers (Some u) number c e s q same =
    ap (λ (o : Option (List ℕ)). cond (nat_lt number u.n && (s == server_of servers (index u) number && eq_by_cmp key_cmp q (index u, number))) (Some (unwrap_or o (share_of u number))) o) same

there : (settings : GatewaySettings) (x : Change) (c e : Standing) (s : ℕ) (q : ShareKey) → c s q ≡ e s q → changed settings x c s q ≡ changed settings x e s q
there settings (Put id secret item number) c e s q same = share_there settings.servers (upload_by (under settings secret) item) number c e s q same
there settings (Lose server key) c e s q same = ap (λ (o : Option (List ℕ)). cond (s == server && eq_by_cmp key_cmp q key) None o) same
there settings (Spoil server key place) c e s q same =
    ap (λ (o : Option (List ℕ)). cond (s == server && eq_by_cmp key_cmp q key) (option_map (λ bytes. toggled bytes place) o) o) same

all_there : (settings : GatewaySettings) (changes : List Change) (c e : Standing) (s : ℕ) (q : ShareKey) → c s q ≡ e s q → all_changed settings changes c s q ≡ all_changed settings changes e s q
all_there settings [] c e s q same = same
all_there settings (x ∷ changes) c e s q same = all_there settings changes (changed settings x c) (changed settings x e) s q (there settings x c e s q same)

-- ---- a change is a part of its item

-- there stands what stood before, or what stands after the item
abbrev pub IsPartAt : GatewaySettings → World → Entry → Standing → ℕ → ShareKey → Type 0
IsPartAt settings w x c s q = (c s q ≡ shown w.marks s q) ⊎ (c s q ≡ shown (after_entry settings x w).marks s q)

module _ (servers : ℕ) (u : Upload) (number : ℕ) (c : Standing) where
  long : length (shares_of u) ≡ u.n
  long = length-map-range_with_len (share_of u) 0 u.n

  -- the share that an upload puts
  share_is : number < u.n → unwrap_or (slice_get (shares_of u) number) [] ≡ share_of u number
  share_is lt =
      ap (λ (o : Option (List ℕ)). unwrap_or o []) (slice_get-get_or (shares_of u) number [] (omega (arith, long)))
      ∙ get_or-map-range_with_len (share_of u) 0 u.n number number [] lt (omega arith)

  -- at its own place
  here : number < u.n → placed servers (index u) (shares_of u) c (server_of servers (index u) number) (index u, number) ≡ Some (unwrap_or (c (server_of servers (index u) number) (index u, number)) (share_of u number))
  here lt =
      ap (λ b. put (b && nat_lt number (length (shares_of u)) && server_of servers (index u) number == server_of servers (index u) number)) ((eq_by_cmp_equiv nat_list_cmp_total).refl (index u))
      ∙ ap (λ b. put (b && server_of servers (index u) number == server_of servers (index u) number)) (lt-ltb number (length (shares_of u)) (omega (arith, long)))
      ∙ ap put (eq-eqb (server_of servers (index u) number) (server_of servers (index u) number) refl)
      ∙ ap (λ (b : List ℕ). Some (unwrap_or (c (server_of servers (index u) number) (index u, number)) b)) (share_is lt)
    where
      put : Bool → Option (List ℕ)
      put b = cond b (Some (unwrap_or (c (server_of servers (index u) number) (index u, number)) (unwrap_or (slice_get (shares_of u) number) []))) (c (server_of servers (index u) number) (index u, number))

  -- anywhere
  one_put : (s : ℕ) (q : ShareKey) → (with_one_share servers (Some u) number c s q ≡ c s q) ⊎ (with_one_share servers (Some u) number c s q ≡ placed servers (index u) (shares_of u) c s q)
  one_put s q = by_case (nat_lt number u.n && hits (server_of servers (index u) number, (index u, number)) s q) refl
    where
      by_case : (b : Bool) → (nat_lt number u.n && hits (server_of servers (index u) number, (index u, number)) s q) ≡ b
          → (with_one_share servers (Some u) number c s q ≡ c s q) ⊎ (with_one_share servers (Some u) number c s q ≡ placed servers (index u) (shares_of u) c s q)
      by_case false off = inl (ap (λ b. cond b (Some (unwrap_or (c s q) (share_of u number))) (c s q)) off)
      by_case true on =
          let parts = and_parts (nat_lt number u.n) (hits (server_of servers (index u) number, (index u, number)) s q) on in
          let at = hits_is (server_of servers (index u) number, (index u, number)) s q parts.1 in
          let mine : placed servers (index u) (shares_of u) c s q ≡ Some (unwrap_or (c s q) (share_of u number)) =
          subst (λ t. placed servers (index u) (shares_of u) c t q ≡ Some (unwrap_or (c t q) (share_of u number))) (sym at.0)
          (subst (λ (k : ShareKey). placed servers (index u) (shares_of u) c (server_of servers (index u) number) k ≡ Some (unwrap_or (c (server_of servers (index u) number) k) (share_of u number))) (sym at.1)
          (here (ltb-true number u.n parts.0))) in
          inr (ap (λ b. cond b (Some (unwrap_or (c s q) (share_of u number))) (c s q)) on ∙ sym mine)

module _ (put : PutLaw) (lost : LostLaw) (spoil : SpoiledLaw) (settings : GatewaySettings) where
  pub stands_after : (secret : List ℕ) (id : ℕ) (u : Upload) (w : World) (item : Item) → upload_by (under settings secret) item ≡ Some u
      → shown (after_entry settings (Asked id secret item) w).marks ≡ placed settings.servers (index u) (shares_of u) (shown w.marks)
  stands_after secret id u w item is =
      ap (λ (o : Option Upload). shown (after_stored settings.servers o w).marks) is
      ∙ ap (λ (b : Bool). shown (cond b after_long w).marks) (long_by (under settings secret) item u is)
      ∙ put settings.servers u w.marks
    where
      after_long : World
      after_long = record { files = with_file u w.files; marks = put_marks settings.servers u w.marks }

  part_at : (x : Change) (w : World) (c : Standing) → shown w.marks ≡ c → (s : ℕ) (q : ShareKey) → IsPartAt settings w (item_of_change x) (changed settings x c) s q
  part_at (Put id secret item number) w c is s q = by_upload (upload_by (under settings secret) item) refl
    where
      by_upload : (o : Option Upload) → upload_by (under settings secret) item ≡ o → IsPartAt settings w (Asked id secret item) (changed settings (Put id secret item number) c) s q
      by_upload None none = inl (ap (λ (o : Option Upload). with_one_share settings.servers o number c s q) none ∙ ap (λ (f : Standing). f s q) (sym is))
      by_upload (Some u) some = elim (one_put settings.servers u number c s q) [
        | inl same ↦ inl (ap (λ (o : Option Upload). with_one_share settings.servers o number c s q) some ∙ same ∙ ap (λ (f : Standing). f s q) (sym is))
        | inr done ↦ inr (ap (λ (o : Option Upload). with_one_share settings.servers o number c s q) some ∙ done
            ∙ ap (λ (f : Standing). placed settings.servers (index u) (shares_of u) f s q) (sym is)
            ∙ ap (λ (f : Standing). f s q) (sym (stands_after secret id u w item some)))
      ]
  part_at (Lose server key) w c is s q = inr (ap (λ (f : Standing). without server key f s q) (sym is) ∙ ap (λ (f : Standing). f s q) (sym (lost server key w.marks)))
  part_at (Spoil server key place) w c is s q = inr (ap (λ (f : Standing). spoiled server key place f s q) (sym is) ∙ ap (λ (f : Standing). f s q) (sym (spoil server key place w.marks)))

  -- ---- what is seen

  none_taken : (k : ℕ) (c : Standing) (s : ℕ) (q : ShareKey) → all_changed settings (take k []) c s q ≡ c s q
  none_taken zero c s q = refl
  none_taken (suc k) c s q = refl

  -- at a place that was looked at before the first change there stands what stood, and else what that change left
  abbrev first_of : ℕ → Option (List ℕ) → Option (List ℕ) → Option (List ℕ)
  first_of zero old new = old
  first_of (suc k) old new = new

  pub seen_cut : (changes : List Change) (c seen : Standing) → IsSeen settings changes c seen → AreCutOff settings c (items_of_changes changes) seen
  seen_cut [] c seen each = λ j s q. at_first s q j
    where
      at_first : (s : ℕ) (q : ShareKey) → seen s q ≡ c s q
      at_first s q = (each s q).1 ∙ none_taken (each s q).0 c s q
  seen_cut (x ∷ changes) c seen each = (e, (cut, seen_cut changes e seen next))
    where
      e : Standing
      e s q = first_of (each s q).0 (c s q) (changed settings x c s q)

      cut : (w : World) → shown w.marks ≡ c → IsCutOff settings w (item_of_change x) e
      cut w is s q = by_time (each s q).0
        where
          by_time : (k : ℕ) → (first_of k (c s q) (changed settings x c s q) ≡ shown w.marks s q) ⊎ (first_of k (c s q) (changed settings x c s q) ≡ shown (after_entry settings (item_of_change x) w).marks s q)
          by_time zero = inl (ap (λ (f : Standing). f s q) (sym is))
          by_time (suc k) = part_at x w c is s q

      next : IsSeen settings changes e seen
      next s q = by_time (each s q).0 (each s q).1 refl
        where
          by_time : (k : ℕ) → seen s q ≡ all_changed settings (take k (x ∷ changes)) c s q → (each s q).0 ≡ k → (m : ℕ) × (seen s q ≡ all_changed settings (take m changes) e s q)
          by_time zero is at = (0, is ∙ sym (ap (λ k. first_of k (c s q) (changed settings x c s q)) at))
          by_time (suc k) is at =
              (k, is ∙ all_there settings (take k changes) (changed settings x c) e s q (sym (ap (λ m. first_of m (c s q) (changed settings x c s q)) at)))
