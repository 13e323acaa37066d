-- What stays, where only gateways change a grid.
use Rattle.std.proofs.Common.{◌≡◌, ℕ, zero, suc, ◌<◌, Bool, true, false, cond, ◌&&◌, List, [], ◌∷◌, take, length, Option, Some, None, refl, sym, ap, subst, ◌∙◌, arith, eqb-true}
use Rattle.std.specs.Prelude.{◌==◌, nat_lt, slice_get, unwrap_or}
use Rattle.std.specs.List.{AllByRecursion}
use Rattle.std.specs.Ordering.{eq_by_cmp, nat_cmp}
use Rattle.std.specs.Cmp.Lexicographic.{slice_cmp}
use Rattle.std.proofs.lemmas.Bool.{and_parts, ltb-true}
use Rattle.std.proofs.lemmas.List.FromFn.{length-map-range_with_len}
use Rattle.std.proofs.lemmas.Map.Lookups.{exact_bytes}
use Rattle.std.proofs.lemmas.Map.Views.{tells_apart}
use Rattle.http_edge.specs.declared.item.Item.{Item}
use Rattle.share_store.specs.Shares.{ShareKey, key_cmp}
use Rattle.grid.specs.Standing.{Standing}
use Rattle.grid.specs.Placement.{server_of, placed}
use Rattle.chk_file.specs.Upload.{Upload, index, share_of, shares_of}
use Rattle.chk_file.specs.Marks.{shown}
use Rattle.chk_file.specs.World.{World}
use Rattle.gate_core.specs.Settings.{GatewaySettings, under}
use Rattle.gate_core.specs.Items.{Asked}
use Rattle.gate_core.specs.Runs.{upload_by, after_entry}
use Rattle.restarts.proofs.Ends.{PutLaw, LostLaw, SpoiledLaw}
use Rattle.many_gates.specs.Changes.{Change, Put, Lose, Spoil, with_one_share, changed, all_changed}
use Rattle.many_gates.specs.Seen.{IsSeen, IsPut, AllStandIn}
use Rattle.many_gates.proofs.Steps.{stands_after}

either_way : (b : Bool) (bytes other : List ℕ) (o : Option (List ℕ)) → o ≡ Some bytes → cond b (Some (unwrap_or o other)) o ≡ Some bytes
either_way true bytes other o is = ap (λ (p : Option (List ℕ)). Some (unwrap_or p other)) is
either_way false bytes other o is = is

share_kept : (servers : ℕ) (o : Option Upload) (number : ℕ) (c : Standing) (s : ℕ) (q : ShareKey) (bytes : List ℕ) → c s q ≡ Some bytes → with_one_share servers o number c s q ≡ Some bytes
share_kept servers None number c s q bytes is = is
share_kept servers (Some u) number c s q bytes is =
    either_way (nat_lt number u.n && (s == server_of servers (index u) number && eq_by_cmp key_cmp q (index u, number))) bytes (share_of u number) (c s q) is

one_kept : (settings : GatewaySettings) (x : Change) (c : Standing) (s : ℕ) (q : ShareKey) (bytes : List ℕ) → IsPut x → c s q ≡ Some bytes → changed settings x c s q ≡ Some bytes
one_kept settings (Put id secret item number) c s q bytes put is = share_kept settings.servers (upload_by (under settings secret) item) number c s q bytes is
one_kept settings (Lose server key) c s q bytes put is = absurd put
one_kept settings (Spoil server key place) c s q bytes put is = absurd put

kept : (settings : GatewaySettings) (changes : List Change) (k : ℕ) (c : Standing) (s : ℕ) (q : ShareKey) (bytes : List ℕ) → AllByRecursion IsPut changes → c s q ≡ Some bytes
    → all_changed settings (take k changes) c s q ≡ Some bytes
kept settings [] zero c s q bytes puts is = is
kept settings [] (suc k) c s q bytes puts is = is
kept settings (x ∷ changes) zero c s q bytes puts is = is
kept settings (x ∷ changes) (suc k) c s q bytes puts is = kept settings changes k (changed settings x c) s q bytes puts.1 (one_kept settings x c s q bytes puts.0 is)

pub still_seen : (settings : GatewaySettings) (changes : List Change) (before seen : Standing) (s : ℕ) (q : ShareKey) (bytes : List ℕ) → AllByRecursion IsPut changes → IsSeen settings changes before seen
    → before s q ≡ Some bytes → seen s q ≡ Some bytes
still_seen settings changes before seen s q bytes puts each is = (each s q).1 ∙ kept settings changes (each s q).0 before s q bytes puts is

all_kept : (settings : GatewaySettings) (changes : List Change) (c : Standing) (s : ℕ) (q : ShareKey) (bytes : List ℕ) → AllByRecursion IsPut changes → c s q ≡ Some bytes → all_changed settings changes c s q ≡ Some bytes
all_kept settings [] c s q bytes puts is = is
all_kept settings (x ∷ changes) c s q bytes puts is = all_kept settings changes (changed settings x c) s q bytes puts.1 (one_kept settings x c s q bytes puts.0 is)

later : (settings : GatewaySettings) (changes : List Change) (k : ℕ) (c : Standing) (s : ℕ) (q : ShareKey) (bytes : List ℕ) → AllByRecursion IsPut changes → all_changed settings (take k changes) c s q ≡ Some bytes
    → all_changed settings changes c s q ≡ Some bytes
later settings [] zero c s q bytes puts is = is
later settings [] (suc k) c s q bytes puts is = is
later settings (x ∷ changes) zero c s q bytes puts is = all_kept settings (x ∷ changes) c s q bytes puts is
later settings (x ∷ changes) (suc k) c s q bytes puts is = later settings changes k (changed settings x c) s q bytes puts.1 is

pub still_stands : (settings : GatewaySettings) (changes : List Change) (before seen : Standing) (s : ℕ) (q : ShareKey) (bytes : List ℕ) → AllByRecursion IsPut changes → IsSeen settings changes before seen
    → seen s q ≡ Some bytes → all_changed settings changes before s q ≡ Some bytes
still_stands settings changes before seen s q bytes puts each is = later settings changes (each s q).0 before s q bytes puts (sym (each s q).1 ∙ is)

-- ---- an upload of which all shares stand

module _ (servers : ℕ) (u : Upload) (c : Standing) (all : AllStandIn servers u c) where
  long : length (shares_of u) ≡ u.n
  long = length-map-range_with_len (share_of u) 0 u.n

  same_at : (s : ℕ) (q : ShareKey) → placed servers (index u) (shares_of u) c s q ≡ c s q
  same_at s q = by_case (eq_by_cmp (slice_cmp nat_cmp) q.0 (index u) && nat_lt q.1 (length (shares_of u)) && s == server_of servers (index u) q.1) refl
    where
      by_case : (b : Bool) → (eq_by_cmp (slice_cmp nat_cmp) q.0 (index u) && nat_lt q.1 (length (shares_of u)) && s == server_of servers (index u) q.1) ≡ b → placed servers (index u) (shares_of u) c s q ≡ c s q
      by_case false off = ap (λ b. cond b (Some (unwrap_or (c s q) (unwrap_or (slice_get (shares_of u) q.1) []))) (c s q)) off
      by_case true on =
          let outer = and_parts (eq_by_cmp (slice_cmp nat_cmp) q.0 (index u) && nat_lt q.1 (length (shares_of u))) (s == server_of servers (index u) q.1) on in
          let inner = and_parts (eq_by_cmp (slice_cmp nat_cmp) q.0 (index u)) (nat_lt q.1 (length (shares_of u))) outer.0 in
          let at : s ≡ server_of servers (index u) q.1 = eqb-true s (server_of servers (index u) q.1) outer.1 in
          let same : q.0 ≡ index u = tells_apart exact_bytes q.0 (index u) inner.0 in
          let key : q ≡ (index u, q.1) = ap (λ (i : List ℕ). (let k : ShareKey = (i, q.1) in k)) same in
          let there = all q.1 (omega (arith, long, ltb-true q.1 (length (shares_of u)) inner.1)) in
          let is : c s q ≡ Some there.0 = ap (λ t. c t q) at ∙ ap (c (server_of servers (index u) q.1)) key ∙ there.1 in
          ap (λ b. cond b (Some (unwrap_or (c s q) (unwrap_or (slice_get (shares_of u) q.1) []))) (c s q)) on
          ∙ ap (λ (o : Option (List ℕ)). Some (unwrap_or o (unwrap_or (slice_get (shares_of u) q.1) []))) is ∙ sym is

pub done : PutLaw → LostLaw → SpoiledLaw → (settings : GatewaySettings) (w : World) (id : ℕ) (secret : List ℕ) (item : Item) (u : Upload) → upload_by (under settings secret) item ≡ Some u
    → AllStandIn settings.servers u (shown w.marks) → shown (after_entry settings (Asked id secret item) w).marks ≡ shown w.marks
done put lost spoil settings w id secret item u is all =
    stands_after put lost spoil settings secret id u w item is ∙ (λ j s q. same_at settings.servers u (shown w.marks) all s q j)
