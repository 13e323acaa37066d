-- Worlds as they are among another number of servers.
use Rattle.std.proofs.Common.{◌≡◌, ℕ, Bool, true, false, cond, ◌==◌, List, [], ◌∷◌, ◌++◌, length, All, Option, Some, None, nat_lt, refl, sym, ap, subst, ◌∙◌, eqb-true}
use Rattle.std.proofs.lemmas.List.{append-nil}
use Rattle.std.proofs.lemmas.List.Concat.{flat_map-append}
use Rattle.std.specs.FinMap as finite
use Rattle.std.specs.Option.{option_map}
use Rattle.std.specs.Prelude.{option_to_list}
use Rattle.http_edge.specs.declared.item.Item.{Item}
use Rattle.http_edge.specs.declared.item.Item.TheVariants.{Request as RequestItem, Continue, Fault}
use Rattle.erasure.specs.Code.{AreBytes}
use Rattle.share_store.specs.Shares.{Shares, ShareKey}
use Rattle.grid.specs.Standing.{Standing, standing}
use Rattle.grid.specs.GridState.{stood}
use Rattle.chk_file.specs.Upload.{Upload}
use Rattle.chk_file.specs.Marks.{Mark, shown, stands, put_marks, spoiled_at}
use Rattle.chk_file.specs.World.{World, empty, with_file}
use Rattle.gate_core.specs.Settings.{GatewaySettings, under}
use Rattle.gate_core.specs.Items.{Entry, Asked, Lost, Spoiled}
use Rattle.gate_core.specs.Runs.{upload_by, after_entry, world_after}
use Rattle.gate_core.specs.Uploaded.{IsProper, IsLeftBy, uploads_by, uploads_of}
use Rattle.gate_core.specs.ConnectionState.{State}
use Rattle.gate_core.specs.Came.{Starts}
use Rattle.web_ops.specs.Uploads.{after_stored}
use Rattle.share_moves.specs.Moves.{first_share_of, moved_shares}
use Rattle.moved_grids.specs.MovedRuns.{with_servers, moved_item, moved_items, moved_world, lost_items, MovedWorld, IsPartOf, IsLeftMoved}
use Rattle.moved_grids.proofs.MissingShares.{without_all, missing_of, keys_of, are_losses, shown_with_losses, files_with_losses, proper_with_losses}
use Rattle.moved_grids.proofs.MovedMarks.{place_of, ArePlaced, AreMoved, put_moved, put_placed, changed_moved, unchanged_moved, changed_placed}

-- how many servers there are says nothing of what is uploaded
same_upload : (settings : GatewaySettings) (count : ℕ) (secret : List ℕ) (item : Item) → upload_by (under (with_servers settings count) secret) item ≡ upload_by (under settings secret) item
unfolding upload_by
same_upload settings count secret (RequestItem head body close) = refl
same_upload settings count secret Continue = refl
same_upload settings count secret (Fault fault head_only) = refl

-- a world, and the same one among another number of servers
record IsMovedWorld (old new : ℕ) (w v : World) : Type 0 where
  placed : ArePlaced old new w.marks
  marks : AreMoved old new w.marks v.marks
  files : v.files ≡ w.files

module _ (settings : GatewaySettings) (count : ℕ) where
  abbrev old : ℕ
  old = settings.servers

  abbrev among : GatewaySettings
  among = with_servers settings count

  -- ---- one item

  after_long : (u : Upload) (w v : World) → IsMovedWorld old count w v → (b : Bool)
      → IsMovedWorld old count (cond b (record { files = with_file u w.files; marks = put_marks old u w.marks }) w) (cond b (record { files = with_file u v.files; marks = put_marks count u v.marks }) v)
  after_long u w v is true = record {
    placed = put_placed old count u w.marks v.marks is.marks is.placed;
    marks = put_moved old count u w.marks v.marks is.marks is.placed;
    files = ap (with_file u) is.files;
  }
  after_long u w v is false = is

  after_upload_of : (o : Option Upload) (w v : World) → IsMovedWorld old count w v → IsMovedWorld old count (after_stored old o w) (after_stored count o v)
  after_upload_of None w v is = is
  after_upload_of (Some u) w v is = after_long u w v is (nat_lt 55 (length u.bytes))

  after_item : (x : Entry) (w v : World) → IsMovedWorld old count w v → IsMovedWorld old count (after_entry settings x w) (world_after among v (moved_item old count x))
  after_item (Asked id secret item) w v is =
      subst (λ (o : Option Upload). IsMovedWorld old count (after_stored old (upload_by (under settings secret) item) w) (after_stored count o v)) (sym (same_upload settings count secret item))
      (after_upload_of (upload_by (under settings secret) item) w v is)
  after_item (Lost server key) w v is = by_place (server == place_of old key) refl
    where
      by_place : (b : Bool) → (server == place_of old key) ≡ b → IsMovedWorld old count (after_entry settings (Lost server key) w) (world_after among v (cond b (Lost (place_of count key) key ∷ []) []))
      by_place true on = record {
        placed = changed_placed old count (λ q o. None) (λ q. refl) key w.marks v.marks is.marks is.placed server;
        marks = changed_moved old count (λ q o. None) (λ q. refl) key w.marks v.marks is.marks is.placed server (eqb-true server (place_of old key) on);
        files = is.files;
      }
      by_place false off = record {
        placed = changed_placed old count (λ q o. None) (λ q. refl) key w.marks v.marks is.marks is.placed server;
        marks = unchanged_moved old count (λ q o. None) (λ q. refl) key w.marks v.marks is.marks is.placed server off;
        files = is.files;
      }
  after_item (Spoiled server key place) w v is = by_place (server == place_of old key) refl
    where
      by_place : (b : Bool) → (server == place_of old key) ≡ b → IsMovedWorld old count (after_entry settings (Spoiled server key place) w) (world_after among v (cond b (Spoiled (place_of count key) key place ∷ []) []))
      by_place true on = record {
        placed = changed_placed old count (λ q o. option_map (spoiled_at q.1 place) o) (λ q. refl) key w.marks v.marks is.marks is.placed server;
        marks = changed_moved old count (λ q o. option_map (spoiled_at q.1 place) o) (λ q. refl) key w.marks v.marks is.marks is.placed server (eqb-true server (place_of old key) on);
        files = is.files;
      }
      by_place false off = record {
        placed = changed_placed old count (λ q o. option_map (spoiled_at q.1 place) o) (λ q. refl) key w.marks v.marks is.marks is.placed server;
        marks = unchanged_moved old count (λ q o. option_map (spoiled_at q.1 place) o) (λ q. refl) key w.marks v.marks is.marks is.placed server off;
        files = is.files;
      }

  -- ---- all items

  world_after-append : (xs ys : List Entry) (v : World) → world_after among v (xs ++ ys) ≡ world_after among (world_after among v xs) ys
  world_after-append [] ys v = refl
  world_after-append (x ∷ xs) ys v = world_after-append xs ys (after_entry among x v)

  after_items : (past : List Entry) (w v : World) → IsMovedWorld old count w v → IsMovedWorld old count (world_after settings w past) (world_after among v (moved_items old count past))
  after_items [] w v is = is
  after_items (x ∷ past) w v is =
      subst (λ (z : World). IsMovedWorld old count (world_after settings (after_entry settings x w) past) z) (sym (world_after-append (moved_item old count x) (moved_items old count past) v))
      (after_items past (after_entry settings x w) (world_after among v (moved_item old count x)) (after_item x w v is))

  at_first : IsMovedWorld old count empty empty
  at_first = record {
    placed = λ s q far. refl;
    marks = λ s q. by_test (s == place_of count q);
    files = refl;
  }
    where
      by_test : (t : Bool) → (let none : Option Mark = None in none) ≡ cond t None None
      by_test true = refl
      by_test false = refl

  -- ---- what is uploaded

  same_uploads_by : (x : Entry) → uploads_of among (moved_item old count x) ≡ uploads_by settings x
  same_uploads_by (Asked id secret item) = append-nil (uploads_by among (Asked id secret item)) ∙ ap option_to_list (same_upload settings count secret item)
  same_uploads_by (Lost server key) = by_test (server == place_of old key)
    where
      by_test : (t : Bool) → uploads_of among (cond t (Lost (place_of count key) key ∷ []) []) ≡ []
      by_test true = refl
      by_test false = refl
  same_uploads_by (Spoiled server key place) = by_test (server == place_of old key)
    where
      by_test : (t : Bool) → uploads_of among (cond t (Spoiled (place_of count key) key place ∷ []) []) ≡ []
      by_test true = refl
      by_test false = refl

  same_uploads : (past : List Entry) → uploads_of among (moved_items old count past) ≡ uploads_of settings past
  same_uploads [] = refl
  same_uploads (x ∷ past) =
      flat_map-append (uploads_by among) (moved_item old count x) (moved_items old count past)
      ∙ ap (λ l. l ++ uploads_of among (moved_items old count past)) (same_uploads_by x)
      ∙ ap (λ l. uploads_by settings x ++ l) (same_uploads past)

  still_proper : (past : List Entry) → IsProper settings past → IsProper among (moved_items old count past)
  still_proper past proper = record {
    sharing = proper.sharing;
    bytes = subst (All (λ (u : Upload). AreBytes u.bytes)) (sym (same_uploads past)) proper.bytes;
  }

  -- ---- what stands

  module _ (first : (maps : List Shares) (server : ℕ) (key : ShareKey) → ((other : ℕ) → (other ≡ server → ⊥) → standing maps other key ≡ None) → first_share_of maps key ≡ standing maps server key)
      (maps : List Shares) (w v : World) (is : IsMovedWorld old count w v) (stand : standing maps ≡ shown w.marks) where
    not_there : (q : ShareKey) (other : ℕ) → (other ≡ place_of old q → ⊥) → standing maps other q ≡ None
    not_there q other apart = ap (λ (st : Standing). st other q) stand ∙ ap (option_map (stands q.1)) (is.placed other q (by_test (other == place_of old q) refl))
      where
        by_test : (t : Bool) → (other == place_of old q) ≡ t → t ≡ false
        by_test true on = absurd (apart (eqb-true other (place_of old q) on))
        by_test false off = refl

    shows : moved_shares count maps ≡ shown v.marks
    shows =
        let point : (s : ℕ) (q : ShareKey) → moved_shares count maps s q ≡ shown v.marks s q = λ s q.
        ap (λ o. cond (s == place_of count q) o None) (first maps (place_of old q) q (not_there q) ∙ ap (λ (st : Standing). st (place_of old q) q) stand)
        ∙ by_test q (s == place_of count q) (w.marks (place_of old q) q)
        ∙ sym (ap (option_map (stands q.1)) (is.marks s q)) in
        λ j s q. point s q j
      where
        by_test : (q : ShareKey) (t : Bool) (o : Option Mark) → cond t (option_map (stands q.1) o) None ≡ option_map (stands q.1) (cond t o None)
        by_test q true o = refl
        by_test q false o = refl

pub moved_is_left : ((maps : List Shares) (server : ℕ) (key : ShareKey) → ((other : ℕ) → (other ≡ server → ⊥) → standing maps other key ≡ None) → first_share_of maps key ≡ standing maps server key)
    → ((w : World) (g : State) → g.connections ≡ finite.empty → length g.grid.stores ≡ g.settings.servers → stood g.grid ≡ shown w.marks → Starts w g)
    → (settings : GatewaySettings) (count : ℕ) (past : List Entry) (w : World) (maps : List Shares) → IsLeftBy settings past w → standing maps ≡ shown w.marks → MovedWorld settings count past w (moved_shares count maps)
moved_is_left first begins settings count past w maps left stand =
    let is : IsMovedWorld settings.servers count (world_after settings empty past) (moved_world settings count past) = after_items settings count past empty empty (at_first settings count) in
    let shown_is : moved_shares count maps ≡ shown (moved_world settings count past).marks =
    shows settings count first maps (world_after settings empty past) (moved_world settings count past) is (stand ∙ ap (λ (v : World). shown v.marks) left.world) in
    record {
      left = record { world = refl; proper = still_proper settings count past left.proper };
      stands = shown_is;
      files = is.files ∙ ap (λ (v : World). v.files) (sym left.world);
      starts = λ g none servers same. begins (moved_world settings count past) g none servers (same ∙ shown_is);
    }

pub moved_partly_is_left : ((maps : List Shares) (server : ℕ) (key : ShareKey) → ((other : ℕ) → (other ≡ server → ⊥) → standing maps other key ≡ None) → first_share_of maps key ≡ standing maps server key)
    → ((w : World) (g : State) → g.connections ≡ finite.empty → length g.grid.stores ≡ g.settings.servers → stood g.grid ≡ shown w.marks → Starts w g)
    → (settings : GatewaySettings) (count : ℕ) (past : List Entry) (w : World) (maps : List Shares) (c : Standing) → IsLeftBy settings past w → standing maps ≡ shown w.marks → IsPartOf (moved_shares count maps) c
    → IsLeftMoved settings count past w c
moved_partly_is_left first begins settings count past w maps c left stand some =
    let whole = moved_is_left first begins settings count past w maps left stand in
    let among = with_servers settings count in
    let items = moved_items settings.servers count past in
    let missing = missing_of count c (keys_of maps) in
    let v : World = world_after among empty (items ++ lost_items missing) in
    let shown_is : c ≡ shown v.marks = are_losses count c maps some ∙ ap (without_all missing) whole.stands ∙ sym (shown_with_losses among items missing empty) in
    record {
      missing = missing;
      world = v;
      left = record { world = refl; proper = proper_with_losses among items missing whole.left.proper };
      stands = shown_is;
      files = files_with_losses among items missing empty ∙ whole.files;
      starts = λ g none servers same. begins v g none servers (same ∙ shown_is);
    }
