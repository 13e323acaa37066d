-- A crash in a call of a gateway.
use Rattle.std.proofs.Common.{◌≡◌, ◌⊎◌, inl, inr, ℕ, zero, suc, ◌+◌, List, [], ◌∷◌, ◌++◌, map, length, take, Bool, cond, Option, Some, None, slice_get, refl, sym, ap, subst, ◌∙◌, add-one}
use Rattle.std.specs.Prelude.{All, option_to_list}
use Rattle.std.specs.Option.{option_map}
use Rattle.std.specs.List.{AllByRecursion, Contains}
use Rattle.std.proofs.lemmas.List.Elements.{All-nil, All-cons, All-head, All-tail}
use Rattle.std.proofs.lemmas.List.{append_cancel_left, map-append}
use Rattle.octets.specs.Sharing.{IsSharing}
use Rattle.erasure.specs.Code.{AreBytes}
use Rattle.std.specs.FinMap.{get}
use Rattle.share_store.specs.Shares.{Shares, ShareKey}
use Rattle.grid.specs.Standing.{Standing}
use Rattle.grid.specs.GridState.{GridState, stood, IsHonest}
use Rattle.grid.specs.Changes.{without, spoiled}
use Rattle.grid.specs.Histories.{TellsOfChange, IsBetween}
use Rattle.grid.proofs.Standing.{take_more}
use Rattle.http_edge.specs.declared.item.Item.{Item}
use Rattle.chk_file.specs.Upload.{Upload, index, shares_of}
use Rattle.chk_file.specs.Marks.{shown, put_marks}
use Rattle.chk_file.specs.World.{World, with_file}
use Rattle.web_ops.specs.Changes.{IsBegunIn}
use Rattle.web_ops.specs.Uploads.{after_stored}
use Rattle.gate_base.specs.declared.tally.Tally.{Tally}
use Rattle.gate_core.specs.Settings.{GatewaySettings, under}
use Rattle.gate_core.specs.Items.{Entry, Asked, Lost, Spoiled, entries_of_items}
use Rattle.gate_core.specs.Runs.{upload_by, after_entry}
use Rattle.gate_core.specs.Uploaded.{IsProper, BringsBytes}
use Rattle.gate_core.specs.Served.{AreBegun}
use Rattle.gate_core.specs.Stopped.{IsStoppedByMemory, upload_at}
use Rattle.restarts.specs.CutOff.{IsCutOff}
use Rattle.restarts.specs.Mended.{AreCutOff}
use Rattle.restarts.specs.LeftIn.{WasLeft, AreLeftIn}
use Rattle.restarts.proofs.Ends.{PutLaw, LostLaw, SpoiledLaw}
use Rattle.restarts.proofs.Places.{long_by}
use Rattle.restarts.proofs.Steps.{Step, IsBegunBy, AreBegunBy, AreCut, after_step, told, cut_steps, cut_still, begun-append}

-- ---- items as steps

abbrev step_by : Option Upload → Step
step_by o = option_map (λ u. (index u, shares_of u)) o

abbrev steps_of : GatewaySettings → List Item → List Step
steps_of settings items = map (λ item. step_by (upload_by settings item)) items

step_begun : (o : Option Upload) (old new : GridState) → IsBegunIn o old new → IsBegunBy (step_by o) old new
step_begun None old new same = record { maps = same.maps; histories = same.histories }
step_begun (Some u) old new begun = record { m = begun.m; stands = begun.put.stands; tells = begun.history; servers = begun.servers }

steps_begun : (settings : GatewaySettings) (items : List Item) (old new : GridState) → AreBegun settings items old new → AreBegunBy (steps_of settings items) old new
steps_begun settings [] old new same = same
steps_begun settings (x ∷ items) old new (middle, (begun, rest)) = (middle, (step_begun (upload_by settings x) old middle begun, steps_begun settings items middle new rest))

-- past the last there is no more to take
none_next : {A : Type 0} (xs : List A) (n : ℕ) → slice_get xs n ≡ None → take (suc n) xs ≡ take n xs
none_next [] zero none = refl
none_next [] (suc n) none = refl
none_next (x ∷ xs) zero none = cc
none_next (x ∷ xs) (suc n) none = ap (λ l. x ∷ l) (none_next xs n none)

no_more : {A : Type 0} (xs : List A) (n : ℕ) → slice_get xs n ≡ None → take (n + 1) xs ≡ take n xs
no_more xs n none = ap (λ k. take k xs) (add-one n) ∙ none_next xs n none

-- ---- items that are cut off

module _ (put : PutLaw) (settings : GatewaySettings) (id : ℕ) (secret : List ℕ) where
  stands_after : (item : Item) (o : Option Upload) (w : World) → upload_by (under settings secret) item ≡ o → shown (after_stored settings.servers o w).marks ≡ after_step settings.servers (step_by o) (shown w.marks)
  stands_after item None w is = refl
  stands_after item (Some u) w is = ap (λ (b : Bool). shown (cond b (after_long u) w).marks) (long_by (under settings secret) item u is) ∙ put settings.servers u w.marks
    where
      after_long : Upload → World
      after_long u = record { files = with_file u w.files; marks = put_marks settings.servers u w.marks }

  item_cut : (item : Item) (c e : Standing) → ((s : ℕ) (q : ShareKey) → (e s q ≡ c s q) ⊎ (e s q ≡ after_step settings.servers (step_by (upload_by (under settings secret) item)) c s q))
      → (w : World) → shown w.marks ≡ c → IsCutOff settings w (Asked id secret item) e
  item_cut item c e cut w is s q = elim (cut s q) [
    | inl same ↦ inl (same ∙ ap (λ f. f s q) (sym is))
    | inr done ↦ inr (done ∙ ap (λ f. after_step settings.servers (step_by (upload_by (under settings secret) item)) f s q) (sym is) ∙ ap (λ f. f s q) (sym (stands_after item (upload_by (under settings secret) item) w refl)))
  ]

  items_cut : (items : List Item) (c d : Standing) → AreCut settings.servers (steps_of (under settings secret) items) c d → AreCutOff settings c (entries_of_items id secret items) d
  items_cut [] c d is = is
  items_cut (x ∷ items) c d (e, (cut, rest)) = (e, (item_cut x c e cut, items_cut items e d rest))

  pub begun_cut : (items : List Item) (old new : GridState) (d : Standing) → length old.stores ≡ settings.servers → AreBegun (under settings secret) items old new → AreLeftIn old new d
      → AreCutOff settings (stood old) (entries_of_items id secret items) d
  begun_cut items old new d servers begun left =
      items_cut items (stood old) d (cut_steps settings.servers (steps_of (under settings secret) items) old new d servers (steps_begun (under settings secret) items old new begun) left)

  -- where memory ran out, the item at which it did is the last of them
  pub stopped_cut : (items : List Item) (old new : GridState) (d : Standing) (t u : Tally) (stopped : IsStoppedByMemory settings secret items old new t u) → IsHonest old → length old.stores ≡ settings.servers → AreLeftIn old new d
      → AreCutOff settings (stood old) (entries_of_items id secret (take (stopped.done + 1) items)) d
  stopped_cut items old new d t u stopped honest servers left = by_next (slice_get items stopped.done) refl (stopped.begun honest)
    where
      before : AreBegunBy (steps_of (under settings secret) (take stopped.done items)) old stopped.middle
      before = steps_begun (under settings secret) (take stopped.done items) old stopped.middle (stopped.served.begun honest)

      by_next : (o : Option Item) → slice_get items stopped.done ≡ o → IsBegunIn (upload_at (under settings secret) (slice_get items stopped.done)) stopped.middle new
          → AreCutOff settings (stood old) (entries_of_items id secret (take (stopped.done + 1) items)) d
      by_next None at begun =
          let still : IsBegunBy None stopped.middle new = step_begun None stopped.middle new (subst (λ o. IsBegunIn (upload_at (under settings secret) o) stopped.middle new) at begun) in
          subst (λ l. AreCutOff settings (stood old) (entries_of_items id secret l) d) (sym (no_more items stopped.done at))
          (items_cut (take stopped.done items) (stood old) d (cut_still settings.servers (steps_of (under settings secret) (take stopped.done items)) (stood old) d
          (cut_steps settings.servers _ old new d servers (begun-append (steps_of (under settings secret) (take stopped.done items)) None old stopped.middle new before still) left)))
      by_next (Some item) at begun =
          let one = step_begun (upload_by (under settings secret) item) stopped.middle new (subst (λ o. IsBegunIn (upload_at (under settings secret) o) stopped.middle new) at begun) in
          subst (λ l. AreCutOff settings (stood old) (entries_of_items id secret l) d) (sym (take_more items stopped.done item at))
          (items_cut (take stopped.done items ++ item ∷ []) (stood old) d
          (subst (λ l. AreCut settings.servers l (stood old) d) (sym (map-append (λ item. step_by (upload_by (under settings secret) item)) (take stopped.done items) (item ∷ [])))
          (cut_steps settings.servers _ old new d servers (begun-append (steps_of (under settings secret) (take stopped.done items)) (step_by (upload_by (under settings secret) item)) old stopped.middle new before one) left)))

-- ---- one change of the operator

one_cut : (settings : GatewaySettings) (x : Entry) (asked : Standing) (old new : GridState) (d : Standing) → ((w : World) → shown w.marks ≡ stood old → shown (after_entry settings x w).marks ≡ asked)
    → (stood new ≡ stood old) ⊎ (stood new ≡ asked) → TellsOfChange asked old new → AreLeftIn old new d → AreCutOff settings (stood old) (x ∷ []) d
one_cut settings x asked old new d follows ends tells left = (d, (λ w is s q. by_left w is s q (left s), refl))
  where
    by_end : (w : World) → shown w.marks ≡ stood old → (s : ℕ) (q : ShareKey) → (stood new ≡ stood old) ⊎ (stood new ≡ asked) → (stood new s q ≡ shown w.marks s q) ⊎ (stood new s q ≡ shown (after_entry settings x w).marks s q)
    by_end w is s q (inl stays) = inl (ap (λ f. f s q) (stays ∙ sym is))
    by_end w is s q (inr done) = inr (ap (λ f. f s q) (done ∙ sym (follows w is)))

    by_left : (w : World) → shown w.marks ≡ stood old → (s : ℕ) (q : ShareKey) → WasLeft old new d s → (d s q ≡ shown w.marks s q) ⊎ (d s q ≡ shown (after_entry settings x w).marks s q)
    by_left w is s q (inl stays) = inl (stays q ∙ ap (λ f. f s q) (sym is))
    by_left w is s q (inr (inl now)) = elim (by_end w is s q ends) [ inl same ↦ inl (now q ∙ same) | inr done ↦ inr (now q ∙ done) ]
    by_left w is s q (inr (inr (before, (more, (c, (at, (new_at, (among, has)))))))) =
        let on = tells s before at in
        let same : Some (before ++ more) ≡ Some (before ++ on.0) = sym new_at ∙ on.1.0 in
        let split : more ≡ on.0 = append_cancel_left before more on.0 (cc) in
        by_change (IsBetween (stood old) asked s) (told (IsBetween (stood old) asked s) on.0 c on.1.1 (subst (λ l. Contains l c) split among) q)
      where
        by_change : (P : Shares → Type 0) → (get c q ≡ stood old s q) ⊎ (get c q ≡ asked s q) → (d s q ≡ shown w.marks s q) ⊎ (d s q ≡ shown (after_entry settings x w).marks s q)
        by_change P (inl stays) = inl (has q ∙ stays ∙ ap (λ f. f s q) (sym is))
        by_change P (inr done) = inr (has q ∙ done ∙ ap (λ f. f s q) (sym (follows w is)))

pub lost_cut : LostLaw → (settings : GatewaySettings) (server : ℕ) (key : ShareKey) (old new : GridState) (d : Standing) → (stood new ≡ stood old) ⊎ (stood new ≡ without server key (stood old))
    → TellsOfChange (without server key (stood old)) old new → AreLeftIn old new d
    → AreCutOff settings (stood old) (Lost server key ∷ []) d
lost_cut law settings server key old new d = one_cut settings (Lost server key) (without server key (stood old)) old new d (λ w is. law server key w.marks ∙ ap (without server key) is)

pub spoiled_cut : SpoiledLaw → (settings : GatewaySettings) (server : ℕ) (key : ShareKey) (place : ℕ) (old new : GridState) (d : Standing) → (stood new ≡ stood old) ⊎ (stood new ≡ spoiled server key place (stood old))
    → TellsOfChange (spoiled server key place (stood old)) old new
    → AreLeftIn old new d → AreCutOff settings (stood old) (Spoiled server key place ∷ []) d
spoiled_cut law settings server key place old new d = one_cut settings (Spoiled server key place) (spoiled server key place (stood old)) old new d (λ w is. law server key place w.marks ∙ ap (spoiled server key place) is)

-- ---- what is uploaded are bytes

one_proper : (settings : GatewaySettings) (id : ℕ) (secret : List ℕ) (item : Item) → IsSharing settings.k settings.n → BringsBytes (upload_by (under settings secret) item) → IsProper settings (Asked id secret item ∷ [])
one_proper settings id secret item sharing brings = record { sharing = sharing; bytes = by_upload (upload_by (under settings secret) item) brings }
  where
    by_upload : (o : Option Upload) → BringsBytes o → All (λ (u : Upload). AreBytes u.bytes) (option_to_list o ++ [])
    by_upload None brings = All-nil (λ (u : Upload). AreBytes u.bytes)
    by_upload (Some u) brings = All-cons (λ (v : Upload). AreBytes v.bytes) u [] brings (All-nil (λ (v : Upload). AreBytes v.bytes))

pub all_proper : (settings : GatewaySettings) (id : ℕ) (secret : List ℕ) (items : List Item) → IsSharing settings.k settings.n → All (λ item. BringsBytes (upload_by (under settings secret) item)) items
    → AllByRecursion (λ x. IsProper settings (x ∷ [])) (entries_of_items id secret items)
all_proper settings id secret [] sharing brings = tt
all_proper settings id secret (x ∷ items) sharing brings = (
  one_proper settings id secret x sharing (All-head (λ item. BringsBytes (upload_by (under settings secret) item)) x items brings),
  all_proper settings id secret items sharing (All-tail (λ item. BringsBytes (upload_by (under settings secret) item)) x items brings),
)
