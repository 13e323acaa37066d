-- Calls that store nothing, over stores that others change.
use Rattle.std.proofs.Common.{◌≡◌, ◌≢◌, inl, inr, ℕ, List, length, Contains, Bool, true, false, Option, Some, None, Result, Ok, Err, IfOk, IfSome, refl, sym, ap, subst, ◌∙◌}
use Rattle.std.specs.Prelude.{◌&&◌, ◌==◌, not, IsErrAnd}
use Rattle.std.proofs.lemmas.Result.{IfOk-weaker}
use Rattle.std.specs.declared.alloc.AllocError.{AllocError}
use Rattle.caps.specs.declared.cap.Cap.{Cap}
use Rattle.caps.specs.declared.cap.Cap.TheVariants.{Chk, DirChk}
use Rattle.caps.specs.declared.cap.VerifyCap.{VerifyCap}
use Rattle.caps.specs.Fields.{ReadValue}
use Rattle.caps.specs.Kinds.{is_verify_cap}
use Rattle.caps.specs.StorageIndex.{index_of}
use Rattle.caps.specs.Weakening.{verify_fields, weakened}
use Rattle.grid.specs.GridState.{GridState, raised_at}
use Rattle.grid.specs.Standing.{standing}
use Rattle.grid.specs.Leaves.{Leaves}
use Rattle.grid.specs.Views.{AllTell, TellOn, StandStill}
use Rattle.grid.proofs.Turns.{leaves_none}
use Rattle.grid.proofs.Views.{tell_on_none, tell_on_both, still_none, still_both}
use Rattle.chk_file.specs.Cached.{CacheEntry}
use Rattle.chk_file.specs.Amid.{SeesReached, IsKeptOrSeen, AreKeptSeen}
use Rattle.file_shares.specs.Check.{HealthValue, check}
use Rattle.chk_file.specs.Reached.{OfReachedIn}
use Rattle.chk_file.proofs.Amid.{kept_both, seen_so}
use Rattle.path_walk.specs.Walk.{FileLookup}
use Rattle.path_walk.specs.Amid.{IsGivenAmid, WalksBy}
use Rattle.path_walk.specs.declared.fault.WalkFault.{WalkFault}
use Rattle.path_walk.specs.declared.fault.WalkFault.TheVariants.{NoMemory}
use Rattle.path_walk.proofs.Amid.{given_amid, seen_amid, walks_so, not_memory}
use Rattle.health_json.specs.Checks.{literal_check_text}
use Rattle.web_request.specs.declared.request.Request.{Request}
use Rattle.web_request.specs.declared.request.Request.TheVariants.{Put, Mkdir, Get, Check}
use Rattle.web_replies.specs.declared.reply.Reply.{Reply}
use Rattle.web_ops.specs.Encoding.{Encoding}
use Rattle.web_replies.specs.Replies.{json_reply, bytes_reply, not_readable}
use Rattle.web_ops.specs.Answers.{with_bytes, listing_reply, node_reply, walk_reply, health_text, range_to_apply}
use Rattle.web_ops.specs.Amid.{fields_read, IsNodeBy, IsHealthAmid, IsEndReply, IsWalkReply, IsAnsweredBy, IsReplyBy}
use Rattle.web_ops.specs.Calls.{IsFoundAmid}

-- a reply for which no store is asked
pub unasked_amid : (Says : Reply → Type 0) (r : Result Reply AllocError) (cache : List CacheEntry) (g : GridState) → IfOk r Says → IsFoundAmid Says r cache cache g g
unasked_amid Says r cache g is = record { told = tell_on_none g; stand_still = still_none g; kept_seen = λ all entry there. inl there; seen = λ all. is }

-- where the cache is as it was
pub kept_none : (cache kept : List CacheEntry) (old new : GridState) → kept ≡ cache → AreKeptSeen cache kept old new
kept_none cache kept old new same entry there = inl (subst (λ (entries : List CacheEntry). Contains entries entry) same there)

-- memory was refused
pub refused_amid : (Says : Reply → Type 0) (e : AllocError) (cache kept : List CacheEntry) (old new : GridState)
    → TellOn old new → StandStill old new → (AllTell old → AreKeptSeen cache kept old new) → IsFoundAmid Says (Err e) cache kept old new
refused_amid Says e cache kept old new told still seen = record { told = told; stand_still = still; kept_seen = seen; seen = λ all. tt }

-- before a store was asked
pub failed_amid : (Says : Reply → Type 0) (P : AllocError → Type 0) (r : Result Reply AllocError) (cache : List CacheEntry) (g : GridState) → IsErrAnd r P → IsFoundAmid Says r cache cache g g
failed_amid Says P (Ok x) cache g is = absurd is
failed_amid Says P (Err e) cache g is = unasked_amid Says (Err e) cache g tt

-- what a read gave
pub given_kept : (cache : List CacheEntry) (old new : GridState) (f : ReadValue) (bytes : List ℕ) → IsKeptOrSeen cache old new f bytes → IsGivenAmid cache old new f (Some bytes)
given_kept cache old new f bytes (inl there) = inl (record { stamp = raised_at old (index_of f.key); bytes = bytes; there = there; is = refl })
given_kept cache old new f bytes (inr seen) = inr seen

-- ---- at the end of a walk

module _ (fields : ReadValue) (found : Option (List ℕ)) (range : Option (List ℕ)) (r : Result Reply AllocError) (cache kept : List CacheEntry) (old new : GridState)
    (told : TellOn old new) (still : StandStill old new) (seen : AllTell old → AreKeptSeen cache kept old new) (given : AllTell old → IsGivenAmid cache old new fields found) where
  -- the bytes of a file were read
  pub content_amid : IfOk r (λ x. x ≡ with_bytes (bytes_reply (Some (verify_fields fields)) range) found) → IsFoundAmid (IsNodeBy (IsGivenAmid cache old new) false range (Chk fields)) r cache kept old new
  content_amid is = record {
    told = told;
    stand_still = still;
    kept_seen = seen;
    seen = λ all. IfOk-weaker r _ _ (λ x e. record { gives = λ _. found; given = given all; is = e }) is;
  }

  -- or those of a directory
  pub listing_amid : IfOk r (λ x. x ≡ with_bytes (listing_reply (DirChk fields)) found) → IsFoundAmid (IsNodeBy (IsGivenAmid cache old new) true range (DirChk fields)) r cache kept old new
  listing_amid is = record {
    told = told;
    stand_still = still;
    kept_seen = seen;
    seen = λ all. IfOk-weaker r _ _ (λ x e. record { gives = λ _. found; given = given all; is = e }) is;
  }

-- nothing is read of it
pub unread_amid : (Given : ReadValue → Option (List ℕ) → Type 0) (json : Bool) (range : Option (List ℕ)) (cap : Cap) (reply : Reply) (r : Result Reply AllocError) (cache : List CacheEntry) (g : GridState)
    → fields_read json cap ≡ None → node_reply (λ _. None) json range cap ≡ reply → IfOk r (λ x. x ≡ reply) → IsFoundAmid (IsNodeBy Given json range cap) r cache cache g g
unread_amid Given json range cap reply r cache g none same is =
    unasked_amid (IsNodeBy Given json range cap) r cache g
    (IfOk-weaker r _ _ (λ x e. record { gives = λ _. None; given = subst (λ (o : Option ReadValue). IfSome o (λ f. Given f None)) (sym none) tt; is = e ∙ sym same }) is)

-- ---- walks

module _ (Is : Cap → Reply → Type 0) (cap : Cap) (names : List (List ℕ)) (r : Result Reply AllocError) (cache between kept : List CacheEntry) (old mid new : GridState)
    (told : TellOn old mid) (still : StandStill old mid) (seen : AllTell old → AreKeptSeen cache between old mid) where
  -- a walk came to its end, and what is answered there follows from what was seen after it
  pub walked_amid : (end : Cap) (Late : Reply → Type 0) → Leaves mid new
      → (AllTell old → (let w : Result Cap WalkFault = Ok end in (w ≢ Err NoMemory) → WalksBy (IsGivenAmid cache old mid) cap names w))
      → IsFoundAmid Late r between kept mid new → (AllTell old → (x : Reply) → Late x → Is end x)
      → IsFoundAmid (IsWalkReply (IsGivenAmid cache old new) Is cap names) r cache kept old new
  walked_amid end Late after walks found so = record {
    told = tell_on_both old mid new told found.told;
    stand_still = still_both old mid new still found.stand_still;
    kept_seen = λ all. kept_both old mid new cache between kept told still found.told (seen all) (found.kept_seen (told.all all));
    seen = λ all. IfOk-weaker r _ _ (λ x late. record {
      walk = Ok end;
      walks = walks_so (IsGivenAmid cache old mid) (IsGivenAmid cache old new)
          (given_amid old old mid new (leaves_none old) (tell_on_none old) (still_none old) told after found.told cache cache (λ entry there. inl there)) cap names (Ok end)
          (walks all (not_memory end));
      is = so all x late;
    }) (found.seen (told.all all));
  }

module _ (Is : Cap → Reply → Type 0) (cap : Cap) (names : List (List ℕ)) (r : Result Reply AllocError) (cache kept : List CacheEntry) (old new : GridState) where
  -- a walk stopped
  pub stopped_amid : (fault : WalkFault) → TellOn old new → StandStill old new → (AllTell old → AreKeptSeen cache kept old new)
      → (AllTell old → (let w : Result Cap WalkFault = Err fault in (w ≢ Err NoMemory) → WalksBy (IsGivenAmid cache old new) cap names w))
      → IfOk r (λ x. (fault ≢ NoMemory) × (x ≡ walk_reply fault)) → IsFoundAmid (IsWalkReply (IsGivenAmid cache old new) Is cap names) r cache kept old new
  stopped_amid fault told still seen walks is = record {
    told = told;
    stand_still = still;
    kept_seen = seen;
    seen = λ all. IfOk-weaker r _ _ (λ x e. record { walk = Err fault; walks = walks all (not_same fault e.0); is = e.1 }) is;
  }
    where
      not_same : (fault : WalkFault) → fault ≢ NoMemory → (let w : Result Cap WalkFault = Err fault in w ≢ Err NoMemory)
      not_same fault some same = some cc

  -- where the cap leads somewhere
  pub somewhere_amid : (b : Bool) → b ≡ false → IsFoundAmid (IsWalkReply (IsGivenAmid cache old new) Is cap names) r cache kept old new
      → IsFoundAmid (IsAnsweredBy b (IsGivenAmid cache old new) Is cap names) r cache kept old new
  somewhere_amid true e found = cc
  somewhere_amid false e found = found

-- where it leads nowhere
pub nowhere_amid : (Given : ReadValue → Option (List ℕ) → Type 0) (Is : Cap → Reply → Type 0) (b : Bool) (cap : Cap) (names : List (List ℕ)) (r : Result Reply AllocError) (cache : List CacheEntry) (g : GridState)
    → b ≡ true → IfOk r (λ x. x ≡ not_readable) → IsFoundAmid (IsAnsweredBy b Given Is cap names) r cache cache g g
nowhere_amid Given Is true cap names r cache g e is = unasked_amid (IsAnsweredBy true Given Is cap names) r cache g is
nowhere_amid Given Is false cap names r cache g e is = cc

-- ---- what each read gives, in other words

module _ (Given Other : ReadValue → Option (List ℕ) → Type 0) (so : (f : ReadValue) (found : Option (List ℕ)) → Given f found → Other f found) where
  fields_so : (o : Option ReadValue) (gives : FileLookup) → IfSome o (λ f. Given f (gives f)) → IfSome o (λ f. Other f (gives f))
  fields_so None gives given = tt
  fields_so (Some f) gives given = so f (gives f) given

  pub node_so : (json : Bool) (range : Option (List ℕ)) (cap : Cap) (x : Reply) → IsNodeBy Given json range cap x → IsNodeBy Other json range cap x
  node_so json range cap x by = record { gives = by.gives; given = fields_so (fields_read json cap) by.gives by.given; is = by.is }

  end_so : (Is Late : Cap → Reply → Type 0) → ((cap : Cap) (x : Reply) → Is cap x → Late cap x) → (w : Result Cap WalkFault) (x : Reply) → IsEndReply Is w x → IsEndReply Late w x
  end_so Is Late each (Ok end) x is = each end x is
  end_so Is Late each (Err fault) x is = is

  answered_so : (Is Late : Cap → Reply → Type 0) → ((cap : Cap) (x : Reply) → Is cap x → Late cap x) → (b : Bool) (cap : Cap) (names : List (List ℕ)) (x : Reply)
      → IsAnsweredBy b Given Is cap names x → IsAnsweredBy b Other Late cap names x
  answered_so Is Late each true cap names x is = is
  answered_so Is Late each false cap names x by = record { walk = by.walk; walks = walks_so Given Other so cap names by.walk by.walks; is = end_so Is Late each by.walk x by.is }

  pub reply_so : (e : Encoding) (old new : GridState) (request : Request) (x : Reply) → IsReplyBy e Given old new request x → IsReplyBy e Other old new request x
  reply_so e old new (Put bytes) x by = tt
  reply_so e old new (Mkdir json) x by = tt
  reply_so e old new (Get cap names json head_only range) x by =
      let applied = range_to_apply head_only range in
      answered_so (IsNodeBy Given json applied) (IsNodeBy Other json applied) (node_so json applied) (is_verify_cap cap) cap names x by
  reply_so e old new (Check cap names verify) x by =
      let Is : Cap → Reply → Type 0 = λ end. IsHealthAmid old new e.mapped verify (weakened end) in
      answered_so Is Is (λ end y is. is) (is_verify_cap cap && not (length names == 0)) cap names x by

-- ---- after a walk

-- what was read of a node after a walk was read in the call
pub node_amid : (cache between : List CacheEntry) (old mid new : GridState) → Leaves old mid → TellOn old mid → StandStill old mid → TellOn mid new → AreKeptSeen cache between old mid
    → (json : Bool) (range : Option (List ℕ)) (end : Cap) (x : Reply) → IsNodeBy (IsGivenAmid between mid new) json range end x → IsNodeBy (IsGivenAmid cache old new) json range end x
node_amid cache between old mid new left told still amid kept =
    node_so (IsGivenAmid between mid new) (IsGivenAmid cache old new) (given_amid old mid new new left told still amid (leaves_none new) (tell_on_none new) cache between kept)

-- and so was what was seen of a file's health
pub health_amid : (old mid new : GridState) → Leaves old mid → TellOn old mid → StandStill old mid → TellOn mid new → (mapped verify : Bool) (o : Option VerifyCap) (x : Reply)
    → IsHealthAmid mid new mapped verify o x → IsHealthAmid old new mapped verify o x
health_amid old mid new left told still amid mapped verify None x is = is
health_amid old mid new left told still amid mapped verify (Some v) x seen =
    seen_amid old mid new new left told still amid (leaves_none new) (tell_on_none new) v.fields.si (λ row. x ≡ json_reply (health_text mapped v.fields.si (check v.fields verify row))) seen

-- ---- checks

-- a file was checked
pub checked_amid : (mapped verify : Bool) (o : Option VerifyCap) (v : VerifyCap) (health : HealthValue) (r : Result Reply AllocError) (cache kept : List CacheEntry) (old new : GridState)
    → o ≡ Some v → IfOk r (λ x. x ≡ json_reply (health_text mapped v.fields.si health)) → TellOn old new → StandStill old new → kept ≡ cache
    → (AllTell old → SeesReached old new v.fields.si (λ row. health ≡ check v.fields verify row)) → IsFoundAmid (IsHealthAmid old new mapped verify o) r cache kept old new
checked_amid mapped verify o v health r cache kept old new some is told still same seen =
    subst (λ (p : Option VerifyCap). IsFoundAmid (IsHealthAmid old new mapped verify p) r cache kept old new) (sym some) (record {
      told = told;
      stand_still = still;
      kept_seen = λ all. kept_none cache kept old new same;
      seen = λ all. IfOk-weaker r _ _ (λ x e. health_said x e (seen all)) is;
    })
  where
    health_said : (x : Reply) → x ≡ json_reply (health_text mapped v.fields.si health) → SeesReached old new v.fields.si (λ row. health ≡ check v.fields verify row)
        → SeesReached old new v.fields.si (λ row. x ≡ json_reply (health_text mapped v.fields.si (check v.fields verify row)))
    health_said x e = seen_so old new (λ views. OfReachedIn (standing views) old new v.fields.si (λ row. health ≡ check v.fields verify row))
        (λ views. OfReachedIn (standing views) old new v.fields.si (λ row. x ≡ json_reply (health_text mapped v.fields.si (check v.fields verify row))))
        (λ views long of. record { row = of.row; reached = of.reached; says = e ∙ ap (λ h. json_reply (health_text mapped v.fields.si h)) of.says })

-- or is a literal one
pub literal_amid : (mapped verify : Bool) (o : Option VerifyCap) (r : Result Reply AllocError) (cache : List CacheEntry) (g : GridState)
    → o ≡ None → IfOk r (λ x. x ≡ json_reply literal_check_text) → IsFoundAmid (IsHealthAmid g g mapped verify o) r cache cache g g
literal_amid mapped verify o r cache g none is =
    subst (λ (p : Option VerifyCap). IsFoundAmid (IsHealthAmid g g mapped verify p) r cache cache g g) (sym none) (unasked_amid (IsHealthAmid g g mapped verify None) r cache g is)

-- ---- requests

-- what a call says of its own request is said of the request that it was given
pub same_asked : (e : Encoding) (Given : ReadValue → Option (List ℕ) → Type 0) (request other : Request) (r : Result Reply AllocError) (old new : GridState)
    → other ≡ request → IfOk r (IsReplyBy e Given old new request) → IfOk r (IsReplyBy e Given old new other)
same_asked e Given request other r old new is said = subst (λ (asked : Request). IfOk r (IsReplyBy e Given old new asked)) (sym is) said
