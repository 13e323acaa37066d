-- Calls that store an upload, and requests.
use Rattle.std.proofs.Common.{Fits, w8, get_or, ◌≡◌, ◌+◌, ◌<◌, ◌≤◌, ℕ, List, length, Bool, true, false, cond, Option, Some, None, Result, Ok, Err, IfOk, OnOk, refl, sym, ap, subst, ◌∙◌, arith, inl}
use Rattle.std.specs.Prelude.{◌↔◌, ⊤, IsTrue, nat_lt, option_map}
use Rattle.std.specs.Result.{IsOkUnless, IsErrAnd}
use Rattle.std.proofs.lemmas.Bool.Decides.{nat_tests}
use Rattle.std.proofs.lemmas.List.{take_all, get_or_default}
use Rattle.std.proofs.lemmas.Result.{IfOk-weaker}
use Rattle.std.specs.declared.alloc.AllocError.{AllocError}
use Rattle.caps.specs.declared.cap.Cap.{Cap}
use Rattle.grid.specs.Standing.{standing}
use Rattle.erasure.specs.Code.{AreBytes}
use Rattle.grid.specs.GridState.{GridState, stood, maps_of, room_at, failures_at, history_at, IsHonest, NoneFailed}
use Rattle.grid.specs.Leaves.{Leaves, IsUnchanged}
use Rattle.grid.specs.NewBytes.{HasRoom}
use Rattle.grid.specs.declared.fault.GridFault.TheVariants.{Full, Down}
use Rattle.grid.specs.Changed.{ArePut, PutStopsAt}
use Rattle.grid.specs.Views.{AllTell}
use Rattle.chk_file.specs.AllStand.{AllStand, AllStoodAmid}
use Rattle.chk_file.specs.Look.{Look}
use Rattle.chk_file.specs.Marks.{shown}
use Rattle.chk_file.specs.Upload.{Upload, index, shares_of, upload_cap}
use Rattle.chk_file.specs.World.{World, after_upload}
use Rattle.web_request.specs.declared.request.Request.{Request}
use Rattle.web_replies.specs.declared.reply.Reply.{Reply}
use Rattle.web_replies.specs.declared.reply.Status.TheVariants as status
use Rattle.dir_codec.specs.declared.entry.Entry.{Entry}
use Rattle.children_reader.specs.Children.{made}
use Rattle.children_reader.specs.TextMakers.{text_made}
use Rattle.dir_codec.specs.DirectoryText.{directory_text}
use Rattle.web_request.specs.declared.request.Request.TheVariants.{Mkdir}
use Rattle.web_ops.specs.Encoding.{Encoding, upload_of}
use Rattle.web_ops.specs.Uploads.{if_long, as_directory, made_upload, upload_in}
use Rattle.web_replies.specs.Replies.{cap_reply, store_full, store_down}
use Rattle.web_ops.specs.Answers.{made_reply}
use Rattle.web_ops.specs.Replied.{IsPutReply, IsMade}
use Rattle.web_ops.specs.Changes.{TellsOfUpload, IsUploadBegun, IsBegunIn, TellsOf}
use Rattle.web_ops.specs.Calls.{IsFound, IsCarriedOut, IsRequestCall, IsPerformed}
use Rattle.grid.proofs.Histories.{tells_none}
use Rattle.grid.proofs.Standing.{placed_none}
use Rattle.grid.proofs.Turns.{leaves_none, unchanged_none}

-- ---- a call that stores nothing

pub nothing_stored : (Fresh : Type 0) (Fits : Reply → Type 0) (says : Look → Reply) (r : Result Reply AllocError) (old new : GridState)
    → IsFound Fresh Fits says r old new → IsCarriedOut Fresh None Fits says r old new
nothing_stored Fresh Fits says r old new found = record {
  leaves = found.leaves;
  fits = found.fits;
  bytes = IfOk-weaker r _ _ (λ x e. tt) found.fits;
  begun = found.unchanged;
  tells = IfOk-weaker r _ _ (λ x e. tt) found.fits;
  written = λ fresh honest room calm. found.written fresh honest calm;
  stored = λ honest room calm. IfOk-weaker r _ _ (λ x e. found.unchanged honest) found.fits;
  world = λ honest room calm. IfOk-weaker r _ _ (λ x e w is. ap standing (found.unchanged honest).maps ∙ is) found.fits;
}

-- ---- uploads

same_grid : (old new : GridState) → new ≡ old → IsUnchanged old new
same_grid old new e = record {
  maps = ap maps_of e;
  rooms = λ s. ap (λ g. room_at g s) e;
  histories = λ s. ap (λ g. history_at g s) e;
}

no_more : (n : ℕ) → n ≤ n
no_more n = omega arith

long : (n : ℕ) → nat_lt 55 n ≡ true → 55 < n
long n e = grind (arith, nat_tests)

short : (n : ℕ) → nat_lt 55 n ≡ false → n ≤ 55
short n e = grind (arith, nat_tests)

-- ---- what replies tell

-- their words part at an `f` and a `d`
other_letters : (f d : ℕ) → f ≡ d + 2 → f ≡ d → ⊥
other_letters f d e same = omega (arith, e, same)

full_is_not_down : store_full ≡ store_down → ⊥
full_is_not_down e = other_letters (get_or store_full.body 6 0) (get_or store_down.body 6 0) refl (ap (λ r. get_or r.body 6 0) e)

cap_is_no_fault : (cap : Cap) (x : Reply) → x ≡ cap_reply cap → x.status ≡ status.ServiceUnavailable → ⊥
cap_is_no_fault cap x is other = let ok : x.status ≡ status.Ok = ap (λ r. r.status) is in cc

fault_is_no_cap : (x : Reply) → x.status ≡ status.ServiceUnavailable → x.status ≡ status.Ok → ⊥
fault_is_no_cap x is ok = cc

cap_tells : (u : Upload) (cap : Cap) (x : Reply) (old new : GridState) → x ≡ cap_reply cap → (IsHonest old → AllStand u old new) → (AllTell old → AllStoodAmid u old new) → TellsOf u x old new
cap_tells u cap x old new is all seen = record {
  all_stand = λ honest ok. all honest;
  all_stood = λ tell ok. seen tell;
  full = λ e. absurd (cap_is_no_fault cap x is (ap (λ r. r.status) e));
  down = λ e. absurd (cap_is_no_fault cap x is (ap (λ r. r.status) e));
}

pub full_tells : (u : Upload) (server : ℕ) (x : Reply) (old new : GridState) → x ≡ store_full → PutStopsAt (index u) (shares_of u) old new (Full server) → TellsOf u x old new
full_tells u server x old new is stops = record {
  all_stand = λ honest ok. absurd (fault_is_no_cap x (ap (λ r. r.status) is) ok);
  all_stood = λ tell ok. absurd (fault_is_no_cap x (ap (λ r. r.status) is) ok);
  full = λ e. (server, stops);
  down = λ e. absurd (full_is_not_down (sym is ∙ e));
}

pub down_tells : (u : Upload) (server : ℕ) (x : Reply) (old new : GridState) → x ≡ store_down → PutStopsAt (index u) (shares_of u) old new (Down server)
    → failures_at old server < failures_at new server → TellsOf u x old new
down_tells u server x old new is stops failed = record {
  all_stand = λ honest ok. absurd (fault_is_no_cap x (ap (λ r. r.status) is) ok);
  all_stood = λ tell ok. absurd (fault_is_no_cap x (ap (λ r. r.status) is) ok);
  full = λ e. absurd (full_is_not_down (sym e ∙ is));
  down = λ e. (server, record { stops = stops; failed = failed });
}

module _ (u : Upload) (cap : Cap) (r : Result Reply AllocError) (old new : GridState) (leaves : Leaves old new) (bytes : AreBytes u.bytes) (same : length u.bytes ≤ 55 → new ≡ old) where
  stored_by : (b : Bool) → (b ≡ true → 55 < length u.bytes) → (b ≡ false → length u.bytes ≤ 55) → IfOk r (λ x. x ≡ cap_reply cap)
      → (IsHonest old → TellsOfUpload u old new)
      → (55 < length u.bytes → IsHonest old → ArePut (index u) (shares_of u) old new)
      → (55 < length u.bytes → IsHonest old → AllStand u old new)
      → (55 < length u.bytes → AllTell old → AllStoodAmid u old new)
      → (IsHonest old → (w : World) → stood old ≡ shown w.marks → stood new ≡ shown (after_upload (length old.stores) u w).marks)
      → IsCarriedOut ⊤ (cond b (Some u) None) (IsPutReply cap) (λ look. cap_reply cap) r old new
  stored_by true many few is tells put all seen stand = record {
    leaves = leaves;
    fits = IfOk-weaker r _ _ (λ x e. inl e) is;
    bytes = IfOk-weaker r _ _ (λ x e. bytes) is;
    begun = λ honest. record {
      servers = leaves.servers;
      m = length (shares_of u);
      put = subst (λ s. ArePut (index u) s old new) (sym (take_all (length (shares_of u)) (shares_of u) (no_more (length (shares_of u))))) (put (many refl) honest);
      history = tells honest;
    };
    tells = IfOk-weaker r _ _ (λ x e. cap_tells u cap x old new e (all (many refl)) (seen (many refl))) is;
    written = λ fresh honest room calm. is;
    stored = λ honest room calm. IfOk-weaker r _ _ (λ x e. put (many refl) honest) is;
    world = λ honest room calm. IfOk-weaker r _ _ (λ x e. stand honest) is;
  }
  stored_by false many few is tells put all seen stand = record {
    leaves = leaves;
    fits = IfOk-weaker r _ _ (λ x e. inl e) is;
    bytes = IfOk-weaker r _ _ (λ x e. tt) is;
    begun = λ honest. same_grid old new (same (few refl));
    tells = IfOk-weaker r _ _ (λ x e. tt) is;
    written = λ fresh honest room calm. is;
    stored = λ honest room calm. IfOk-weaker r _ _ (λ x e. same_grid old new (same (few refl))) is;
    world = λ honest room calm. IfOk-weaker r _ _ (λ x e w stands. ap stood (same (few refl)) ∙ stands) is;
  }

  -- the upload was stored
  pub stored : IfOk r (λ x. x ≡ cap_reply cap)
      → (IsHonest old → TellsOfUpload u old new)
      → (55 < length u.bytes → IsHonest old → ArePut (index u) (shares_of u) old new)
      → (55 < length u.bytes → IsHonest old → AllStand u old new)
      → (55 < length u.bytes → AllTell old → AllStoodAmid u old new)
      → (IsHonest old → (w : World) → stood old ≡ shown w.marks → stood new ≡ shown (after_upload (length old.stores) u w).marks)
      → IsCarriedOut ⊤ (if_long u) (IsPutReply cap) (λ look. cap_reply cap) r old new
  stored is tells put all seen stand = stored_by (nat_lt 55 (length u.bytes)) (long (length u.bytes)) (short (length u.bytes)) is tells put all seen stand

  stopped_by : (b : Bool) → (b ≡ true → 55 < length u.bytes) → (b ≡ false → length u.bytes ≤ 55) → IfOk r (IsPutReply cap)
      → IfOk r (λ x. TellsOf u x old new)
      → (IsHonest old → IsUploadBegun u old new)
      → (IsHonest old → HasRoom old (index u) (shares_of u) → NoneFailed old new → OnOk r ⊥) → (length u.bytes ≤ 55 → OnOk r ⊥)
      → IsCarriedOut ⊤ (cond b (Some u) None) (IsPutReply cap) (λ look. cap_reply cap) r old new
  stopped_by true many few fits tells begun never_long never_short = record {
    leaves = leaves;
    fits = fits;
    bytes = IfOk-weaker r _ _ (λ x e. bytes) fits;
    begun = begun;
    tells = tells;
    written = λ fresh honest room calm. IfOk-weaker r _ _ (λ x e. absurd e) (never_long honest room calm);
    stored = λ honest room calm. IfOk-weaker r _ _ (λ x e. absurd e) (never_long honest room calm);
    world = λ honest room calm. IfOk-weaker r _ _ (λ x e. absurd e) (never_long honest room calm);
  }
  stopped_by false many few fits tells begun never_long never_short = record {
    leaves = leaves;
    fits = fits;
    bytes = IfOk-weaker r _ _ (λ x e. tt) fits;
    begun = λ honest. same_grid old new (same (few refl));
    tells = IfOk-weaker r _ _ (λ x e. tt) fits;
    written = λ fresh honest room calm. IfOk-weaker r _ _ (λ x e. absurd e) (never_short (few refl));
    stored = λ honest room calm. IfOk-weaker r _ _ (λ x e. absurd e) (never_short (few refl));
    world = λ honest room calm. IfOk-weaker r _ _ (λ x e. absurd e) (never_short (few refl));
  }

  -- the upload was stopped: not where there is room and no store fails, nor where it is short
  pub stopped : IfOk r (IsPutReply cap)
      → IfOk r (λ x. TellsOf u x old new)
      → (IsHonest old → IsUploadBegun u old new)
      → (IsHonest old → HasRoom old (index u) (shares_of u) → NoneFailed old new → OnOk r ⊥) → (length u.bytes ≤ 55 → OnOk r ⊥)
      → IsCarriedOut ⊤ (if_long u) (IsPutReply cap) (λ look. cap_reply cap) r old new
  stopped fits tells begun never_long never_short = stopped_by (nat_lt 55 (length u.bytes)) (long (length u.bytes)) (short (length u.bytes)) fits tells begun never_long never_short

-- numbers of eight bits are bytes
pub all_fit : (bytes : List ℕ) → ((i : ℕ) → Fits w8 (get_or bytes i 0)) → AreBytes bytes
all_fit bytes h k d l = let fits : Fits w8 (get_or bytes k 0) = h k in rw (get_or_default bytes k d 0 l) (omega arith)

-- a store's count of failures doesn't rise where none failed
pub rose : (old new : GridState) (s : ℕ) → failures_at old s < failures_at new s → NoneFailed old new → ⊥
rose old new s less none = let same = none s in omega (arith, less, same)

-- a result that is another error than this one
pub unless : {T E : Type 0} (r : Result T E) (e f : E) → r ≡ Err f → IsOkUnless r e → f ≡ e
unless r e f is h = subst (λ x. IsOkUnless x e) is h

-- nothing is made of what is refused
pub none_of : {A E : Type 0} (o : Option A) (r : Result A E) (fault : E) → ((x : A) → (o ≡ Some x) ↔ (r ≡ Ok x)) → r ≡ Err fault → o ≡ None
none_of None r fault iff is = refl
none_of (Some x) r fault iff is = let that = (iff x).0 refl in cc

-- ---- requests

pub same_request : (Fresh : Type 0) (e : Encoding) (request asked : Request) (r : Result Reply AllocError) (old new : GridState) → asked ≡ request
    → IsRequestCall Fresh e request r old new → IsRequestCall Fresh e asked r old new
same_request Fresh e request asked r old new is done = subst (λ q. IsRequestCall Fresh e q r old new) (sym is) done

plus_none : (n : ℕ) → n + 0 ≡ n
plus_none n = omega arith

nothing_begun : (o : Option Upload) (g : GridState) → IsBegunIn o g g
nothing_begun None g = unchanged_none g
nothing_begun (Some u) g = record {
  servers = refl;
  m = 0;
  put = record { stands = sym (placed_none (length g.stores) (index u) (stood g)); rooms = λ s. plus_none (room_at g s) };
  history = tells_none _ g g refl;
}

-- memory was refused before anything was stored
pub not_begun : (e : Encoding) (request : Request) (fault : AllocError) (g : GridState) → IsPerformed e request (Err fault) g g
not_begun e request fault g = record {
  leaves = leaves_none g;
  fits = tt;
  bytes = tt;
  begun = λ honest. nothing_begun (upload_in e request) g;
  tells = tt;
  written = λ fresh honest room calm. tt;
  stored = λ honest room calm. tt;
  world = λ honest room calm. tt;
}

pub refused_before : (P : AllocError → Type 0) (e : Encoding) (request : Request) (r : Result Reply AllocError) (g : GridState) → IsErrAnd r P → IsPerformed e request r g g
refused_before P e request (Ok x) g refused = absurd refused
refused_before P e request (Err fault) g refused = not_begun e request fault g

-- ---- directories

pub directory_stored : (e : Encoding) (json items : List ℕ) (entries : List Entry) (r : Result Reply AllocError) (old new : GridState) → made json ≡ Some entries → items ≡ directory_text entries
    → IsCarriedOut ⊤ (if_long (upload_of e items)) (IsPutReply (as_directory (upload_cap (upload_of e items)))) (λ look. cap_reply (as_directory (upload_cap (upload_of e items)))) r old new
    → IsPerformed e (Mkdir json) r old new
directory_stored e json items entries r old new some text done =
    subst (λ o. IsCarriedOut ⊤ (made_upload e o) (IsMade e o) (λ look. made_reply e o) r old new) (sym some)
    (subst (λ t. IsCarriedOut ⊤ (if_long (upload_of e t)) (IsPutReply (as_directory (upload_cap (upload_of e t)))) (λ look. cap_reply (as_directory (upload_cap (upload_of e t)))) r old new) text done)

-- the same, by the text
stored_at : (e : Encoding) (json items : List ℕ) (made_there : Option (List Entry)) (r : Result Reply AllocError) (old new : GridState) → made json ≡ made_there → Some items ≡ option_map directory_text made_there
    → IsCarriedOut ⊤ (if_long (upload_of e items)) (IsPutReply (as_directory (upload_cap (upload_of e items)))) (λ look. cap_reply (as_directory (upload_cap (upload_of e items)))) r old new
    → IsPerformed e (Mkdir json) r old new
stored_at e json items (Some entries) r old new is text done = directory_stored e json items entries r old new is (let same : items ≡ directory_text entries = cc in same) done
stored_at e json items None r old new is text done = absurd cc

pub text_stored : (e : Encoding) (json items : List ℕ) (r : Result Reply AllocError) (old new : GridState) → Some items ≡ text_made json
    → IsCarriedOut ⊤ (if_long (upload_of e items)) (IsPutReply (as_directory (upload_cap (upload_of e items)))) (λ look. cap_reply (as_directory (upload_cap (upload_of e items)))) r old new
    → IsPerformed e (Mkdir json) r old new
text_stored e json items r old new text done = stored_at e json items (made json) r old new refl text done

-- a test that was not met
pub not_met : (b : Bool) (P : Type 0) → (IsTrue b ↔ P) → b ≡ false → P → ⊥
not_met b P iff e p = let t : b ≡ true = iff.1 p in cc
