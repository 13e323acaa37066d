-- What carrying out a request comes to, and what refusing it.
use Rattle.std.proofs.Common.{◌≡◌, ◌≢◌, ℕ, ◌+◌, ◌-◌, ◌≤◌, Bool, List, length, Option, Some, None, Result, Ok, Err, refl, sym, ap, subst, ◌∙◌, arith, inl, inr}
use Rattle.std.specs.Prelude.{IfOk, OnOk, IsErr}
use Rattle.std.proofs.lemmas.Result.{IfOk-weaker}
use Rattle.http_edge.specs.declared.item.Head.{Head}
use Rattle.grid.specs.Standing.{standing}
use Rattle.grid.specs.GridState.{GridState, stood, room_at, IsHonest, NoneFailed}
use Rattle.grid.specs.Leaves.{Leaves, IsUnchanged}
use Rattle.grid.specs.NewBytes.{new_bytes}
use Rattle.grid.specs.Changed.{ArePut}
use Rattle.grid.specs.Views.{AllTell, TellOn}
use Rattle.grid.proofs.Histories.{tells_none}
use Rattle.grid.proofs.Puts.{put_none}
use Rattle.grid.proofs.Views.{tell_on_none}
use Rattle.caps.specs.Fields.{ReadValue}
use Rattle.chk_file.specs.Cached.{CacheEntry, AreBound}
use Rattle.chk_file.specs.Upload.{Upload, index, shares_of}
use Rattle.chk_file.specs.Marks.{shown}
use Rattle.chk_file.specs.World.{World, after_upload}
use Rattle.chk_file.specs.Look.{look_in}
use Rattle.path_walk.specs.Amid.{IsGivenAmid}
use Rattle.web_request.specs.declared.head.Head.{Head as WebHead}
use Rattle.web_request.specs.declared.request.Request.{Request}
use Rattle.web_request.specs.declared.fault.WebFault.{WebFault}
use Rattle.web_request.specs.declared.fault.WebFault.TheVariants.{NoMemory}
use Rattle.web_request.specs.Requests.{interpreted}
use Rattle.web_replies.specs.declared.reply.Reply.{Reply}
use Rattle.web_ops.specs.Encoding.{Encoding, encoding_of, mapping}
use Rattle.web_ops.specs.Uploads.{upload_in, after_stored}
use Rattle.web_ops.specs.Answers.{request_reply}
use Rattle.web_ops.specs.Replied.{IsReply}
use Rattle.web_ops.specs.Amid.{IsReplyBy}
use Rattle.web_ops.specs.Changes.{HasRoomFor, IsStoredIn, IsBegunIn, TellsOfIn, Follows}
use Rattle.web_ops.proofs.Amid.{reply_so}
use Rattle.gate_base.specs.declared.pages.Page.{Page}
use Rattle.gate_core.specs.Amid.{IsBound, IsGivenFor}
use Rattle.gate_core.specs.Settings.{GatewaySettings, setup_of, settings_of}
use Rattle.gate_base.specs.Pages.{reply_elsewhere}
use Rattle.gate_base.specs.Requests.{Interpreted, web_head, asked_of}
use Rattle.gate_core.specs.Uploaded.{BringsBytes}
use Rattle.gate_core.specs.Rooms.{Rooms, brought_by}
use Rattle.gate_core.specs.Came.{Shows}
use Rattle.gate_core.specs.Runs.{upload_asked}
use Rattle.gate_core.specs.Served.{IsRequestCarriedOut}

-- ---- what the stores show after it

minus_none : (n : ℕ) → n - 0 ≡ n
minus_none n = omega arith

Shows-unchanged : (old new : GridState) (w : World) (rooms : Rooms) → Leaves old new → IsUnchanged old new → Shows old w rooms → Shows new w (λ s. rooms s - 0)
Shows-unchanged old new w rooms leaves same shows = record {
  honest = leaves.honest shows.honest;
  stand = ap standing same.maps ∙ shows.stand;
  room = λ s. same.rooms s ∙ shows.room s ∙ sym (minus_none (rooms s));
}

Shows-same : (g : GridState) (w : World) (rooms : Rooms) → Shows g w rooms → Shows g w (λ s. rooms s - 0)
Shows-same g w rooms shows = record {
  honest = shows.honest;
  stand = shows.stand;
  room = λ s. shows.room s ∙ sym (minus_none (rooms s));
}

takes : (a b n : ℕ) → a + n ≡ b → a ≡ b - n
takes a b n e = omega arith

Shows-put : (old new : GridState) (u : Upload) (w : World) (rooms : Rooms) → Leaves old new → ArePut (index u) (shares_of u) old new
    → stood new ≡ shown (after_upload (length old.stores) u w).marks → Shows old w rooms
    → Shows new (after_upload (length old.stores) u w) (λ s. rooms s - new_bytes (length old.stores) (index u) (shares_of u) (shown w.marks) s)
Shows-put old new u w rooms leaves put stand shows = record {
  honest = leaves.honest shows.honest;
  stand = stand;
  room = λ s. takes (room_at new s) (room_at old s) (new_bytes (length old.stores) (index u) (shares_of u) (stood old) s) (put.rooms s)
      ∙ ap (λ r. r - new_bytes (length old.stores) (index u) (shares_of u) (stood old) s) (shows.room s)
      ∙ ap (λ st. rooms s - new_bytes (length old.stores) (index u) (shares_of u) st s) shows.stand;
}

Shows-stored : (o : Option Upload) (old new : GridState) (w : World) (rooms : Rooms) → Leaves old new → IsStoredIn o old new → Follows o old new → Shows old w rooms
    → Shows new (after_stored (length old.stores) o w) (λ s. rooms s - brought_by o (length old.stores) w s)
Shows-stored None old new w rooms leaves same follows shows = Shows-unchanged old new w rooms leaves same shows
Shows-stored (Some u) old new w rooms leaves put follows shows = Shows-put old new u w rooms leaves put (follows w shows.stand) shows

fit_in : (a b c d : ℕ) → a ≡ b → b ≤ c → d ≡ c → a ≤ d
fit_in a b c d e le f = omega arith

-- room for what it brings in the world is room for it in the stores that show the world
room_for : (o : Option Upload) (old : GridState) (w : World) (rooms : Rooms) → Shows old w rooms → ((s : ℕ) → brought_by o (length old.stores) w s ≤ rooms s) → HasRoomFor old o
room_for None old w rooms shows fits = tt
room_for (Some u) old w rooms shows fits = λ s. fit_in (new_bytes (length old.stores) (index u) (shares_of u) (stood old) s) (brought_by (Some u) (length old.stores) w s) (rooms s) (room_at old s)
    (ap (λ st. new_bytes (length old.stores) (index u) (shares_of u) st s) shows.stand) (fits s) (shows.room s)

-- ---- a request is carried out

performed : {E : Type 0} (e : Encoding) (pages : List Page) (head : Head) (request : Request) (r : Result Reply E) (old new : GridState) → Leaves old new
    → IfOk r (λ reply. IsReply e request reply)
    → (IsHonest old → HasRoomFor old (upload_in e request) → NoneFailed old new → IfOk r (λ reply. reply ≡ request_reply e (look_in (stood old)) request))
    → (IsHonest old → HasRoomFor old (upload_in e request) → NoneFailed old new → OnOk r (IsStoredIn (upload_in e request) old new))
    → (IsHonest old → HasRoomFor old (upload_in e request) → NoneFailed old new → OnOk r (Follows (upload_in e request) old new))
    → OnOk r (BringsBytes (upload_in e request))
    → IfOk r (λ reply. TellsOfIn (upload_in e request) reply old new)
    → TellOn old new → (AllTell old → IfOk r (λ reply. IsReplyBy e (IsGivenFor old new) old new request reply))
    → IfOk r (λ reply. IsRequestCarriedOut (settings_of (setup_of e pages) (length old.stores)) head (Ok request) reply old new)
performed e pages head request (Ok reply) old new leaves fits written stored follows bytes tells told seen = record {
  fits = fits;
  bytes = bytes;
  tells = tells;
  told = told;
  seen = seen;
  as_written = λ w rooms shows brings none.
      let room : HasRoomFor old (upload_in e request) = room_for (upload_in e request) old w rooms shows brings in
      record {
        written = written shows.honest room none ∙ ap (λ st. request_reply e (look_in st) request) shows.stand;
        stores = Shows-stored (upload_in e request) old new w rooms leaves (stored shows.honest room none) (follows shows.honest room none) shows;
      };
}
performed e pages head request (Err failed) old new leaves fits written stored follows bytes tells told seen = tt

-- ---- what was asked for

asked_as : (head : Head) (body : List ℕ) (same : WebHead) (asked : Interpreted) → same ≡ web_head head → interpreted same body ≡ asked → asked_of head body ≡ asked
unfolding asked_of
asked_as head body same asked is read = ap (λ h. interpreted h body) (sym is) ∙ read

-- what is kept is bound to its fields
given_for : (cache : List CacheEntry) (old new : GridState) → AreBound cache → (f : ReadValue) (found : Option (List ℕ)) → IsGivenAmid cache old new f found → IsGivenFor old new f found
given_for cache old new bound f found (inl kept) = inl (subst (IsBound f) (sym kept.is) (bound f kept.stamp kept.bytes kept.there))
given_for cache old new bound f found (inr seen) = inr seen

-- the encoding of these parts
abbrev pub parts_as : ℕ → ℕ → List ℕ → Bool → Encoding
parts_as k n secret mapped = mapping mapped (encoding_of k n secret)

same_encoding : (e : Encoding) (k n : ℕ) (secret : List ℕ) (mapped : Bool) → k ≡ e.k → n ≡ e.n → secret ≡ e.secret → mapped ≡ e.mapped → parts_as k n secret mapped ≡ e
same_encoding e k n secret mapped a b c d i = record { k = a i; n = b i; secret = c i; mapped = d i }

pub carried_out : {E : Type 0} (e : Encoding) (pages : List Page) (k n : ℕ) (secret : List ℕ) (mapped : Bool) (head : Head) (body : List ℕ) (same : WebHead) (request : Request) (r : Result Reply E) (cache : List CacheEntry) (old new : GridState)
    → k ≡ e.k → n ≡ e.n → secret ≡ e.secret → mapped ≡ e.mapped
    → same ≡ web_head head → interpreted same body ≡ Ok request → Leaves old new
    → IfOk r (λ reply. IsReply (parts_as k n secret mapped) request reply)
    → (IsHonest old → HasRoomFor old (upload_in (parts_as k n secret mapped) request) → NoneFailed old new → IfOk r (λ reply. reply ≡ request_reply (parts_as k n secret mapped) (look_in (stood old)) request))
    → (IsHonest old → HasRoomFor old (upload_in (parts_as k n secret mapped) request) → NoneFailed old new → OnOk r (IsStoredIn (upload_in (parts_as k n secret mapped) request) old new))
    → (IsHonest old → HasRoomFor old (upload_in (parts_as k n secret mapped) request) → NoneFailed old new → OnOk r (Follows (upload_in (parts_as k n secret mapped) request) old new))
    → OnOk r (BringsBytes (upload_in (parts_as k n secret mapped) request))
    → IfOk r (λ reply. TellsOfIn (upload_in (parts_as k n secret mapped) request) reply old new)
    → TellOn old new → AreBound cache → (AllTell old → IfOk r (λ reply. IsReplyBy (parts_as k n secret mapped) (IsGivenAmid cache old new) old new request reply))
    → IfOk r (λ reply. IsRequestCarriedOut (settings_of (setup_of e pages) (length old.stores)) head (asked_of head body) reply old new)
carried_out e pages k n secret mapped head body same request r cache old new is_k is_n is_secret is_mapped is_head read leaves fits written stored follows bytes tells told bound seen =
    subst (λ asked. IfOk r (λ reply. IsRequestCarriedOut (settings_of (setup_of e pages) (length old.stores)) head asked reply old new)) (sym (asked_as head body same (Ok request) is_head read))
    (subst (λ f. IfOk r (λ reply. IsRequestCarriedOut (settings_of (setup_of f pages) (length old.stores)) head (Ok request) reply old new)) (same_encoding e k n secret mapped is_k is_n is_secret is_mapped)
    (performed (parts_as k n secret mapped) pages head request r old new leaves fits written stored follows bytes tells told
    (λ all. IfOk-weaker r _ _ (λ reply by. reply_so (IsGivenAmid cache old new) (IsGivenFor old new) (given_for cache old new bound) (parts_as k n secret mapped) old new request reply by) (seen all))))

-- a beginning of its upload was put, if any
pub begun_out : (e : Encoding) (k n : ℕ) (secret : List ℕ) (mapped : Bool) (head : Head) (body : List ℕ) (same : WebHead) (request : Request) (old new : GridState)
    → k ≡ e.k → n ≡ e.n → secret ≡ e.secret → mapped ≡ e.mapped
    → same ≡ web_head head → interpreted same body ≡ Ok request
    → (IsHonest old → IsBegunIn (upload_in (parts_as k n secret mapped) request) old new)
    → IsHonest old → IsBegunIn (upload_asked e (asked_of head body)) old new
begun_out e k n secret mapped head body same request old new is_k is_n is_secret is_mapped is_head read begun honest =
    subst (λ asked. IsBegunIn (upload_asked e asked) old new) (sym (asked_as head body same (Ok request) is_head read))
    (subst (λ f. IsBegunIn (upload_in f request) old new) (same_encoding e k n secret mapped is_k is_n is_secret is_mapped) (begun honest))

-- where nothing was done, nothing of it was put
pub nothing_begun : (o : Option Upload) (g : GridState) → IsBegunIn o g g
nothing_begun None g = record { maps = refl; rooms = λ s. refl; histories = λ s. refl }
nothing_begun (Some u) g = record { servers = refl; m = 0; put = put_none (index u) (shares_of u) g; history = tells_none _ g g refl }

no_error : {T : Type 0} (E : Type 0) (x : T) → IsErr {T = T} {E = E} (Ok x) → ⊥
no_error E x e = cc

-- what is no request is refused, and memory that ran out gives no reply
pub refused : {E : Type 0} (settings : GatewaySettings) (head : Head) (body : List ℕ) (same : WebHead) (fault : WebFault) (r : Result Reply E) (g : GridState)
    → same ≡ web_head head → (fault ≢ NoMemory → interpreted same body ≡ Err fault)
    → IfOk r (λ reply. reply ≡ reply_elsewhere settings.pages same.method same.target fault) → (fault ≡ NoMemory → IsErr r)
    → IfOk r (λ reply. IsRequestCarriedOut settings head (asked_of head body) reply g g)
refused {E = E} settings head body same fault (Ok reply) g is_head read is memory =
    let as_sent : reply ≡ reply_elsewhere settings.pages head.method head.target fault = is ∙ ap (λ (h : WebHead). reply_elsewhere settings.pages h.method h.target fault) is_head in
    subst (λ asked. IsRequestCarriedOut settings head asked reply g g) (sym (asked_as head body same (Err fault) is_head (read (λ e. no_error E reply (memory e)))))
    (record { fits = as_sent; bytes = tt; tells = tt; told = tell_on_none g; seen = λ all. tt; as_written = λ w rooms shows brings none. record { written = as_sent; stores = Shows-same g w rooms shows } })
refused settings head body same fault (Err failed) g is_head read is memory = tt
