-- What each call does to a connection that stands.
use Rattle.std.proofs.Common.{◌≡◌, ◌≢◌, ◌<◌, ℕ, Bool, true, false, cond, List, [], ◌∷◌, ◌++◌, length, drop, refl, sym, ap, subst, ◌∙◌, append-nil, append_assoc, arith, Option, Some, None, is_some}
use Rattle.std.specs.Prelude.{is_none}
use Rattle.std.specs.Option.{option_map}
use Rattle.std.specs.List.{flat_map}
use Rattle.resp.specs.declared.reply.Reply.{Reply}
use Rattle.ask_desk.specs.declared.ask.Ask.{Ask}
use Rattle.ask_desk.specs.declared.kept.Answer.{Answer}
use Rattle.ask_desk.specs.declared.fault.DeskFault.{DeskFault}
use Rattle.ask_desk.specs.declared.fault.DeskFault.TheVariants.{Unasked, TooLong, NoReply, NoMemory}
use Rattle.ask_desk.specs.declared.reader.Reader.{Reader}
use Rattle.ask_desk.specs.Asks.{is_owner, is_asked_by, disowned, next_due, due_of, answer_for}
use Rattle.ask_desk.specs.Dialogue.{Dialogue, silence, unanswered, AnswerInOrder, IsBehind, IsInOrder, replies_to, replies_in, forsaken_in}
use Rattle.ask_desk.specs.Past.{Past, answers_in}
use Rattle.ask_desk.specs.Reading.{IsHeld, IsBlank, IsReplyFor, IsStoppedBy, HoldsNext}
use Rattle.ask_desk.proofs.Contents.{blank_next}
use Rattle.ask_desk.proofs.Orders.{rest_of, spelled_more, in_order_more, in_order_told, unanswered_told, next_told, next_written, next_behind, in_order_forsaken, behind_forsaken, due_of_forsaken, not_nothing, begun_forsaken, unanswered_forsaken}
use Rattle.ask_desk.proofs.Owners.{to_more, to_told}

-- a connection is in order, and what came of the next reply is held
pub record Standing (d : Dialogue) (reader : Reader) : Type 0 where
  pub now : IsInOrder d
  pub next : d.fault ≡ None → HoldsNext (next_due d.left (unanswered d)) reader now.part

-- no fault was told
pub no_fault : (over : Bool) (fault : Option DeskFault) → over ≡ is_some fault → over ≡ false → fault ≡ None
no_fault over None is hearing = refl
no_fault over (Some fault) is hearing = absurd (let e : true ≡ false = sym is ∙ hearing in cc)

pub standing_silence : (reader : Reader) → IsBlank reader → Standing silence reader
standing_silence reader blank = record {
  now = record { front = []; part = []; came = refl; spelled = refl; short = tt; written = λ some. absurd (omega (arith, some)); left = refl };
  next = λ none. (blank, refl);
}

-- ---- bytes came

came_so : (d : Dialogue) (reader : Reader) (o : IsInOrder d) (bytes : List ℕ) (fault : Option DeskFault) → IsBehind fault (next_due d.left (unanswered d)) (o.part ++ bytes) → (fault ≡ None → HoldsNext (next_due d.left (unanswered d)) reader (o.part ++ bytes))
    → Standing (record d { came = d.came ++ bytes; fault = fault }) reader
came_so d reader o bytes fault behind held = record {
  now = record {
    front = o.front;
    part = o.part ++ bytes;
    came = ap (λ (l : List ℕ). l ++ bytes) o.came ∙ append_assoc o.front o.part bytes;
    spelled = o.spelled;
    short = o.short;
    written = o.written;
    left = behind;
  };
  next = held;
}

pub standing_more : (d : Dialogue) (reader : Reader) (o : IsInOrder d) (bytes : List ℕ) → d.fault ≡ None → HoldsNext (next_due d.left (unanswered d)) reader (o.part ++ bytes)
    → Standing (record d { came = d.came ++ bytes }) reader
standing_more d reader o bytes none held =
    came_so d reader o bytes d.fault (subst (λ f. IsBehind f (next_due d.left (unanswered d)) (o.part ++ bytes)) (sym none) (next_behind (next_due d.left (unanswered d)) reader (o.part ++ bytes) held)) (λ hearing. held)

pub standing_whole : (d : Dialogue) (reader : Reader) (o : IsInOrder d) (bytes : List ℕ) (ask : Ask) (rest : List Ask) (answer : Reply) → d.fault ≡ None → unanswered d ≡ ask ∷ rest → (0 < d.left → rest ≢ []) → IsReplyFor ask.most (o.part ++ bytes) answer → IsBlank reader
    → Standing (record d { came = d.came ++ bytes; replies = d.replies ++ answer ∷ [] }) reader
standing_whole d reader o bytes ask rest answer none left more whole blank =
    let due = next_due d.left (drop (length (d.replies ++ answer ∷ [])) d.told) in
    record {
      now = record {
        front = o.front ++ (o.part ++ bytes);
        part = [];
        came = ap (λ (l : List ℕ). l ++ bytes) o.came ∙ append_assoc o.front o.part bytes ∙ sym (append-nil (o.front ++ (o.part ++ bytes)));
        spelled = spelled_more d.replies answer o.front (o.part ++ bytes) o.spelled whole.0;
        short = in_order_more d.told rest d.replies ask answer o.short left whole.1;
        written = λ some e. more some (sym (rest_of d.told rest d.replies ask answer left) ∙ e);
        left = subst (λ f. IsBehind f due []) (sym none) (next_behind due reader [] (blank_next due reader blank));
      };
      next = λ hearing. blank_next due reader blank;
    }

pub standing_over : (d : Dialogue) (reader : Reader) (o : IsInOrder d) (bytes : List ℕ) (fault : DeskFault) → IsBehind (Some fault) (next_due d.left (unanswered d)) (o.part ++ bytes)
    → Standing (record d { came = d.came ++ bytes; fault = Some fault }) reader
standing_over d reader o bytes fault behind = came_so d reader o bytes (Some fault) behind (λ hearing. absurd (let e : ◌≡◌ {A = Option DeskFault} (Some fault) None = hearing in cc))

pub stopped_behind : (fault : DeskFault) (due : Option Ask) (ask : Ask) (bytes : List ℕ) → due ≡ Some ask → IsStoppedBy ask.most bytes fault → IsBehind (Some fault) due bytes
stopped_behind fault None ask bytes is stopped = absurd cc
stopped_behind Unasked (Some first) ask bytes is stopped = absurd stopped
stopped_behind TooLong (Some first) ask bytes is stopped =
    let same : ask ≡ first = cc in subst (λ (a : Ask). IsStoppedBy a.most bytes TooLong) same stopped
stopped_behind NoReply (Some first) ask bytes is stopped = (refl, stopped)
stopped_behind NoMemory (Some first) ask bytes is stopped = tt

-- ---- bytes were written

-- what was told is more, or more of it was written, and the next reply is held as before
told_so : (d : Dialogue) (told : List Ask) (left : ℕ) (reader : Reader) (o : IsInOrder d) → d.fault ≡ None → AnswerInOrder told d.replies → (0 < left → drop (length d.replies) told ≢ []) → HoldsNext (next_due left (drop (length d.replies) told)) reader o.part → Standing (record d { told = told; left = left }) reader
told_so d told left reader o none short written held = record {
  now = record {
    front = o.front;
    part = o.part;
    came = o.came;
    spelled = o.spelled;
    short = short;
    written = written;
    left = subst (λ f. IsBehind f (next_due left (drop (length d.replies) told)) o.part) (sym none) (next_behind (next_due left (drop (length d.replies) told)) reader o.part held);
  };
  next = λ hearing. held;
}

pub standing_told : (d : Dialogue) (reader : Reader) (s : Standing d reader) (ask : Ask) (left : ℕ) → d.fault ≡ None → d.left ≡ 0 → Standing (record d { told = d.told ++ ask ∷ []; left = left }) reader
standing_told d reader s ask left none zero_left =
    told_so d (d.told ++ ask ∷ []) left reader s.now none (in_order_told d.told (ask ∷ []) d.replies s.now.short)
    (λ some e. not_nothing (unanswered d) ask (sym (unanswered_told d.told (ask ∷ []) d.replies s.now.short) ∙ e))
    (subst (λ (l : List Ask). HoldsNext (next_due left l) reader s.now.part) (sym (unanswered_told d.told (ask ∷ []) d.replies s.now.short))
    (next_told left (unanswered d) ask reader s.now.part (subst (λ n. HoldsNext (next_due n (unanswered d)) reader s.now.part) zero_left (s.next none))))

pub standing_written : (d : Dialogue) (reader : Reader) (s : Standing d reader) (fewer : ℕ) → d.fault ≡ None → 0 < d.left → Standing (record d { left = fewer }) reader
standing_written d reader s fewer none some =
    told_so d d.told fewer reader s.now none s.now.short (λ still. s.now.written some) (next_written d.left fewer (unanswered d) reader s.now.part some (s.next none))

-- ---- an owner forsook

pub standing_forsaken : (owner : ℕ) (d : Dialogue) (reader reader' : Reader) (s : Standing d reader)
    → ((part : List ℕ) → HoldsNext (next_due d.left (unanswered d)) reader part → HoldsNext (option_map (disowned owner) (next_due d.left (unanswered d))) reader' part) → Standing (forsaken_in owner d) reader'
standing_forsaken owner d reader reader' s holds = record {
  now = record {
    front = s.now.front;
    part = s.now.part;
    came = s.now.came;
    spelled = s.now.spelled;
    short = in_order_forsaken owner d.told d.replies s.now.short;
    written = λ some e. begun_forsaken owner (unanswered d) (s.now.written some) (sym (unanswered_forsaken owner d) ∙ e);
    left = subst (λ (due : Option Ask). IsBehind d.fault due s.now.part) (sym (due_of_forsaken owner d)) (behind_forsaken owner d.fault (next_due d.left (unanswered d)) s.now.part s.now.left);
  };
  next = λ hearing. subst (λ (due : Option Ask). HoldsNext due reader' s.now.part) (sym (due_of_forsaken owner d)) (holds s.now.part (s.next hearing));
}

-- what is held of the next reply, where what nobody awaits is forgotten
pub forgotten_next : (owner : ℕ) (due : Option Ask) (none : Bool) (reader reader' : Reader) (part : List ℕ) → (IsBlank reader → IsBlank reader')
    → ((keeps : Bool) (most : ℕ) (part : List ℕ) → IsHeld keeps most reader part → IsHeld (cond none false keeps) most reader' part)
    → ((ask : Ask) → due ≡ Some ask → none ≡ is_none (disowned owner ask).owner) → HoldsNext due reader part → HoldsNext (option_map (disowned owner) due) reader' part
forgotten_next owner None none reader reader' part blank held is h = (blank h.0, h.1)
forgotten_next owner (Some ask) none reader reader' part blank held is h = by_case (is_asked_by owner ask) (is ask refl)
  where
    forgotten_of : (whose : Option ℕ) → cond (is_none whose) false (is_some whose) ≡ is_some whose
    forgotten_of None = refl
    forgotten_of (Some one) = refl

    by_case : (b : Bool) → none ≡ is_none (cond b (record ask { owner = None }) ask).owner → IsHeld (is_some (cond b (record ask { owner = None }) ask).owner) (cond b (record ask { owner = None }) ask).most reader' part
    by_case true e = subst (λ n. IsHeld (cond n false (is_some ask.owner)) ask.most reader' part) e (held (is_some ask.owner) ask.most part h)
    by_case false e = subst (λ n. IsHeld n ask.most reader' part) (ap (λ n. cond n false (is_some ask.owner)) e ∙ forgotten_of ask.owner) (held (is_some ask.owner) ask.most part h)

-- ---- what is kept

pub kept_more : (owner : ℕ) (past : Past) (ask : Ask) (rest : List Ask) (answer : Reply) (old new : List Answer) → unanswered past.now ≡ ask ∷ rest → old ≡ answers_in owner past → new ≡ old ++ answer_for owner (due_of ask) answer
    → new ≡ flat_map (replies_in owner) past.earlier ++ replies_to owner past.now.told (past.now.replies ++ answer ∷ [])
kept_more owner past ask rest answer old new left was is =
    is ∙ ap (λ (l : List Answer). l ++ answer_for owner (due_of ask) answer) was
    ∙ append_assoc (flat_map (replies_in owner) past.earlier) (replies_in owner past.now) (answer_for owner (due_of ask) answer)
    ∙ ap (λ (l : List Answer). flat_map (replies_in owner) past.earlier ++ l) (sym (to_more owner past.now.told rest past.now.replies ask answer left))

-- of a reply to what is nobody's none is
pub kept_none : (owner : ℕ) (ask : Ask) (answer : Reply) (old : List Answer) → is_some ask.owner ≡ false → old ≡ old ++ answer_for owner (due_of ask) answer
kept_none owner ask answer old none = by_case ask.owner none
  where
    by_case : (whose : Option ℕ) → is_some whose ≡ false → old ≡ old ++ cond (is_owner owner whose) (record { ticket = ask.ticket; reply = answer } ∷ []) []
    by_case None e = sym (append-nil old)
    by_case (Some one) e = absurd cc

pub kept_told : (owner : ℕ) (past : Past) (ask : Ask) (old : List Answer) → IsInOrder past.now → old ≡ answers_in owner past → old ≡ flat_map (replies_in owner) past.earlier ++ replies_to owner (past.now.told ++ ask ∷ []) past.now.replies
kept_told owner past ask old o was = was ∙ ap (λ (l : List Answer). flat_map (replies_in owner) past.earlier ++ l) (sym (to_told owner past.now.told (ask ∷ []) past.now.replies o.short))
