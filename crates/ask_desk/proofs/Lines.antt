-- Lines of replies.
use Rattle.std.proofs.Common.{◌≡◌, ◌<◌, ◌≤◌, ◌+◌, ◌-◌, ℕ, List, [], ◌∷◌, ◌++◌, length, take, drop, refl, sym, ap, subst, ◌∙◌, append-nil, append_assoc, arith, inl, inr, replicate}
use Rattle.std.proofs.lemmas.Bool.{cases_lt}
use Rattle.std.specs.Char.{digit_value}
use Rattle.std.specs.Str.Parse.{AllDigits, digits_value}
use Rattle.std.proofs.lemmas.List.{length-append, length-replicate, length-take-le, take-take, take-append-le, take-append-drop, append_cancel_right}
use Rattle.std.proofs.Math.Seq.{take-append-add}
use Rattle.resp.specs.Command.{line, line_end}
use Rattle.resp.specs.Spelled.{Writes, SpellsReply, IsBegun}
use Rattle.resp.specs.Verdict.{IsWrongAt}
use Rattle.resp.specs.declared.reply.Item.TheVariants as item
use Rattle.resp.specs.declared.reply.Reply.{Reply}
use Rattle.resp.specs.declared.reply.Reply.TheVariants as reply
use Rattle.ask_desk.specs.CameIn.{reply_limits, BeginsBulk, IsShort, IsTooLong, IsNoReply}

-- ---- nothing

pub begun_nothing : IsBegun (SpellsReply reply_limits) []
begun_nothing = record { value = reply.One item.Null; next = 36; rest = 45 ∷ 49 ∷ 13 ∷ 10 ∷ []; spelled = refl }

pub no_bulk_nothing : (len : ℕ) → BeginsBulk [] len → ⊥
no_bulk_nothing len b = let e : [] ≡ 36 ∷ (b.digits ++ line_end ++ b.behind) = b.bytes_are in cc

-- ---- the line of a bulk string

-- its digits end where CR stands
digits_same : (d e r s : List ℕ) → AllDigits 10 d → AllDigits 10 e → d ++ line_end ++ r ≡ e ++ line_end ++ s → d ≡ e
digits_same [] [] r s one two is = refl
digits_same [] (c ∷ e) r s one two is =
    let first : 13 ≡ c = cc in
    absurd (no_digit c first two.0)
  where
    no_digit : (c : ℕ) → 13 ≡ c → digit_value c < 10 → ⊥
    no_digit c is digit = let low : digit_value 13 < 10 = subst (λ n. digit_value n < 10) (sym is) digit in omega (arith, low)
digits_same (c ∷ d) [] r s one two is =
    let first : 13 ≡ c = cc in
    absurd (no_digit c first one.0)
  where
    no_digit : (c : ℕ) → 13 ≡ c → digit_value c < 10 → ⊥
    no_digit c is digit = let low : digit_value 13 < 10 = subst (λ n. digit_value n < 10) (sym is) digit in omega (arith, low)
digits_same (c ∷ d) (b ∷ e) r s one two is =
    let first : c ≡ b = cc in
    let rest : d ++ line_end ++ r ≡ e ++ line_end ++ s = cc in
    let same = digits_same d e r s one.1 two.1 rest in cc

-- and so it says one length
pub one_length : (bytes : List ℕ) (n m : ℕ) → BeginsBulk bytes n → BeginsBulk bytes m → n ≡ m
one_length bytes n m a b =
    let both : 36 ∷ (a.digits ++ line_end ++ a.behind) ≡ 36 ∷ (b.digits ++ line_end ++ b.behind) = sym a.bytes_are ∙ b.bytes_are in
    let rest : a.digits ++ line_end ++ a.behind ≡ b.digits ++ line_end ++ b.behind = cc in
    let same = digits_same a.digits b.digits a.behind b.behind a.writes.0.1 b.writes.0.1 rest in
    sym a.writes.2 ∙ ap (digits_value 10) same ∙ b.writes.2

pub begins_more : (bytes more : List ℕ) (len : ℕ) → BeginsBulk bytes len → BeginsBulk (bytes ++ more) len
begins_more bytes more len b = record {
  digits = b.digits;
  behind = b.behind ++ more;
  writes = b.writes;
  bytes_are = ap (λ (l : List ℕ). l ++ more) b.bytes_are ∙ append_assoc (line 36 b.digits) b.behind more;
}

-- the line that was read
pub record Lined (bytes : List ℕ) (len start : ℕ) : Type 0 where
  pub digits : List ℕ
  pub writes : Writes reply_limits reply_limits.bulk digits len
  pub line_is : take start bytes ≡ line 36 digits

pub lined : (bytes : List ℕ) (len start : ℕ)
    → ((content : List ℕ) → length content ≡ len → SpellsReply reply_limits (reply.One (item.Bulk content)) (take start bytes ++ content ++ line_end))
    → Lined bytes len start
lined bytes len start spells =
    let content : List ℕ = replicate len 0 in
    let long : length content ≡ len = length-replicate len 0 in
    let s = spells content long in
    record {
      digits = s.0;
      writes = subst (λ n. Writes reply_limits reply_limits.bulk s.0 n) long s.1;
      line_is = append_cancel_right (take start bytes) (line 36 s.0) content (append_cancel_right (take start bytes ++ content) (line 36 s.0 ++ content) line_end s.2);
    }

pub lined_begins : (bytes : List ℕ) (len start : ℕ) → Lined bytes len start → BeginsBulk bytes len
lined_begins bytes len start l = record {
  digits = l.digits;
  behind = drop start bytes;
  writes = l.writes;
  bytes_are = sym (take-append-drop start bytes) ∙ ap (λ (b : List ℕ). b ++ drop start bytes) l.line_is;
}

-- ---- bytes that came in two

-- so many bytes in front of both reach behind the first
pub cut_behind : (old piece : List ℕ) (start : ℕ) → length old ≤ start → take start (old ++ piece) ≡ old ++ take (start - length old) piece
cut_behind old piece start past =
    let sum : start ≡ length old + (start - length old) = omega (arith, past) in
    ap (λ n. take n (old ++ piece)) sum ∙ take-append-add old piece (start - length old)

-- the same of a piece that is the beginning of more
pub cut_piece : (old bytes : List ℕ) (count start : ℕ) → length old ≤ start → start - length old ≤ count → take start (old ++ take count bytes) ≡ old ++ take (start - length old) bytes
cut_piece old bytes count start past within =
    cut_behind old (take count bytes) start past ∙ ap (λ (l : List ℕ). old ++ l) (take-take (start - length old) count bytes within)

-- the first piece and the others
pub pieces : (old bytes : List ℕ) (count : ℕ) → old ++ bytes ≡ (old ++ take count bytes) ++ drop count bytes
pieces old bytes count = ap (λ (l : List ℕ). old ++ l) (sym (take-append-drop count bytes)) ∙ sym (append_assoc old (take count bytes) (drop count bytes))

-- a line that ends in what had come stood there before
pub line_is_new : (old piece : List ℕ) (len start : ℕ) → ((n : ℕ) → BeginsBulk old n → ⊥) → Lined (old ++ piece) len start → length old < start
line_is_new old piece len start none l = elim (cases_lt (length old) start) [
  | inl less ↦ less
  | inr past ↦
      absurd (none len (lined_begins old len start (record {
        digits = l.digits;
        writes = l.writes;
        line_is = sym (take-append-le start old piece past) ∙ l.line_is;
      })))
]

-- ---- whole replies

-- what is begun has no whole reply in front
pub begun_is_new : (old piece : List ℕ) (answer : Reply) (len : ℕ)
    → ((one two : Reply) (front back other rest : List ℕ) → SpellsReply reply_limits one front → SpellsReply reply_limits two other → front ++ back ≡ other ++ rest → length front ≡ length other)
    → IsBegun (SpellsReply reply_limits) old → SpellsReply reply_limits answer (take len (old ++ piece)) → length old < len
begun_is_new old piece answer len one_reply begun spelled = elim (cases_lt (length old) len) [
  | inl less ↦ less
  | inr past ↦
      let front : take len (old ++ piece) ≡ take len old = take-append-le len old piece past in
      let here : SpellsReply reply_limits answer (take len old) = subst (SpellsReply reply_limits answer) front spelled in
      let tail : List ℕ = begun.next ∷ begun.rest in
      let cut : take len old ++ (drop len old ++ tail) ≡ (old ++ tail) ++ [] =
      sym (append_assoc (take len old) (drop len old) tail) ∙ ap (λ (l : List ℕ). l ++ tail) (take-append-drop len old) ∙ sym (append-nil (old ++ tail)) in
      let same = one_reply answer begun.value (take len old) (drop len old ++ tail) (old ++ tail) [] here begun.spelled cut in
      absurd (omega (arith, same, length-take-le len old past, length-append old tail))
]

-- a whole reply that is no bulk string is short
pub short_line : (most len : ℕ) (bytes : List ℕ) (answer : Reply) → ((n : ℕ) → BeginsBulk bytes n → ⊥) → SpellsReply reply_limits answer (take len bytes) → IsShort most answer
short_line most len bytes (reply.One (item.Text text)) none spelled = tt
short_line most len bytes (reply.One (item.Error text)) none spelled = tt
short_line most len bytes (reply.One (item.Integer n)) none spelled = tt
short_line most len bytes (reply.One item.Null) none spelled = tt
short_line most len bytes (reply.Several all) none spelled = tt
short_line most len bytes (reply.One (item.Bulk content)) none spelled =
    absurd (none (length content) (record {
      digits = spelled.0;
      behind = content ++ line_end ++ drop len bytes;
      writes = spelled.1;
      bytes_are = sym (take-append-drop len bytes) ∙ ap (λ (l : List ℕ). l ++ drop len bytes) spelled.2 ∙ regrouped (line 36 spelled.0) content line_end (drop len bytes);
    }))
  where
    regrouped : (a b c d : List ℕ) → ((a ++ b) ++ c) ++ d ≡ a ++ ((b ++ c) ++ d)
    regrouped a b c d = simp append_assoc refl

-- what is wrong stays wrong
pub wrong_more : (bytes more : List ℕ) (place : ℕ) → IsWrongAt (SpellsReply reply_limits) bytes place → IsWrongAt (SpellsReply reply_limits) (bytes ++ more) place
wrong_more bytes more place w =
    let to : take place (bytes ++ more) ≡ take place bytes = take-append-le place bytes more (omega (arith, w.within)) in
    let past : take (place + 1) (bytes ++ more) ≡ take (place + 1) bytes = take-append-le (place + 1) bytes more (omega (arith, w.within)) in
    record {
      within = omega (arith, w.within, length-append bytes more);
      begun = subst (λ (l : List ℕ). IsBegun (SpellsReply reply_limits) l) (sym to) w.begun;
      not_begun = λ b. w.not_begun (subst (λ (l : List ℕ). IsBegun (SpellsReply reply_limits) l) past b);
      not_whole = λ a s. w.not_whole a (subst (SpellsReply reply_limits a) past s);
    }

pub no_reply_more : (part bytes : List ℕ) (count place : ℕ) → IsWrongAt (SpellsReply reply_limits) (part ++ take count bytes) place → IsNoReply (part ++ bytes)
no_reply_more part bytes count place w =
    subst IsNoReply (sym (pieces part bytes count)) (inl (place, wrong_more (part ++ take count bytes) (drop count bytes) place w))

pub too_long_more : (part bytes : List ℕ) (count most len : ℕ) → BeginsBulk (part ++ take count bytes) len → most < len → IsTooLong most (part ++ bytes)
too_long_more part bytes count most len b long =
    subst (IsTooLong most) (sym (pieces part bytes count)) (len, begins_more (part ++ take count bytes) (drop count bytes) len b, long)
