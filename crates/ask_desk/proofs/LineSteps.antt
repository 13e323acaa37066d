-- What a step on a line leads to.
use Rattle.std.proofs.Common.{◌≡◌, ◌<◌, ◌≤◌, ◌-◌, ℕ, Bool, false, List, ◌++◌, length, take, sym, ap, subst, ◌∙◌, arith, Option, Some, None}
use Rattle.std.proofs.lemmas.List.{length-append, length-take}
use Rattle.resp.specs.Command.{line, line_end}
use Rattle.resp.specs.Spelled.{Writes, SpellsReply, IsBegun}
use Rattle.resp.specs.Verdict.{IsWrongAt}
use Rattle.resp.specs.declared.reply.Item.TheVariants as item
use Rattle.resp.specs.declared.reply.Reply.{Reply}
use Rattle.resp.specs.declared.reply.Reply.TheVariants as reply
use Rattle.ask_desk.specs.CameIn.{reply_limits, BeginsBulk, IsTooLong, IsNoReply}
use Rattle.ask_desk.specs.Reading.{IsOfLine, IsOfBulk, IsReplyFor}
use Rattle.ask_desk.proofs.Lines.{lined, lined_begins, line_is_new, begun_is_new, short_line, cut_piece, no_reply_more, too_long_more}
use Rattle.ask_desk.proofs.Contents.{content_begins}

-- what `read_bulk_line` says of a line that was read
abbrev pub SpellsBulks : List ℕ → ℕ → ℕ → Type 0
SpellsBulks bytes len start = (content : List ℕ) → length content ≡ len → SpellsReply reply_limits (reply.One (item.Bulk content)) (take start bytes ++ content ++ line_end)

-- and what it says of each that could be
abbrev pub ReadsBulks : List ℕ → Option (ℕ × ℕ) → Type 0
ReadsBulks bytes found = (digits rest : List ℕ) (len : ℕ) → Writes reply_limits reply_limits.bulk digits len → bytes ≡ line 36 digits ++ rest → found ≡ Some (len, length (line 36 digits))

no_bulk_of : (bytes : List ℕ) (found : Option (ℕ × ℕ)) → ReadsBulks bytes found → found ≡ None → (len : ℕ) → BeginsBulk bytes len → ⊥
no_bulk_of bytes found reads none len b = let e : ◌≡◌ {A = Option (ℕ × ℕ)} None (Some (len, length (line 36 b.digits))) = sym none ∙ reads b.digits b.behind len b.writes b.bytes_are in cc

-- the law that no reply begins another
abbrev pub OneReply : Type 0
OneReply = (one two : Reply) (front back other rest : List ℕ) → SpellsReply reply_limits one front → SpellsReply reply_limits two other → front ++ back ≡ other ++ rest → length front ≡ length other

-- a line to which a piece came
in_part : (held kept part bytes now : List ℕ) (count : ℕ) → IsOfLine held kept part → now ≡ held ++ take count bytes → now ≡ part ++ take count bytes
in_part held kept part bytes now count h is = is ∙ ap (λ (l : List ℕ). l ++ take count bytes) (sym h.part_is)

pub line_too_long : (held kept part bytes now : List ℕ) (count most len start : ℕ) → IsOfLine held kept part → now ≡ held ++ take count bytes → SpellsBulks now len start → most < len → IsTooLong most (part ++ bytes)
line_too_long held kept part bytes now count most len start h is spells long =
    too_long_more part bytes count most len (subst (λ (l : List ℕ). BeginsBulk l len) (in_part held kept part bytes now count h is) (lined_begins now len start (lined now len start spells))) long

-- so many bytes were taken, as far as a line's end
pub record LineTaken (bytes : List ℕ) (taken : ℕ) : Type 0 where
  pub some : 0 < taken
  pub within : taken ≤ length bytes

line_taken : (held bytes now : List ℕ) (count end taken : ℕ) → now ≡ held ++ take count bytes → end ≤ length now → length held < end → taken ≡ end - length held → LineTaken bytes taken × (end - length held ≤ count)
line_taken held bytes now count end taken is within past taken_is =
    let all = ap length is in (
      record {
        some = omega (arith, past, taken_is);
        within = omega (arith, within, all, taken_is, length-append held (take count bytes), length-take count bytes);
      },
      omega (arith, within, all, length-append held (take count bytes), length-take count bytes),
    )

-- the line of a bulk string is whole
pub line_of_bulk : (keeps : Bool) (held kept part bytes now line' : List ℕ) (count most len start taken : ℕ) → IsOfLine held kept part → now ≡ held ++ take count bytes → SpellsBulks now len start → start ≤ length now → len ≤ most → line' ≡ take start now → taken ≡ start - length held
    → LineTaken bytes taken × IsOfBulk keeps most len line' kept 0 false (part ++ take taken bytes)
line_of_bulk keeps held kept part bytes now line' count most len start taken h is spells within short line_is taken_is =
    let l = lined now len start spells in
    let no : (n : ℕ) → BeginsBulk held n → ⊥ = λ n b. h.no_bulk n (subst (λ (x : List ℕ). BeginsBulk x n) (sym h.part_is) b) in
    let past : length held < start =
    line_is_new held (take count bytes) len start no (lined (held ++ take count bytes) len start (subst (λ (x : List ℕ). SpellsBulks x len start) is spells)) in
    let t = line_taken held bytes now count start taken is within past taken_is in
    let front : line' ≡ held ++ take taken bytes =
    line_is ∙ ap (take start) is ∙ cut_piece held bytes count start (omega (arith, past)) t.1 ∙ ap (λ n. held ++ take n bytes) (sym taken_is) in (
      t.0,
      subst (λ (k : List ℕ). IsOfBulk keeps most len line' k 0 false (part ++ take taken bytes)) (sym h.none)
          (content_begins keeps most len line' (part ++ take taken bytes) now start l short line_is
          (ap (λ (x : List ℕ). x ++ take taken bytes) h.part_is ∙ sym front)),
    )

pub line_more : (held kept part bytes now : List ℕ) (count : ℕ) (found : Option (ℕ × ℕ)) → IsOfLine held kept part → now ≡ held ++ take count bytes → ReadsBulks now found → found ≡ None → IsBegun (SpellsReply reply_limits) now
    → IsOfLine now kept (part ++ take count bytes)
line_more held kept part bytes now count found h is reads none begun =
    let same = in_part held kept part bytes now count h is in
    record {
      part_is = sym same;
      begun = subst (λ (l : List ℕ). IsBegun (SpellsReply reply_limits) l) same begun;
      no_bulk = λ len b. no_bulk_of now found reads none len (subst (λ (l : List ℕ). BeginsBulk l len) (sym same) b);
      none = h.none;
    }

pub line_whole : (held kept part bytes now : List ℕ) (count most len taken : ℕ) (found : Option (ℕ × ℕ)) (answer : Reply) → OneReply → IsOfLine held kept part → now ≡ held ++ take count bytes → ReadsBulks now found → found ≡ None
    → len ≤ length now → SpellsReply reply_limits answer (take len now) → taken ≡ len - length held
    → LineTaken bytes taken × IsReplyFor most (part ++ take taken bytes) answer
line_whole held kept part bytes now count most len taken found answer law h is reads none within spelled taken_is =
    let begun : IsBegun (SpellsReply reply_limits) held = subst (λ (l : List ℕ). IsBegun (SpellsReply reply_limits) l) h.part_is h.begun in
    let past : length held < len = begun_is_new held (take count bytes) answer len law begun (subst (λ (l : List ℕ). SpellsReply reply_limits answer (take len l)) is spelled) in
    let t = line_taken held bytes now count len taken is within past taken_is in
    let front : take len now ≡ part ++ take taken bytes =
    ap (take len) is ∙ cut_piece held bytes count len (omega (arith, past)) t.1 ∙ ap (λ n. held ++ take n bytes) (sym taken_is) ∙ ap (λ (l : List ℕ). l ++ take taken bytes) (sym h.part_is) in (
      t.0,
      (
        subst (SpellsReply reply_limits answer) front spelled,
        short_line most len now answer (no_bulk_of now found reads none) spelled,
      ),
    )

pub line_wrong : (held kept part bytes now : List ℕ) (count place : ℕ) → IsOfLine held kept part → now ≡ held ++ take count bytes → IsWrongAt (SpellsReply reply_limits) now place → IsNoReply (part ++ bytes)
line_wrong held kept part bytes now count place h is wrong =
    no_reply_more part bytes count place (subst (λ (l : List ℕ). IsWrongAt (SpellsReply reply_limits) l place) (in_part held kept part bytes now count h is) wrong)
