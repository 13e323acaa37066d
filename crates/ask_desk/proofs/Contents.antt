-- Contents of bulk strings.
use Rattle.std.proofs.Common.{◌≡◌, ◌<◌, ◌≤◌, ◌+◌, ◌-◌, ℕ, Bool, true, false, cond, List, [], ◌∷◌, ◌++◌, length, take, get_or, refl, sym, ap, subst, ◌∙◌, append-nil, append_assoc, arith, inl, inr, replicate, Option, Some, None, is_some}
use Rattle.std.proofs.lemmas.Bool.{cases_lt}
use Rattle.std.proofs.lemmas.List.{length-append, length-replicate}
use Rattle.resp.specs.Command.{line, line_end}
use Rattle.resp.specs.Spelled.{Writes, SpellsReply, IsBegun}
use Rattle.resp.specs.declared.reply.Item.TheVariants as item
use Rattle.resp.specs.declared.reply.Reply.TheVariants as reply
use Rattle.ask_desk.specs.declared.ask.Ask.{Ask}
use Rattle.ask_desk.specs.declared.reader.Reader.{Reader}
use Rattle.ask_desk.specs.CameIn.{reply_limits, BeginsBulk, IsTooLong, IsPart}
use Rattle.ask_desk.specs.Reading.{IsOfBulk, IsHeldAs, IsHeld, IsBlank, IsReplyFor, IsStepTo, HoldsNext, content_read, return_of}
use Rattle.ask_desk.proofs.Lines.{begun_nothing, no_bulk_nothing, one_length, Lined}

-- ---- a bulk string begins

pub content_begins : (keeps : Bool) (most len : ℕ) (held part : List ℕ) (bytes : List ℕ) (start : ℕ) → Lined bytes len start → len ≤ most → held ≡ take start bytes → part ≡ held
    → IsOfBulk keeps most len held [] 0 false part
content_begins keeps most len held part bytes start l short held_is part_is = record {
  digits = l.digits;
  content = [];
  held_is = held_is ∙ l.line_is;
  writes = l.writes;
  short = short;
  count_is = refl;
  within = omega arith;
  closing = λ e. absurd (let f : false ≡ true = e in cc);
  part_is = part_is ∙ sym (append-nil held) ∙ sym (append-nil (held ++ []));
  kept_is = none keeps;
}
  where
    none : (keeps : Bool) → ◌≡◌ {A = List ℕ} [] (cond keeps [] [])
    none true = refl
    none false = refl

-- ---- more of it comes

open_still : (count len : ℕ) (returned : Bool) → (returned ≡ true → count ≡ len) → count < len → returned ≡ false
open_still count len true closing less = absurd (omega (arith, closing refl, less))
open_still count len false closing less = refl

pub content_more : (keeps : Bool) (most len : ℕ) (held kept kept' : List ℕ) (count more : ℕ) (returned : Bool) (part piece : List ℕ) → IsOfBulk keeps most len held kept count returned part → count < len → length piece ≡ more → count + more ≤ len
    → kept' ≡ cond keeps (kept ++ piece) kept → IsOfBulk keeps most len held kept' (count + more) returned (part ++ piece)
content_more keeps most len held kept kept' count more returned part piece o less long fits new_kept =
    let is_open : returned ≡ false = open_still count len returned o.closing less in
    let no_return : return_of returned ≡ [] = ap return_of is_open in
    record {
      digits = o.digits;
      content = o.content ++ piece;
      held_is = o.held_is;
      writes = o.writes;
      short = o.short;
      count_is = omega (arith, length-append o.content piece, o.count_is, long);
      within = fits;
      closing = λ e. absurd (let f : false ≡ true = sym is_open ∙ e in cc);
      part_is =
          ap (λ (l : List ℕ). l ++ piece) (o.part_is ∙ ap (λ (l : List ℕ). held ++ o.content ++ l) no_return ∙ append-nil (held ++ o.content))
          ∙ append_assoc held o.content piece
          ∙ sym (append-nil (held ++ (o.content ++ piece)))
          ∙ ap (λ (l : List ℕ). held ++ (o.content ++ piece) ++ l) (sym no_return);
      kept_is = new_kept ∙ grown keeps kept o.content o.kept_is;
    }
  where
    grown : (keeps : Bool) (kept content : List ℕ) → kept ≡ cond keeps content [] → cond keeps (kept ++ piece) kept ≡ cond keeps (content ++ piece) []
    grown true kept content is = ap (λ (l : List ℕ). l ++ piece) is
    grown false kept content is = is

-- ---- its end comes

-- all bytes of a bulk string, and what stands behind its content
behind_content : (keeps : Bool) (most len : ℕ) (held kept : List ℕ) (count : ℕ) (returned : Bool) (part bytes : List ℕ) (o : IsOfBulk keeps most len held kept count returned part)
    → part ++ bytes ≡ line 36 o.digits ++ o.content ++ (return_of returned ++ bytes)
behind_content keeps most len held kept count returned part bytes o =
    ap (λ (l : List ℕ). l ++ bytes) (o.part_is ∙ ap (λ (l : List ℕ). l ++ o.content ++ return_of returned) o.held_is)
    ∙ append_assoc (line 36 o.digits ++ o.content) (return_of returned) bytes

content_length : (keeps : Bool) (most len : ℕ) (held kept : List ℕ) (count : ℕ) (returned : Bool) (part : List ℕ) (o : IsOfBulk keeps most len held kept count returned part) → len ≤ count → length o.content ≡ len
content_length keeps most len held kept count returned part o all = omega (arith, o.count_is, o.within, all)

-- it is whole
pub content_whole : (keeps : Bool) (most len : ℕ) (held kept : List ℕ) (count : ℕ) (part : List ℕ) (o : IsOfBulk keeps most len held kept count true part) → len ≤ count
    → IsReplyFor most (part ++ 10 ∷ []) (reply.One (item.Bulk o.content))
content_whole keeps most len held kept count part o all =
    let long : length o.content ≡ len = content_length keeps most len held kept count true part o all in (
      (
        o.digits,
        subst (λ n. Writes reply_limits reply_limits.bulk o.digits n) (sym long) o.writes,
        behind_content keeps most len held kept count true part (10 ∷ []) o,
      ),
      omega (arith, long, o.short),
    )

-- ---- what is held is the beginning of a reply that isn't too long

pub held_line : (keeps : Bool) (most : ℕ) (reader : Reader) → IsBlank reader → IsHeld keeps most reader []
held_line keeps most reader b = subst (λ w. IsHeldAs w keeps most reader []) (sym b.wants) (record {
  part_is = sym b.none;
  begun = begun_nothing;
  no_bulk = no_bulk_nothing;
  none = b.none_kept;
})

padded_begun : (digits content : List ℕ) (len : ℕ) → Writes reply_limits reply_limits.bulk digits len → length content < len → IsBegun (SpellsReply reply_limits) (line 36 digits ++ content)
padded_begun digits content len writes less =
    let more : ℕ = len - length content - 1 in
    let pad : List ℕ = replicate more 0 in
    let pad_long : length pad ≡ more = length-replicate more 0 in
    let all : List ℕ = content ++ 0 ∷ pad in
    let long : length all ≡ len = omega (arith, length-append content (0 ∷ pad), pad_long, less) in
    record {
      value = reply.One (item.Bulk all);
      next = 0;
      rest = pad ++ line_end;
      spelled = (
        digits,
        subst (λ n. Writes reply_limits reply_limits.bulk digits n) (sym long) writes,
        regrouped (line 36 digits) content pad,
      );
    }
  where
    regrouped : (a b p : List ℕ) → (a ++ b) ++ (0 ∷ (p ++ line_end)) ≡ (a ++ (b ++ 0 ∷ p)) ++ line_end
    regrouped a b p = append_assoc a b (0 ∷ (p ++ line_end)) ∙ ap (λ (l : List ℕ). a ++ l) (sym (append_assoc b (0 ∷ p) line_end)) ∙ sym (append_assoc a (b ++ 0 ∷ p) line_end)

whole_begun : (digits content : List ℕ) (len : ℕ) (returned : Bool) → Writes reply_limits reply_limits.bulk digits len → length content ≡ len → IsBegun (SpellsReply reply_limits) (line 36 digits ++ content ++ return_of returned)
whole_begun digits content len false writes long = record {
  value = reply.One (item.Bulk content);
  next = 13;
  rest = 10 ∷ [];
  spelled = (
    digits,
    subst (λ n. Writes reply_limits reply_limits.bulk digits n) (sym long) writes,
    append_assoc (line 36 digits ++ content) [] line_end,
  );
}
whole_begun digits content len true writes long = record {
  value = reply.One (item.Bulk content);
  next = 10;
  rest = [];
  spelled = (
    digits,
    subst (λ n. Writes reply_limits reply_limits.bulk digits n) (sym long) writes,
    append_assoc (line 36 digits ++ content) (13 ∷ []) (10 ∷ []),
  );
}

bulk_begun : (keeps : Bool) (most len : ℕ) (held kept : List ℕ) (count : ℕ) (returned : Bool) (part : List ℕ) → IsOfBulk keeps most len held kept count returned part → IsBegun (SpellsReply reply_limits) part
bulk_begun keeps most len held kept count returned part o =
    let is : part ≡ line 36 o.digits ++ o.content ++ return_of returned = o.part_is ∙ ap (λ (l : List ℕ). l ++ o.content ++ return_of returned) o.held_is in
    subst (IsBegun (SpellsReply reply_limits)) (sym is) (elim (cases_lt count len) [
      | inl less ↦
          let bare : return_of returned ≡ [] = ap return_of (open_still count len returned o.closing less) in
          subst (IsBegun (SpellsReply reply_limits)) (sym (ap (λ (l : List ℕ). line 36 o.digits ++ o.content ++ l) bare ∙ append-nil (line 36 o.digits ++ o.content)))
          (padded_begun o.digits o.content len o.writes (omega (arith, o.count_is, less)))
      | inr past ↦ whole_begun o.digits o.content len returned o.writes (omega (arith, o.count_is, o.within, past))
    ])

bulk_line : (keeps : Bool) (most len : ℕ) (held kept : List ℕ) (count : ℕ) (returned : Bool) (part : List ℕ) → IsOfBulk keeps most len held kept count returned part → BeginsBulk part len
bulk_line keeps most len held kept count returned part o = record {
  digits = o.digits;
  behind = o.content ++ return_of returned;
  writes = o.writes;
  bytes_are = o.part_is ∙ ap (λ (l : List ℕ). l ++ o.content ++ return_of returned) o.held_is ∙ append_assoc (line 36 o.digits) o.content (return_of returned);
}

held_part_as : (wants : Option ℕ) (keeps : Bool) (most : ℕ) (reader : Reader) (part : List ℕ) → IsHeldAs wants keeps most reader part → IsBegun (SpellsReply reply_limits) part × (IsTooLong most part → ⊥)
held_part_as None keeps most reader part h = (h.begun, λ long. h.no_bulk long.0 long.1)
held_part_as (Some len) keeps most reader part h = (
  bulk_begun keeps most len reader.line.items reader.content.items reader.count reader.has_return part h,
  λ long. absurd (omega (arith, long.2, one_length part long.0 len long.1 (bulk_line keeps most len reader.line.items reader.content.items reader.count reader.has_return part h), h.short)),
)

pub held_part : (keeps : Bool) (most : ℕ) (reader : Reader) (part : List ℕ) → IsHeld keeps most reader part → IsBegun (SpellsReply reply_limits) part × (IsTooLong most part → ⊥)
held_part keeps most reader part h = held_part_as reader.wants keeps most reader part h

pub next_part : (due : Option Ask) (reader : Reader) (part : List ℕ) → HoldsNext due reader part → IsPart due part
next_part None reader part h = h.1
next_part (Some ask) reader part h = held_part (is_some ask.owner) ask.most reader part h

-- a blank reader holds what is left of a reply of which nothing came
pub blank_next : (due : Option Ask) (reader : Reader) → IsBlank reader → HoldsNext due reader []
blank_next None reader b = (b, refl)
blank_next (Some ask) reader b = held_line (is_some ask.owner) ask.most reader b

pub take_first : (bytes : List ℕ) (byte : ℕ) → 0 < length bytes → get_or bytes 0 0 ≡ byte → take 1 bytes ≡ byte ∷ []
take_first [] byte some is = absurd (omega (arith, some))
take_first (x ∷ rest) byte some is = ap (λ n. n ∷ []) is

-- LF comes, and all is whole
pub whole_step : (keeps : Bool) (most len : ℕ) (held kept : List ℕ) (count : ℕ) (part : List ℕ) (reader : Reader) → IsOfBulk keeps most len held kept count true part → len ≤ count → IsBlank reader
    → IsStepTo (content_read keeps kept) keeps most reader (part ++ 10 ∷ [])
whole_step true most len held kept count part reader o all blank =
    (subst (λ (l : List ℕ). IsReplyFor most (part ++ 10 ∷ []) (reply.One (item.Bulk l))) (sym o.kept_is) (content_whole true most len held kept count part o all), blank)
whole_step false most len held kept count part reader o all blank =
    (refl, (reply.One (item.Bulk o.content), content_whole false most len held kept count part o all), blank)
