-- Lines that are read in parts.
use Rattle.std.proofs.Common.{◌≡◌, ◌≢◌, ℕ, ◌+◌, ◌≤◌, List, [], ◌∷◌, ◌++◌, length, take, drop, Bool, true, false, cond, Option, Some, None, Err, sym, ap, subst, ◌∙◌, append_assoc, length-append, arith}
use Rattle.std.specs.Prelude.{IfSome, OnSome}
use Rattle.std.specs.Io.{StartsWith}
use Rattle.std.specs.Io.KnownBytes.{Keeps, Consumes, IsAtEnd}
use Rattle.std.specs.Io.BufRead.{DropsConsumable}
use Rattle.std.proofs.KnownBytes.{Consumes-trans, starts_with_rest}
use Rattle.std.proofs.BufReadLemmas.{Consumes_shown}
use Rattle.std.proofs.Math.Seq.{take-append_seam}
use Rattle.std.proofs.lemmas.List.{append-nil}
use mir.Val.{bool_byte}
use Rattle.std.proofs.lemmas.List.Elements.{All-append}
use Rattle.octets.specs.Cut.{IsCutAt}
use Rattle.gate_tasks.specs.Lines.{LacksLf, Line, line_bytes, fits}
use Rattle.gate_tasks.specs.Reading.{IsLinePart, IsLineTooLong, LineReads, PartReads}
use Rattle.gate_tasks.specs.declared.fault.ScriptFault.{ScriptFault}
use Rattle.gate_tasks.specs.declared.fault.ScriptFault.TheVariants.{BadLine, ReadFailed, WriteFailed, NoMemory, TooLong}

-- a cut at the first LF
pub part_cut : (bytes line rest : List ℕ) → IsCutAt 10 bytes line rest → IsLinePart bytes (record { bytes = line; ended = true })
part_cut bytes line rest cut = record {
  begins = record { rest = rest; parts = cut.parts ∙ sym (append_assoc line (10 ∷ []) rest); before = cut.before };
  whole = λ e. absurd (no e);
}
  where
    no : true ≡ false → ⊥
    no e = cc

-- a reader that shows nothing is at its end
pub shows_nothing : (a b : Option (List ℕ)) (shown : List ℕ) → IfSome a (λ xs. length shown ≡ 0 → xs ≡ []) → Keeps a b → length shown ≡ 0 → OnSome a (IsAtEnd b) × Consumes a b []
shows_nothing None b shown end keeps none = (tt, tt)
shows_nothing (Some x) None shown end keeps none = absurd keeps
shows_nothing (Some x) (Some y) shown end keeps none = (keeps ∙ end none, sym keeps)

-- what is shown goes on with a line that is over a limit
pub shows_too_long : (a : Option (List ℕ)) (read : ℕ) (before shown : List ℕ) (part : Line) → IfSome a (λ xs. StartsWith xs shown) → IsLinePart shown part
    → fits read (length before + length part.bytes) part.ended ≡ false → IfSome a (IsLineTooLong read before)
shows_too_long None read before shown part front is over = tt
shows_too_long (Some x) read before shown part front is over =
    let more = drop (length shown) x in
    record {
      part = part;
      begins = record {
        rest = is.begins.rest ++ more;
        parts = starts_with_rest x shown front ∙ ap (λ l. l ++ more) is.begins.parts ∙ append_assoc (line_bytes part) is.begins.rest more;
        before = is.begins.before;
      };
      over = ap (λ n. fits read n part.ended) (length-append before part.bytes) ∙ over;
    }

front_of : (xs ys : List ℕ) (n : ℕ) → n ≡ length xs → take n (xs ++ ys) ≡ xs
front_of xs ys n is = ap (λ k. take k (xs ++ ys)) is ∙ take-append_seam xs ys

-- how many bytes a part and its LF are
pub sized : (part : List ℕ) (ended : Bool) (k : ℕ) → k ≡ bool_byte ended → length part + k ≡ length (line_bytes (record { bytes = part; ended = ended }))
sized part true k is = omega (arith, is, length-append part (10 ∷ []))
sized part false k is = omega (arith, is, length-append {A = ℕ} part [])

-- what was shown is consumed as far as its part goes
pub consumes_part : (a b c : Option (List ℕ)) (buffered : Option ℕ) (shown : List ℕ) (part : Line) (n : ℕ) → IsLinePart shown part → n ≡ length (line_bytes part)
    → IfSome a (λ xs. StartsWith xs shown) → IfSome a (λ xs. length shown ≡ 0 → xs ≡ []) → Keeps a b → IfSome a (λ _. IfSome buffered (λ k. length shown ≤ k))
    → DropsConsumable b c buffered n → Consumes a c (line_bytes part)
consumes_part a b c buffered shown part n is size front end keeps room drops =
    let within : n ≤ length shown = omega (arith, ap length is.begins.parts, length-append (line_bytes part) is.begins.rest) in
    subst (Consumes a c) (ap (take n) is.begins.parts ∙ front_of (line_bytes part) is.begins.rest n size) (Consumes_shown a b c buffered shown n within front end keeps room drops).0

-- what stops a part stops the line
pub stopped : (read : ℕ) (a b c : Option (List ℕ)) (before line : List ℕ) (fault : ScriptFault) → Consumes a b before → LacksLf before → PartReads read b c (Err fault) before line
    → LineReads read a c (Err fault) line
stopped read a b c before line (BadLine number) taken lacks stop = stop
stopped read a b c before line ReadFailed taken lacks stop = record { part = before; taken = subst (Consumes a c) (append-nil before) (Consumes-trans a b c before [] taken stop); lacks = lacks }
stopped read a b c before line WriteFailed taken lacks stop = stop
stopped read a b c before line NoMemory taken lacks stop = record { part = before; taken = subst (Consumes a c) (append-nil before) (Consumes-trans a b c before [] taken stop); lacks = lacks }
stopped read None b c before line TooLong taken lacks stop = tt
stopped read (Some x) None c before line TooLong taken lacks stop = absurd taken
stopped read (Some x) (Some y) c before line TooLong taken lacks stop =
    let part = stop.part in
    let whole : Line = record { bytes = before ++ part.bytes; ended = part.ended } in
    let end = cond part.ended (10 ∷ []) [] in
    record {
      part = whole;
      begins = record {
        rest = stop.begins.rest;
        parts = taken ∙ ap (λ l. before ++ l) stop.begins.parts ∙ sym (append_assoc before (line_bytes part) stop.begins.rest) ∙ ap (λ l. l ++ stop.begins.rest) (sym (append_assoc before part.bytes end));
        before = All-append (λ b. b ≢ 10) before part.bytes lacks stop.begins.before;
      };
      over = stop.over;
    }
