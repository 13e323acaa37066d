-- Reading from left to right, as the private functions do it: a value and the bytes after it, or why reading stops. That
-- this is what `Spelled` says is proved, and the contract of `read_reply` says no word of it.
use Rattle.std.specs.Prelude.{◌≡◌, ℕ, zero, suc, ℤ, pos, neg_ℤ, ◌+◌, ◌-◌, ◌*◌, ◌^◌, ◌≤◌, List, [], ◌∷◌, ◌++◌, length, take, drop, Option, Some, None, Result, Ok, Err, nat_lt, nat_le, ◌==◌, ◌&&◌, if◌then◌else◌}
use Rattle.std.specs.Char.{digit_value}
use Rattle.resp.specs.declared.fault.Wrong.{Wrong}
use Rattle.resp.specs.declared.fault.Wrong.TheVariants.{Malformed, TooLarge}
use Rattle.resp.specs.declared.fault.ReadStop.{ReadStop}
use Rattle.resp.specs.declared.fault.ReadStop.TheVariants as stops
use Rattle.resp.specs.declared.limits.Limits.{Limits}
use Rattle.resp.specs.declared.items.Kind.{Kind}
use Rattle.resp.specs.declared.items.Kind.TheVariants as kind
use Rattle.resp.specs.declared.items.Lead.{Lead}
use Rattle.resp.specs.declared.items.Lead.TheVariants as lead
use Rattle.resp.specs.declared.reply.Item.{Item}
use Rattle.resp.specs.declared.reply.Item.TheVariants as item
use Rattle.resp.specs.declared.reply.Element.{Element}
use Rattle.resp.specs.declared.reply.Element.TheVariants as element
use Rattle.resp.specs.declared.reply.Reply.{Reply}
use Rattle.resp.specs.declared.reply.Reply.TheVariants as reply

-- the bytes end too early, or a byte is wrong, with so many from it on
pub data Stop : Type 0 where
  More : Stop
  At : Wrong → ℕ → Stop

abbrev pub Read : Type 0 → Type 0
Read A = Result (A × List ℕ) Stop

infixl 10 ◌>>=◌
abbrev pub ◌>>=◌ : {A B : Type 0} → Read A → (A × List ℕ → Read B) → Read B
(Ok x) >>= f = f x
(Err e) >>= f = Err e

-- What a function returned, seen by view, is what reading gives. Memory is asked for only where Came.
abbrev pub Stops : {A : Type 0} → Type 0 → ReadStop → Read A → Type 0
Stops Came stops.More read = read ≡ Err More
Stops Came (stops.Wrong wrong left) read = read ≡ Err (At wrong left)
Stops Came stops.NoMemory read = Came

abbrev pub Gives : {X A : Type 0} → Type 0 → (X → A × List ℕ) → Result X ReadStop → Read A → Type 0
Gives Came view (Ok x) read = read ≡ Ok (view x)
Gives Came view (Err stop) read = Stops Came stop read

-- a byte that passes
abbrev pub at_place : {A : Type 0} → Result A Wrong → List ℕ → List ℕ → Read A
at_place (Ok a) bytes rest = Ok (a, rest)
at_place (Err wrong) bytes rest = Err (At wrong (length bytes))

abbrev pub byte_at : {A : Type 0} → (ℕ → Result A Wrong) → List ℕ → Read A
byte_at judge [] = Err More
byte_at judge (c ∷ rest) = at_place (judge c) (c ∷ rest) rest

-- this byte and no other
abbrev pub only : ℕ → ℕ → Result ℕ Wrong
only wanted c = if c == wanted then Ok c else Err Malformed

unfoldable pub line_end_at : List ℕ → Read ℕ
line_end_at bytes = byte_at (only 13) bytes >>= λ cr. byte_at (only 10) cr.1

-- bytes up to the end of the line, each of which is a step from one state to the next
abbrev pub onward : {S : Type 0} → Result S Wrong → (S → Read S) → ℕ → Read S
onward (Ok next) go left = go next
onward (Err wrong) go left = Err (At wrong left)

unfoldable pub span : {S : Type 0} → (S → ℕ → Result S Wrong) → S → List ℕ → Read S
span step state [] = Err More
span step state (c ∷ rest) = if c == 13 then (byte_at (only 10) rest >>= λ lf. Ok (state, lf.1)) else onward (step state c) (λ next. span step next rest) (suc (length rest))

-- one more byte of a text
abbrev pub text_step : Limits → List ℕ → ℕ → Result (List ℕ) Wrong
text_step limits text c = if c == 10 then Err Malformed else if nat_lt (length text) limits.line then Ok (text ++ c ∷ []) else Err TooLarge

unfoldable pub text_at : Limits → List ℕ → Read (List ℕ)
text_at limits bytes = span (text_step limits) [] bytes

-- one more digit of a number, of which there is its value so far and how many digits there were
unfoldable pub digit_step : Limits → ℕ → ℕ × ℕ → ℕ → Result (ℕ × ℕ) Wrong
digit_step limits most s c = if nat_lt (digit_value c) 10 then (if nat_lt s.1 limits.line && nat_le (s.0 * 10 + digit_value c) most then Ok (s.0 * 10 + digit_value c, s.1 + 1) else Err TooLarge) else Err Malformed

unfoldable pub digits_at : Limits → ℕ → ℕ × ℕ → List ℕ → Read ℕ
digits_at limits most s bytes = span (digit_step limits most) s bytes >>= λ x. Ok (x.0.0, x.1)

unfoldable pub number_at : Limits → ℕ → List ℕ → Read ℕ
number_at limits most bytes = byte_at (digit_step limits most (0, 0)) bytes >>= λ x. digits_at limits most x.0 x.1

abbrev pub with_digit : {A : Type 0} → (ℕ × ℕ → A) → Result (ℕ × ℕ) Wrong → Result A Wrong
with_digit f (Ok s) = Ok (f s)
with_digit f (Err wrong) = Err wrong

-- the first byte of an integer
unfoldable pub lead_of : Limits → ℕ → Result Lead Wrong
lead_of limits c = if c == 43 then Ok lead.Plus else if c == 45 then Ok lead.Minus else with_digit (λ s. lead.Digit s.0) (digit_step limits (2 ^ 63 - 1) (0, 0) c)

-- the value of a digit fits
abbrev pub FitsLead : Lead → Type 0
FitsLead (lead.Digit value) = value ≤ 2 ^ 63 - 1
FitsLead first = Unit {0}

unfoldable pub integer_after : Limits → Lead → List ℕ → Read ℤ
integer_after limits lead.Plus bytes = number_at limits (2 ^ 63 - 1) bytes >>= λ n. Ok (pos n.0, n.1)
integer_after limits lead.Minus bytes = number_at limits (2 ^ 63) bytes >>= λ n. Ok (neg_ℤ (pos n.0), n.1)
integer_after limits (lead.Digit value) bytes = digits_at limits (2 ^ 63 - 1) (value, 1) bytes >>= λ n. Ok (pos n.0, n.1)

unfoldable pub integer_at : Limits → List ℕ → Read ℤ
integer_at limits bytes = byte_at (lead_of limits) bytes >>= λ x. integer_after limits x.0 x.1

-- so many bytes
unfoldable pub content_at : ℕ → List ℕ → Read (List ℕ)
content_at n bytes = if nat_lt (length bytes) n then Err More else Ok (take n bytes, drop n bytes)

-- the first byte of a bulk string's length: a minus, or a digit
unfoldable pub bulk_lead : Limits → ℕ → Result (Option ℕ) Wrong
bulk_lead limits c = if c == 45 then Ok None else with_digit (λ s. Some s.0) (digit_step limits limits.bulk (0, 0) c)

unfoldable pub bulk_after : Limits → Option ℕ → List ℕ → Read Item
bulk_after limits None bytes = byte_at (only 49) bytes >>= λ one. line_end_at one.1 >>= λ end. Ok (item.Null, end.1)
bulk_after limits (Some value) bytes = digits_at limits limits.bulk (value, 1) bytes >>= λ n. content_at n.0 n.1 >>= λ content. line_end_at content.1 >>= λ end. Ok (item.Bulk content.0, end.1)

unfoldable pub bulk_at : Limits → List ℕ → Read Item
bulk_at limits bytes = byte_at (bulk_lead limits) bytes >>= λ x. bulk_after limits x.0 x.1

-- the mark with which an item begins
unfoldable pub kind_of : ℕ → Result Kind Wrong
kind_of c = if c == 43 then Ok kind.Text else if c == 45 then Ok kind.Error else if c == 58 then Ok kind.Integer else if c == 36 then Ok kind.Bulk else Err Malformed

unfoldable pub item_after : Limits → Kind → List ℕ → Read Item
item_after limits kind.Text bytes = text_at limits bytes >>= λ text. Ok (item.Text text.0, text.1)
item_after limits kind.Error bytes = text_at limits bytes >>= λ text. Ok (item.Error text.0, text.1)
item_after limits kind.Integer bytes = integer_at limits bytes >>= λ n. Ok (item.Integer n.0, n.1)
item_after limits kind.Bulk bytes = bulk_at limits bytes

unfoldable pub item_at : Limits → List ℕ → Read Item
item_at limits bytes = byte_at kind_of bytes >>= λ x. item_after limits x.0 x.1

-- so many, one after the other
unfoldable pub all_at : {A : Type 0} → (List ℕ → Read A) → ℕ → List ℕ → Read (List A)
all_at read zero bytes = Ok ([], bytes)
all_at read (suc n) bytes = read bytes >>= λ first. all_at read n first.1 >>= λ others. Ok (first.0 ∷ others.0, others.1)

-- the mark with which an item or an array begins
abbrev pub marked : Result Kind Wrong → Result (Option Kind) Wrong
marked (Ok k) = Ok (Some k)
marked (Err wrong) = Err wrong

unfoldable pub mark_of : ℕ → Result (Option Kind) Wrong
mark_of c = if c == 42 then Ok None else marked (kind_of c)

unfoldable pub array_at : {A : Type 0} → Limits → (List ℕ → Read A) → List ℕ → Read (List A)
array_at limits read bytes = number_at limits limits.elements bytes >>= λ n. all_at read n.0 n.1

unfoldable pub element_after : Limits → Option Kind → List ℕ → Read Element
element_after limits None bytes = array_at limits (item_at limits) bytes >>= λ all. Ok (element.Several all.0, all.1)
element_after limits (Some k) bytes = item_after limits k bytes >>= λ one. Ok (element.One one.0, one.1)

unfoldable pub element_at : Limits → List ℕ → Read Element
element_at limits bytes = byte_at mark_of bytes >>= λ x. element_after limits x.0 x.1

unfoldable pub reply_after : Limits → Option Kind → List ℕ → Read Reply
reply_after limits None bytes = array_at limits (element_at limits) bytes >>= λ all. Ok (reply.Several all.0, all.1)
reply_after limits (Some k) bytes = item_after limits k bytes >>= λ one. Ok (reply.One one.0, one.1)

unfoldable pub reply_at : Limits → List ℕ → Read Reply
reply_at limits bytes = byte_at mark_of bytes >>= λ x. reply_after limits x.0 x.1
