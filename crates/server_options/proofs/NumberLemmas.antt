-- What is read of the text that stands for a number.
use Rattle.std.proofs.Common.{◌≡◌, ◌∙◌, ◌<◌, ◌^◌, ℕ, List, Option, Some, None, ap, inl, inr, subst, sym, unwrap_or}
use Rattle.std.specs.Str.Parse.{ExplainsUnsignedError, HasUnsignedDigitsIfOk, ParsesUnsigned}
use Rattle.clap.specs.Words.{ReadsOne, one_text, rows_of}
use Rattle.clap.specs.declared.parser.matches.Found.{Found}
use Rattle.clap.proofs.WalkLemmas.{one_text-rows}
use Rattle.server_options.specs.Given.{IsNumberGiven, IsNumberIfGiven, IsNumberOr, IsWrittenNumber}
use Rattle.server_options.specs.Shares.{IsCountOf}

written : (bits : ℕ) (text : List ℕ) (read : Option ℕ) → ReadsOne (λ t r. ParsesUnsigned bits 10 t r × ExplainsUnsignedError 10 t r × HasUnsignedDigitsIfOk t r) text read
    → IsWrittenNumber bits text read
written bits text (Some v) reads = record { digits = reads.0.0.0; value = sym reads.0.1 }
written bits text None reads = λ m less count. reads.1.0 (count.digits, subst (λ k. k < 2 ^ bits) (sym count.value) less)

pub number_if_read : (bits : ℕ) (f : Found) (name : List ℕ) (read : Option ℕ) → (one_text f name ≡ None → read ≡ None)
    → ((text : List ℕ) → one_text f name ≡ Some text → ReadsOne (λ t r. ParsesUnsigned bits 10 t r × ExplainsUnsignedError 10 t r × HasUnsignedDigitsIfOk t r) text read)
    → IsNumberIfGiven bits (rows_of f) name read
number_if_read bits f name read absent value = record {
  absent = λ e. absent (one_text-rows f name ∙ e);
  present = λ text e. written bits text read (value text (one_text-rows f name ∙ e));
}

-- and in place of what is none, another number
number_or : (bits : ℕ) (text : List ℕ) (read : Option ℕ) (otherwise n : ℕ) → IsWrittenNumber bits text read → n ≡ unwrap_or read otherwise → IsNumberOr bits text otherwise n
number_or bits text (Some v) otherwise n reads is = inl (subst (IsCountOf text) (sym is) reads)
number_or bits text None otherwise n reads is = inr (is, reads)

pub number_read : (bits : ℕ) (f : Found) (name : List ℕ) (otherwise n : ℕ) (read : Option ℕ) → (one_text f name ≡ None → read ≡ None)
    → ((text : List ℕ) → one_text f name ≡ Some text → ReadsOne (λ t r. ParsesUnsigned bits 10 t r × ExplainsUnsignedError 10 t r × HasUnsignedDigitsIfOk t r) text read)
    → n ≡ unwrap_or read otherwise → IsNumberGiven bits (rows_of f) name otherwise n
number_read bits f name otherwise n read absent value is =
    let given = number_if_read bits f name read absent value in
    record {
      absent = λ e. is ∙ ap (λ r. unwrap_or r otherwise) (given.absent e);
      read = λ text e. number_or bits text read otherwise n (given.present text e) is;
    }
