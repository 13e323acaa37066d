-- The four texts of an entry.
use Rattle.std.specs.Prelude.{ℕ, ◌==◌, List, length, drop, Option, Some, None, option_map, option_and_then, Result, Ok, Err, if◌then◌else◌}
use Rattle.tag_hash.specs.NetstringAt.{netstring_at, span_bytes}
use Rattle.tag_hash.specs.declared.netstrings.Span.{Span}
use Rattle.tag_hash.specs.declared.netstrings.NetFault.{NetFault}

-- a name, a read cap's text, a write cap's text and metadata
pub record EntryTexts : Type 0 where
  pub name : List ℕ
  pub cap : List ℕ
  pub write : List ℕ
  pub metadata : List ℕ

abbrev pub cut_netstring : List ℕ → Result (Span × ℕ) NetFault → Option (List ℕ × List ℕ)
cut_netstring bytes (Ok found) = Some (span_bytes found.0 bytes, drop found.1 bytes)
cut_netstring bytes (Err fault) = None

-- the bytes of the netstring that bytes begin with, and what follows it
unfoldable pub first_netstring : List ℕ → Option (List ℕ × List ℕ)
first_netstring bytes = cut_netstring bytes (netstring_at bytes 0)

-- the texts, where nothing is left
abbrev pub if_all : EntryTexts → List ℕ → Option EntryTexts
if_all texts rest = if length rest == 0 then Some texts else None

-- the four texts that bytes are the netstrings of
abbrev pub four_texts : List ℕ → Option EntryTexts
four_texts bytes =
    option_and_then (λ name. option_and_then (λ cap. option_and_then (λ write. option_and_then (λ metadata.
    if_all (record { name = name.0; cap = cap.0; write = write.0; metadata = metadata.0 }) metadata.1)
    (first_netstring write.1)) (first_netstring cap.1)) (first_netstring name.1)) (first_netstring bytes)

abbrev pub texts_before : List ℕ → Option EntryTexts → Option (EntryTexts × List ℕ)
texts_before rest (Some texts) = Some (texts, rest)
texts_before rest None = None

-- the four texts of the entry that bytes begin with, and what follows it
abbrev pub first_entry : List ℕ → Option (EntryTexts × List ℕ)
first_entry bytes = option_and_then (λ found. texts_before found.1 (four_texts found.0)) (first_netstring bytes)

-- the metadata of the entry that bytes begin with
abbrev pub first_metadata : List ℕ → Option (List ℕ)
first_metadata bytes = option_map (λ (found : EntryTexts × List ℕ). found.0.metadata) (first_entry bytes)
