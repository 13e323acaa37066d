-- Writing a directory entry by entry.
use Rattle.std.proofs.Common.{◌≡◌, ℕ, ◌+◌, ◌<◌, List, [], ◌++◌, length, drop, get_or, sym, ap, ◌∙◌, append_assoc}
use Rattle.dir_codec.specs.DirectoryText.{entry_text, written_entry, directory_text}
use Rattle.dir_codec.specs.declared.entry.Entry.{Entry}
use Rattle.tag_hash.specs.Netstring.{netstring}
use Rattle.caps.specs.CapTexts.{cap_text}
use Rattle.std.proofs.lemmas.List.{drop_more}

-- four netstrings, as they were pushed
pub entry_is : (entry : Entry) (name cap write metadata inside : List ℕ) → name ≡ entry.name → cap ≡ cap_text entry.cap → write ≡ [] → metadata ≡ entry.metadata
    → inside ≡ ((netstring name ++ netstring cap) ++ netstring write) ++ netstring metadata → netstring inside ≡ written_entry entry
unfolding written_entry entry_text
entry_is entry name cap write metadata inside n c w m is =
    ap netstring (is ∙ append_assoc (netstring name ++ netstring cap) (netstring write) (netstring metadata) ∙ append_assoc (netstring name) (netstring cap) (netstring write ++ netstring metadata))
    ∙ (λ i. netstring (netstring (n i) ++ (netstring (c i) ++ (netstring (w i) ++ netstring (m i)))))

-- one more entry was written
pub one_more_written : (entries : List Entry) (i : ℕ) (d : Entry) (whole text new : List ℕ) → i < length entries → whole ≡ text ++ directory_text (drop i entries) → new ≡ text ++ written_entry (get_or entries i d) → whole ≡ new ++ directory_text (drop (i + 1) entries)
one_more_written entries i d whole text new within is pushed =
    is ∙ ap (λ more. text ++ directory_text more) (drop_more entries i d within)
    ∙ sym (append_assoc text (written_entry (get_or entries i d)) (directory_text (drop (i + 1) entries)))
    ∙ ap (λ t. t ++ directory_text (drop (i + 1) entries)) (sym pushed)
