use Rattle.std.proofs.Common.{◌≡◌, List, ℕ, [], ◌∷◌, ◌++◌, length, subst, ap, ◌∙◌}
use Rattle.std.proofs.lemmas.List.{append_assoc}
use Rattle.sha2.specs.Hashers.{Holds256}
use Rattle.tag_hash.specs.Decimal.{decimal_text}
use Rattle.tag_hash.specs.Netstring.{netstring}
use Rattle.tag_hash.proofs.hashes.update_netstring.Goals as goal

joined : (m digits text bytes : List ℕ) → text ≡ digits → digits ≡ decimal_text (length bytes) → (((m ++ text) ++ (58 ∷ [])) ++ bytes) ++ (44 ∷ []) ≡ m ++ netstring bytes
unfolding netstring
joined m digits text bytes read size =
    ap (λ t. (((m ++ t) ++ (58 ∷ [])) ++ bytes) ++ (44 ∷ [])) (read ∙ size) ∙ simp append_assoc

pub returns : goal.returns
returns c = λ message holds.
    subst (Holds256 c.update-4.new.self) (joined message c.new-size.result c.as_bytes.result.now c.args.bytes.now c.as_bytes.ensures c.new-size.ensures)
    (c.update-4.ensures _ (c.update-3.ensures _ (c.update-2.ensures _ (c.update.ensures message holds))))
