use Rattle.std.proofs.Common.{◌≡◌, ℕ, ◌++◌, List, codes, ap, ◌∙◌, append_assoc}
use Rattle.std.specs.Prelude.{decimal}
use Rattle.client_tree.specs.Parts.{parts_metadata}
use Rattle.client_tree.proofs.parts.parts_metadata.Goals as goal

-- five texts, one after the other
five : (a b c d e : List ℕ) (v w x y z : List ℕ) → v ≡ a → w ≡ v ++ b → x ≡ w ++ c → y ≡ x ++ d → z ≡ y ++ e → z ≡ a ++ (b ++ (c ++ (d ++ e)))
five a b c d e v w x y z p q r s t = t ∙ ap (λ (l : List ℕ). l ++ e) (s ∙ ap (λ (l : List ℕ). l ++ d) (r ∙ ap (λ (l : List ℕ). l ++ c) (q ∙ ap (λ (l : List ℕ). l ++ b) p))) ∙ simp append_assoc

pub returns : goal.returns
unfolding parts_metadata
returns c =
    let count : c.as_bytes.result.now ≡ decimal c.args.count = c.as_bytes.ensures ∙ c.new-parts.ensures ∙ c.decimals_are_read_back.ensures.printed c.args.count c.ranges.count.fits in
    let size : c.as_bytes-2.result.now ≡ decimal c.args.size = c.as_bytes-2.ensures ∙ c.new-bytes.ensures ∙ c.decimals_are_read_back.ensures.printed c.args.size c.ranges.size.fits in
    let first : c.extend_from_slice.new.self.items ≡ codes "{\"wozhinnam-parts\":{\"count\":" = c.in_ok-extend_from_slice.ensures.items ∙ ap (λ (l : List ℕ). l ++ codes "{\"wozhinnam-parts\":{\"count\":") c.new-metadata.ensures.items in
    five (codes "{\"wozhinnam-parts\":{\"count\":") (decimal c.args.count) (codes ",\"size\":") (decimal c.args.size) (codes "}}") _ _ _ _ _
    first
    (c.in_ok-extend_from_slice-2.ensures.items ∙ ap (λ (l : List ℕ). c.extend_from_slice.new.self.items ++ l) count)
    c.in_ok-extend_from_slice-3.ensures.items
    (c.in_ok-extend_from_slice-4.ensures.items ∙ ap (λ (l : List ℕ). c.extend_from_slice-3.new.self.items ++ l) size)
    c.in_ok-extend_from_slice-5.ensures.items
