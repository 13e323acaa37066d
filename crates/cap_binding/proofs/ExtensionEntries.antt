-- Entries of the URI extension block, appended one after another.
use Rattle.std.proofs.Common.{◌≡◌, ℕ, List, [], ◌∷◌, ◌++◌, codes, Ok, Err, ap, ◌∙◌, append_assoc}
use Rattle.std.specs.Prelude.{OnOk, IfOk}
use Rattle.std.specs.declared.result.Result.{Result}
use Rattle.tag_hash.specs.Decimal.{decimal_text}
use Rattle.tag_hash.specs.Netstring.{netstring}
use Rattle.share_codec.specs.Params.{ParamsValue}
use Rattle.share_codec.specs.declared.ueb.Ueb.{Ueb}
use Rattle.share_codec.specs.Segments.{segment_size, segment_count}
use Rattle.share_codec.specs.Ueb.{entry, ueb_text}

-- what is said of an outcome that is Ok follows
pub on_ok : {T E : Type 0} (r : Result T E) (P Q : Type 0) → (P → Q) → OnOk r P → OnOk r Q
on_ok (Ok x) P Q f h = f h
on_ok (Err x) P Q f h = tt

pub entry_pushed : (old key value first second new : List ℕ) → first ≡ old ++ key → second ≡ first ++ 58 ∷ [] → new ≡ second ++ netstring value → new ≡ old ++ entry key value
unfolding entry
entry_pushed old key value first second new e f g =
    g ∙ ap (λ t. t ++ netstring value) (f ∙ ap (λ t. t ++ 58 ∷ []) e) ∙ append_assoc (old ++ key) (58 ∷ []) (netstring value) ∙ append_assoc old key (58 ∷ netstring value)

regroup : (a b c d e f g : List ℕ) → (((((a ++ b) ++ c) ++ d) ++ e) ++ f) ++ g ≡ a ++ (b ++ (c ++ (d ++ (e ++ (f ++ g)))))
regroup a b c d e f g = simp append_assoc

-- a list to which seven entries were appended
pub extension_written : (p : ParamsValue) (roots : Ueb) (t1 t2 t3 t4 t5 t6 t7 : List ℕ) (count size : ℕ) → count ≡ segment_count p → size ≡ segment_size p
    → t1 ≡ entry (codes "crypttext_root_hash") roots.crypttext_root
    → t2 ≡ t1 ++ entry (codes "needed_shares") (decimal_text p.k)
    → t3 ≡ t2 ++ entry (codes "num_segments") (decimal_text count)
    → t4 ≡ t3 ++ entry (codes "segment_size") (decimal_text size)
    → t5 ≡ t4 ++ entry (codes "share_root_hash") roots.share_root
    → t6 ≡ t5 ++ entry (codes "size") (decimal_text p.size)
    → t7 ≡ t6 ++ entry (codes "total_shares") (decimal_text p.n)
    → t7 ≡ ueb_text p roots
unfolding ueb_text
extension_written p roots t1 t2 t3 t4 t5 t6 t7 count size same_count same_size e1 e2 e3 e4 e5 e6 e7 =
    e7 ∙ ap (λ t. t ++ entry (codes "total_shares") (decimal_text p.n))
    (e6 ∙ ap (λ t. t ++ entry (codes "size") (decimal_text p.size))
    (e5 ∙ ap (λ t. t ++ entry (codes "share_root_hash") roots.share_root)
    (e4 ∙ ap (λ n. t3 ++ entry (codes "segment_size") (decimal_text n)) same_size ∙ ap (λ t. t ++ entry (codes "segment_size") (decimal_text (segment_size p)))
    (e3 ∙ ap (λ n. t2 ++ entry (codes "num_segments") (decimal_text n)) same_count ∙ ap (λ t. t ++ entry (codes "num_segments") (decimal_text (segment_count p)))
    (e2 ∙ ap (λ t. t ++ entry (codes "needed_shares") (decimal_text p.k)) e1)))))
    ∙ regroup (entry (codes "crypttext_root_hash") roots.crypttext_root) (entry (codes "needed_shares") (decimal_text p.k))
    (entry (codes "num_segments") (decimal_text (segment_count p))) (entry (codes "segment_size") (decimal_text (segment_size p)))
    (entry (codes "share_root_hash") roots.share_root) (entry (codes "size") (decimal_text p.size)) (entry (codes "total_shares") (decimal_text p.n))

pub if_ok : {T E : Type 0} (r : Result T E) (P Q : T → Type 0) → ((x : T) → P x → Q x) → IfOk r P → IfOk r Q
if_ok (Ok x) P Q f h = f x h
if_ok (Err x) P Q f h = tt
