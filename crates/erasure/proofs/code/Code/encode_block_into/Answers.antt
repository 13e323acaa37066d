use Rattle.std.proofs.Common.{◌≡◌, ◌++◌, ℕ, List, [], Bor, Result, length, take, drop, get_or, slice_index_or, ◌<◌, ◌≤◌, OnOk, sym, ap, ◌∙◌, subst, arith}
use Rattle.std.proofs.lemmas.List.{length-take-le}
use Rattle.std.proofs.lemmas.Result.{on_ok_weaker}
use Rattle.std.proofs.Math.Seq.{drop-append_seam}
use Rattle.erasure.specs.Code.{AreBytes, AreBlocks, IsBlock}
use Rattle.erasure.specs.Blocks.{size_of, block_through, first_places, block_of, AreInverses}
use Rattle.erasure.specs.Given.{contents_of, HaveOneLength}
use Rattle.erasure.proofs.Combining.{none, content_at, length-contents_of}
use Rattle.erasure.proofs.Coding.{block_of_is_block}
use Rattle.erasure.proofs.Decoding.{primary_at_hand}
use Rattle.erasure.proofs.code.Code.encode_block_into.Goals as goal

-- a block of the code as a function is one by the definition
coded : {E : Type 0} (primary : List (List ℕ)) (i : ℕ) (old new : List ℕ) (r : Result (Unit {0}) E) → 0 < length primary → length primary ≤ 256
    → OnOk r (new ≡ old ++ block_of primary i) → AreBlocks (size_of primary) primary
    → OnOk r (IsBlock primary (size_of primary) i (drop (length old) new))
coded primary i old new r some few e h =
    on_ok_weaker r
    (λ same. subst (λ (x : List ℕ). IsBlock primary (size_of primary) i x) (sym (ap (drop (length old)) same ∙ drop-append_seam old (block_of primary i)))
    (block_of_is_block (size_of primary) primary i some few h)) e

at_hand : (primary : List (Bor (List ℕ))) (i : ℕ) → length primary ≤ 256 → i < length primary → HaveOneLength (contents_of primary)
    → AreBytes (get_or primary i none).now → (get_or primary i none).now ≡ block_of (contents_of primary) i
at_hand primary i few lt same bytes =
    let long = length-contents_of primary in
    let there : slice_index_or (contents_of primary) i [] ≡ (get_or primary i none).now = content_at primary i none lt in
    sym there ∙ primary_at_hand (contents_of primary) i (omega arith) same (omega arith) (subst AreBytes (sym there) bytes)

copied : (c : goal.After-push_copy) → OnOk c.push_copy.result (c.push_copy.new.bytes.items ≡ c.args.bytes.now.items ++ block_of (contents_of c.args.primary.now) c.args.i)
copied c =
    let k : c.self.inside.k ≡ c.args.self.now.k = ap (λ s. s.k) c.self.view_is in
    subst (λ (b : List ℕ). OnOk c.push_copy.result (c.push_copy.new.bytes.items ≡ c.args.bytes.now.items ++ b))
    (at_hand c.args.primary.now c.args.i (omega (arith, c.requires.count, k, c.self.invariant)) (omega (arith, c.requires.count, k)) c.requires.one_length c.push_copy.ensures.small)
    c.push_copy.ensures.block

pub returns-then-i-self-clause-block : goal.returns-then-i-self-clause-block
returns-then-i-self-clause-block c = copied c

pub returns-then-i-self-clause-code : goal.returns-then-i-self-clause-code
returns-then-i-self-clause-code c =
    let k : c.self.inside.k ≡ c.args.self.now.k = ap (λ s. s.k) c.self.view_is in
    let long = length-contents_of c.args.primary.now in
    coded (contents_of c.args.primary.now) c.args.i c.args.bytes.now.items c.push_copy.new.bytes.items c.push_copy.result
    (omega (arith, c.requires.count, k, c.self.invariant)) (omega (arith, c.requires.count, k, c.self.invariant)) (copied c)

made : (c : goal.After-push_block_at) → OnOk c.push_block_at.result (c.push_block_at.new.bytes.items ≡ c.args.bytes.now.items ++ block_of (contents_of c.args.primary.now) c.args.i)
made c =
    let blocks : List (List ℕ) = contents_of c.args.primary.now in
    let k : c.self.inside.k ≡ c.args.self.now.k = ap (λ s. s.k) c.self.view_is in
    let last : c.self.inside.k ≡ length blocks = omega (arith, k, c.requires.count, length-contents_of c.args.primary.now) in
    let whole : block_through (take c.self.inside.k c.self.inside.places) blocks c.place.result ≡ block_of blocks c.args.i =
    ap (λ (ps : List ℕ). block_through ps blocks c.place.result) (c.self.invariant.1 ∙ ap first_places last)
    ∙ ap (block_through (first_places (length blocks)) blocks) c.place.ensures in
    subst (λ (b : List ℕ). OnOk c.push_block_at.result (c.push_block_at.new.bytes.items ≡ c.args.bytes.now.items ++ b)) whole c.push_block_at.ensures.block

pub returns-clause-block : goal.returns-clause-block
returns-clause-block c = made c

pub returns-clause-code : goal.returns-clause-code
returns-clause-code c =
    let k : c.self.inside.k ≡ c.args.self.now.k = ap (λ s. s.k) c.self.view_is in
    let long = length-contents_of c.args.primary.now in
    coded (contents_of c.args.primary.now) c.args.i c.args.bytes.now.items c.push_block_at.new.bytes.items c.push_block_at.result
    (omega (arith, c.requires.count, k, c.self.invariant)) (omega (arith, c.requires.count, k, c.self.invariant)) (made c)

pub returns-then-i-self-clause-refused : goal.returns-then-i-self-clause-refused
returns-then-i-self-clause-refused c = c.push_copy.ensures.refused

pub bounds-primary-i : goal.bounds-primary-i
bounds-primary-i c =
    let k : c.self.inside.k ≡ c.args.self.now.k = ap (λ s. s.k) c.self.view_is in
    omega (arith, c.requires.count, k)

pub place-requires : goal.place-requires
place-requires c =
    let n : c.self.inside.n ≡ c.args.self.now.n = ap (λ s. s.n) c.self.view_is in
    omega (arith, c.requires.number, n, c.self.invariant)

pub push_block_at-requires-clause-some : goal.push_block_at-requires-clause-some
push_block_at-requires-clause-some c =
    let k : c.self.inside.k ≡ c.args.self.now.k = ap (λ s. s.k) c.self.view_is in
    omega (arith, c.requires.count, k, c.self.invariant)

-- as many places as primary blocks
many : (c : goal.After-push_block_at-arg-1) → length (take c.self.inside.k c.self.inside.places) ≡ c.self.inside.k
many c = length-take-le c.self.inside.k c.self.inside.places (omega (arith, c.self.told.0, c.self.invariant))

pub push_block_at-requires-clause-few : goal.push_block_at-requires-clause-few
push_block_at-requires-clause-few c = omega (arith, many c, c.self.invariant)

pub push_block_at-requires-clause-as_many : goal.push_block_at-requires-clause-as_many
push_block_at-requires-clause-as_many c = many c ∙ ap (λ s. s.k) c.self.view_is ∙ sym c.requires.count

pub push_block_at-requires-clause-inverses : goal.push_block_at-requires-clause-inverses
push_block_at-requires-clause-inverses c =
    subst (λ (places : List ℕ). AreInverses places c.self.inside.inverses) (sym c.self.invariant.1) c.self.invariant.2

pub push_block_at-requires-clause-one_length : goal.push_block_at-requires-clause-one_length
push_block_at-requires-clause-one_length c = c.requires.one_length

pub returns-clause-refused : goal.returns-clause-refused
returns-clause-refused c = c.push_block_at.ensures.refused
