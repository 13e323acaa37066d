use Rattle.std.proofs.Common.{◌≡◌, ℕ, ◌+◌, ◌-◌, List, Bor, Vec, Global, map, length, take, drop, sym, ap, ◌∙◌, subst}
use Rattle.std.proofs.lemmas.List.{length-map}
use Rattle.aes_ctr.specs.Crypt.{crypt}
use Rattle.erasure.specs.Given.{contents_of}
use Rattle.share_codec.specs.Segments.{segments}
use Rattle.file_shares.specs.Encoder.{EncoderValue, IsEncoding}
use Rattle.file_shares.proofs.EncoderSteps.{waiting_many, hashed_encoding}
use Rattle.file_shares.proofs.encoder.Encoder.hash_waiting.Goals as goal

pub returns-clause-encoding : goal.returns-clause-encoding
returns-clause-encoding c =
    let e : EncoderValue = record {
      key = c.self.inside.key;
      waiting = map (λ (segment : Vec ℕ Global). segment.items) c.self.inside.waiting.items;
      maker = c.self.inside.maker;
    } in
    let bytes = c.args.bytes.now in
    let view : e ≡ c.args.self.now = c.self.view_is in
    let enc : IsEncoding e bytes = subst (λ (v : EncoderValue). IsEncoding v bytes) (sym view) c.requires.encoding in
    let count = c.segments_are_joined_again.ensures.count in
    let lent : contents_of c.deref-2.result.now ≡ e.waiting =
    ap contents_of c.deref-2.ensures.value ∙ c.in_ok-segments.ensures ∙ ap (map (λ (segment : Vec ℕ Global). segment.items)) c.deref.ensures.value in
    let many : length c.deref-2.result.now ≡ length e.waiting = sym (length-map c.deref-2.result.now (λ (b : Bor (List ℕ)). b.now)) ∙ ap length lent in
    let waited : length e.waiting ≡ e.maker.coded - length e.maker.segment_hashes = waiting_many count e bytes enc in
    let segs : List (List ℕ) = segments e.maker.params (crypt e.key bytes) in
    let are : contents_of c.deref-2.result.now ≡ take (length c.deref-2.result.now) (drop (length e.maker.segment_hashes) segs) =
    lent ∙ enc.waiting ∙ ap (λ n. take n (drop (length e.maker.segment_hashes) segs)) (sym (many ∙ waited)) in
    let hashed = hashed_encoding count e bytes c.hash_segments.new.self enc
    c.in_ok-hash_segments.ensures.same.0 c.in_ok-hash_segments.ensures.same.1 c.in_ok-hash_segments.ensures.same.2
    (c.in_ok-hash_segments.ensures.hashed ∙ ap (λ n. length e.maker.segment_hashes + n) many)
    (c.in_ok-hash_segments.ensures.making (crypt e.key bytes) enc.making are) in
    subst (λ (ws : List (List ℕ)). IsEncoding (record { key = e.key; waiting = ws; maker = c.hash_segments.new.self }) bytes)
    (ap (map (λ (segment : Vec ℕ Global). segment.items)) (sym c.clear.ensures.items)) hashed
