-- The steps of encoding bytes.
use Rattle.std.proofs.Common.{◌≡◌, ℕ, ◌+◌, ◌-◌, ◌*◌, ◌^◌, ◌<◌, ◌≤◌, min, List, [], ◌∷◌, ◌++◌, length, take, drop, get_or, sym, ap, ◌∙◌, subst, arith, length-drop}
use Rattle.std.proofs.lemmas.List.{take_more, length-take, get_or-drop}
use Rattle.aes_ctr.specs.Crypt.{crypt, crypt_from}
use Rattle.share_codec.specs.Params.{ParamsValue}
use Rattle.share_codec.specs.Segments.{segments, segment_count, segment_size}
use Rattle.share_codec.specs.Maker.{Maker, IsMaking}
use Rattle.file_shares.specs.Encoder.{EncoderValue, IsEncoding}

-- what other crates' laws say of a segment, and of parts of encrypted bytes
pub record PartLaws : Type 0 where
  pub count : (p : ParamsValue) (bytes : List ℕ) → length (segments p bytes) ≡ segment_count p
  pub each : (p : ParamsValue) (bytes : List ℕ) (at : ℕ) → at < segment_count p → get_or (segments p bytes) at [] ≡ take (segment_size p) (drop (at * segment_size p) bytes)
  pub front : (key : List ℕ) (p : ℕ) (bytes : List ℕ) (n : ℕ) → take n (crypt_from key p bytes) ≡ crypt_from key p (take n bytes)
  pub back : (key : List ℕ) (p : ℕ) (bytes : List ℕ) (n : ℕ) → drop n (crypt_from key p bytes) ≡ crypt_from key (p + n) (drop n bytes)
  pub whole : (key bytes : List ℕ) → crypt key bytes ≡ crypt_from key 0 bytes

-- a segment of encrypted bytes is a segment of these bytes, encrypted at its own place
pub segment_encrypted : PartLaws → (p : ParamsValue) (key bytes : List ℕ) (at : ℕ) → at < segment_count p
    → crypt_from key (at * segment_size p) (get_or (segments p bytes) at []) ≡ get_or (segments p (crypt key bytes)) at []
segment_encrypted laws p key bytes at below =
    let start : ℕ = at * segment_size p in
    let n : ℕ = segment_size p in
    let zero : 0 + start ≡ start = omega arith in
    ap (crypt_from key start) (laws.each p bytes at below)
    ∙ sym (laws.front key start (drop start bytes) n)
    ∙ ap (λ q. take n (crypt_from key q (drop start bytes))) (sym zero)
    ∙ ap (take n) (sym (laws.back key 0 bytes start))
    ∙ ap (λ bs. take n (drop start bs)) (sym (laws.whole key bytes))
    ∙ sym (laws.each p (crypt key bytes) at below)

-- how many segments wait
pub waiting_many : (count : (p : ParamsValue) (bytes : List ℕ) → length (segments p bytes) ≡ segment_count p) (e : EncoderValue) (bytes : List ℕ) → IsEncoding e bytes
    → length e.waiting ≡ e.maker.coded - length e.maker.segment_hashes
waiting_many count e bytes enc =
    let h : ℕ = length e.maker.segment_hashes in
    let segs : List (List ℕ) = segments e.maker.params (crypt e.key bytes) in
    let all : length segs ≡ segment_count e.maker.params = count e.maker.params (crypt e.key bytes) in
    let rest : length (drop h segs) ≡ length segs - h = length-drop h segs in
    let taken : length (take (e.maker.coded - h) (drop h segs)) ≡ min (e.maker.coded - h) (length (drop h segs)) = length-take (e.maker.coded - h) (drop h segs) in
    let same : length e.waiting ≡ length (take (e.maker.coded - h) (drop h segs)) = ap length enc.waiting in
    let within : e.maker.coded ≤ segment_count e.maker.params = enc.coded in
    omega arith

-- with a segment more
pub coded_encoding : (count : (p : ParamsValue) (bytes : List ℕ) → length (segments p bytes) ≡ segment_count p) (e : EncoderValue) (bytes segment : List ℕ) (waiting : List (List ℕ)) (maker : Maker)
    → IsEncoding e bytes → e.maker.coded < segment_count e.maker.params
    → segment ≡ get_or (segments e.maker.params (crypt e.key bytes)) e.maker.coded []
    → maker.params ≡ e.maker.params → maker.coded ≡ e.maker.coded + 1 → maker.segment_hashes ≡ e.maker.segment_hashes → maker.block_hashes ≡ []
    → IsMaking maker (crypt e.key bytes) → waiting ≡ e.waiting ++ segment ∷ []
    → IsEncoding (record { key = e.key; waiting = waiting; maker = maker }) bytes
coded_encoding count e bytes segment waiting maker enc more is params coded hashes none making made =
    let h : ℕ = length e.maker.segment_hashes in
    let segs : List (List ℕ) = segments e.maker.params (crypt e.key bytes) in
    let all : length segs ≡ segment_count e.maker.params = count e.maker.params (crypt e.key bytes) in
    let rest : length (drop h segs) ≡ length segs - h = length-drop h segs in
    let i : ℕ = e.maker.coded - h in
    let before : h ≤ e.maker.coded = enc.hashed in
    let below : i < length (drop h segs) = omega arith in
    let place : h + i ≡ e.maker.coded = omega arith in
    let here : segment ≡ get_or (drop h segs) i [] = is ∙ ap (λ n. get_or segs n []) (sym place) ∙ sym (get_or-drop h segs i []) in
    let next : i + 1 ≡ maker.coded - h = omega (arith, coded) in
    let size : maker.params.size ≡ e.maker.params.size = ap (λ (p : ParamsValue). p.size) params in
    let many : segment_count maker.params ≡ segment_count e.maker.params = ap segment_count params in
    let same : length maker.segment_hashes ≡ h = ap length hashes in
    record {
      size = enc.size ∙ sym size;
      some = subst (λ n. 0 < n) (sym size) enc.some;
      fits = subst (λ n. n < 2 ^ 63) (sym size) enc.fits;
      making = making;
      coded = omega (arith, coded, more, many);
      hashed = omega (arith, coded, before, same);
      waiting = made ∙ ap (λ ws. ws ++ segment ∷ []) enc.waiting ∙ ap (λ s. take i (drop h segs) ++ s ∷ []) here ∙ sym (take_more (drop h segs) i [] below)
          ∙ ap (λ n. take n (drop h segs)) next
          ∙ ap (λ n. take (maker.coded - n) (drop n segs)) (sym same)
          ∙ ap (λ p. take (maker.coded - length maker.segment_hashes) (drop (length maker.segment_hashes) (segments p (crypt e.key bytes)))) (sym params);
      fresh = λ _. none;
    }

-- with the hashes of those that waited
pub hashed_encoding : (count : (p : ParamsValue) (bytes : List ℕ) → length (segments p bytes) ≡ segment_count p) (e : EncoderValue) (bytes : List ℕ) (maker : Maker)
    → IsEncoding e bytes → maker.params ≡ e.maker.params → maker.coded ≡ e.maker.coded → maker.block_hashes ≡ e.maker.block_hashes
    → length maker.segment_hashes ≡ length e.maker.segment_hashes + length e.waiting → IsMaking maker (crypt e.key bytes)
    → IsEncoding (record { key = e.key; waiting = []; maker = maker }) bytes
hashed_encoding count e bytes maker enc params coded blocks hashes making =
    let waited : length e.waiting ≡ e.maker.coded - length e.maker.segment_hashes = waiting_many count e bytes enc in
    let before : length e.maker.segment_hashes ≤ e.maker.coded = enc.hashed in
    let size : maker.params.size ≡ e.maker.params.size = ap (λ (p : ParamsValue). p.size) params in
    let many : segment_count maker.params ≡ segment_count e.maker.params = ap segment_count params in
    let none : maker.coded - length maker.segment_hashes ≡ 0 = omega (arith, waited, before, hashes, coded) in
    record {
      size = enc.size ∙ sym size;
      some = subst (λ n. 0 < n) (sym size) enc.some;
      fits = subst (λ n. n < 2 ^ 63) (sym size) enc.fits;
      making = making;
      coded = omega (arith, coded, many, enc.coded);
      hashed = omega (arith, waited, before, hashes, coded);
      waiting = sym (ap (λ n. take n (drop (length maker.segment_hashes) (segments maker.params (crypt e.key bytes)))) none);
      fresh = λ below. blocks ∙ enc.fresh (omega (arith, below, coded, many));
    }

-- with the hashes of blocks more
pub blocks_encoding : (e : EncoderValue) (bytes : List ℕ) (maker : Maker) → IsEncoding e bytes → e.maker.coded ≡ segment_count e.maker.params
    → maker.params ≡ e.maker.params → maker.coded ≡ e.maker.coded → maker.segment_hashes ≡ e.maker.segment_hashes → IsMaking maker (crypt e.key bytes)
    → IsEncoding (record { key = e.key; waiting = e.waiting; maker = maker }) bytes
blocks_encoding e bytes maker enc all params coded hashes making =
    let size : maker.params.size ≡ e.maker.params.size = ap (λ (p : ParamsValue). p.size) params in
    let many : segment_count maker.params ≡ segment_count e.maker.params = ap segment_count params in
    let same : length maker.segment_hashes ≡ length e.maker.segment_hashes = ap length hashes in
    record {
      size = enc.size ∙ sym size;
      some = subst (λ n. 0 < n) (sym size) enc.some;
      fits = subst (λ n. n < 2 ^ 63) (sym size) enc.fits;
      making = making;
      coded = omega (arith, coded, many, all);
      hashed = omega (arith, coded, same, enc.hashed);
      waiting = enc.waiting ∙ (λ i. take (sym coded i - sym same i) (drop (sym same i) (segments (sym params i) (crypt e.key bytes))));
      fresh = λ below. absurd (omega (arith, below, coded, many, all));
    }
