use Rattle.std.proofs.Common.{◌≡◌, ℕ, ◌-◌, ◌*◌, ◌<◌, min, List, [], ◌++◌, ◌∷◌, Vec, Global, map, length, take, drop, get_or, sym, ap, ◌∙◌, subst, arith, length-drop}
use Rattle.std.proofs.lemmas.List.{map-append, length-take}
use Rattle.aes_ctr.specs.Crypt.{crypt, crypt_from}
use Rattle.share_codec.specs.Params.{ParamsValue}
use Rattle.share_codec.specs.Segments.{segments, segment_count, segment_size}
use Rattle.share_codec.specs.Maker.{Maker}
use Rattle.file_shares.specs.Encoder.{EncoderValue, IsEncoding}
use Rattle.file_shares.proofs.EncoderSteps.{PartLaws, segment_encrypted, coded_encoding}
use Rattle.file_shares.proofs.encoder.Encoder.code_next.Goals as goal

pub overflow_mul-place : goal.overflow_mul-place
overflow_mul-place c =
    let p : ParamsValue = c.params.result.now in
    let start : c.coded-at.result * c.segment_size-size.result ≡ c.coded-at.result * segment_size p = ap (λ n. c.coded-at.result * n) c.segment_size-size.ensures.size in
    let maker : c.self.inside.maker ≡ c.args.self.now.maker = ap (λ (e : EncoderValue). e.maker) c.self.view_is in
    let size : p.size ≡ c.args.self.now.maker.params.size = ap (λ (q : ParamsValue). q.size) c.params.ensures ∙ ap (λ (m : Maker). m.params.size) maker in
    let begins : c.coded-at.result * segment_size p < p.size = c.segment_length-length.ensures.begins in
    let long : c.args.self.now.maker.params.size < 9223372036854775808 = c.requires.encoding.fits in
    let fits : c.coded-at.result * c.segment_size-size.result < 18446744073709551616 = omega (arith, start, size, begins, long) in
    record { fits = fits }

pub encrypted-requires : goal.encrypted-requires
encrypted-requires c =
    let p : ParamsValue = c.params.result.now in
    let bytes : List ℕ = c.args.bytes.now in
    let n : ℕ = c.segment_size-size.result in
    let at : ℕ = c.coded-at.result in
    let start : at * n ≡ at * segment_size p = ap (λ m. at * m) c.segment_size-size.ensures.size in
    let view : c.self.inside.maker ≡ c.args.self.now.maker = ap (λ (e : EncoderValue). e.maker) c.self.view_is in
    let same : p ≡ c.args.self.now.maker.params = c.params.ensures ∙ ap (λ (m : Maker). m.params) view in
    let count : at ≡ c.args.self.now.maker.coded = c.coded-at.ensures ∙ ap (λ (m : Maker). m.coded) view in
    let size : p.size ≡ c.args.self.now.maker.params.size = ap (λ (q : ParamsValue). q.size) same in
    let begins : at * segment_size p < p.size = c.segment_length-length.ensures.begins in
    let long : c.args.self.now.maker.params.size < 9223372036854775808 = c.requires.encoding.fits in
    let all : length bytes ≡ c.args.self.now.maker.params.size = c.requires.encoding.size in
    let inside : at < segment_count p = subst (λ (q : ParamsValue). at < segment_count q) (sym same) (subst (λ m. m < segment_count c.args.self.now.maker.params) (sym count) c.requires.more) in
    let rest : length (drop (at * segment_size p) bytes) ≡ length bytes - at * segment_size p = length-drop (at * segment_size p) bytes in
    let taken : length (take (segment_size p) (drop (at * segment_size p) bytes)) ≡ min (segment_size p) (length (drop (at * segment_size p) bytes)) = length-take (segment_size p) (drop (at * segment_size p) bytes) in
    let plain : length c.segment-plain.result.now ≡ length (take (segment_size p) (drop (at * segment_size p) bytes)) = ap length (c.segment-plain.ensures ∙ c.segments_are_joined_again.ensures.each p bytes at inside) in
    omega (arith, start, size, begins, long, all, rest, taken, plain)

pub returns-clause-encoding : goal.returns-clause-encoding
returns-clause-encoding c =
    let e : EncoderValue = record {
      key = c.self.inside.key;
      waiting = map (λ (segment : Vec ℕ Global). segment.items) c.self.inside.waiting.items;
      maker = c.self.inside.maker;
    } in
    let bytes = c.args.bytes.now in
    let p : ParamsValue = c.params.result.now in
    let at : ℕ = c.coded-at.result in
    let view : e ≡ c.args.self.now = c.self.view_is in
    let enc : IsEncoding e bytes = subst (λ (v : EncoderValue). IsEncoding v bytes) (sym view) c.requires.encoding in
    let more : e.maker.coded < segment_count e.maker.params = subst (λ (v : EncoderValue). v.maker.coded < segment_count v.maker.params) (sym view) c.requires.more in
    let laws : PartLaws = record {
      count = c.segments_are_joined_again.ensures.count;
      each = c.segments_are_joined_again.ensures.each;
      front = c.parts_agree.ensures.front;
      back = c.parts_agree.ensures.back;
      whole = c.parts_agree.ensures.whole;
    } in
    let place : at * c.segment_size-size.result ≡ e.maker.coded * segment_size e.maker.params =
    (λ i. c.coded-at.ensures i * (c.segment_size-size.ensures.size ∙ ap segment_size c.params.ensures) i) in
    let plain : c.segment-plain.result.now ≡ get_or (segments e.maker.params bytes) e.maker.coded [] =
    c.segment-plain.ensures ∙ (λ i. get_or (segments (c.params.ensures i) bytes) (c.coded-at.ensures i) []) in
    let segment : c.in_ok-segment.segment.items ≡ get_or (segments e.maker.params (crypt e.key bytes)) e.maker.coded [] =
    c.in_ok-segment.ensures ∙ (λ i. crypt_from e.key (place i) (plain i)) ∙ segment_encrypted laws e.maker.params e.key bytes e.maker.coded more in
    let made : map (λ (segment : Vec ℕ Global). segment.items) c.push.new.self.items ≡ e.waiting ++ c.in_ok-segment.segment.items ∷ [] =
    ap (map (λ (segment : Vec ℕ Global). segment.items)) c.in_ok-push.ensures.items ∙ map-append (λ (segment : Vec ℕ Global). segment.items) c.self.inside.waiting.items (c.in_ok-segment.segment ∷ []) in
    coded_encoding laws.count e bytes c.in_ok-segment.segment.items (map (λ (segment : Vec ℕ Global). segment.items) c.push.new.self.items) c.code.new.self enc more segment
    c.in_ok-code.ensures.params c.in_ok-code.ensures.coded c.in_ok-code.ensures.hashes.0 c.in_ok-code.ensures.hashes.1
    (c.in_ok-code.ensures.making (crypt e.key bytes) enc.making (c.deref.ensures.value ∙ segment))
    made
