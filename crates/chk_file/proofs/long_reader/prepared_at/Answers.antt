use Rattle.std.proofs.Common.{◌≡◌, ◌*◌, List, ℕ, drop, sym, ap, subst, ◌∙◌, arith, Contains}
use Rattle.aes_ctr.specs.Crypt.{crypt}
use Rattle.share_codec.specs.Segments.{segment_size}
use Rattle.caps.specs.Fields.{ReadValue}
use Rattle.chk_file.specs.Cached.{CacheEntry}
use Rattle.file_shares.specs.Downloads.{DownloadValue, download_left}
use Rattle.file_shares.specs.Fit.{crypttext_from}
use Rattle.file_shares.specs.Ahead.{file_params, plain_from}
use Rattle.chk_file.proofs.LookUps.{put_back}
use Rattle.chk_file.proofs.long_reader.prepared_at.Goals as goal

pub returns-clause-within : goal.returns-clause-within
returns-clause-within c =
    let f : ReadValue = c.args.fields.now in
    let old : List CacheEntry = c.args.cache.now in
    let shares = c.in-Some.shares.items in
    let none : 0 * segment_size (file_params f) ≡ 0 = omega arith in
    let left : c.in_ok-reader.reader.left ≡ plain_from f shares =
    ap (λ (d : DownloadValue). d.left) c.in_ok-reader.ensures
    ∙ (λ i. (download_left (c.file_params.ensures i) (crypt (c.fields.view_is i).key (crypttext_from (c.file_params.ensures i) shares)) 0).left)
    ∙ ap (λ (n : ℕ). drop n (plain_from f shares)) none in
    put_back old c.given_at.new.cache c.keep.new.cache (f, (c.args.stamp, c.in_ok-reader.reader.left)) c.given_at.ensures.within
    (subst (λ (bytes : List ℕ). Contains old (f, (c.args.stamp, bytes))) (sym left) c.in-Some.ensures.there) c.keep.ensures
