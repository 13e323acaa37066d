-- The cap of an upload, and the text that names it.
use Rattle.std.proofs.Common.{◌≡◌, ℕ, ◌<◌, ◌≤◌, ◌^◌, List, length, Bool, true, false, cond, refl, sym, ap, subst, arith, lt-ltb}
use Rattle.std.specs.Prelude.{nat_lt, All}
use Rattle.std.proofs.lemmas.Bool.{ltb-true}
use Rattle.tag_hash.specs.Tagged.{tagged, tagged16}
use Rattle.octets.specs.Sharing.{IsSharing}
use Rattle.share_codec.specs.Shares.{ueb_hash, ueb_of}
use Rattle.share_codec.specs.Tags.{extension_tag}
use Rattle.caps.specs.Fields.{ReadValue}
use Rattle.caps.specs.CapTexts.{IsStoredCap, IsCap, IsCapText, cap_text}
use Rattle.caps.specs.declared.cap.Cap.{Cap}
use Rattle.caps.specs.declared.cap.Cap.TheVariants.{Chk, Lit, DirChk, DirLit, ChkVerify, DirChkVerify}
use Rattle.chk_file.specs.Upload.{Upload, params, key_of, crypttext_of, fields, upload_cap}
use Rattle.file_shares.specs.KeyTag.{key_tag}
use Rattle.web_ops.specs.Uploads.{as_directory}
use Rattle.client_core.specs.declared.exchange.Answer.{Answer}
use Rattle.round_trips.specs.Trips.{IsBody, NamesCap}

-- what other crates' laws say
pub record HashLaws : Type 0 where
  pub tagged_bytes : (tag value : List ℕ) → All (λ b. b < 256) (tagged tag value)
  pub tagged16_bytes : (tag value : List ℕ) → All (λ b. b < 256) (tagged16 tag value)
  pub tagged_long : (tag value : List ℕ) → length (tagged tag value) ≡ 32
  pub tagged16_long : (tag value : List ℕ) → length (tagged16 tag value) ≡ 16

pub record TextLaws : Type 0 where
  pub some : (cap : Cap) → IsCap cap → IsCapText cap (cap_text cap)
  pub alike : (text : List ℕ) (cap other : Cap) → IsCapText cap text → IsCapText other text → cap ≡ other

module _ (hash : HashLaws) where
  stored_fields : (u : Upload) → IsSharing u.k u.n → length u.bytes < 2 ^ 64 → let f = fields u in IsStoredCap f.key f.ueb f.k f.n f.size
  unfolding key_of ueb_hash
  stored_fields u sharing fits = record {
    name_bytes = hash.tagged16_bytes (key_tag (params u) u.secret) u.bytes;
    name_long = hash.tagged16_long (key_tag (params u) u.secret) u.bytes;
    ueb_bytes = hash.tagged_bytes extension_tag (ueb_of (params u) (crypttext_of u));
    ueb_long = hash.tagged_long extension_tag (ueb_of (params u) (crypttext_of u));
    sharing = sharing;
    size_fits = fits;
  }

  by_length : (u : Upload) (b : Bool) → IsSharing u.k u.n → IsBody u.bytes → IsCap (cond b (Chk (fields u)) (Lit u.bytes))
  by_length u true sharing body = stored_fields u sharing body.fits
  by_length u false sharing body = body.are_bytes

  directory_by_length : (u : Upload) (b : Bool) → IsSharing u.k u.n → IsBody u.bytes → IsCap (as_directory (cond b (Chk (fields u)) (Lit u.bytes)))
  directory_by_length u true sharing body = stored_fields u sharing body.fits
  directory_by_length u false sharing body = body.are_bytes

  -- the caps of an upload, and of a directory that is one, are caps
  pub file_is_cap : (u : Upload) → IsSharing u.k u.n → IsBody u.bytes → IsCap (upload_cap u)
  file_is_cap u sharing body = by_length u (nat_lt 55 (length u.bytes)) sharing body

  pub directory_is_cap : (u : Upload) → IsSharing u.k u.n → IsBody u.bytes → IsCap (as_directory (upload_cap u))
  directory_is_cap u sharing body = directory_by_length u (nat_lt 55 (length u.bytes)) sharing body

-- an answer with a cap's text names the cap
pub names : TextLaws → (answer : Answer) (cap : Cap) → IsCap cap → answer.status ≡ 200 → answer.body ≡ cap_text cap → NamesCap answer cap
names texts answer cap is status body =
    let text : IsCapText cap answer.body = subst (IsCapText cap) (sym body) (texts.some cap is) in
    record { carried_out = status; text = text; only = λ other there. texts.alike answer.body other cap there text }

pub long_cap : (u : Upload) → 55 < length u.bytes → upload_cap u ≡ Chk (fields u)
long_cap u long = ap (λ b. cond b (Chk (fields u)) (Lit u.bytes)) (lt-ltb 55 (length u.bytes) long)

not_long : (n : ℕ) → n ≤ 55 → nat_lt 55 n ≡ false
not_long n short = by_case (nat_lt 55 n) refl
  where
    by_case : (b : Bool) → nat_lt 55 n ≡ b → b ≡ false
    by_case true e = absurd (let low = ltb-true 55 n e in omega (arith, low, short))
    by_case false e = refl

pub short_cap : (u : Upload) → length u.bytes ≤ 55 → upload_cap u ≡ Lit u.bytes
short_cap u short = ap (λ b. cond b (Chk (fields u)) (Lit u.bytes)) (not_long (length u.bytes) short)

-- the fields in a cap, or else these
fields_in : ReadValue → Cap → ReadValue
fields_in d (Chk f) = f
fields_in d (Lit bytes) = d
fields_in d (DirChk f) = f
fields_in d (DirLit bytes) = d
fields_in d (ChkVerify f) = d
fields_in d (DirChkVerify f) = d

pub same_file : (f g : ReadValue) → Chk f ≡ Chk g → f ≡ g
unfolding fields_in
same_file f g e = ap (fields_in f) e

pub same_directory : (f g : ReadValue) → DirChk f ≡ DirChk g → f ≡ g
unfolding fields_in
same_directory f g e = ap (fields_in f) e
