-- Where the objects of a grid stand: a host, a bucket of it, and what their names begin with (Amazon S3, "General
-- purpose bucket naming rules" and "Naming Amazon S3 objects", of which these are a part).
use Rattle.std.specs.Prelude.{◌≤◌, ◌||◌, ◌==◌, nat_lt, not, ℕ, Bool, IsTrue, List, length}
use Rattle.std.specs.Char.{is_ascii_lowercase, is_ascii_digit, is_ascii_alphanumeric}
use Rattle.std.specs.List.{AllPass, list_all, list_any, slice_split}
use Rattle.std.specs.Option.{ForSome}
use Rattle.s3_sign.specs.Spelling.{IsVisible}
use Rattle.s3_requests.specs.declared.sites.ObjectSite.{ObjectSite}

-- a small letter, a digit, `-` or `.`
abbrev pub is_bucket_byte : ℕ → Bool
is_bucket_byte byte = is_ascii_lowercase byte || is_ascii_digit byte || (byte == 45) || (byte == 46)

-- 3 to 63 of these
pub record IsBucket (text : List ℕ) : Type 0 where
  pub least : 3 ≤ length text
  pub most : length text ≤ 63
  pub bytes : AllPass is_bucket_byte text

-- a letter, a digit, `-`, `.`, `_` or `/`
abbrev pub is_prefix_byte : ℕ → Bool
is_prefix_byte byte = is_ascii_alphanumeric byte || (byte == 45) || (byte == 46) || (byte == 95) || (byte == 47)

-- neither nothing nor `.` nor `..`: it has another byte than a dot, or more than two
unfoldable pub is_good_part : List ℕ → Bool
is_good_part part = list_any (λ byte. not (byte == 46)) part || nat_lt 2 (length part)

-- 1 to 200 of these, and each part between the slashes is such a one
pub record IsPrefix (text : List ℕ) : Type 0 where
  pub least : 1 ≤ length text
  pub most : length text ≤ 200
  pub bytes : AllPass is_prefix_byte text
  pub parts : IsTrue (list_all is_good_part (slice_split (λ byte. byte == 47) text))

-- the host has no blanks, the bucket is one, and so is the prefix where there is one
pub record IsObjectSite (site : ObjectSite) : Type 0 where
  pub host_is : IsVisible site.host
  pub bucket_is : IsBucket site.bucket
  pub prefix_is : ForSome site.prefix IsPrefix
