-- What a request names the file that it reads (`filename=` and `save=` of Tahoe-LAFS's webapi document), and the field
-- that tells it (Content-Disposition: RFC 6266, and RFC 8187, section 3.2).
use Rattle.std.specs.Prelude.{ℕ, Bool, true, false, ◌==◌, ◌&&◌, not, List, ◌++◌, length, map, codes, if◌then◌else◌, Option, Some, None}
use Rattle.percent_encoding.specs.AsciiSet.{should_percent_encode}
use Rattle.percent_encoding.specs.Percent.{percent_encode}
use Rattle.percent_encoding.specs.declared.ascii_set.AsciiSet.{AsciiSet}
use Rattle.web_request.specs.Actions.{verify_of}
use Rattle.web_request.specs.Queries.{value_in}
use Rattle.reply_fields.specs.declared.naming.Naming.{Naming}

-- an empty name is none
abbrev pub some_name : Option (List ℕ) → Option (List ℕ)
some_name None = None
some_name (Some name) = if length name == 0 then None else Some name

abbrev pub says_yes : Option Bool → Bool
says_yes None = false
says_yes (Some said) = said

-- what the query of a target says
unfoldable pub naming_of : List ℕ → Naming
naming_of target = record { name = some_name (value_in target (codes "filename")); save = says_yes (verify_of (value_in target (codes "save"))) }

-- all but letters, digits and `!#$&+-.^_`|~` (attr-char)
abbrev pub escaped_in_names : AsciiSet
escaped_in_names = record { mask = 0xA800_0000_3800_0001_FC00_97A5_FFFF_FFFF }

-- for those who read no escapes, `_` stands for each byte of these but the space
abbrev pub plain_byte : ℕ → ℕ
plain_byte b = if should_percent_encode escaped_in_names b && not (b == 32) then 95 else b

abbrev pub disposition_kind : Bool → List ℕ
disposition_kind true = codes "attachment"
disposition_kind false = codes "inline"

-- the name, in both ways
abbrev pub named_disposition : List ℕ → List ℕ → List ℕ
named_disposition kind name = kind ++ (codes "; filename=\"" ++ (map plain_byte name ++ (codes "\"; filename*=UTF-8''" ++ percent_encode escaped_in_names name)))

abbrev pub disposition_by : Bool → Option (List ℕ) → Option (List ℕ)
disposition_by true None = Some (codes "attachment")
disposition_by false None = None
disposition_by true (Some name) = Some (named_disposition (disposition_kind true) name)
disposition_by false (Some name) = Some (named_disposition (disposition_kind false) name)

-- the value of the field, if the query asks for one
abbrev pub disposition_of : Naming → Option (List ℕ)
disposition_of naming = disposition_by naming.save naming.name
