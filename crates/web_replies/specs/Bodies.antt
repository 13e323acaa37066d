-- Where a body's bytes come from; for private clauses.
use Rattle.std.specs.Prelude.{ℕ, List}
use Rattle.web_replies.specs.declared.body.Source.{Source}
use Rattle.web_replies.specs.declared.body.Source.TheVariants.{Bytes, Part, Shared, Listing}

abbrev pub body_bytes : Source → List ℕ
body_bytes (Bytes bytes) = bytes
body_bytes (Part part) = part
body_bytes (Shared bytes) = bytes
body_bytes (Listing listing) = listing
