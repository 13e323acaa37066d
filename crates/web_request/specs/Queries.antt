-- What a query says (URL Standard, section 5).
use Rattle.std.specs.Prelude.{ℕ, List, map, Option, Some, None, codes}
use Rattle.std.specs.Map.{lookup}
use Rattle.std.specs.Str.{bytes_eq}
use Rattle.std.specs.Str.Lossy.{utf8_lossy}
use Rattle.form_urlencoded.specs.Form.{raw_pairs, decode}
use Rattle.web_request.specs.Targets.{origin_of, query_text}
use Rattle.web_request.specs.declared.query.Query.{Query}

-- the text that a key or a value stands for: `+` is a space, `%XX` a byte, and what is no UTF-8 becomes U+FFFD
abbrev pub text_of : List ℕ → List ℕ
text_of bytes = utf8_lossy (decode bytes)

abbrev pub texts_of : List ℕ × List ℕ → List ℕ × List ℕ
texts_of pair = (text_of pair.0, text_of pair.1)

-- the keys and values, as texts, in order
abbrev pub pairs : List ℕ → List (List ℕ × List ℕ)
pairs query = map texts_of (raw_pairs query)

-- the first value of the key
abbrev pub first_of_key : List ℕ → List (List ℕ × List ℕ) → Option (List ℕ)
first_of_key key found = lookup (λ name. bytes_eq name key) found

-- the first of two that is there; for private clauses
abbrev pub first_of_both : Option (List ℕ) → Option (List ℕ) → Option (List ℕ)
first_of_both (Some text) other = Some text
first_of_both None other = other

-- the first value of each key that counts; other keys are ignored
abbrev pub query_of : List ℕ → Query
query_of query = record {
  t = first_of_key (codes "t") (pairs query);
  output = first_of_key (codes "output") (pairs query);
  verify = first_of_key (codes "verify") (pairs query);
}

-- the first value of any other key, in the query of a target, where it has one
abbrev pub value_from : List ℕ → Option (List ℕ) → Option (List ℕ)
value_from key None = None
value_from key (Some origin) = first_of_key key (pairs (query_text origin))

unfoldable pub value_in : List ℕ → List ℕ → Option (List ℕ)
value_in target key = value_from key (origin_of target)
