-- Where the gateway of a URL is (RFC 3986, section 3).
use Rattle.std.specs.Prelude.{◌≡◌, ◌≢◌, ℕ, List, ◌++◌, All, Option, Some, None, codes, is_some, string_bytes, if◌then◌else◌}
use Rattle.http_uri.specs.Uri.{Spells, uri_scheme, uri_authority, uri_path, uri_query}
use Rattle.http_uri.specs.Port.{IsPortNumberOf}
use Rattle.http_uri.specs.declared.uri.Uri.{Uri}
use Rattle.client_tasks.specs.declared.gateway.Place.{Place}

-- the authority of a URL `http://HOST` or `http://HOST:PORT`, in which no `@` is, and with port 80 where it names none
pub record IsPlaceOf (url : List ℕ) (place : Place) : Type 0 where
  pub uri : Uri
  pub spelled : Spells url uri
  pub scheme : uri_scheme uri ≡ Some (codes "http")
  pub authority : uri_authority uri ≡ Some (string_bytes place.host)
  pub no_user : All (λ byte. byte ≢ 64) (string_bytes place.host)
  pub path : uri_path uri ≡ codes "/"
  pub no_query : uri_query uri ≡ None
  pub port : Option ℕ
  pub port_is : IsPortNumberOf (string_bytes place.host) port
  pub address : string_bytes place.address ≡ (if is_some port then string_bytes place.host else (string_bytes place.host ++ codes ":80"))
