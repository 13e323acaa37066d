-- The commands that a server is told (Redis: AUTH, GET, DEL, SETNX, SET, EXISTS, CONFIG GET).
use Rattle.std.specs.Prelude.{ℕ, List, [], ◌∷◌, codes, min, Option, None, Some}
use Rattle.std.specs.List.{flat_map, range_with_len}
use Rattle.resp.specs.Command.{command}
use Rattle.redis_store.specs.Keys.{key}

abbrev pub auth_command : List ℕ → List ℕ
auth_command password = command (codes "AUTH" ∷ password ∷ [])

abbrev pub get_command : List ℕ → List ℕ
get_command name = command (codes "GET" ∷ name ∷ [])

abbrev pub delete_command : List ℕ → List ℕ
delete_command name = command (codes "DEL" ∷ name ∷ [])

-- bytes put where nothing stands: in one step of the server, so of several who put at once one does
abbrev pub put_command : List ℕ → List ℕ → List ℕ
put_command name content = command (codes "SETNX" ∷ name ∷ content ∷ [])

-- bytes put whatever stands there
abbrev pub set_command : List ℕ → List ℕ → List ℕ
set_command name content = command (codes "SET" ∷ name ∷ content ∷ [])

-- what the server says of a setting of its own
abbrev pub config_command : List ℕ → List ℕ
config_command name = command (codes "CONFIG" ∷ codes "GET" ∷ name ∷ [])

abbrev pub exists_command : List ℕ → List ℕ
exists_command name = command (codes "EXISTS" ∷ name ∷ [])

-- of each number below a limit, whether a share stands under it: a command each, one behind the other
abbrev pub exists_below : List ℕ → List ℕ → ℕ → List ℕ
exists_below grid index limit = flat_map (λ number. exists_command (key grid index number)) (range_with_len 0 limit)

-- of each number below a limit, the bytes of its share: a command each, one behind the other
abbrev pub get_below : List ℕ → List ℕ → ℕ → List ℕ
get_below grid index limit = flat_map (λ number. get_command (key grid index number)) (range_with_len 0 limit)

-- how many numbers are asked for: those of a grid that are below the limit, if there is one
abbrev pub asked_below : Option ℕ → ℕ → ℕ
asked_below None made = made
asked_below (Some limit) made = min limit made
