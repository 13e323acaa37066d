-- How `--listen` says where connections are accepted: an address, and behind a comma `secret=` and a path, if a secret of
-- its own is meant.
use Rattle.std.specs.Prelude.{◌≡◌, ℕ, ◌==◌, false, List, [], ◌++◌, codes}
use Rattle.std.specs.List.{list_any}
use Rattle.std.specs.Option.{option_map_or}
use Rattle.server_options.specs.declared.listening.ListenWanted.{ListenWanted}

-- a text that says it
abbrev pub listen_text : ListenWanted → List ℕ
listen_text wanted = wanted.address.now ++ option_map_or (λ path. codes ",secret=" ++ path.now) wanted.secret_file []

abbrev pub HasNoComma : List ℕ → Type 0
HasNoComma text = list_any (λ b. b == 44) text ≡ false
