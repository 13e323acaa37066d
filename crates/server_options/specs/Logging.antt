-- What the log has, by the names of its options.
use Rattle.std.specs.Prelude.{ℕ, List, bytes_eq, codes, if◌then◌else◌}
use Rattle.server_options.specs.declared.logging.LogLevel.{LogLevel}
use Rattle.server_options.specs.declared.logging.LogLevel.TheVariants.{Error, Warn, Info, Debug}
use Rattle.server_options.specs.declared.logging.LogFormat.{LogFormat}
use Rattle.server_options.specs.declared.logging.LogFormat.TheVariants.{Text, Json}

-- a level by its name; another name is taken for that of the default
abbrev pub named_level : List ℕ → LogLevel
named_level name =
    if bytes_eq name (codes "error") then Error
    else if bytes_eq name (codes "warn") then Warn
    else if bytes_eq name (codes "debug") then Debug
    else Info

-- a format by its name; another name is taken for that of the default
abbrev pub named_format : List ℕ → LogFormat
named_format name = if bytes_eq name (codes "json") then Json else Text
