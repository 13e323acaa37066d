-- Which lines are written at each level of the log.
use Rattle.log.specs.declared.level.LevelFilter.{LevelFilter}
use Rattle.log.specs.declared.level.LevelFilter.TheVariants as filter
use Rattle.server_options.specs.declared.logging.LogLevel.{LogLevel}
use Rattle.server_options.specs.declared.logging.LogLevel.TheVariants.{Error, Warn, Info, Debug}

-- those of the level and of graver ones
abbrev pub filter_of : LogLevel → LevelFilter
filter_of Error = filter.Error
filter_of Warn = filter.Warn
filter_of Info = filter.Info
filter_of Debug = filter.Debug
