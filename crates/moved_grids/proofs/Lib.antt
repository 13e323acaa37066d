mod MovedMarks
mod MovedWorlds
mod MissingShares
