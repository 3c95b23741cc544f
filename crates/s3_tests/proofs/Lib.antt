mod SmallFile
mod FirstTurns
