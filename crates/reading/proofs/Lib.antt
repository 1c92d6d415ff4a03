mod Bodies
mod Checks
mod Handing
mod Labels
mod NameSteps
mod Pieces
mod Printable
mod Spelling
