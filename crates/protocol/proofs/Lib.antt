pub mod Turns
pub mod Known
pub mod Closures
pub mod Walks
pub mod Moves
pub mod Found
pub mod Listed
pub mod Checked
