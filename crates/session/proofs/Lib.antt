pub mod Verdict
pub mod Passage
pub mod Refusing
pub mod Leasts
pub mod Foretold
pub mod Begun
pub mod Ended
pub mod Listed
