pub mod Handed
pub mod Numbered
