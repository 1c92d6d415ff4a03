pub mod Ring
pub mod Held
