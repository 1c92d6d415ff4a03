pub mod Reading
pub mod Nexts
pub mod Agreeing
pub mod Nearing
pub mod Working
