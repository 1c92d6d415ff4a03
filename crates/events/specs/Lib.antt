pub mod Stop
pub mod Closing
