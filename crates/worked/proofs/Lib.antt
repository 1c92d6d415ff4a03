pub mod Heating
pub mod Masked
