pub mod Halves
pub mod Decoding
pub mod Parts
