pub mod Sets
pub mod Nexts
pub mod Bytes
pub mod Windows
pub mod Slots
