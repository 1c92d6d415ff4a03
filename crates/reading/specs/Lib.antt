pub mod Faults
pub mod Finding
pub mod Places
pub mod Reads
pub mod Handing
pub mod Branching
