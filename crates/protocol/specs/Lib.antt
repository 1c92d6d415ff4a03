pub mod Places
pub mod Actions
pub mod Paths
pub mod Sets
pub mod Sound
pub mod Accepted
pub mod Projection
