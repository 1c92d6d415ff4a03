pub mod Lines
pub mod Pieces
pub mod Page
pub mod Telling
