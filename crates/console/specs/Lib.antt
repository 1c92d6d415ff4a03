pub mod Log
pub mod Faults
pub mod Transcript
pub mod Told
