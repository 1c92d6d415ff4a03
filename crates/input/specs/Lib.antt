pub mod Bytes
pub mod Events
pub mod Laid
pub mod Split
pub mod EventsLeft
