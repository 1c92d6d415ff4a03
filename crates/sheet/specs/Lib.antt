pub mod Model
pub mod Encode
pub mod Names
pub mod Valid
pub mod Decode
pub mod Refuse
pub mod Stop
pub mod Law
