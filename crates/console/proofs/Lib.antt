mod Accepting
mod ByBook
mod Lines
mod Telling
