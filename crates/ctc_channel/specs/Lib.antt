pub mod ControlWords
pub mod Channels
