pub mod Requests
pub mod Timers
pub mod Counters
pub mod Resets
