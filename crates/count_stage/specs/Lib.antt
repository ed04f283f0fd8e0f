pub mod Stage
pub mod Runs
