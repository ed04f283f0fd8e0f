pub mod Numbers
pub mod Chip
pub mod Card
pub mod Runs
pub mod Sentences
pub mod FourRanks
