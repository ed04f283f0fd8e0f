pub mod Refusals
pub mod Meaning
pub mod Listing
pub mod Sentences
