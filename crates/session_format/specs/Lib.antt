pub mod Refusals
pub mod Encoding
pub mod Reading
pub mod Writing
pub mod Laws
pub mod Splits
pub mod Views
