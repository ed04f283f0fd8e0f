pub mod Hex
pub mod Lines
pub mod Listing
pub mod Laws
