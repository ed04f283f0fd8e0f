pub mod TimeOuts
