pub mod Shapes
pub mod WrittenIsRead
pub mod ReadIsWritten
pub mod Fronts
