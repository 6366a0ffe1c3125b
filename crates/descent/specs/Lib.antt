pub mod Ranges
pub mod Descent
