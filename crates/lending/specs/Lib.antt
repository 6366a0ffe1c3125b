pub mod Lengths
pub mod Enough
