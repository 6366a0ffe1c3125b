pub mod Readings
pub mod Calling
