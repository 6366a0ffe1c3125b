pub mod Text
pub mod Gathered
