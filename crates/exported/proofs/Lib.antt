pub mod Refusals
pub mod Ties
pub mod Kept
