pub mod Moves
pub mod Closing
