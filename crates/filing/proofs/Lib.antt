pub mod FileEntries
pub mod Letting
pub mod Keeping
pub mod Keeps
pub mod Drops
