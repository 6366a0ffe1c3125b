pub mod Replay
pub mod Step
pub mod Promise
pub mod Rebuild
