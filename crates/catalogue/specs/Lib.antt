pub mod ByValue
pub mod Candidates
pub mod Entries
