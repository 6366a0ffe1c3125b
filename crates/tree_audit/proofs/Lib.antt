pub mod Words
pub mod Standings
pub mod Walks
