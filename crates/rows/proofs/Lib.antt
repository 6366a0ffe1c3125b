pub mod Changes
pub mod OnTables
pub mod Places
pub mod Searches
pub mod TableBytes
pub mod Sums
pub mod TableLaws
