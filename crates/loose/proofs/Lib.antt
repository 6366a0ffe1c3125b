pub mod Gathering
pub mod Changes
pub mod Sorting
