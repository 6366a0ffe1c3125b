pub mod CountLaws
pub mod TotalLaws
pub mod Differences
pub mod Answers
