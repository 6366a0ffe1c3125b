pub mod Progresses
pub mod Seen
pub mod Ends
pub mod Answers
