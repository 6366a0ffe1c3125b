pub mod Workspace
pub mod Answers
