pub mod Lengths
pub mod Spans
pub mod AnswerCases
pub mod Telling
