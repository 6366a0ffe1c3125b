pub mod Answered
pub mod Sufficing
pub mod NoLess
pub mod Cases
