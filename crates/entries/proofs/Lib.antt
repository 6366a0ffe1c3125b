pub mod LentLaws
pub mod Callers
