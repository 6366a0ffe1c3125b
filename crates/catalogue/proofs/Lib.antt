pub mod CandidateLaws
pub mod EntryLaws
pub mod EntryTurns
