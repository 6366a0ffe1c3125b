pub mod Admissions
pub mod Oks
pub mod StepLaws
pub mod Replays
pub mod Questions
pub mod Rebuilds
pub mod Telling
