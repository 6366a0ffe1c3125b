pub mod Tests
pub mod FitLaws
pub mod IndexLaws
