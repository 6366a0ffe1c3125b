pub mod LentFronts
pub mod HeldParts
pub mod Chosen
pub mod Ways
pub mod Answers
