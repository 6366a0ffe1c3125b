pub mod Numbers
pub mod PartLaws
pub mod Moves
pub mod Sameness
pub mod StretchLaws
pub mod Searches
pub mod Fills
pub mod Halves
