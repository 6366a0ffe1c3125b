pub mod Numerals
pub mod Lengths
pub mod Gatherings
pub mod TextCases
