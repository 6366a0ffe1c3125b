pub mod Places
pub mod OneProof
pub mod Extents
pub mod Levels
pub mod Append
