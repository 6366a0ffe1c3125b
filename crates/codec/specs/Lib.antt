pub mod LittleEndian
pub mod Parts
pub mod Stretches
pub mod Search
