pub mod Times
pub mod Stands
