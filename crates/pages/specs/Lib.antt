pub mod Paged
pub mod Lent
