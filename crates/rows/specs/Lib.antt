pub mod OnRows
pub mod Table
