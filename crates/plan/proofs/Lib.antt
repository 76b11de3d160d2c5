pub mod Sums
pub mod Sets
pub mod Rows
pub mod FromFn
