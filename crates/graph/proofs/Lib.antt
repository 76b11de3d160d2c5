pub mod Marks
pub mod Degrees
pub mod Pruning
pub mod Rows
pub mod SplitNodes
