pub mod Graphs
pub mod Pruning
pub mod Split
pub mod Marks
pub mod Read
