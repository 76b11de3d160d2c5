pub mod Sums
pub mod Limits
pub mod Plan
