pub mod Tables
pub mod PlanNodes
pub mod Smallest
pub mod Least
pub mod Payments
pub mod PickSteps
pub mod ThinSteps
pub mod Choices
