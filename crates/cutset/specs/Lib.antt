pub mod Lists
pub mod Unused
pub mod Stages
pub mod Method
pub mod Tables
