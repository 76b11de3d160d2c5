pub mod Text
pub mod Writer
pub mod Listing
