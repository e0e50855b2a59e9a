pub mod Positive
pub mod Turns
