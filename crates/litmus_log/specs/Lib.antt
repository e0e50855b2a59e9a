pub mod Codes
pub mod Levels
pub mod Kept
