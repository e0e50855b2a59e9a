pub mod Ranges
pub mod Pushed
pub mod Own
pub mod Blocks
pub mod Valid
pub mod Bytes
pub mod ItemCounts
pub mod Accepted
