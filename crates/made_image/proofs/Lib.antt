pub mod Lengths
pub mod Rounds
pub mod Pushes
pub mod ItemCounts
pub mod Accepted
