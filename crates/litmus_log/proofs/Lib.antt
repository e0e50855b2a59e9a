pub mod Either
pub mod States
pub mod Levels
pub mod Counted
