pub mod Searches
pub mod ThreadSteps
