pub mod SearchModel
pub mod StateKeys
pub mod Searching
pub mod Losing
