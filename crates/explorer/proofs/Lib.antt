pub mod SearchModel
pub mod StateKeys
pub mod Keeping
pub mod Lefts
pub mod Right
pub mod TurnsLooked
pub mod Ways
