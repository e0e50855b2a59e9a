pub mod Moved
pub mod Parent
pub mod Carries
pub mod CopiesMoved
pub mod ClaimsMoved
pub mod HeldWords
pub mod LeavesKept
