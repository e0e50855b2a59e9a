pub mod WordsFit
pub mod Listed
pub mod Threads
