pub mod StateReading
pub mod StateWords
pub mod Absent
pub mod Chosen
pub mod Finds
pub mod First
pub mod Once
pub mod Placed
